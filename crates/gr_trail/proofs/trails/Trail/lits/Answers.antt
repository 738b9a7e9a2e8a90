-- the first places of the vector are the literals
use Rattle.std.proofs.Common.{◌≡◌, List, [], ◌∷◌, take, refl, sym, ap, ◌∙◌, subst}
use Rattle.gr_logic.specs.Literals.{Literal}
use Rattle.gr_trail.specs.declared.trails.Entry.{Entry}
use Rattle.gr_trail.specs.Trails.{TrailState, IsTrail, lits_of}
use Rattle.gr_trail.specs.Columns.{assigned_in}
use Rattle.gr_trail.proofs.Finds.{is_trail}
use Rattle.gr_trail.proofs.trails.Trail.lits.Goals as goal

-- literals of the trail are those that it was made of
lits_of-assigned_in : (es : List Entry) (ls : List Literal) → lits_of (assigned_in es ls) ≡ ls
lits_of-assigned_in es [] = refl
lits_of-assigned_in es (l ∷ ls) = ap (λ z. l ∷ z) (lits_of-assigned_in es ls)

pub returns-clause-lits : goal.returns-clause-lits
returns-clause-lits c =
    ap (take c.self.inside.len) c.as_slice.ensures.value
    ∙ sym (lits_of-assigned_in c.self.inside.entries.items
    (take c.self.inside.len c.self.inside.lits.items))
    ∙ ap (λ (t : TrailState). lits_of t.assigned) c.self.view_is

pub returns-clause-trail : goal.returns-clause-trail
returns-clause-trail c = subst IsTrail c.self.view_is (is_trail c.self.invariant)
