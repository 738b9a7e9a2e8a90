-- which clauses of a base may be forgotten
use Rattle.std.proofs.Common.{◌≡◌, ◌≢◌, ◌<◌, ◌≤◌, ℕ, Some, sym, ap, ◌∙◌, subst, arith, length}
use Rattle.std.specs.Option.{unwrap_or}
use Rattle.std.specs.FinMap as finite
use Rattle.std.specs.FinSet as set
use Rattle.gr_logic.specs.NormalForms.{IsNormal}
use Rattle.gr_arena.specs.Arenas.{Stored, no_clause}
use Rattle.gr_prop.specs.Bases.{BaseState, BaseClause, Clauses, clauses_in, IsBase, LacksId}
use Rattle.gr_prop.specs.Watching.{Store}
use Rattle.gr_import.specs.Forgetting.{Ranked, IsCandidate}
use Rattle.gr_import.proofs.Lent.{stored-as}
use Rattle.gr_import.proofs.Lengths.{len-normal}

same-clause : (c d : BaseClause) → Some c ≡ Some d → c ≡ d
same-clause c d e = cc

-- clauses with one id are one
one-clause : (b : BaseState) (p q : ℕ) (c d : BaseClause) → IsBase b → finite.get b.clauses p ≡ Some c
    → finite.get b.clauses q ≡ Some d → c.id ≡ d.id → c ≡ d
one-clause b p q c d base at there same =
    same-clause c d (sym at ∙ ap (finite.get b.clauses) (base.ids p q c d at there same) ∙ there)

module _ (b : BaseState) (first : ℕ) (base : IsBase b) where
  -- a candidate is ranked in one way
  pub one-rank : (r s : Ranked) → IsCandidate b.clauses first r → IsCandidate b.clauses first s → r.id ≡ s.id → r ≡ s
  one-rank r s x y e =
      let is : x.clause ≡ y.clause =
      one-clause b x.place y.place x.clause y.clause base x.there y.there (sym x.id ∙ e ∙ y.id) in
      λ i. record {
        lbd = (x.lbd ∙ ap (λ (c : BaseClause). c.lbd) is ∙ sym y.lbd) i;
        len = (x.len ∙ ap (λ (c : BaseClause). set.len c.literals) is ∙ sym y.len) i;
        id = e i;
      }

  -- a clause of low LBD is none
  pub not-weak : (p : ℕ) (c : BaseClause) (lbd id : ℕ) → finite.get b.clauses p ≡ Some c → c.id ≡ id
      → lbd ≡ c.lbd → lbd < 3 → (r : Ranked) → IsCandidate b.clauses first r → r.id ≢ id
  not-weak p c lbd id there named is low r x e =
      let same : x.clause ≡ c =
      one-clause b x.place p x.clause c base x.there there (sym x.id ∙ e ∙ sym named) in
      let weak : 3 ≤ c.lbd = subst (λ (d : BaseClause). 3 ≤ d.lbd) same x.weak in
      absurd (omega (arith, is, low, weak))

-- no candidate has an id that no clause has, or one before the first
pub none-lacks : (k : Clauses) (first id : ℕ) → LacksId k id → (r : Ranked) → IsCandidate k first r → r.id ≢ id
none-lacks k first id lacks r x e = lacks x.place x.clause x.there (sym x.id ∙ e)

pub none-early : (k : Clauses) (first id : ℕ) → id < first → (r : Ranked) → IsCandidate k first r → r.id ≢ id
none-early k first id early r x e = let l = x.learnt in let i = x.id in absurd (omega (arith, l, i, e, early))

-- what is read of a clause
module _ (k : Store) (clauses : Clauses) (p : ℕ) (c : BaseClause) (is : clauses_in k ≡ clauses)
    (there : finite.get clauses p ≡ Some c) where
  pub lbd-read : (lbd : ℕ) → lbd ≡ (unwrap_or (finite.get k p) no_clause).lbd → lbd ≡ c.lbd
  lbd-read lbd read =
      let s = stored-as k clauses p c is there in
      read ∙ ap (λ o. (unwrap_or o no_clause).lbd) s.1.0 ∙ ap (λ (x : BaseClause). x.lbd) s.1.1

  pub len-read : ((q : ℕ) (t : Stored) → finite.get k q ≡ Some t → IsNormal t.lits)
      → (len : ℕ) → len ≡ length (unwrap_or (finite.get k p) no_clause).lits → len ≡ set.len c.literals
  len-read normal len read =
      let s = stored-as k clauses p c is there in
      read ∙ ap (λ o. length (unwrap_or o no_clause).lits) s.1.0 ∙ sym (len-normal s.0.lits (normal p s.0 s.1.0))
      ∙ ap (λ (x : BaseClause). set.len x.literals) s.1.1

-- a clause of this id that ranks so may be forgotten
pub candidate-at : (k : Clauses) (first p : ℕ) (c : BaseClause) (lbd len id : ℕ) → finite.get k p ≡ Some c → c.id ≡ id
    → lbd ≡ c.lbd → len ≡ set.len c.literals → first ≤ id → 3 ≤ lbd
    → IsCandidate k first (record { lbd = lbd; len = len; id = id })
candidate-at k first p c lbd len id there named is has learnt weak = record {
  place = p;
  clause = c;
  there = there;
  id = sym named;
  lbd = is;
  len = has;
  learnt = omega (arith, named, learnt);
  weak = omega (arith, is, weak);
}
