-- what an actor may do after any legal history: cite the formula's clauses, and let go what it holds
use Rattle.std.proofs.Common.{◌≡◌, ◌≢◌, ◌≤◌, ℕ, true, ◌&&◌, List, [], ◌∷◌, Some, All, is_some, refl, sym, ap, ◌∙◌}
use Rattle.std.proofs.Common.{nat_lt, subst, arith}
use Rattle.std.specs.Prelude.{IsTrue}
use Rattle.std.specs.List.{list_all}
use Rattle.std.specs.FinSet as set
use Rattle.std.proofs.lemmas.List.Elements.{All-nil, All-cons, All-head, All-tail}
use Rattle.gr_hold.specs.declared.holds.Holder.TheVariants.{Actor}
use Rattle.gr_logic.specs.Literals.{Literal}
use Rattle.gr_logic.specs.Formulas.{Cnf}
use Rattle.gr_logic.specs.Rup.{Live, rup, Accepted}
use Rattle.gr_logic.specs.Closure.{family_of}
use Rattle.gr_logic.proofs.Readings.{rup-hints}
use Rattle.gr_diary.specs.declared.entries.Entry.{Entry}
use Rattle.gr_diary.specs.declared.entries.Entry.TheVariants.{Learn, Forget}
use Rattle.gr_diary.specs.declared.entries.Entry.TheVariants as entry
use Rattle.gr_diary.specs.Diaries.{Journal}
use Rattle.gr_diary.specs.States.{State, has}
use Rattle.gr_diary.specs.Rules.{Part, IsJustified}
use Rattle.gr_diary.specs.Histories.{IsLegal, IsEnabled, state_of, part_after}
use Rattle.gr_diary.specs.Examples.{plus, chain}
use Rattle.gr_diary.proofs.Holding.{parts-show-held-clauses}
use Rattle.gr_diary.proofs.Justified.{justified-by, is_normal}
use Rattle.gr_diary.proofs.Looks.{formula_look, initial-looks}
use Rattle.gr_bench.specs.Exchanges.{Exchange, IsEnabledAt, IsGrown}
use Rattle.gr_bench.specs.Kept.{IsInStep}
use Rattle.gr_bench.specs.OverChain.{IsOverChain}
use Rattle.gr_bench.specs.Tables.{Table}

-- the same hints are known to both look-ups
same-cited : (one other : Live) (hints : List ℕ) → All (λ id. one id ≡ other id) hints
    → list_all (λ id. is_some (one id)) hints ≡ list_all (λ id. is_some (other id)) hints
same-cited one other [] all = refl
same-cited one other (x ∷ xs) all =
    λ i. is_some (All-head (λ id. one id ≡ other id) x xs all i)
    && same-cited one other xs (All-tail (λ id. one id ≡ other id) x xs all) i

-- and name the same clauses
same-families : (one other : Live) (hints : List ℕ) → All (λ id. one id ≡ other id) hints
    → All (λ id. family_of one id ≡ family_of other id) hints
same-families one other [] all = All-nil (λ id. family_of one id ≡ family_of other id)
same-families one other (x ∷ xs) all =
    All-cons (λ id. family_of one id ≡ family_of other id) x xs
    (λ i. family_of (λ id. All-head (λ id. one id ≡ other id) x xs all i) x)
    (same-families one other xs (All-tail (λ id. one id ≡ other id) x xs all))

-- what the formula's clauses justify at first is justified later
justified-still : (f : Cnf) (part : Part) (c : List Literal) (hints : List ℕ) → is_normal c ≡ true
    → list_all (λ l. nat_lt l.index f.vars) c ≡ true → All (λ id. part.cites id ≡ formula_look f id) hints
    → list_all (λ id. is_some (formula_look f id)) hints ≡ true → rup (formula_look f) c hints ≡ Accepted
    → IsJustified f part c hints
justified-still f part c hints normal within same cited accepted =
    justified-by f part c hints normal within (same-cited part.cites (formula_look f) hints same ∙ cited)
    (rup-hints part.cites (formula_look f) c c refl hints
    (same-families part.cites (formula_look f) hints same) ∙ accepted)

module _ (capacity actor : ℕ) (d : List Entry) (legal : IsLegal chain 2 capacity d) where
  abbrev part : Part
  part = part_after chain 2 capacity d actor

  abbrev Cited : ℕ → Type 0
  Cited id = part.cites id ≡ formula_look chain id

  cited : (id : ℕ) → id ≤ 3 → Cited id
  cited id low = (parts-show-held-clauses chain 2 capacity actor d legal).inputs id low ∙ initial-looks chain id

  two-cited : All Cited (1 ∷ 2 ∷ [])
  two-cited = All-cons Cited 1 (2 ∷ []) (cited 1 (omega arith))
      (All-cons Cited 2 [] (cited 2 (omega arith)) (All-nil Cited))

  three-cited : All Cited (1 ∷ 2 ∷ 3 ∷ [])
  three-cited = All-cons Cited 1 (2 ∷ 3 ∷ []) (cited 1 (omega arith))
      (All-cons Cited 2 (3 ∷ []) (cited 2 (omega arith))
      (All-cons Cited 3 [] (cited 3 (omega arith)) (All-nil Cited)))

  -- `3 4` follows from all three clauses
  pair-justified : IsJustified chain part (plus 3 ∷ plus 4 ∷ []) (1 ∷ 2 ∷ 3 ∷ [])
  pair-justified =
      justified-still chain part (plus 3 ∷ plus 4 ∷ []) (1 ∷ 2 ∷ 3 ∷ []) refl refl three-cited refl refl

  -- and `2` from the first two
  unit-justified : IsJustified chain part (plus 2 ∷ []) (1 ∷ 2 ∷ [])
  unit-justified = justified-still chain part (plus 2 ∷ []) (1 ∷ 2 ∷ []) refl refl two-cited refl refl

-- the history is legal, with the formula and the sizes named
legal-over : (x : Exchange) → IsOverChain x → IsLegal chain 2 x.capacity x.diary.entries
legal-over x over =
    subst (λ n. IsLegal chain n x.capacity x.diary.entries) over.reducers
    (subst (λ f. IsLegal f x.reducers x.capacity x.diary.entries) over.formula over.legal)

-- the searching thread may offer `3 4`
pub may-offer : (x : Exchange) (c : List Literal) (hints : List ℕ) → IsOverChain x → c ≡ plus 3 ∷ plus 4 ∷ []
    → hints ≡ 1 ∷ 2 ∷ 3 ∷ [] → IsEnabledAt x (Learn c hints 2 true)
may-offer x c hints over is by =
    rw (is, by, over.formula, over.reducers)
    (pair-justified x.capacity 0 x.diary.entries (legal-over x over), omega arith, λ _. omega arith)

-- and a reducer may share `2`
pub may-share : (x : Exchange) (actor : ℕ) (l : Literal) (hints : List ℕ) → IsOverChain x → actor ≤ 2 → l ≡ plus 2
    → hints ≡ 1 ∷ 2 ∷ [] → IsEnabledAt x (entry.Unit actor l hints)
may-share x actor l hints over low is by =
    rw (is, by, over.formula, over.reducers)
    (low, unit-justified x.capacity actor x.diary.entries (legal-over x over))

-- an actor may let an id go that it holds and has not taken
pub may-let-go : (f : Cnf) (reducers capacity : ℕ) (diary : Journal) (t : Table) → IsInStep f reducers capacity diary t
    → (actor id : ℕ) → actor ≤ reducers → t.taken actor ≢ Some id → set.contains t.holders (id, Actor actor) ≡ true
    → IsEnabled f reducers capacity diary.entries (Forget actor (id ∷ []))
may-let-go f reducers capacity diary t step actor id low apart held = (
  low,
  (λ none. cc none),
  (omega arith, tt),
  All-cons Held id [] (sym (step.mirrors.holders id (Actor actor)) ∙ held) (All-nil Held),
  All-cons Free id [] (λ is. apart (ap (λ taken. taken actor) step.mirrors.taken ∙ is)) (All-nil Free),
)
  where
    s : State
    s = state_of f reducers capacity diary.entries

    Held : ℕ → Type 0
    Held q = IsTrue (has q (s.held actor))

    Free : ℕ → Type 0
    Free q = s.taken actor ≢ Some q

-- the history is over the formula still
pub over-grown : (x y : Exchange) (e : Entry) → IsOverChain x → IsGrown x y e → IsOverChain y
over-grown x y e over grown = record {
  formula = grown.same.formula ∙ over.formula;
  reducers = grown.same.reducers ∙ over.reducers;
  legal = grown.legal;
}
