-- what a reducer may do
use Rattle.std.proofs.Common.{◌≡◌, ◌≢◌, ◌<◌, ◌≤◌, ◌+◌, ℕ, suc, Bool, true, false, ◌∙◌, List, [], ◌∷◌, Option, Some, None, IsSome, IsTrue, is_some, refl, sym, ap, subst, arith, nat_eq, if◌then◌else◌, All, AllPairs}
use Rattle.std.specs.Option.{option_map}
use Rattle.std.specs.FinMap as map
use Rattle.std.specs.FinSet as set
use Rattle.std.proofs.lemmas.Bool.{eqb-true}
use Rattle.std.proofs.lemmas.List.Elements.{All-head, All-weaker}
use Rattle.gr_logic.specs.Literals.{Literal}
use Rattle.gr_logic.specs.LiteralSets.{FiniteSet}
use Rattle.gr_logic.specs.Formulas.{Cnf}
use Rattle.gr_logic.specs.Rup.{LiteralSet, members}
use Rattle.gr_logic.specs.Closure.{ClauseFamily, family_of}
use Rattle.gr_logic.specs.declared.items.Strengthened.{Strengthened}
use Rattle.gr_logic.specs.declared.items.Strengthened.TheVariants.{Same, Shorter}
use Rattle.gr_diary.specs.declared.entries.Entry.TheVariants.{Take, Return, Forget}
use Rattle.gr_diary.specs.declared.entries.Entry.TheVariants as entry
use Rattle.gr_diary.specs.States.{has}
use Rattle.gr_diary.specs.Rules as rules
use Rattle.gr_diary.specs.Rules.{Part, RisesFrom, others_of}
use Rattle.gr_diary.proofs.Holding.{parts-show-held-clauses}
use Rattle.gr_seat.specs.Handles.{Handle, Enables}
use Rattle.gr_strengthen.specs.Families.{cited_family, IsLongClause}
use Rattle.gr_strengthen.specs.LettingGo.{AreLetGo}
use Rattle.gr_strengthen.specs.Outcomes.{IsJustified, IsStrengthened, HasItsUnits, with_taken}
use Rattle.gr_strengthen.specs.Strengtheners.{StrengthenerState}
use Rattle.gr_reducer.specs.Steps.{held_at, without_taken, IsInStep, IsFree, HasTaken}
use Rattle.gr_reducer.proofs.Cites.{part_at, cites, cites-taken, others}

-- what is justified over clauses that may be cited is an addition that may be made
justified : (f : Cnf) (part : Part) (k : ClauseFamily) (c : List Literal) (hints : List ℕ)
    → ((q : ℕ) (x : LiteralSet) → k q ≡ Some x → family_of part.cites q ≡ Some x) → IsJustified k f.vars c hints
    → rules.IsJustified f part c hints
justified f part k c hints there j = record {
  normal = j.normal;
  within = j.known;
  cited = All-weaker (λ id. IsSome (k id)) (λ id. IsSome (part.cites id)) (λ id some. cited id (k id) refl some) hints
      j.cited;
  accepted = j.accepted part.cites (All-weaker (λ id. IsSome (k id)) (λ id. family_of part.cites id ≡ k id)
      (λ id some. same id (k id) refl some) hints j.cited);
}
  where
    is-there : (o : Option (List Literal)) (x : LiteralSet) → option_map members o ≡ Some x → is_some o ≡ true
    is-there None x e = absurd (cc)
    is-there (Some c) x e = refl

    cited : (id : ℕ) (o : Option LiteralSet) → k id ≡ o → is_some o ≡ true → IsSome (part.cites id)
    cited id None e some = absurd (cc)
    cited id (Some x) e some = is-there (part.cites id) x (there id x e)

    same : (id : ℕ) (o : Option LiteralSet) → k id ≡ o → is_some o ≡ true → family_of part.cites id ≡ k id
    same id None e some = absurd (cc)
    same id (Some x) e some = there id x e ∙ sym e

module _ (h : Handle) (k : StrengthenerState) (i : IsInStep h k) where
  -- take, where nothing is taken
  pub may-take : IsFree h → Enables h (Take h.actor)
  may-take free = (i.reducer, i.within, free)

  -- share a unit that is justified
  pub may-share : (l : Literal) (hints : List ℕ)
      → IsJustified (cited_family k.formula k.kept) k.formula.vars (l ∷ []) hints
      → Enables h (entry.Unit h.actor l hints)
  may-share l hints j = (
    i.within,
    justified h.formula (part_at h) (cited_family k.formula k.kept) (l ∷ []) hints (cites h k i)
        (subst (λ (f : Cnf). IsJustified (cited_family k.formula k.kept) f.vars (l ∷ []) hints) i.formula j),
  )

  -- let go what is kept
  held-there : (id : ℕ) → IsFree h → IsLongClause k.kept id → IsTrue (has id (part_at h).held)
  held-there id free long =
      (parts-show-held-clauses h.formula h.reducers h.capacity h.actor h.seen i.legal).held id
      ∙ pick (held_at h id) (sym (i.kept id ∙ ap (λ o. family_of (without_taken o (held_at h)) id) free)
      ∙ ap (option_map set.contains) long.1)
    where
      pick : (o : Option (List Literal)) → option_map members o ≡ Some (set.contains long.0) → is_some o ≡ true
      pick None e = absurd (cc)
      pick (Some x) e = refl

  rises : (low : ℕ) (ids : List ℕ) → All (λ id. low ≤ id) ids → AllPairs (λ a b. a < b) ids → RisesFrom low ids
  rises low [] all pairs = tt
  rises low (id ∷ ids) all pairs =
      (All-head (λ x. low ≤ x) id ids all, rises (id + 1) ids (later id ids pairs) (rest id ids pairs))
    where
      later : (x : ℕ) (xs : List ℕ) → AllPairs (λ a b. a < b) (x ∷ xs) → All (λ y. x + 1 ≤ y) xs
      later x xs p = λ j d low.
          let above = p 0 (suc j) d (omega arith) (omega (arith, low)) in omega (arith, above)

      rest : (x : ℕ) (xs : List ℕ) → AllPairs (λ a b. a < b) (x ∷ xs) → AllPairs (λ a b. a < b) xs
      rest x xs p = λ i j d below low. p (suc i) (suc j) d (omega (arith, below)) (omega (arith, low))

  pub may-forget : (new : map.FinMap Rattle.std.specs.Ordering.nat_cmp FiniteSet) (ids : List ℕ) → IsFree h
      → AreLetGo k.kept new ids → ids ≢ [] → Enables h (Forget h.actor ids)
  may-forget new ids free gone some = (
    i.within,
    some,
    rises 0 ids (λ j d low. omega arith) gone.rising,
    All-weaker (IsLongClause k.kept) (λ id. IsTrue (has id (part_at h).held)) (λ id long. held-there id free long) ids
        gone.long,
    All-weaker (IsLongClause k.kept) (λ id. (part_at h).taken ≢ Some id)
        (λ id long is. (let none : None ≡ Some id = sym free ∙ is in cc)) ids gone.long,
  )

  -- give back what strengthening answers, once the units are shared
  module _ (id : ℕ) (whole : List Literal) (taken : HasTaken h id whole)
      (units : HasItsUnits (cited_family k.formula k.kept))
    where
      same-others : cited_family k.formula k.kept ≡ others_of (part_at h) id
      same-others = others h k i id whole taken

      cites-with : (q : ℕ) (x : LiteralSet) → with_taken (cited_family k.formula k.kept) id whole q ≡ Some x
          → family_of (part_at h).cites q ≡ Some x
      cites-with q x is = pick (nat_eq q id) refl is
        where
          pick : (b : Bool) → nat_eq q id ≡ b
              → (if b then Some (members whole) else cited_family k.formula k.kept q) ≡ Some x
              → family_of (part_at h).cites q ≡ Some x
          pick true same is = ap (λ n. family_of (part_at h).cites n) (eqb-true q id same)
              ∙ ap (option_map members) (cites-taken h k i id whole taken) ∙ is
          pick false apart is = cites h k i q x is

      outcome : (o : Strengthened)
          → IsStrengthened (cited_family k.formula k.kept) k.formula.vars id whole o
          → rules.MayReturn h.formula (part_at h) id whole o
      outcome Same keeps = subst (λ (f : ClauseFamily). rules.KeepsAll f whole) same-others keeps
      outcome (Shorter c hints) both = (
        subst (λ (f : ClauseFamily). rules.IsShortened f whole c) same-others
            (record {
              part = both.0.part;
              proper = both.0.proper;
              kept = both.0.kept;
              greedy = both.0.greedy;
              within = both.0.within;
            }),
        justified h.formula (part_at h) (with_taken (cited_family k.formula k.kept) id whole) c hints cites-with
            (subst (λ (f : Cnf). IsJustified (with_taken (cited_family k.formula k.kept) id whole) f.vars c hints)
            i.formula both.1),
      )

      pub may-return : (o : Strengthened)
          → IsStrengthened (cited_family k.formula k.kept) k.formula.vars id whole o
          → Enables h (Return h.actor o)
      may-return o is = (
        i.reducer,
        i.within,
        id,
        whole,
        taken.taken,
        cites-taken h k i id whole taken,
        subst (λ (f : ClauseFamily). rules.HasItsUnits f) same-others units,
        outcome o is,
      )
