-- what the exchange answers may be told to the search
use Rattle.std.proofs.Common.{◌≡◌, ◌≢◌, ◌≤◌, ◌<◌, ℕ, Bool, true, false, ◌∙◌, List, [], ◌∷◌, length, Option, Some, None, refl, sym, ap, subst, arith, nat_eq, if◌then◌else◌, All}
use Rattle.std.specs.Option.{option_map}
use Rattle.std.specs.FinMap as map
use Rattle.std.specs.FinSet as set
use Rattle.std.proofs.lemmas.Bool.{false_from_ne_true}
use Rattle.std.proofs.lemmas.List.Elements.{All-head}
use Rattle.gr_logic.specs.Literals.{Literal, same_literal}
use Rattle.gr_logic.specs.LiteralSets.{FiniteSet}
use Rattle.gr_logic.specs.Formulas.{Cnf}
use Rattle.gr_logic.specs.Rup.{LiteralSet, members}
use Rattle.gr_logic.specs.NormalForms.{IsNormal}
use Rattle.gr_logic.proofs.SameLiteral.{members-first, members-later}
use Rattle.gr_diary.specs.declared.entries.Entry.{Entry}
use Rattle.gr_diary.specs.States.{State, has, in_results}
use Rattle.gr_diary.specs.Histories.{IsLegal, state_of, clauses_held_by}
use Rattle.gr_diary.specs.Invariant.{IsKept, OldIsFine, HasTwo}
use Rattle.gr_diary.specs.HoldingLaws.{IsShownBy}
use Rattle.gr_diary.proofs.Among.{same-number, or-first, not-both}
use Rattle.gr_diary.proofs.Holding.{state-kept, parts-show-held-clauses, held-is}
use Rattle.gr_search.specs.Searches.{SearchView}
use Rattle.gr_search.specs.Tellings.{IsNewId, HasTwoLiterals, MayBeReplaced, MayBeImported}
use Rattle.gr_bench.specs.Answers.{IsFirstResult}
use Rattle.gr_run.specs.Driving.{IsFollowed}
use Rattle.gr_run.proofs.Parts.{same-ids}

-- different variables make different literals
different : (l q : Literal) → l.index ≢ q.index → same_literal q l ≡ false
different l q other = false_from_ne_true (same_literal q l)
    (λ same. other (ap (λ (x : Literal). x.index) (sym (Rattle.gr_logic.proofs.Sound.same_literal-is q l same))))

-- a clause of different variables that is long has two literals
two-literals : (c : List Literal) → IsNormal c → 2 ≤ length c → HasTwoLiterals (members c)
two-literals [] normal long = absurd (omega arith)
two-literals (l ∷ []) normal long = absurd (omega arith)
two-literals (l ∷ q ∷ ls) normal long = (
  q,
  l,
  members-later q l (q ∷ ls) (members-first q ls),
  members-first l (q ∷ ls),
  different l q (λ same. normal.0 q (members-first q ls) (sym same)),
)

module _ (f : Cnf) (reducers capacity : ℕ) (d : List Entry) (v : SearchView) (legal : IsLegal f reducers capacity d)
    (followed : IsFollowed f reducers capacity d v)
  where
    abbrev s : State
    s = state_of f reducers capacity d

    k : IsKept f reducers s
    k = state-kept f reducers capacity d legal

    shown : IsShownBy f reducers capacity d 0
    shown = parts-show-held-clauses f reducers capacity 0 d legal

    holds : (id : ℕ) → map.contains_key v.held id ≡ has id (s.held 0)
    holds id = same-ids f reducers capacity d v legal followed id ∙ sym (shown.held id)

    above-formula : (id : ℕ) → length f.clauses < id → length v.formula.clauses < id
    above-formula id above = subst (λ (g : Cnf). length g.clauses < id) (sym followed.formula) above

    -- the next id is new
    pub next-is-new : IsNewId v s.next
    next-is-new = record {
      above = above-formula s.next k.order.next;
      free = holds s.next ∙ false_from_ne_true (has s.next (s.held 0))
          (λ there. let below = (k.order.held 0 s.next there).below in absurd (omega arith));
    }

    -- and so is a result's
    module _ (old : Option ℕ) (new : ℕ) (c : List Literal) (r : IsFirstResult s old new c) where
      brought : in_results new s.results ≡ true
      brought = ap (in_results new) r.first ∙ or-first (nat_eq new new) (in_results new r.later) (same-number new)

      result-is-new : IsNewId v new
      result-is-new = record {
        above = above-formula new (k.order.results new brought).above;
        free = holds new ∙ false_from_ne_true (has new (s.held 0))
            (λ there. not-both (in_results new s.results) brought (k.order.results_free new there));
      }

      normal : IsNormal c × Rattle.gr_logic.specs.Formulas.VarsUpTo f.vars c
      normal = k.order.normal new c (k.order.results new brought).above r.clause

      old-is-fine : OldIsFine f s (record { old = old; id = new })
      old-is-fine = All-head (OldIsFine f s) (record { old = old; id = new }) r.later
          (subst (All (OldIsFine f s)) r.first k.order.old)

      -- a clause that is held is live
      held-live : (id : ℕ) (x : List Literal) → clauses_held_by f reducers capacity d 0 id ≡ Some x
          → map.get s.live id ≡ Some x
      held-live id x got = pick (has id (s.held 0)) (sym (held-is f s 0 id) ∙ got)
        where
          pick : (b : Bool) → (if b then map.get s.live id else None) ≡ Some x → map.get s.live id ≡ Some x
          pick true e = e
          pick false e = absurd (cc)

      replaced : (id : ℕ) → old ≡ Some id → MayBeReplaced v id
      replaced id is =
          let fine = old-is-fine id is in record {
            above = above-formula id fine.0;
            long = λ known got. pick known (clauses_held_by f reducers capacity d 0 id) refl
                (sym (ap (option_map set.contains) got) ∙ followed.held id) fine.0 fine.2;
          }
        where
          some-is : (x y : LiteralSet) → ◌≡◌ {A = Option LiteralSet} (Some x) (Some y) → x ≡ y
          some-is x y e = cc

          pick : (known : FiniteSet) (o : Option (List Literal)) → clauses_held_by f reducers capacity d 0 id ≡ o
              → Some (set.contains known) ≡ option_map members o → length f.clauses < id → HasTwo s id
              → HasTwoLiterals (set.contains known)
          pick known None got same above two = absurd (cc)
          pick known (Some x) got same above two =
              let live = held-live id x got in
              subst HasTwoLiterals (sym (some-is (set.contains known) (members x) same))
              (two-literals x (k.order.normal id x above live).0 (two x live))

      pub may-be-imported : MayBeImported v old new c
      may-be-imported = record {
        new_id = result-is-new;
        normal = normal.0;
        within = subst (λ (g : Cnf). Rattle.gr_logic.specs.Formulas.VarsUpTo g.vars c) (sym followed.formula) normal.1;
        replaced = replaced;
      }
