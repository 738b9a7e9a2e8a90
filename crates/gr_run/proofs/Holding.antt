-- what the searching thread holds after its own entries, as the search has it
use Rattle.std.proofs.Common.{◌≡◌, ℕ, Bool, true, false, ◌||◌, ◌∙◌, List, [], ◌∷◌, Option, Some, None, refl, ap, nat_eq, if◌then◌else◌, option_to_list}
use Rattle.std.specs.Option.{option_map}
use Rattle.std.specs.FinMap as map
use Rattle.std.proofs.lemmas.Bool.{eqb-true}
use Rattle.gr_logic.specs.Literals.{Literal}
use Rattle.gr_logic.specs.Rup.{Live, members}
use Rattle.gr_logic.specs.Closure.{family_of}
use Rattle.gr_diary.specs.declared.entries.Entry.TheVariants as entry
use Rattle.gr_diary.specs.Steps.{first_result, old_of_first}
use Rattle.gr_diary.specs.States.{State, Outcome, has}
use Rattle.gr_diary.specs.HoldingLaws.{held_then}
use Rattle.gr_run.proofs.Sets.{get-insert}

-- the clause that was added
added : (s : State) (c : List Literal) (held : Live) (q : ℕ)
    → option_map members (if has q (s.next ∷ []) then map.get (map.insert s.live s.next c) q else held q)
    ≡ (if nat_eq q s.next then Some (members c) else family_of held q)
added s c held q = pick (nat_eq q s.next) refl
  where
    pick : (b : Bool) → nat_eq q s.next ≡ b
        → option_map members (if b || false then map.get (map.insert s.live s.next c) q else held q)
        ≡ (if b then Some (members c) else family_of held q)
    pick true is = ap (option_map members) (get-insert s.live s.next c q
        ∙ ap (λ b. if b then Some c else map.get s.live q) is)
    pick false is = refl

pub held-learnt : (s : State) (c : List Literal) (hints : List ℕ) (lbd : ℕ) (offered : Bool) (held : Live) (q : ℕ)
    → family_of (held_then s (entry.Learn c hints lbd offered) held) q
    ≡ (if nat_eq q s.next then Some (members c) else family_of held q)
held-learnt s c hints lbd offered held q = added s c held q

pub held-derived : (s : State) (l : Literal) (hints : List ℕ) (held : Live) (q : ℕ)
    → family_of (held_then s (entry.Unit 0 l hints) held) q
    ≡ (if nat_eq q s.next then Some (members (l ∷ [])) else family_of held q)
held-derived s l hints held q = added s (l ∷ []) held q

pub held-forgotten : (s : State) (ids : List ℕ) (held : Live) (q : ℕ)
    → family_of (held_then s (entry.Forget 0 ids) held) q ≡ (if has q ids then None else family_of held q)
held-forgotten s ids held q = pick (has q ids)
  where
    pick : (b : Bool) → option_map members (if b then None else held q) ≡ (if b then None else family_of held q)
    pick true = refl
    pick false = refl

pub held-imported : (s : State) (old : Option ℕ) (new : ℕ) (c : List Literal) (later : List Outcome) (held : Live)
    (q : ℕ) → s.results ≡ record { old = old; id = new } ∷ later → map.get s.live new ≡ Some c
    → family_of (held_then s entry.Import held) q
    ≡ (if nat_eq q new then Some (members c)
    else (if has q (option_to_list old) then None else family_of held q))
held-imported s old new c later held q first live =
    ap (λ (rs : List Outcome). option_map members (if has q (option_to_list (first_result rs))
    then map.get s.live q else (if has q (old_of_first rs) then None else held q))) first
    ∙ pick (nat_eq q new) refl (has q (option_to_list old))
  where
    pick : (b : Bool) → nat_eq q new ≡ b → (x : Bool)
        → option_map members (if b || false then map.get s.live q else (if x then None else held q))
        ≡ (if b then Some (members c) else (if x then None else family_of held q))
    pick true is x =
        ap (λ id. option_map members (map.get s.live id)) (eqb-true q new is) ∙ ap (option_map members) live
    pick false is true = refl
    pick false is false = refl
