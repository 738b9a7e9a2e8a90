-- runs by their ids, as a finite map of clauses
use Rattle.std.proofs.Common.{◌≡◌, ℕ, ◌+◌, ◌≤◌, Bool, true, false, List, [], ◌∷◌, ◌++◌, map, take, drop, length, Option, Some, None, cond, nat_eq, refl, sym, ap, ◌∙◌, arith}
use Rattle.std.specs.Prelude.{option_map, is_some}
use Rattle.std.specs.Map.{lookup}
use Rattle.std.specs.Ordering.{nat_cmp, eq_by_cmp}
use Rattle.std.specs.Cmp.{nat_cmp_total, unsigned_tied}
use Rattle.std.specs.FinMap as finite
use Rattle.std.specs.FinMap.{nat_cmp-IsAntisymmetric}
use Rattle.std.proofs.lemmas.Bool.Decides.{nat_tests}
use Rattle.std.proofs.lemmas.List.{length-drop, drop_at, take_all, take-append-le, drop-append-le}
use Rattle.gr_logic.specs.Literals.{Literal}
use Rattle.gr_check.specs.Runs.{lits_of, clauses_of, RunsWithin}
use Rattle.gr_check.specs.Entries.{Updated}
use Rattle.gr_check.specs.declared.runs.Run.{Run}

-- the scan for an id answers with its run's literals
find-map : (lits : List Literal) (runs : List (ℕ × Run)) (q : ℕ)
    → finite.find nat_cmp q (map (λ e. (e.0, lits_of lits e.1)) runs)
    ≡ option_map (lits_of lits) (lookup (nat_eq q) runs)
find-map lits [] q = refl
find-map lits (e ∷ es) q =
    ap (λ b. cond b (Some (lits_of lits e.1))
    (finite.find nat_cmp q (map (λ e. (e.0, lits_of lits e.1)) es))) (unsigned_tied q e.0)
    ∙ cases (nat_eq q e.0) (lookup (nat_eq q) es) (find-map lits es q)
  where
    cases : (b : Bool) (y : Option Run) {x : Option (List Literal)}
        → x ≡ option_map (lits_of lits) y
        → cond b (Some (lits_of lits e.1)) x ≡ option_map (lits_of lits) (cond b (Some e.1) y)
    cases true y same = refl
    cases false y same = same

-- a clause is found where its id's run is
pub get-clauses_of : (lits : List Literal) (runs : List (ℕ × Run)) (q : ℕ)
    → finite.get (clauses_of lits runs) q ≡ option_map (lits_of lits) (lookup (nat_eq q) runs)
get-clauses_of lits runs q =
    finite.get-from_entries nat_cmp_total (map (λ e. (e.0, lits_of lits e.1)) runs) q
    ∙ find-map lits runs q

-- a function of what is found changes nothing of whether it is found
pub is_some-option_map : {X Y : Type 0} (f : X → Y) (found : Option X)
    → is_some (option_map f found) ≡ is_some found
is_some-option_map f None = refl
is_some-option_map f (Some x) = refl

-- literals that are appended change no run
pub lits_of-append : (lits c : List Literal) (run : Run) → run.from + run.len ≤ length lits
    → lits_of (lits ++ c) run ≡ lits_of lits run
lits_of-append lits c run within =
    ap (take run.len) (drop-append-le run.from lits c (omega arith))
    ∙ take-append-le run.len (drop run.from lits) c (omega (arith, length-drop run.from lits))

-- the run that starts where the literals end is what is appended
pub lits_of-last : (lits c : List Literal) (run : Run) → run.from ≡ length lits → run.len ≡ length c
    → lits_of (lits ++ c) run ≡ c
lits_of-last lits c run from len =
    ap (take run.len) (drop_at lits c run.from (sym from)) ∙ take_all run.len c (omega arith)

-- what is found is found in the longer list too
pub lits_of-found : (lits c : List Literal) (found : Option Run)
    → ((run : Run) → found ≡ Some run → run.from + run.len ≤ length lits)
    → option_map (lits_of (lits ++ c)) found ≡ option_map (lits_of lits) found
lits_of-found lits c None within = refl
lits_of-found lits c (Some run) within = ap Some (lits_of-append lits c run (within run refl))

-- the order's test for equal numbers
tied : (id q : ℕ) → nat_eq id q ≡ eq_by_cmp nat_cmp q id
tied id q = grind (arith, nat_tests)

-- a clause that is appended, and its run
pub clauses_of-insert : (lits c : List Literal) (old new : List (ℕ × Run)) (id : ℕ) (run : Run)
    → run.from ≡ length lits → run.len ≡ length c
    → RunsWithin (length lits) old → Updated old new id (Some run)
    → clauses_of (lits ++ c) new ≡ finite.insert (clauses_of lits old) id c
clauses_of-insert lits c old new id run from len within updated =
    finite.same_map nat_cmp_total nat_cmp-IsAntisymmetric (clauses_of (lits ++ c) new)
    (finite.insert (clauses_of lits old) id c)
    (λ q. get-clauses_of (lits ++ c) new q ∙ ap (option_map (lits_of (lits ++ c))) (updated q)
    ∙ cases q (nat_eq id q)
    ∙ ap (λ b. cond b (Some c) (finite.get (clauses_of lits old) q)) (tied id q)
    ∙ sym (finite.get-insert nat_cmp_total (clauses_of lits old) id c q))
  where
    cases : (q : ℕ) (b : Bool)
        → option_map (lits_of (lits ++ c)) (cond b (Some run) (lookup (nat_eq q) old))
        ≡ cond b (Some c) (finite.get (clauses_of lits old) q)
    cases q true = ap Some (lits_of-last lits c run from len)
    cases q false =
        lits_of-found lits c (lookup (nat_eq q) old) (within q) ∙ sym (get-clauses_of lits old q)

-- a run that is taken out
pub clauses_of-remove : (lits : List Literal) (old new : List (ℕ × Run)) (id : ℕ)
    → Updated old new id None → clauses_of lits new ≡ finite.remove (clauses_of lits old) id
clauses_of-remove lits old new id updated =
    finite.same_map nat_cmp_total nat_cmp-IsAntisymmetric (clauses_of lits new)
    (finite.remove (clauses_of lits old) id)
    (λ q. get-clauses_of lits new q ∙ ap (option_map (lits_of lits)) (updated q)
    ∙ cases q (nat_eq id q) ∙ ap (λ b. cond b None (finite.get (clauses_of lits old) q)) (tied id q)
    ∙ sym (finite.get-remove nat_cmp_total (clauses_of lits old) id q))
  where
    cases : (q : ℕ) (b : Bool)
        → option_map (lits_of lits) (cond b None (lookup (nat_eq q) old))
        ≡ cond b None (finite.get (clauses_of lits old) q)
    cases q true = refl
    cases q false = sym (get-clauses_of lits old q)
