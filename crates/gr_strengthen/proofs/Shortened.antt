-- what a walk leaves of a clause
use Rattle.std.proofs.Common.{◌≡◌, ◌≢◌, ◌⊎◌, inl, inr, ℕ, Bool, true, false, ◌||◌, List, [], ◌∷◌, ◌++◌, length, Some, None, IsSome, refl, sym, ap, ◌∙◌, subst, arith, if◌then◌else◌, nat_eq}
use Rattle.std.specs.Prelude.{All}
use Rattle.std.specs.List.{filter}
use Rattle.std.specs.FinSet as set
use Rattle.std.proofs.lemmas.Bool.Decides.{nat_tests}
use Rattle.std.proofs.lemmas.List.Elements.{All-cons, All-nil}
use Rattle.gr_logic.specs.Literals.{Literal, negation, same_literal, var_of}
use Rattle.gr_logic.specs.Formulas.{VarsUpTo}
use Rattle.gr_logic.specs.NormalForms.{IsNormal}
use Rattle.gr_logic.specs.Rup.{LiteralSet, members, negated}
use Rattle.gr_logic.specs.Closure.{ClauseFamily, IsWithin}
use Rattle.gr_logic.specs.Greedy.{GreedyKeeps}
use Rattle.gr_logic.proofs.Sound.{same_literal-is}
use Rattle.gr_logic.proofs.SameLiteral.{members-first, members-later, negated-is, negation-negation, or-true}
use Rattle.gr_arena.specs.Arenas.{ArenaState}
use Rattle.gr_trail.specs.Trails.{Assigned, TrailState, IsTrail, true_in, assigned_to}
use Rattle.gr_trail.proofs.Climbing.{some-is}
use Rattle.gr_trail.proofs.Standing.{true-at, assigned-at, not-both}
use Rattle.gr_hints.specs.Marking.{is_marked}
use Rattle.gr_hints.specs.Gathering.{Lead, reason_ids}
use Rattle.gr_prop.specs.Bases.{BaseState, Clauses, clauses_in, decisions}
use Rattle.gr_hints.specs.Graphs.{IsGraph, IsFalse}
use Rattle.gr_strengthen.specs.Outcomes.{with_taken, IsJustified, KeepsAll, IsShortened}
use Rattle.gr_strengthen.specs.Reaching.{Reach, IsReached, Falsifies, chosen_from}
use Rattle.gr_strengthen.specs.Walking.{IsSublist, Represents, IsSpentBy, AreKeptDecisions}
use Rattle.gr_strengthen.proofs.Sublists.{sublist-then, sublist-filter, sublist-within, sublist-normal, sublist-known, sublist-whole, sublist-lacks}
use Rattle.gr_strengthen.proofs.WalkTrails.{decision-there, true-some}
use Rattle.gr_strengthen.proofs.Accepting.{CitesAll, justified}

-- a member that passes a test stays
members-filter : (p : Literal → Bool) (ls : List Literal) (q : Literal) → members ls q ≡ true → p q ≡ true
    → members (filter p ls) q ≡ true
members-filter p [] q m e = absurd (cc)
members-filter p (x ∷ xs) q m e = go (same_literal q x) refl (p x) refl m (λ n. members-filter p xs q n e)
  where
    go : (s : Bool) → same_literal q x ≡ s → (b : Bool) → p x ≡ b → (s || members xs q) ≡ true
        → (members xs q ≡ true → members (filter p xs) q ≡ true)
        → members (if b then x ∷ filter p xs else filter p xs) q ≡ true
    go true s true b m rest = ap (λ c. c || members (filter p xs) q) s
    go true s false b m rest = absurd (let f = ap p (same_literal-is q x s) in cc)
    go false s true b m rest = members-later q x (filter p xs) (rest m)
    go false s false b m rest = rest m

-- a literal that is decided and false is the negation of a decision
decided-false : (t : TrailState) (q : Literal) → IsTrail t → IsFalse t.assigned q → (a : Assigned)
    → assigned_to t.assigned (var_of q) ≡ Some a → a.reason ≡ None → members (decisions t.assigned) (negation q) ≡ true
decided-false t q trail gone a is none =
    let at = true-at t.assigned (negation q) gone in
    let e : Some at.1 ≡ Some a =
    sym (assigned-at t at.0 at.1 trail at.2) ∙ ap (assigned_to t.assigned) (ap var_of at.3) ∙ is in
    let f : at.1 ≡ a = some-is at.1 a e in
    subst (λ (l : Literal). members (decisions t.assigned) l ≡ true) at.3
    (decision-there t.assigned at.0 at.1 at.2 (ap (λ (x : Assigned). x.reason) f ∙ none))

-- the chosen literals are enough
chosen-false : (arena : ArenaState) (t : TrailState) (source kept : List Literal) (r : Reach) → IsGraph arena t
    → IsReached arena t.assigned source r → AreKeptDecisions t.assigned kept
    → IsSpentBy t.assigned kept (members source)
    → Falsifies t.assigned r source (negated (chosen_from t.assigned r.decided kept))
chosen-false arena t source kept r g is decided spent = record {
  decided = λ q gone mark.
      let f = is.ofs.decided (var_of q) mark in
      let m = decided q (decided-false t q g.trail gone f.0 f.1 f.2) in
      chosen q m (ap (λ b. true_in t.assigned q || b) mark ∙ or-true (true_in t.assigned q));
  true' = λ q m holds. go q (spent q m) holds;
}
  where
    chosen : (q : Literal) → members kept q ≡ true → (true_in t.assigned q || is_marked r.decided (var_of q)) ≡ true
        → negated (chosen_from t.assigned r.decided kept) (negation q) ≡ true
    chosen q m e =
        negated-is (chosen_from t.assigned r.decided kept) (negation q)
        ∙ ap (members (chosen_from t.assigned r.decided kept)) (negation-negation q)
        ∙ members-filter (λ l. true_in t.assigned l || is_marked r.decided (var_of l)) kept q m e

    go : (q : Literal) → IsFalse t.assigned q ⊎ ((true_in t.assigned q ≡ true) × (members kept q ≡ true))
        → true_in t.assigned q ≡ true
        → negated (chosen_from t.assigned r.decided kept) (negation q) ≡ true
    go q (inl gone) holds = absurd (let n = not-both t q g.trail gone in cc)
    go q (inr both) holds = chosen q both.1 (ap (λ b. b || is_marked r.decided (var_of q)) both.0)

-- ---- with the taken clause
cites-taken : (k : ClauseFamily) (clauses : Clauses) (id : ℕ) (whole : List Literal) → Represents k clauses
    → k id ≡ None → CitesAll (with_taken k id whole) clauses
cites-taken k clauses id whole is none place c e = go (nat_eq c.id id) refl
  where
    go : (b : Bool) → nat_eq c.id id ≡ b → (if b then Some (members whole) else k c.id) ≡ Some (set.contains c.literals)
    go false same = is.cites place c e
    go true same =
        absurd (let v : c.id ≡ id = grind (arith, nat_tests) in
        let f : k c.id ≡ None = ap k v ∙ none in let h = is.cites place c e in cc)

pub shorter-is : (k : ClauseFamily) (id : ℕ) (b : BaseState) (arena : ArenaState) (t : TrailState)
    (whole source kept chosen : List Literal) (r : Reach) (last : ℕ) (hints : List ℕ) → Represents k b.clauses
    → k id ≡ None → with_taken k id whole last ≡ Some (members source) → GreedyKeeps k whole kept
    → clauses_in arena.clauses ≡ b.clauses → t ≡ b.trail → IsGraph arena t
    → IsReached arena t.assigned source r
    → AreKeptDecisions b.trail.assigned kept → IsSpentBy b.trail.assigned kept (members source)
    → IsSublist kept whole → IsNormal whole → VarsUpTo b.trail.vars whole
    → chosen ≡ chosen_from t.assigned r.decided kept → length chosen ≢ length whole
    → Lead arena r.forced t.assigned (reason_ids arena r.forced t.assigned)
    → hints ≡ reason_ids arena r.forced t.assigned ++ last ∷ []
    → IsShortened k whole chosen × IsJustified (with_taken k id whole) b.trail.vars chosen hints
shorter-is k id b arena t whole source kept chosen r last hints is none named greedy same trail g reached decided spent
    part normal known chose apart lead gathered = (
      record {
        part = sublist-within chosen whole (sublist-then chosen kept whole sub part);
        proper = sublist-lacks chosen whole (sublist-then chosen kept whole sub part) normal apart;
        kept = kept;
        greedy = greedy;
        within = sublist-within chosen kept sub;
      },
      justified (with_taken k id whole) b.clauses arena t source r chosen last hints
          (cites-taken k b.clauses id whole is none) same g reached
          (subst (λ ls. Falsifies t.assigned r source (negated ls)) (sym chose)
          (chosen-false arena t source kept r g reached decided' spent')) lead gathered named
          (λ q m. either q (spent' q m)) b.trail.vars
          (sublist-normal chosen whole (sublist-then chosen kept whole sub part) normal)
          (sublist-known b.trail.vars chosen whole (sublist-then chosen kept whole sub part) known),
    )
  where
    sub : IsSublist chosen kept
    sub = subst (λ ls. IsSublist ls kept) (sym chose)
        (sublist-filter (λ l. true_in t.assigned l || is_marked r.decided (var_of l)) kept)

    decided' : AreKeptDecisions t.assigned kept
    decided' = subst (λ (u : TrailState). AreKeptDecisions u.assigned kept) (sym trail) decided

    spent' : IsSpentBy t.assigned kept (members source)
    spent' = subst (λ (u : TrailState). IsSpentBy u.assigned kept (members source)) (sym trail) spent

    either : (q : Literal) → IsFalse t.assigned q ⊎ ((true_in t.assigned q ≡ true) × (members kept q ≡ true))
        → IsFalse t.assigned q ⊎ (true_in t.assigned q ≡ true)
    either q (inl gone) = inl gone
    either q (inr both) = inr both.0

-- where as many are chosen as the clause has, greedy strengthening keeps all
pub all-chosen : (k : ClauseFamily) (assigned : List Assigned) (whole kept chosen : List Literal) (marked : List ℕ)
    → GreedyKeeps k whole kept → IsSublist kept whole → chosen ≡ chosen_from assigned marked kept
    → length chosen ≡ length whole → KeepsAll k whole
all-chosen k assigned whole kept chosen marked greedy part chose long = (
  kept,
  greedy,
  subst (λ ls. IsWithin (members ls) (members kept)) (sublist-whole chosen whole
      (sublist-then chosen kept whole sub part) long) (sublist-within chosen kept sub),
)
  where
    sub : IsSublist chosen kept
    sub = subst (λ ls. IsSublist ls kept) (sym chose)
        (sublist-filter (λ l. true_in assigned l || is_marked marked (var_of l)) kept)

-- where as many are kept, too
pub all-kept : (k : ClauseFamily) (whole kept : List Literal) → GreedyKeeps k whole kept → IsSublist kept whole
    → length kept ≡ length whole → KeepsAll k whole
all-kept k whole kept greedy part long = (
  kept,
  greedy,
  subst (λ ls. IsWithin (members ls) (members kept)) (sublist-whole kept whole part long) (λ q m. m),
)

-- the literals of a spent clause have values
pub spent-valued : (t : TrailState) (kept source : List Literal) → IsSpentBy t.assigned kept (members source)
    → All (λ (l : Literal). IsSome (assigned_to t.assigned (var_of l))) source
spent-valued t kept source spent = each source (λ q m. m)
  where
    one : (q : Literal) → IsFalse t.assigned q ⊎ ((true_in t.assigned q ≡ true) × (members kept q ≡ true))
        → IsSome (assigned_to t.assigned (var_of q))
    one q (inl gone) = true-some t.assigned (negation q) gone
    one q (inr both) = true-some t.assigned q both.0

    each : (ls : List Literal) → ((q : Literal) → members ls q ≡ true → members source q ≡ true)
        → All (λ (l : Literal). IsSome (assigned_to t.assigned (var_of l))) ls
    each [] all = All-nil (λ (l : Literal). IsSome (assigned_to t.assigned (var_of l)))
    each (x ∷ xs) all = All-cons (λ (l : Literal). IsSome (assigned_to t.assigned (var_of l))) x xs
        (one x (spent x (all x (members-first x xs)))) (each xs (λ q m. all q (members-later q x xs m)))

-- the family has the taken clause under its id
pub taken-there : (k : ClauseFamily) (id : ℕ) (whole : List Literal) → with_taken k id whole id ≡ Some (members whole)
taken-there k id whole =
    let e : nat_eq id id ≡ true = grind (arith, nat_tests) in
    ap (λ b. if b then Some (members whole) else k id) e

pub other-there : (k : ClauseFamily) (id : ℕ) (whole : List Literal) (hint : ℕ) (c : LiteralSet) → k id ≡ None
    → k hint ≡ Some c → with_taken k id whole hint ≡ Some c
other-there k id whole hint c none is = go (nat_eq hint id) refl
  where
    go : (b : Bool) → nat_eq hint id ≡ b → (if b then Some (members whole) else k hint) ≡ Some c
    go false e = is
    go true e = absurd (let v : hint ≡ id = grind (arith, nat_tests) in let f : k hint ≡ None = ap k v ∙ none in cc)

-- the chosen ones of a list, one after another
pub chosen-cons : (assigned : List Assigned) (marked : List ℕ) (x : Literal) (xs : List Literal)
    → chosen_from assigned marked (x ∷ xs) ≡ chosen_from assigned marked (x ∷ []) ++ chosen_from assigned marked xs
chosen-cons assigned marked x xs = go (true_in assigned x || is_marked marked (var_of x))
  where
    go : (b : Bool) → (if b then x ∷ chosen_from assigned marked xs else chosen_from assigned marked xs)
        ≡ (let one : List Literal = if b then x ∷ [] else [] in one) ++ chosen_from assigned marked xs
    go true = refl
    go false = refl
