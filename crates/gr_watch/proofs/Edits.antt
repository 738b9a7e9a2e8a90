-- one list of a vector of lists is read, or becomes another
use Rattle.std.proofs.Common.{◌≡◌, ◌≢◌, ℕ, ◌*◌, ◌<◌, List, [], map, length, get_or, set, sym, ap, ◌∙◌, arith, get_or-set_other, Ok, Err, Result}
use Rattle.std.specs.Result.{MatchResult}
use Rattle.std.specs.Bool.{⊤}
use Rattle.std.proofs.lemmas.List.{map-set, get_or-map, set-get_or, set_comm}
use Rattle.gr_logic.specs.Literals.{Literal}
use Rattle.gr_logic.specs.Codes.{code_of, literal_of, literal_of-code_of}
use Rattle.gr_watch.specs.declared.lists.Watch.{Watch}
use Rattle.gr_watch.specs.WatchLists.{WatchLists, list_of, with_list}

pub on_err : {X Y : Type 0} (r : Result X Y) (P : Type 0) → P → MatchResult r (λ _. ⊤) (λ _. P)
on_err (Ok x) P p = tt
on_err (Err x) P p = p

code_low : (l : Literal) (vars : ℕ) → l.index < vars → code_of l < 2 * vars
code_low l vars h = grind (arith, h)

-- two literals have two codes
pub codes_differ : (a b : Literal) → a ≢ b → code_of a ≢ code_of b
codes_differ a b apart e = apart (sym (literal_of-code_of a) ∙ ap literal_of e
    ∙ literal_of-code_of b)

-- a list that becomes what it was
pub with_own : (w : WatchLists) (l : Literal) → with_list w l (list_of w l) ≡ w
with_own w l = ap (λ lists. record w { lists = lists }) (set-get_or w.lists (code_of l) [])

-- another literal's list stays
pub other_list : (w : WatchLists) (l m : Literal) (list : List Watch) → l ≢ m
    → list_of (with_list w m list) l ≡ list_of w l
other_list w l m list apart = get_or-set_other w.lists (code_of m) (code_of l) list []
    (codes_differ l m apart)

-- the order of two lists' changes does not matter
pub with_both : (w : WatchLists) (l m : Literal) (one other : List Watch) → l ≢ m
    → with_list (with_list w m other) l one ≡ with_list (with_list w l one) m other
with_both w l m one other apart =
    ap (λ lists. record w { lists = lists }) (set_comm w.lists (code_of m) (code_of l) other one
    (λ e. codes_differ l m apart (sym e)))

module _ {V : Type 0} (f : V → List Watch) (vars : ℕ) (vs : List V) (w : WatchLists)
    (is : record { vars = vars; lists = map f vs } ≡ w) (room : length vs
    ≡ 2 * vars) (l : Literal) (known : l.index < w.vars) (i : ℕ) (at : i ≡ code_of l) where
  pub fits : i < length vs
  fits = omega (
    arith,
    at,
    room,
    code_low l vars (omega
        (arith, known, ap (λ (u : WatchLists). u.vars) is)),
  )

  -- the vector that is read holds the literal's list
  pub read : (v : V) → v ≡ get_or vs i v → f v ≡ list_of w l
  read v e =
      ap f e ∙ sym (get_or-map f vs i v [] fits) ∙ ap (λ k. get_or (map f vs) k []) at
      ∙ ap (λ (u : WatchLists). list_of u l) is

  -- a vector that is written holds the literal's new list
  pub written : (v : V) (list : List Watch) → f v ≡ list
      → record { vars = vars; lists = map f (set vs i v) } ≡ with_list w l list
  written v list e =
      ap (λ lists. record { vars = vars; lists = lists }) (map-set f vs i v
      ∙ (λ k. set (map f vs) (at k) (e k)))
      ∙ ap (λ (u : WatchLists). with_list u l list) is
