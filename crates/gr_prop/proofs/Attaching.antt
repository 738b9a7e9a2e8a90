-- the watches of a clause that comes in, for the clauses of either kind
use Rattle.std.proofs.Common.{◌≡◌, ◌≢◌, ℕ, ◌+◌, ◌*◌, ◌<◌, Bool, true, false, All, List, [], ◌∷◌, ◌++◌, length, refl, sym, ap, ◌∙◌, subst, arith, nat_eq, if◌then◌else◌}
use Rattle.std.proofs.lemmas.Bool.Decides.{nat_tests}
use Rattle.std.proofs.lemmas.List.Elements.{All-push}
use Rattle.gr_logic.specs.Literals.{Literal, same_literal}
use Rattle.gr_logic.specs.Codes.{code_of}
use Rattle.gr_logic.specs.declared.places.Place.{Place}
use Rattle.gr_watch.specs.declared.lists.Watch.{Watch}
use Rattle.gr_watch.specs.WatchLists.{WatchLists, list_of}
use Rattle.gr_prop.specs.Watching.{Store, lits_at, bit, count_in, watched, IsWatching}
use Rattle.gr_prop.specs.Additions.{attached, watching_too}
use Rattle.gr_prop.proofs.Stores.{by_place}
use Rattle.gr_prop.proofs.Counts.{code-low, by_list, attached-count, attached-length}

both-bits : (m j o : ℕ) (a b : Bool) → j ≡ 0 → m ≡ j + (if a then 1 else 0) → o ≡ m + (if b then 1 else 0)
    → o ≡ bit a + bit b
both-bits m j o a b e f g = omega arith

no-bits : (m j o : ℕ) (a b : Bool) → m ≡ j + (if a then 0 else 0) → o ≡ m + (if b then 0 else 0) → o ≡ j
no-bits m j o true true f g = omega arith
no-bits m j o true false f g = omega arith
no-bits m j o false true f g = omega arith
no-bits m j o false false f g = omega arith

pub added-length : (ws : WatchLists) (place : Place) (e : List Literal)
    → length (watching_too ws place e).lists ≡ length ws.lists
added-length ws place [] = refl
added-length ws place (w ∷ []) = refl
added-length ws place (w ∷ o ∷ rest) =
    attached-length (attached ws w (record { place = place; blocker = o })) o (record { place = place; blocker = w })
    ∙ attached-length ws w (record { place = place; blocker = o })

pub added-vars : (ws : WatchLists) (place : Place) (e : List Literal) → (watching_too ws place e).vars ≡ ws.vars
added-vars ws place [] = refl
added-vars ws place (w ∷ []) = refl
added-vars ws place (w ∷ o ∷ rest) = refl

module _ (ws : WatchLists) (vars : ℕ) (place : Place) (even : length ws.lists ≡ 2 * vars) where
  first-room : (w o : Literal) (rest : List Literal) → All (λ (l : Literal). l.index < vars) (w ∷ o ∷ rest)
      → code_of w < length ws.lists
  first-room w o rest all = code-low w vars (length ws.lists) even (all 0 w (omega arith))

  second-room : (w o : Literal) (rest : List Literal) (new : Watch)
      → All (λ (l : Literal). l.index < vars) (w ∷ o ∷ rest) → code_of o < length (attached ws w new).lists
  second-room w o rest new all = subst (λ m. code_of o < m) (sym (attached-length ws w new))
      (code-low o vars (length ws.lists) even (all 1 w (omega arith)))

  -- the lists count the new watches
  pub watching-added : (kind : List Literal → List Literal) (k n : Store) → IsWatching kind k ws
      → kind (lits_at k place.0) ≡ [] → ((q : ℕ) → q ≢ place.0 → lits_at n q ≡ lits_at k q) → (e : List Literal)
      → kind (lits_at n place.0) ≡ e → All (λ (l : Literal). l.index < vars) e
      → IsWatching kind n (watching_too ws place e)
  watching-added kind k n watching none old [] is all =
      by_place (λ q. (l : Literal) → count_in q (list_of ws l) ≡ watched (kind (lits_at n q)) l) place.0
      (λ l. watching place.0 l ∙ ap (λ x. watched x l) none ∙ sym (ap (λ x. watched x l) is))
      (λ q apart l. watching q l ∙ ap (λ x. watched (kind x) l) (sym (old q apart)))
  watching-added kind k n watching none old (w ∷ []) is all =
      by_place (λ q. (l : Literal) → count_in q (list_of ws l) ≡ watched (kind (lits_at n q)) l) place.0
      (λ l. watching place.0 l ∙ ap (λ x. watched x l) none ∙ sym (ap (λ x. watched x l) is))
      (λ q apart l. watching q l ∙ ap (λ x. watched (kind x) l) (sym (old q apart)))
  watching-added kind k n watching none old (w ∷ o ∷ rest) is all =
      let x : Watch = record { place = place; blocker = o } in
      let y : Watch = record { place = place; blocker = w } in
      let one : code_of w < length ws.lists = first-room w o rest all in
      let two : code_of o < length (attached ws w x).lists = second-room w o rest x all in
      by_place (λ q. (l : Literal) → count_in q (list_of (attached (attached ws w x) o y) l)
      ≡ watched (kind (lits_at n q)) l) place.0
      (λ l.
      let a = attached-count ws w x place.0 l one in
      let b = attached-count (attached ws w x) o y place.0 l two in
      let h : nat_eq place.0 place.0 ≡ true = grind (arith, nat_tests) in
      let e : count_in place.0 (list_of ws l) ≡ 0 = watching place.0 l ∙ ap (λ z. watched z l) none in
      both-bits _ _ _ (same_literal l w) (same_literal l o) e (rw h at a) (rw h at b) ∙ sym (ap (λ z. watched z l) is))
      (λ q apart l.
      let a = attached-count ws w x q l one in
      let b = attached-count (attached ws w x) o y q l two in
      let h : nat_eq place.0 q ≡ false = grind (arith, nat_tests) in
      no-bits _ _ _ (same_literal l w) (same_literal l o) (rw h at a) (rw h at b) ∙ watching q l
      ∙ ap (λ z. watched (kind z) l) (sym (old q apart)))

  -- what holds of the watches that were there, and of the new ones, holds of all
  pub all-added : (P : Literal → Watch → Type 0) (e : List Literal) → All (λ (l : Literal). l.index < vars) e
      → ((l : Literal) → All (P l) (list_of ws l))
      → ((w o : Literal) (rest : List Literal) → e ≡ w ∷ o ∷ rest
      → P w (record { place = place; blocker = o }) × P o (record { place = place; blocker = w }))
      → (l : Literal) → All (P l) (list_of (watching_too ws place e) l)
  all-added P [] all old new = old
  all-added P (w ∷ []) all old new = old
  all-added P (w ∷ o ∷ rest) all old new =
      let x : Watch = record { place = place; blocker = o } in
      let y : Watch = record { place = place; blocker = w } in
      let both = new w o rest refl in
      let first : (l : Literal) → All (P l) (list_of (attached ws w x) l) =
      by_list (λ l z. All (P l) z) ws w (list_of ws w ++ x ∷ []) (first-room w o rest all)
      (All-push (P w) (list_of ws w) x (old w) both.0) (λ q apart. old q) in
      by_list (λ l z. All (P l) z) (attached ws w x) o (list_of (attached ws w x) o ++ y ∷ [])
      (second-room w o rest x all)
      (All-push (P o) (list_of (attached ws w x) o) y (first o) both.1) (λ q apart. first q)
