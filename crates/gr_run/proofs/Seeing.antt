-- what a seat sees of a history that goes on
use Rattle.std.proofs.Common.{◌≡◌, ◌≢◌, ℕ, Bool, true, false, ◌∙◌, List, [], ◌∷◌, ◌++◌, append-nil, append_assoc, refl, sym, ap, subst, ◌==◌, if◌then◌else◌}
use Rattle.std.proofs.lemmas.List.Elements.{All-nil, All-cons, filter-append}
use Rattle.gr_logic.specs.Formulas.{Cnf}
use Rattle.gr_diary.specs.declared.entries.Entry.{Entry}
use Rattle.gr_diary.specs.Entries.{actor_of}
use Rattle.gr_diary.specs.Histories.{IsLegal, entries_of}
use Rattle.gr_diary.proofs.Ends.{beginnings-are-legal}
use Rattle.gr_diary.specs.States.{State}
use Rattle.gr_seat.specs.Handles.{Handle}
use Rattle.gr_seat.specs.Turns.{SeesMore, Makes, MakesNone}
use Rattle.gr_run.specs.Moves.{AreOthers, IsReached, IsContinued}

-- entries none of which is the searching thread's
pub none-own : (es : List Entry) → entries_of es 0 ≡ [] → AreOthers es
none-own [] none = All-nil (λ e. actor_of e ≢ 0)
none-own (e ∷ es) none = pick (actor_of e == 0) refl (none-own es)
  where
    pick : (b : Bool) → (actor_of e == 0) ≡ b → (entries_of es 0 ≡ [] → AreOthers es) → AreOthers (e ∷ es)
    pick true is rest = absurd (let no : e ∷ entries_of es 0 ≡ [] =
        sym (ap (λ b. if b then e ∷ entries_of es 0 else entries_of es 0) is) ∙ none in cc no)
    pick false is rest = All-cons (λ e. actor_of e ≢ 0) e es
        (λ same. let no : (actor_of e == 0) ≡ true = ap (λ a. a == 0) same in cc (no, is))
        (rest (sym (ap (λ b. if b then e ∷ entries_of es 0 else entries_of es 0) is) ∙ none))

same-front : (xs ys zs : List Entry) → xs ++ ys ≡ xs ++ zs → ys ≡ zs
same-front [] ys zs e = e
same-front (x ∷ xs) ys zs e = let rest : xs ++ ys ≡ xs ++ zs = cc in same-front xs ys zs rest

own-append : (xs ys : List Entry) → entries_of (xs ++ ys) 0 ≡ entries_of xs 0 ++ entries_of ys 0
own-append xs ys = filter-append (λ e. actor_of e == 0) xs ys

-- two lists that end with an element
same-last : (xs ys : List Entry) (x y : Entry) → xs ++ x ∷ [] ≡ ys ++ y ∷ [] → (xs ≡ ys) × (x ≡ y)
same-last [] [] x y e = (refl, cc)
same-last [] (b ∷ []) x y e = absurd (let no : [] ≡ y ∷ [] = cc in cc no)
same-last [] (b ∷ c ∷ bs) x y e = absurd (let no : [] ≡ c ∷ (bs ++ y ∷ []) = cc in cc no)
same-last (a ∷ []) [] x y e = absurd (let no : x ∷ [] ≡ [] = cc in cc no)
same-last (a ∷ c ∷ as') [] x y e = absurd (let no : c ∷ (as' ++ x ∷ []) ≡ [] = cc in cc no)
same-last (a ∷ as') (b ∷ bs) x y e =
    let first : a ≡ b = cc in
    let rest : as' ++ x ∷ [] ≡ bs ++ y ∷ [] = cc in
    let both = same-last as' bs x y rest in
    ((λ i. first i ∷ both.0 i), both.1)

record Ends (es : List Entry) : Type 0 where
  front : List Entry
  last : Entry
  is : es ≡ front ++ last ∷ []

ends : (e : Entry) (es : List Entry) → Ends (e ∷ es)
ends e [] = record { front = []; last = e; is = refl }
ends e (x ∷ xs) = let rest = ends x xs in record {
  front = e ∷ rest.front;
  last = rest.last;
  is = ap (λ (z : List Entry). e ∷ z) rest.is;
}

module _ (old new : Handle) (mine : old.actor ≡ 0) (sees : SeesMore old new) where
  -- what is said of the new seat's formula and sizes is said of the old one's
  at-old : (P : Cnf → ℕ → ℕ → Type 0) → P new.formula new.reducers new.capacity
      → P old.formula old.reducers old.capacity
  at-old P p = subst (P old.formula old.reducers) sees.same.capacity
      (subst (λ n. P old.formula n new.capacity) sees.same.reducers
      (subst (λ f. P f new.reducers new.capacity) sees.same.formula p))

  pub legal-new : IsLegal old.formula old.reducers old.capacity new.seen
  legal-new = at-old (λ f reducers capacity. IsLegal f reducers capacity new.seen) sees.legal

  -- the searching thread's own entries are those of actor 0
  own-of : (es : List Entry) → entries_of new.seen new.actor ≡ entries_of old.seen old.actor ++ es
      → entries_of new.seen 0 ≡ entries_of old.seen 0 ++ es
  own-of es own = ap (entries_of new.seen) (sym (sees.same.actor ∙ mine)) ∙ own
      ∙ ap (λ a. entries_of old.seen a ++ es) mine

  -- those that the seat has seen beyond
  pub own-rest : (es : List Entry) → entries_of new.seen new.actor ≡ entries_of old.seen old.actor ++ es
      → entries_of sees.begins.0 0 ≡ es
  own-rest es own = same-front (entries_of old.seen 0) (entries_of sees.begins.0 0) es
      (sym (own-append old.seen sees.begins.0) ∙ ap (λ d. entries_of d 0) sees.begins.1 ∙ own-of es own)

  pub reached-seen : MakesNone old new → IsReached old.formula old.reducers old.capacity old.seen new.seen
  reached-seen none = record {
    between = sees.begins.0;
    others = none-own sees.begins.0
        (own-rest [] (none ∙ sym (append-nil (entries_of old.seen old.actor))));
    splits = sees.begins.1;
    legal = legal-new;
  }

  module _ (e : Entry) (Tells : State → Type 0) (of-solver : actor_of e ≡ 0) (m : Makes old new e Tells) where
    own-one : entries_of (e ∷ []) 0 ≡ e ∷ []
    own-one = ap (λ a. if a == 0 then e ∷ [] else []) of-solver

    pub by : (rest : List Entry) → old.seen ++ rest ≡ new.seen → entries_of rest 0 ≡ e ∷ []
        → IsReached old.formula old.reducers old.capacity old.seen m.before
    by [] begins own = absurd (cc own)
    by (x ∷ xs) begins own =
        let z = ends x xs in
        let both = same-last (old.seen ++ z.front) m.before z.last e
        (append_assoc old.seen z.front (z.last ∷ []) ∙ ap (λ w. old.seen ++ w) (sym z.is) ∙ begins ∙ m.ends) in
        let front_own : entries_of z.front 0 ++ e ∷ [] ≡ [] ++ e ∷ [] =
        ap (λ w. entries_of z.front 0 ++ w) (sym own-one) ∙ sym (own-append z.front (e ∷ []))
        ∙ ap (λ w. entries_of (z.front ++ w ∷ []) 0) (sym both.1) ∙ ap (λ w. entries_of w 0) (sym z.is) ∙ own in
        record {
          between = z.front;
          others = none-own z.front (same-last (entries_of z.front 0) [] e e front_own).0;
          splits = both.0;
          legal = beginnings-are-legal old.formula old.reducers old.capacity m.before new.seen
              (e ∷ [], sym m.ends) legal-new;
        }

    unfoldable pub continued-seen : IsContinued old.formula old.reducers old.capacity old.seen e new.seen
    continued-seen = record {
      place = m.before;
      reached = by sees.begins.0 sees.begins.1 (own-rest (e ∷ []) m.own);
      splits = sym m.ends;
      legal = legal-new;
    }
