-- the entry that a turn made
use Rattle.std.proofs.Common.{◌≡◌, Bool, true, false, MatchBool, refl, Some, [], ◌∷◌, ◌++◌, ap, sym, ◌∙◌, subst}
use Rattle.std.proofs.Common.{Result, Ok, Err, IfOk}
use Rattle.std.specs.Result.{is_ok}
use Rattle.std.proofs.lemmas.List.{append_cancel_left}
use mathlib.Core.List.{IsPrefix}
use Rattle.gr_diary.specs.declared.entries.Entry.{Entry}
use Rattle.gr_diary.specs.Entries.{actor_of}
use Rattle.gr_diary.specs.States.{State}
use Rattle.gr_diary.specs.Histories.{state_of}
use Rattle.gr_bench.specs.declared.answers.Closing.{Closing}
use Rattle.gr_bench.specs.declared.answers.Closing.TheVariants.{Done, Already}
use Rattle.gr_bench.specs.Exchanges.{Exchange, IsGrown, state_at}
use Rattle.gr_turn.specs.Views.{by}
use Rattle.gr_turn.specs.Seats.{Sitting}
use Rattle.gr_turn.specs.Turns.{Gains}
use Rattle.gr_seat.specs.declared.shelves.Fixed.{Fixed}
use Rattle.gr_seat.specs.Handles.{fixed_of, fixed_or_none, handle_of, IsSeated}
use Rattle.gr_seat.specs.Turns.{Makes}

-- what a turn found and left of the exchange, and the seat before and after it
pub record IsTurn (s u : Sitting Entry Fixed) (a b : Exchange) : Type 0 where
  pub seated : IsSeated s
  pub fixed : Some (fixed_of a) ≡ s.fixed
  pub begins : IsPrefix s.seen a.diary.entries
  pub ends : u.seen ≡ b.diary.entries
  pub own : by actor_of u.seen u.number ≡ u.own

-- a turn, by what the lock says of its beginning and its end
pub turn_of : (s u : Sitting Entry Fixed) (a b : Exchange) → IsSeated s → Some (fixed_of a) ≡ s.fixed
    → IsPrefix s.seen a.diary.entries → u.seen ≡ b.diary.entries → by actor_of u.seen u.number ≡ u.own
    → IsTurn s u a b
turn_of s u a b seated fixed begins ends own = record {
  seated = seated;
  fixed = fixed;
  begins = begins;
  ends = ends;
  own = own;
}

-- where the history grew by an entry, the seat made it
pub makes : (s u : Sitting Entry Fixed) (a b : Exchange) (e : Entry) (Told : State → Type 0) → IsTurn s u a b
    → Gains true a.diary.entries b.diary.entries s.own u.own → IsGrown a b e → Told (state_at a)
    → Makes (handle_of s) (handle_of u) e Told
makes s u a b e Told turn gains grown told =
    let gained : (x : Entry) × (b.diary.entries ≡ a.diary.entries ++ x ∷ []) × (u.own ≡ s.own ++ x ∷ []) = gains in
    let one : e ∷ [] ≡ gained.0 ∷ [] =
    append_cancel_left a.diary.entries (e ∷ []) (gained.0 ∷ []) (sym grown.entries ∙ gained.1) in
    let same : fixed_of a ≡ fixed_or_none s.fixed = ap fixed_or_none turn.fixed in
    record {
      before = a.diary.entries;
      begins = turn.begins;
      ends = turn.ends ∙ grown.entries;
      own = turn.own ∙ gained.2 ∙ ap (λ l. s.own ++ l) (sym one) ∙ ap (λ l. l ++ e ∷ []) (sym turn.seated.own);
      tells = subst (λ (p : Fixed). Told (state_of p.formula p.reducers p.capacity a.diary.entries)) same told;
    }

-- where a call succeeds, the seat made its entry
pub makes_if_ok : {X E : Type 0} (answer : Result X E) (grown : Bool) (s u : Sitting Entry Fixed) (a b : Exchange)
    (entry : X → Entry) (Told : X → State → Type 0) → IsTurn s u a b → grown ≡ is_ok answer
    → Gains grown a.diary.entries b.diary.entries s.own u.own
    → IfOk answer (λ x. IsGrown a b (entry x)) → IfOk answer (λ x. Told x (state_at a))
    → IfOk answer (λ x. Makes (handle_of s) (handle_of u) (entry x) (Told x))
makes_if_ok (Ok x) grown s u a b entry Told turn is gains grew told =
    makes s u a b (entry x) (Told x) turn
    (subst (λ (g : Bool). Gains g a.diary.entries b.diary.entries s.own u.own) is gains) grew told
makes_if_ok (Err e) grown s u a b entry Told turn is gains grew told = tt

-- both facts of an answer, one by one
pub first_if_ok : {X E : Type 0} (answer : Result X E) (P Q : X → Type 0) → IfOk answer (λ x. P x × Q x)
    → IfOk answer P
first_if_ok (Ok x) P Q both = both.0
first_if_ok (Err e) P Q both = tt

pub second_if_ok : {X E : Type 0} (answer : Result X E) (P Q : X → Type 0) → IfOk answer (λ x. P x × Q x)
    → IfOk answer Q
second_if_ok (Ok x) P Q both = both.1
second_if_ok (Err e) P Q both = tt

-- a call that ended the history made its entry
pub made_if_done : (grown : Bool) (answer : Closing) → MatchBool grown (answer ≡ Done) (answer ≡ Already)
    → answer ≡ Done → grown ≡ true
made_if_done true answer told done = refl
made_if_done false answer told done = absurd (cc)
