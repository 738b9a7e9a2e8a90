-- the history in which a unit clause comes in and is let go is legal
use Rattle.std.proofs.Common.{◌≢◌, ℕ, [], ◌∷◌, Some, None, refl, arith}
use Rattle.std.specs.Prelude.{IsTrue}
use Rattle.std.proofs.lemmas.List.Elements.{All-nil, All-cons}
use Rattle.gr_logic.specs.Rup.{Live}
use Rattle.gr_diary.specs.declared.entries.Entry.TheVariants.{Forget}
use Rattle.gr_diary.specs.Entries.{addition_of}
use Rattle.gr_diary.specs.States.{State, initial_state, has}
use Rattle.gr_diary.specs.Steps.{after}
use Rattle.gr_diary.specs.Histories.{IsLegal}
use Rattle.gr_diary.specs.Examples.{plus}
use Rattle.gr_diary.proofs.Looks.{Looks, formula_look, initial-looks, look_after, after-looks}
use Rattle.gr_diary.proofs.Looks.{part_by, able-by}
use Rattle.gr_diary.proofs.Justified.{justified-by}
use Rattle.gr_bench.specs.Runs.{implication, learn_two, letting_go}

abbrev start : State
start = initial_state implication

abbrev look : Live
look = formula_look implication

abbrev learnt : State
learnt = after implication 1 1 start learn_two

-- the clauses under the ids 1 to 3
abbrev look_learnt : Live
look_learnt = look_after look 3 (addition_of learn_two) []

looks-learnt : Looks learnt look_learnt
looks-learnt = after-looks implication 1 1 start look learn_two [] (initial-looks implication) refl

pub letting-go-is-legal : IsLegal implication 1 1 letting_go
letting-go-is-legal = (
  able-by implication 1 start look learn_two (initial-looks implication) refl tt (
    omega arith,
    justified-by implication (part_by implication start look 0) (plus 2 ∷ []) (1 ∷ 2 ∷ []) refl refl
        refl refl,
  ),
  (
    able-by implication 1 learnt look_learnt (Forget 0 (3 ∷ [])) looks-learnt refl tt (
      omega arith,
      (λ e. cc e),
      (omega arith, tt),
      All-cons Held 3 [] refl (All-nil Held),
      All-cons Free 3 [] (λ e. cc e) (All-nil Free),
    ),
    tt,
  ),
)
  where
    Held : ℕ → Type 0
    Held id = IsTrue (has id (3 ∷ []))

    Free : ℕ → Type 0
    Free id = None ≢ Some id
