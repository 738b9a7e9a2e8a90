-- when the search restarts: the recent LBDs of learnt clauses against all of them
-- (after Audemard and Simon, CP 2012, in whole numbers; also after each thousandth clause, which is this program's own)
use Rattle.std.specs.Prelude.{ℕ, ◌+◌, ◌-◌, ◌*◌, ◌%◌, ◌&&◌, ◌||◌, Bool, List, [], ◌∷◌, ◌++◌, length, sum, drop, nat_eq, nat_lt, fold}

-- how many LBDs were pushed, their sum, and the window: the last 50 of those pushed since it was last emptied
pub record RestartState : Type 0 where
  pub pushes : ℕ
  pub total : ℕ
  pub window : List ℕ

-- a state by its three parts
abbrev pub restart_state : ℕ → ℕ → List ℕ → RestartState
restart_state n a w = record { pushes = n; total = a; window = w }

-- the state before the first push
abbrev pub no_pushes : RestartState
no_pushes = restart_state 0 0 []

-- the last 50 of a list
abbrev pub last_fifty : List ℕ → List ℕ
last_fifty w = drop (length w - 50) w

-- what happens to the state: an LBD is pushed, or the window is emptied, as after a restart
pub data RestartMove : Type 0 where
  push : ℕ → RestartMove
  clear : RestartMove

-- the state behind one move: a push counts and is kept in the window, and emptying the window leaves count and sum
abbrev pub after_move : RestartState → RestartMove → RestartState
after_move s (push lbd) = restart_state (s.pushes + 1) (s.total + lbd) (last_fifty (s.window ++ lbd ∷ []))
after_move s clear = restart_state s.pushes s.total []

-- a full window whose mean is above 5/4 of the mean of all, or a window that is not empty at each thousandth push
abbrev pub wants_restart : RestartState → Bool
wants_restart s =
    (nat_eq (length s.window) 50 && nat_lt (s.total * 500) (sum s.window * 8 * s.pushes))
    || (nat_lt 0 (length s.window) && nat_eq (s.pushes % 1000) 0)

-- a restart is due behind these pushes and clears
abbrev pub is_restart_due : List RestartMove → Bool
is_restart_due moves = wants_restart (fold after_move no_pushes moves)
