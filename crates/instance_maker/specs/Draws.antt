-- The numbers that samples are made of: each comes of a state, and leaves the next one.
use Rattle.std.specs.Prelude.{ℕ, zero, suc, ◌+◌, ◌*◌, ◌/◌, ◌%◌}
use Rattle.instance_maker.specs.declared.draws.TheConstants.{MULTIPLIER, INCREMENT, STATES, DROPPED}

-- the state behind a state
unfoldable pub next_state : ℕ → ℕ
next_state state = (MULTIPLIER * state + INCREMENT) % STATES

-- the state behind so many draws from a first state
abbrev pub state_after : ℕ → ℕ → ℕ
state_after first zero = first
state_after first (suc draws) = next_state (state_after first draws)

-- what is drawn at a state: a number below the bound, from the high bits of the next state
abbrev pub draw : ℕ → ℕ → ℕ
draw state bound = next_state state / DROPPED % bound
