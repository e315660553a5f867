-- A linear congruential generator of 64 bits with Knuth's multiplier. The upper 31 bits of its states are the numbers.
use Rattle.std.specs.Prelude.{ℕ, zero, suc, ◌+◌, ◌*◌, ◌/◌, ◌%◌, ◌^◌}

-- the state after this one
abbrev pub next_state : ℕ → ℕ
next_state x = (x * 6364136223846793005 + 1442695040888963407) % 2 ^ 64

-- the number of a state: its upper 31 bits
abbrev pub upper_bits : ℕ → ℕ
upper_bits x = x / 2 ^ 33

-- the state after `count` numbers; the state before the first number is the seed
unfoldable pub state : ℕ → ℕ → ℕ
state seed zero = seed
state seed (suc count) = next_state (state seed count)

-- the number in this place, counted from 0, of the generator with this seed
abbrev pub number : ℕ → ℕ → ℕ
number seed place = upper_bits (state seed (suc place))
