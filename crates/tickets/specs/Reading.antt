-- How digits are read in groups. The contracts of `dice` cite it.
use Rattle.std.specs.Prelude.{◌≡◌, ℕ, ◌<◌, ◌≤◌, true, List, length, slice_index}
use Rattle.std.specs.Char.{is_ascii_digit}
use Rattle.define_draws.specs.Dice.{group_size, groups_per_ticket}
use Rattle.tickets.specs.declared.dice.Groups.{Groups}

-- each byte is a digit, `0` to `9`
pub record AreDigits (digits : List ℕ) : Type 0 where
  pub each : (place : ℕ) → place < length digits → is_ascii_digit (slice_index digits place) ≡ true

pub record AreGroupsOf (total : ℕ) (groups : Groups) : Type 0 where
  pub size : groups.size ≡ group_size total
  pub few : groups.size ≤ 38
  pub groups_per_ticket : groups.groups_per_ticket ≡ groups_per_ticket total
