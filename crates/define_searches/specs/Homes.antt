-- Counters for households: how many members are taken of each. `panel_search`, `check_search` and `quota_loosen` keep them.
use Rattle.std.specs.Prelude.{◌≡◌, ℕ, ◌+◌, ◌≤◌, ◌<◌, nat_le, if◌then◌else◌, Bool, true, List, length, slice_index, Option, Some, None}
use Rattle.define_searches.specs.Compositions.{is_of_household}

-- each counter is at most 4000, so that sums stay small: a front may take each volunteer, also where no panel has so many
abbrev pub AreFew : List ℕ → Type 0
AreFew homes = (h : ℕ) → h < length homes → slice_index homes h ≤ 4000

-- how many of `count` members are of household `h`: all if `household` is `h`, else 0
abbrev pub added_to : Option ℕ → ℕ → ℕ → ℕ
added_to household count h = if is_of_household h household then count else 0

-- `after` are the counters `before` with `count` added to that of `household`; without a household they are unchanged
pub record HasMoreAt (household : Option ℕ) (count : ℕ) (before after : List ℕ) : Type 0 where
  pub same : length after ≡ length before
  pub each : (h : ℕ) → h < length before → slice_index after h ≡ slice_index before h + added_to household count h

-- if there is a household, its counter is at least `count`
abbrev pub CanGiveAt : Option ℕ → ℕ → List ℕ → Type 0
CanGiveAt None count homes = Unit {0}
CanGiveAt (Some h) count homes = count ≤ slice_index homes h

-- if there is a household, at most one of its members is taken after `count` more are taken
abbrev pub has_room : List ℕ → Option ℕ → ℕ → Bool
has_room homes None count = true
has_room homes (Some h) count = nat_le (slice_index homes h + count) 1
