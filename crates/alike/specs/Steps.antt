-- Terms of the contracts of src/spreading.rt and src/arcs.rt: a total that suits a part, the row of an arc, and a list in which places are
-- marked.
use Rattle.std.specs.Prelude.{◌≡◌, ℕ, ◌*◌, ◌/◌, ◌<◌, ◌≤◌, Bool, false, ◌||◌, List, length, slice_index_or}
use Rattle.std.specs.Int.{◌∣◌}
use Rattle.frac128.specs.Fractions.{Fraction}
use Rattle.define_pools.specs.Lottery.{LotteryRow}
use Rattle.define_searches.specs.Classes.{Classes}
use Rattle.define_runs.specs.Spreading.{dial, greatest_total, panel_at}

-- `total` suits the part: it is from 1 to 10 ^ 38 and a multiple of the part's denominator times its dial's length, and the part's fraction
-- of it is at most `total`
pub record IsTotalOf (all : Classes) (total : ℕ) (part : List ℕ × Fraction) : Type 0 where
  pub some : 0 < total
  pub within : total ≤ greatest_total
  pub over : 0 < part.1.den
  pub multiple : part.1.den * dial all part.0 ∣ total
  pub holds_part : part.1.num * (total / part.1.den) ≤ total

-- the row of the arc that begins at `at` and has length `arc`, if one place of the dial weighs `place_weight`
abbrev pub arc_row : Classes → List ℕ → ℕ → ℕ × ℕ → LotteryRow
arc_row all counts place_weight (at, arc) = record { panel = panel_at all counts at; weight = arc * place_weight }

-- `after` is the list `before` with each place that passes the test marked; places that were marked stay marked
pub record AreMarked (before after : List Bool) (passes : ℕ → Bool) : Type 0 where
  pub long : length after ≡ length before
  pub marked : (i : ℕ) → i < length before → slice_index_or after i false ≡ (slice_index_or before i false || passes i)
