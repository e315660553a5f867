-- Spans of whole numbers.
use Rattle.std.specs.Prelude.{ℤ}

-- the two ends of a span
pub record Ends : Type 0 where
  pub least : ℤ
  pub greatest : ℤ
