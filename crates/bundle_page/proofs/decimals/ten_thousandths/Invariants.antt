use Rattle.std.proofs.Common.{◌+◌, ◌*◌, ◌-◌, ◌<◌, ◌≤◌}
use Rattle.bundle_page.proofs.decimals.ten_thousandths.Given as goal

-- rounded, `part / whole` has at least `low` ten-thousandths and fewer than `high`
abbrev pub invariant-loop-low : goal.invariant-loop-low
invariant-loop-low l = record {
  apart : l.low < l.high;
  most : l.high ≤ 10001;
  reached : 2 * (l.low * l.whole) ≤ 2 * 10000 * l.part + l.whole;
  beyond : 2 * 10000 * l.part + l.whole < 2 * (l.high * l.whole);
}

abbrev pub decreases-loop-low : goal.decreases-loop-low
decreases-loop-low l = l.high - l.low
