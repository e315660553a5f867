use Rattle.std.proofs.Common.{◌≤◌}
use Rattle.panel_search.proofs.Ranges.{IsRange}
use Rattle.panel_search.proofs.tallies.values_range.Given as goal

-- `low..end` are the counts in `from..until` that keep the values of the categories so far within reach
abbrev pub invariant-loop-category : goal.invariant-loop-category
invariant-loop-category l = (l.end ≤ l.until) × IsRange l.bounds l.held l.later l.values l.from l.until l.category l.low l.end
