use Rattle.std.proofs.Common.{◌≡◌, fold, get_or, map, min, pos, take, unsigned_abs}
use Rattle.office_reports.proofs.summaries.least.Given as goal

-- `least` is the least of the first count and the counts read so far
abbrev pub invariant-loop-count : goal.invariant-loop-count
invariant-loop-count l = l.least ≡ pos (fold min (get_or (map unsigned_abs l.counts) 0 0) (take l.count-index (map unsigned_abs l.counts)))
