use Rattle.std.proofs.Common.{◌≡◌, fold, get_or, map, max, pos, take, unsigned_abs}
use Rattle.office_reports.proofs.summaries.greatest.Given as goal

-- `greatest` is the greatest of the first count and the counts read so far
abbrev pub invariant-loop-count : goal.invariant-loop-count
invariant-loop-count l = l.greatest ≡ pos (fold max (get_or (map unsigned_abs l.counts) 0 0) (take l.count-index (map unsigned_abs l.counts)))
