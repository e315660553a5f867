use Rattle.std.proofs.Common.{◌≡◌, ◌++◌, map}
use Rattle.std.specs.List.{range_with_len}
use Rattle.define_lines.specs.Lines.{text_of}
use Rattle.define_pools.specs.Pool.{volunteer}
use Rattle.define_offices.specs.Report.{chance_line, chance_of}
use Rattle.office_reports.proofs.report_chances.push_chances.Given as goal

-- the lines of the chances of the first `i` volunteers are appended
abbrev pub invariant-loop-i : goal.invariant-loop-i
invariant-loop-i l = l.text.items ≡ l.fn.text.items ++ text_of (map (λ i. chance_line (volunteer l.pool.volunteers i).id (chance_of l.lottery i)) (range_with_len 0 l.i))
