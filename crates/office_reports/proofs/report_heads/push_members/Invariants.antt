use Rattle.std.proofs.Common.{◌≡◌, ◌++◌, map, take}
use Rattle.define_lines.specs.Lines.{text_of}
use Rattle.define_draws.specs.Lines.{member_ids}
use Rattle.define_offices.specs.Report.{member_line}
use Rattle.office_reports.proofs.report_heads.push_members.Given as goal

-- the lines of the members so far are appended
abbrev pub invariant-loop-number : goal.invariant-loop-number
invariant-loop-number l = l.text.items ≡ l.fn.text.items ++ text_of (map member_line (member_ids l.pool (take l.number-index l.number-items)))
