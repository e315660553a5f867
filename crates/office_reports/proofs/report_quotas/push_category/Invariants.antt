use Rattle.std.proofs.Common.{◌≡◌, ◌++◌, map, take}
use Rattle.std.specs.List.{enumerate_from}
use Rattle.define_lines.specs.Lines.{text_of}
use Rattle.define_offices.specs.Report.{numbers_with, quota_line}
use Rattle.office_reports.proofs.report_quotas.push_category.Given as goal

-- the lines of the values so far are appended
abbrev pub invariant-loop-value_place : goal.invariant-loop-value_place
invariant-loop-value_place l = l.text.items ≡ l.fn.text.items
    ++ text_of (map (λ (value_place, value). quota_line l.category.name value (numbers_with l.volunteers (map (λ group. group.now) l.groups) l.place value_place)) (enumerate_from 0 (take l.value_place l.category.values)))
