use Rattle.std.proofs.Common.{◌≡◌, ◌++◌, map, take}
use Rattle.std.specs.List.{enumerate_from, flat_map}
use Rattle.define_lines.specs.Lines.{text_of}
use Rattle.define_offices.specs.Report.{value_lines}
use Rattle.office_reports.proofs.report_quotas.push_counts.Given as goal

-- the lines of the categories so far are appended
abbrev pub invariant-loop-place : goal.invariant-loop-place
invariant-loop-place l = l.text.items ≡ l.fn.text.items
    ++ text_of (flat_map (λ (place, category). value_lines l.pool.volunteers (map (λ group. group.now) l.groups) place category) (enumerate_from 0 (take l.place l.pool.categories)))
