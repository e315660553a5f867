use Rattle.std.proofs.Common.{◌≡◌, ◌+◌, ◌++◌, map, take}
use Rattle.std.specs.List.{enumerate_from}
use Rattle.define_lines.specs.Lines.{text_of}
use Rattle.define_draws.specs.Tickets.{first_ticket, weights_of}
use Rattle.command_questions.specs.Tickets.{row_line}
use Rattle.command_questions.proofs.ranges.push_rows.Given as goal

-- `text` gained the lines of the first `place` rows, and `first` is the first ticket after them
abbrev pub invariant-loop-place : goal.invariant-loop-place
invariant-loop-place l = record {
  first : l.first ≡ first_ticket (weights_of l.lottery) l.place;
  written : l.text.items ≡ l.fn.text.items
      ++ text_of (map (λ (place, row). row_line l.volunteers (first_ticket (weights_of l.lottery) place) (place + 1) row) (enumerate_from 0 (take l.place l.lottery.rows)));
}
