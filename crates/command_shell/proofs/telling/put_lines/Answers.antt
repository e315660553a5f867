use Rattle.std.proofs.Common.{◌≡◌, ◌+◌, ◌-◌, ◌∙◌, arith}
use Rattle.command_shell.proofs.TellingLemmas.{part_of_text, more_of_text}
use Rattle.command_shell.proofs.telling.put_lines.Goals as goal

pub returns-in_err-put-clause-part : goal.returns-in_err-put-clause-part
returns-in_err-put-clause-part g c =
    part_of_text _ _ _ c.args.text.now c.loop-start.start (c.line_end-end.result - c.loop-start.start) c.loop-start.invariant.written c.put.ensures.part

pub loop-start-preserved : goal.loop-start-preserved
loop-start-preserved g c =
    let later = c.line_end-end.ensures.later in
    let sum : c.loop-start.start + (c.line_end-end.result - c.loop-start.start) ≡ c.line_end-end.result = omega arith in
    record {
      inside = c.line_end-end.ensures.inside;
      none = c.in_ok-put.ensures.none ∙ c.loop-start.invariant.none;
      written = rw sum at (more_of_text _ _ _ c.args.text.now c.loop-start.start (c.line_end-end.result - c.loop-start.start) c.loop-start.invariant.written c.in_ok-put.ensures.whole);
    }
