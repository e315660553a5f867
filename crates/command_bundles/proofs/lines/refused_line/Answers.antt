use Rattle.std.proofs.Common.{◌∙◌, codes, map}
use Rattle.std.specs.Fmt.{decimal}
use Rattle.command_bundles.proofs.CheckLines.{written_in_turn}
use Rattle.command_bundles.proofs.lines.refused_line.Goals as goal

pub returns : goal.returns
returns c =
    let refusal = c.args.refusal.now in
    written_in_turn (codes "refused") (decimal refusal.stage) (decimal refusal.reason) (map decimal refusal.who) _ _ _ _ _
    (rw c.new-line.ensures.items at c.in_ok-extend_from_slice.ensures.items) (rw c.stage.ensures at c.in_ok-push_number.ensures.whole)
    (rw (c.from.ensures ∙ c.reason.ensures) at c.in_ok-push_number-2.ensures.whole) (rw c.who.ensures at c.in_ok-push_numbers.ensures.whole) c.in_ok-end_line.ensures.whole
