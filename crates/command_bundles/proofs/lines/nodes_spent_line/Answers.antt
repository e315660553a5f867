use Rattle.std.proofs.Common.{◌∷◌, [], codes}
use Rattle.std.specs.Fmt.{decimal}
use Rattle.command_bundles.proofs.CheckLines.{written_in_turn}
use Rattle.command_bundles.proofs.lines.nodes_spent_line.Goals as goal

pub returns : goal.returns
returns c =
    written_in_turn (codes "spent\tnodes") (decimal c.args.nodes) (decimal c.args.stage) (codes "0" ∷ codes "0" ∷ []) _ _ _ _ _
    (rw c.new-line.ensures.items at c.in_ok-extend_from_slice.ensures.items) c.in_ok-push_number.ensures.whole
    c.in_ok-push_number-2.ensures.whole c.in_ok-extend_from_slice-2.ensures.items c.in_ok-end_line.ensures.whole
