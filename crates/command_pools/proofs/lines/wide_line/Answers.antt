use Rattle.std.proofs.Common.{FitsSigned, codes, rules}
use Rattle.std.specs.Int.{w128}
use Rattle.std.proofs.lemmas.Int.{to_z-of_z}
use Rattle.std.specs.Fmt.{decimal, signed_decimal}
use Rattle.leximin_run.specs.Answers.{stood}
use Rattle.command_meanings.specs.Lines.{operation, place}
use Rattle.command_pools.proofs.LineLemmas.{written_in_turn}
use Rattle.command_pools.proofs.lines.wide_line.Goals as goal

pub returns : goal.returns
returns c =
    let pass = c.args.pass.now in
    let x : FitsSigned w128 pass.x = search rules in
    let y : FitsSigned w128 pass.y = search rules in
    written_in_turn (codes "wide") (place (stood c.args.at.now)) (decimal pass.row) (operation pass.op) (signed_decimal pass.x) (signed_decimal pass.y) _ _ _ _ _ _ _
    (rw c.new-line.ensures.items at c.in_ok-extend_from_slice.ensures.items) c.in_ok-push_place.ensures c.in_ok-push_number.ensures.whole (rw c.operation.ensures at c.in_ok-push_field.ensures.whole) (rw (to_z-of_z w128 pass.x x) at c.in_ok-push_signed.ensures.whole)
    (rw (to_z-of_z w128 pass.y y) at c.in_ok-push_signed-2.ensures.whole) c.in_ok-end_line.ensures.whole
