use Rattle.std.proofs.Common.{sym, ◌∙◌}
use Rattle.define_checks.proofs.ReasonsStand.{total_agrees}
use Rattle.check_proofs.proofs.Stages.{is_valid}
use Rattle.check_proofs.proofs.verifying.of_lottery.Goals as goal

pub begin-requires : goal.begin-requires
begin-requires c =
    total_agrees c.args.pool.now c.args.answer.now c.lottery.result.now c.requires.is_bundle.in_ranges c.lottery.ensures
    (sym c.in_ok-verdict.ensures ∙ is_valid c.in_ok-verdict.verdict (sym c.is_valid.ensures ∙ c.if-not-is_valid.false))
