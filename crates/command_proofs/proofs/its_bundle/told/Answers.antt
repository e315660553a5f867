use Rattle.std.proofs.Common.{◌∙◌, ap₂, subst, sym, ap}
use Rattle.define_bundles.specs.BundleText.{bundle_text}
use Rattle.command_shell.specs.declared.status.Printed.TheVariants.{Done}
use Rattle.command_shell.specs.declared.status.Cause.TheVariants.{Rule}
use Rattle.command_shell.specs.Answers.{IsRight, Prints, Stops}
use Rattle.command_meanings.specs.ItsBundle.{BundleMeans}
use Rattle.proof_text.specs.Parts.{seen}
use Rattle.command_proofs.proofs.its_bundle.told.Goals as goal

pub returns-in_ok-write_bundle-in-Lottery : goal.returns-in_ok-write_bundle-in-Lottery
returns-in_ok-write_bundle-in-Lottery c =
    let same = ap₂ bundle_text c.pool.ensures c.answer.ensures.value in
    subst (λ proof. IsRight (BundleMeans proof) (Prints Done c.in_ok-write_bundle-in-Lottery.field-0.items)) (sym (ap seen c.in-Lottery.is)) (c.in_ok-write_bundle-in-Lottery.ensures.spelled ∙ same)

pub returns-in_ok-no_lottery_line-in-NoPanel : goal.returns-in_ok-no_lottery_line-in-NoPanel
returns-in_ok-no_lottery_line-in-NoPanel c =
    subst (λ proof. IsRight (BundleMeans proof) (Stops Rule c.in_ok-no_lottery_line-in-NoPanel.field-0.items)) (sym (ap seen c.in-NoPanel.is)) c.in_ok-no_lottery_line-in-NoPanel.ensures
