use Rattle.std.proofs.Common.{◌≡◌, refl, sym, subst}
use Rattle.std.proofs.lemmas.Result.{IfOk-weaker}
use Rattle.command_shell.specs.declared.answer.Answer.{Answer}
use Rattle.command_shell.specs.declared.status.Printed.TheVariants.{NoPanel}
use Rattle.command_shell.specs.Answers.{IsRight, Prints, saying}
use Rattle.command_shell.specs.Lines.{no_panel_line}
use Rattle.command_meanings.specs.LoosenByProof.{LoosenByProofMeans, PrintsNone}
use Rattle.command_quotas.proofs.Least.{no_panels}
use Rattle.command_quotas.proofs.loosen_by_proof.none_told.Goals as goal

pub returns : goal.returns
returns c =
    let pool = c.args.pool.now in
    let right : PrintsNone pool no_panel_line = record { no_team = c.requires; none = no_panels pool c.facts.ensures c.requires; line = refl } in
    IfOk-weaker c.no_panel.result (λ (answer : Answer). saying answer ≡ Prints NoPanel no_panel_line) _
    (λ answer e. subst (IsRight (LoosenByProofMeans pool)) (sym e) right) c.no_panel.ensures
