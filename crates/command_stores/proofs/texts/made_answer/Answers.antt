use Rattle.std.proofs.Common.{ap, subst, sym}
use Rattle.command_meanings.specs.Steps.{text_or_refusal}
use Rattle.command_stores.proofs.Answering.{refused_so}
use Rattle.office_reports.specs.Rounds.{TellsReport}
use Rattle.command_stores.proofs.texts.made_answer.Goals as goal

pub returns-in-Ok : goal.returns-in-Ok
returns-in-Ok c is tells = ap text_or_refusal (sym (subst (TellsReport is) c.in-Ok.is tells))

pub returns-in-Err : goal.returns-in-Err
returns-in-Err c is tells =
    refused_so is c.in-Err.stop c.stop_answer.result (subst (TellsReport is) c.in-Err.is tells) c.stop_answer.ensures.refused c.stop_answer.ensures.want
