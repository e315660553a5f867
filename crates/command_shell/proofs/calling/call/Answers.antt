use Rattle.std.proofs.Common.{refl, subst}
use Rattle.command_shell.specs.Answers.{saying}
use Rattle.command_shell.specs.Outcomes.{Ends}
use Rattle.command_shell.specs.Told.{object}
use Rattle.command_shell.proofs.CallLemmas.{answered, no_input}
use Rattle.command_shell.proofs.calling.call.Goals as goal

pub returns-in-Ok-answer_bytes : goal.returns-in-Ok-answer_bytes
returns-in-Ok-answer_bytes g c =
    let read = c.in-Ok.ensures.input in
    let means = subst (λ bytes. g.C.Answering.answers c.args.command.now bytes (saying c.in-Ok-answer_bytes.answer))
    c.deref.ensures.value c.in-Ok-answer_bytes.ensures in
    Ends (answered _ _ _ (record { bytes = c.in-Ok.bytes.items; held = read.held; within = read.within; no_fault = read.no_fault; means = means }) (c.tell.ensures _))

pub returns : goal.returns
returns g c =
    no_input _ _ c.in-Err.stop c.in-Err.ensures.none
    (c.refuse_input.ensures _
    (object (g.O.Sink.written c.args.out.now) (g.O.Sink.written c.args.out.now) (g.O.Sink.faults c.args.out.now) (g.O.Sink.faults c.args.out.now)) (record { same = refl; no_fault = refl }))
