use Rattle.std.proofs.Common.{Ok}
use Rattle.command_shell.proofs.CallLemmas.{answered}
use Rattle.command_shell.proofs.calling.call_silent.Goals as goal

pub returns-in-Ok : goal.returns-in-Ok
returns-in-Ok g c = λ source untouched.
    let means = c.requires.right (Ok c.in-Ok.answer) c.in-Ok.ensures in
    record { source = untouched; ends = answered _ _ _ means (c.tell.ensures source) }
