use Rattle.std.proofs.Common.{Some, []}
use Rattle.define_proofs.proofs.StepByStep.{fault_within}
use Rattle.define_proofs.proofs.fault_is_within_lines.Goals as goal

pub returns : goal.returns
returns c problem all number lines found e =
    let known = fault_within problem all number (Some []) lines found e in (known.from, known.to, known.reason)
