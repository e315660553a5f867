use Rattle.std.proofs.Common.{◌≡◌, map, take}
use Rattle.define_runs.specs.Run.{stage_of}
use Rattle.leximin_run.proofs.certifying.certificate.Given as goal

-- `stages` are the stages of the rows read so far
abbrev pub invariant-loop-row : goal.invariant-loop-row
invariant-loop-row l = l.stages.items ≡ map (stage_of l.classes) (take l.row-index l.closed)
