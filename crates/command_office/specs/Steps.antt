-- The commands of the office that words can ask for, each as a command of `define_offices`. The contract of `office` cites it.
use Rattle.define_offices.specs.Commands as office
use Rattle.command_office.specs.declared.steps.Step.{Step}
use Rattle.command_office.specs.declared.steps.Step.TheVariants.{Solve, Seal, Draw, Try, Drop, Undrop, NextRound, Reopen, Show, Withdraw}

-- the command of `define_offices` for a step that words ask for. It has no number of workers, on which no outcome depends
abbrev pub step_command : Step → office.Command
step_command (Solve round limits workers) = office.Solve round limits
step_command (Seal round tickets) = office.Seal round tickets
step_command (Draw round seal digits) = office.Draw round seal digits
step_command (Try round seal digits) = office.TryDraw round seal digits
step_command (Drop round id) = office.Drop round id
step_command (Undrop round id) = office.Undrop round id
step_command (NextRound after) = office.NextRound after
step_command (Reopen round) = office.Reopen round
step_command (Show round) = office.Show round
step_command (Withdraw id) = office.WithdrawId id
