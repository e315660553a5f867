-- The command of `define_offices` for each command of the program, and how many workers a solve may ask for. The contracts of this crate
-- and of the commands over a store cite it.
use Rattle.std.specs.Prelude.{◌≤◌, ⊤}
use Rattle.define_offices.specs.Commands as office
use Rattle.office_core.specs.declared.commands.Command.{Command}
use Rattle.office_core.specs.declared.commands.Command.TheVariants.{Charter, Rules, Register, Solve, Keep, Seal, Draw, Drop, NextRound, Show, Withdraw, Bounds, Try, Undrop, Reopen, WithdrawId}

-- the command of the definitions; the number of workers is no part of it
abbrev pub seen_command : Command → office.Command
seen_command (Charter charter) = office.SetCharter charter
seen_command (Rules rules) = office.SetRules rules
seen_command (Register rows) = office.Register rows
seen_command (Solve round limits workers) = office.Solve round limits
seen_command (Keep round proof) = office.Keep round proof
seen_command (Seal round tickets) = office.Seal round tickets
seen_command (Draw round seal digits) = office.Draw round seal digits.items
seen_command (Drop round id) = office.Drop round id
seen_command (NextRound after) = office.NextRound after
seen_command (Show round) = office.Show round
seen_command (Withdraw key) = office.Withdraw key.items
seen_command (Bounds round bounds) = office.SetBounds round bounds
seen_command (Try round seal digits) = office.TryDraw round seal digits.items
seen_command (Undrop round id) = office.Undrop round id
seen_command (Reopen round) = office.Reopen round
seen_command (WithdrawId id) = office.WithdrawId id

-- if the command is a solve, it asks for 1 to 64 workers to price
abbrev pub HasWorkers : Command → Type 0
HasWorkers (Solve round limits workers) = (1 ≤ workers) × (workers ≤ 64)
HasWorkers (Charter charter) = ⊤
HasWorkers (Rules rules) = ⊤
HasWorkers (Register rows) = ⊤
HasWorkers (Keep round proof) = ⊤
HasWorkers (Seal round tickets) = ⊤
HasWorkers (Draw round seal digits) = ⊤
HasWorkers (Drop round id) = ⊤
HasWorkers (NextRound after) = ⊤
HasWorkers (Show round) = ⊤
HasWorkers (Withdraw key) = ⊤
HasWorkers (Bounds round bounds) = ⊤
HasWorkers (Try round seal digits) = ⊤
HasWorkers (Undrop round id) = ⊤
HasWorkers (Reopen round) = ⊤
HasWorkers (WithdrawId id) = ⊤
