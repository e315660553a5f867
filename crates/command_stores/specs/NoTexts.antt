-- Why there is no text of a round. The contracts of src/texts.rt cite it.
use Rattle.std.specs.Prelude.{Option, Some, None}
use Rattle.define_offices.specs.Commands.{Refusal, NoRound, Incomplete}
use Rattle.office_steps.specs.declared.pools.PoolStop.{PoolStop}
use Rattle.office_steps.specs.declared.pools.PoolStop.TheVariants as stop

-- the refusal that says why there is no text; None if memory was wanting
abbrev pub refusal_of : PoolStop → Option Refusal
refusal_of (stop.NoRound last) = Some (NoRound last)
refusal_of (stop.Incomplete what) = Some (Incomplete what)
refusal_of stop.OutOfMemory = None
