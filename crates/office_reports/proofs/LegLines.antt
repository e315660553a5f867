-- A fact that follows from what a call ensures if there is memory.
use Rattle.std.proofs.Common.{Result, Ok, Err}
use Rattle.std.specs.Prelude.{OnOk}

-- what follows from a fact follows if there is a value
pub on_ok : {T E P Q : Type 0} (result : Result T E) → (P → Q) → OnOk result P → OnOk result Q
on_ok (Ok value) f h = f h
on_ok (Err error) f h = tt
