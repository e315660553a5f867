-- The results that reading the text of a cover may have. The contracts of `reading` cite it.
use Rattle.std.specs.Prelude.{◌≡◌, Result, Ok, Err, ⊤}
use Rattle.define_lines.specs.Lines.{Fault}
use Rattle.define_covers.specs.Covers.{Cover}
use Rattle.text_lines.specs.declared.faults.TextStop.{TextStop}
use Rattle.text_lines.specs.declared.faults.TextStop.TheVariants.{Fault as fault, OutOfMemory}

-- the result is the cover or the fault that the definitions compute, or out of memory, which is always allowed
abbrev pub Reads : Result Cover Fault → Result Cover TextStop → Type 0
Reads said (Ok cover) = said ≡ Ok cover
Reads said (Err (fault f)) = said ≡ Err (record { line = f.line; kind = f.kind })
Reads said (Err OutOfMemory) = ⊤
