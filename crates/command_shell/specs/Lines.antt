-- The lines that every command may print: fields parted by TAB, ended by LF.
use Rattle.std.specs.Prelude.{ℕ, List, [], ◌∷◌, codes}
use Rattle.std.specs.Fmt.{decimal}
use Rattle.define_lines.specs.Lines.{Fault, line_of, text_of}

-- the line of these fields, with its LF
abbrev pub line : List (List ℕ) → List ℕ
line fields = text_of (line_of fields ∷ [])

-- the line for a faulty input: the number of its first faulty line, and the kind of fault there
abbrev pub input_line : Fault → List ℕ
input_line fault = line (codes "input" ∷ decimal fault.line ∷ decimal fault.kind ∷ [])

-- the most bytes that an input may have
abbrev pub input_limit : ℕ
input_limit = 16777216

-- the line for an input that is too long, which is told as line 0 and kind 10
abbrev pub too_long_line : List ℕ
too_long_line = line (codes "input" ∷ codes "0" ∷ codes "10" ∷ [])

abbrev pub no_panel_line : List ℕ
no_panel_line = line (codes "no panel" ∷ [])

abbrev pub read_fault_line : List ℕ
read_fault_line = line (codes "read fault" ∷ [])

abbrev pub write_fault_line : List ℕ
write_fault_line = line (codes "write fault" ∷ [])

abbrev pub keeper_fault_line : List ℕ
keeper_fault_line = line (codes "keeper fault" ∷ [])

abbrev pub door_fault_line : List ℕ
door_fault_line = line (codes "door fault" ∷ [])

abbrev pub want_of_memory_line : List ℕ
want_of_memory_line = line (codes "want of memory" ∷ [])
