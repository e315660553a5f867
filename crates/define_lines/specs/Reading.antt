-- How a text is read line by line, up to the first faulty line. Builds on Lines. Pools, bundles and proofs are each read by a Reader.
use Rattle.std.specs.Prelude.{ℕ, ◌+◌, List, [], ◌∷◌, Option, Some, None, Result, Err}
use Rattle.define_lines.specs.Lines.{Fault}

-- How to read a text line by line. The progress is what is known after some lines. `line_kind` is the lowest kind of fault of a line, if it
-- has a fault. `after_line` is the progress after a line without fault. `at_last` is the value, or the fault at the end of the text, given
-- the number of the last piece, the progress and the bytes after the last LF
pub record Reader (Progress Value : Type 0) : Type 0 where
  pub line_kind : Progress → List ℕ → Option ℕ
  pub after_line : Progress → List ℕ → Progress
  pub at_last : ℕ → Progress → List ℕ → Result Value Fault

-- the fault of `kind` in line `number`; if there is no kind, `later`, which is the result of reading the later lines
abbrev pub fault_or : {Value : Type 0} → Option ℕ → ℕ → Result Value Fault → Result Value Fault
fault_or None number later = later
fault_or (Some kind) number later = Err (record { line = number; kind = kind })

-- the value of all pieces, or their first fault. The first piece is line `number`, and `progress` is the progress before it
abbrev pub read_lines : {Progress Value : Type 0} → Reader Progress Value → ℕ → Progress → List (List ℕ) → Result Value Fault
read_lines reader number progress [] = reader.at_last number progress []
read_lines reader number progress (bytes ∷ []) = reader.at_last number progress bytes
read_lines reader number progress (line ∷ next ∷ later) =
    fault_or (reader.line_kind progress line) number (read_lines reader (number + 1) (reader.after_line progress line) (next ∷ later))
