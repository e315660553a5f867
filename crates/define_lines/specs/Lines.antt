-- Texts made of lines: a TAB separates two fields, and an LF ends each line. Also what the fault of a text is. Reading.antt uses this file,
-- and so do the definitions of each text, and of the lines that commands and the office print.
use Rattle.std.specs.Prelude.{ℕ, ◌==◌, List, [], ◌∷◌, ◌++◌}
use Rattle.std.specs.List.{flat_map, join_with_byte, slice_split}

abbrev pub tab : ℕ
tab = 9

abbrev pub line_feed : ℕ
line_feed = 10

-- the line of these fields, with a TAB between two
abbrev pub line_of : List (List ℕ) → List ℕ
line_of fields = join_with_byte tab fields

-- fields, each with a TAB before it
abbrev pub tabbed : List (List ℕ) → List ℕ
tabbed fields = flat_map (λ field. tab ∷ field) fields

-- the text of these lines, each ended by LF
abbrev pub text_of : List (List ℕ) → List ℕ
text_of lines = flat_map (λ line. line ++ line_feed ∷ []) lines

-- the fields of a line
abbrev pub fields_of : List ℕ → List (List ℕ)
fields_of line = slice_split (λ byte. byte == tab) line

-- the lines of a text, and last the bytes after the last LF, even if there are none
abbrev pub pieces_of : List ℕ → List (List ℕ)
pieces_of bytes = slice_split (λ byte. byte == line_feed) bytes

-- the first faulty line of a text, counted from 1, and the lowest kind of fault in it
pub record Fault : Type 0 where
  pub line : ℕ
  pub kind : ℕ
