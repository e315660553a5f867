-- Laws on reading a text line by line: what one line does, what lines without a fault do, and that bytes that are read as a value are the
-- spelling of this value.
use Rattle.std.proofs.Common.{◌≡◌, ℕ, ◌+◌, List, [], ◌∷◌, ◌++◌, Some, None, Result, Ok, Err, refl, sym, ap, ◌∙◌, subst, append_assoc}
use Rattle.std.specs.List.{AllByRecursion, join_with_byte}
use Rattle.std.proofs.lemmas.Grind.{flat_map-append}
use Rattle.std.proofs.lemmas.List.{append-nil}
use Rattle.std.proofs.lemmas.List.Splits.{join_with_byte-slice_split}
use Rattle.define_lines.specs.Lines.{Fault, line_feed, pieces_of, text_of}
use Rattle.define_lines.specs.Reading.{Reader, fault_or, read_lines}
use Rattle.define_lines.proofs.LineLemmas.{Lacks, pieces_of-text_of, some_piece}

module _ {P X : Type 0} (reader : Reader P X) where
  -- ---- one line

  -- reading tests the first line; if it has no fault, it reads the rest from the progress after this line
  pub one_line : (number : ℕ) (progress : P) (line rest : List ℕ) → read_lines reader number progress (line ∷ pieces_of rest)
      ≡ fault_or (reader.line_kind progress line) number (read_lines reader (number + 1) (reader.after_line progress line) (pieces_of rest))
  one_line number progress line rest =
      let some = some_piece rest in
      ap (λ pieces. read_lines reader number progress (line ∷ pieces)) some.2
      ∙ ap (λ pieces. fault_or (reader.line_kind progress line) number (read_lines reader (number + 1) (reader.after_line progress line) pieces)) (sym some.2)

  module _ (number : ℕ) (progress : P) (rest line later : List ℕ) (parted : pieces_of rest ≡ line ∷ pieces_of later) (wanted : Result X Fault) (same : read_lines reader number progress (pieces_of rest) ≡ wanted) where
    from_line : fault_or (reader.line_kind progress line) number (read_lines reader (number + 1) (reader.after_line progress line) (pieces_of later)) ≡ wanted
    from_line = sym (one_line number progress line later) ∙ ap (read_lines reader number progress) (sym parted) ∙ same

    -- if the line has a fault, the result is this fault
    pub stops_at : (kind : ℕ) → reader.line_kind progress line ≡ Some kind → wanted ≡ Err (record { line = number; kind = kind })
    stops_at kind h = sym from_line ∙ ap (λ k. fault_or k number (read_lines reader (number + 1) (reader.after_line progress line) (pieces_of later))) h

    -- if the line has no fault, reading the rest from the next progress returns the result
    pub leads_on : (next : P) → reader.line_kind progress line ≡ None → next ≡ reader.after_line progress line → read_lines reader (number + 1) next (pieces_of later) ≡ wanted
    leads_on next h e =
        ap (λ p. read_lines reader (number + 1) p (pieces_of later)) e
        ∙ (sym (ap (λ k. fault_or k number (read_lines reader (number + 1) (reader.after_line progress line) (pieces_of later))) h) ∙ from_line)

  -- ---- lines with no fault

  -- none of the lines has an LF or a fault, and reading them leads from progress `before` to progress `after`
  abbrev pub Runs : P → List (List ℕ) → P → Type 0
  Runs before [] after = before ≡ after
  Runs before (line ∷ lines) after = Lacks line_feed line × (reader.line_kind before line ≡ None) × Runs (reader.after_line before line) lines after

  pub Runs-append : (before between after : P) (xs ys : List (List ℕ)) → Runs before xs between → Runs between ys after → Runs before (xs ++ ys) after
  Runs-append before between after [] ys h k = subst (λ progress. Runs progress ys after) (sym h) k
  Runs-append before between after (x ∷ xs) ys h k = (h.0, h.1, Runs-append (reader.after_line before x) between after xs ys h.2 k)

  no_feeds : (before after : P) (lines : List (List ℕ)) → Runs before lines after → AllByRecursion (Lacks line_feed) lines
  no_feeds before after [] h = tt
  no_feeds before after (line ∷ lines) h = (h.0, no_feeds (reader.after_line before line) after lines h.2)

  module _ (after : P) (value : X) (ends : (number : ℕ) → reader.at_last number after [] ≡ Ok value) where
    read_to_end : (number : ℕ) (before : P) (lines : List (List ℕ)) → Runs before lines after → read_lines reader number before (lines ++ [] ∷ []) ≡ Ok value
    read_to_end number before [] h = ap (λ progress. reader.at_last number progress []) h ∙ ends number
    read_to_end number before (line ∷ []) h =
        ap (λ kind. fault_or kind number (read_lines reader (number + 1) (reader.after_line before line) ([] ∷ []))) h.1 ∙ read_to_end (number + 1) (reader.after_line before line) [] h.2
    read_to_end number before (line ∷ next ∷ later) h =
        ap (λ kind. fault_or kind number (read_lines reader (number + 1) (reader.after_line before line) (next ∷ (later ++ [] ∷ [])))) h.1
        ∙ read_to_end (number + 1) (reader.after_line before line) (next ∷ later) h.2

    -- if lines lead to a progress at which a text may end with `value`, the text of the lines is read as `value`
    pub text_is_read : (number : ℕ) (before : P) (lines : List (List ℕ)) → Runs before lines after → read_lines reader number before (pieces_of (text_of lines)) ≡ Ok value
    text_is_read number before lines h = ap (read_lines reader number before) (pieces_of-text_of lines (no_feeds before after lines h)) ∙ read_to_end number before lines h

  -- ---- a text that is read is the spelling of its value

  -- Two premises. `line_adds`: after a line without a fault, the progress is right and has this line appended to its lines so far.
  -- `last_is_spelled`: if `at_last` returns a value, `IsValue` holds of it, and its spelling is the text of the lines so far, followed by
  -- the last bytes
  module _ (IsRight : P → Type 0) (lines_so_far : P → List (List ℕ)) (IsValue : X → Type 0) (spelling : X → List ℕ)
      (line_adds : (progress : P) (line : List ℕ) → IsRight progress → reader.line_kind progress line ≡ None → IsRight (reader.after_line progress line) × (lines_so_far (reader.after_line progress line) ≡ lines_so_far progress ++ line ∷ []))
      (last_is_spelled : (number : ℕ) (progress : P) (bytes : List ℕ) (value : X) → IsRight progress → reader.at_last number progress bytes ≡ Ok value → IsValue value × (text_of (lines_so_far progress) ++ bytes ≡ spelling value)) where
    -- if the remaining pieces are read as a value from a right progress, the lines so far and then these pieces are the value's spelling
    pub rest_is_spelled : (number : ℕ) (progress : P) (pieces : List (List ℕ)) (value : X) → IsRight progress → read_lines reader number progress pieces ≡ Ok value →
        IsValue value × (text_of (lines_so_far progress) ++ join_with_byte line_feed pieces ≡ spelling value)
    rest_is_spelled number progress [] value right h = last_is_spelled number progress [] value right h
    rest_is_spelled number progress (bytes ∷ []) value right h = last_is_spelled number progress bytes value right h
    rest_is_spelled number progress (line ∷ next ∷ later) value right h =
        let rest = read_lines reader (number + 1) (reader.after_line progress line) (next ∷ later) in
        let behind = join_with_byte line_feed (next ∷ later) in
        let stood = lines_so_far progress in
        (elim (reader.line_kind progress line) as (λ k. reader.line_kind progress line ≡ k → fault_or k number rest ≡ Ok value → IsValue value × (text_of stood ++ (line ++ (line_feed ∷ behind)) ≡ spelling value)) [
          | Some kind ↦ λ e k. absurd cc
          | None ↦ λ e k.
              let step = line_adds progress line right e in
              let later_on = rest_is_spelled (number + 1) (reader.after_line progress line) (next ∷ later) value step.0 k in
              let grown : text_of (lines_so_far (reader.after_line progress line)) ≡ text_of stood ++ ((line ++ line_feed ∷ []) ++ []) = ap text_of step.1 ∙ flat_map-append (λ l. l ++ line_feed ∷ []) stood (line ∷ []) in
              let regrouped : (text_of stood ++ ((line ++ line_feed ∷ []) ++ [])) ++ behind ≡ text_of stood ++ (line ++ (line_feed ∷ behind)) = simp (append_assoc, append-nil) in
              (later_on.0, sym regrouped ∙ (ap (λ text. text ++ behind) (sym grown) ∙ later_on.1))
        ]) refl h

    -- if bytes are read as a value, they are its spelling
    pub read_is_spelled : (number : ℕ) (begun : P) → IsRight begun → lines_so_far begun ≡ [] → (bytes : List ℕ) (value : X) → read_lines reader number begun (pieces_of bytes) ≡ Ok value → IsValue value × (bytes ≡ spelling value)
    read_is_spelled number begun right none bytes value h =
        let all = rest_is_spelled number begun (pieces_of bytes) value right h in
        (all.0, sym (join_with_byte-slice_split line_feed bytes) ∙ (ap (λ lines. text_of lines ++ join_with_byte line_feed (pieces_of bytes)) (sym none) ∙ all.1))
