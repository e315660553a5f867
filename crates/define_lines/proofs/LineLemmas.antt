-- Laws on lines and fields.
use Rattle.std.proofs.Common.{◌≡◌, sym, ℕ, zero, suc, ◌+◌, ◌<◌, true, false, eqb, List, [], ◌∷◌, ◌++◌, length, get_or, refl, ◌∙◌, ap, subst, arith, append_assoc}
use Rattle.std.specs.List.{onto_first, AllByRecursion, All}
use Rattle.std.specs.Str.{IsUtf8, is_utf8}
use Rattle.std.proofs.lemmas.Str.{IsUtf8-append, IsUtf8-from_ascii, IsUtf8-from_is_utf8, IsUtf8-take, IsUtf8-drop, IsCharBoundary-before_ascii, IsCharBoundary-after_ascii, is_utf8-from_IsUtf8}
use Rattle.std.proofs.lemmas.Str.{IsUtf8-nil}
use Rattle.std.proofs.lemmas.List.{append-nil}
use Rattle.std.proofs.lemmas.List.Elements.{All-cons, All-from_recursion}
use Rattle.std.proofs.Common.{cond, lit<, length-append}
use Rattle.std.proofs.Math.Seq.{get_or-append_seam, take-append_seam, drop-append-add}
use Rattle.std.proofs.lemmas.List.Splits.{slice_split_at, slice_split_none, join_with_byte-slice_split}
use Rattle.std.proofs.lemmas.Grind.{flat_map-append}
use Rattle.define_lines.specs.Lines.{tab, tabbed, line_feed, line_of, text_of, fields_of, pieces_of}

-- if bytes are UTF-8 and one of them is ASCII, the bytes before it and those after it are UTF-8 too
pub around_ascii : (before : List ℕ) (c : ℕ) (after : List ℕ) → c < 128 → IsUtf8 (before ++ c ∷ after) → IsUtf8 before × IsUtf8 after
around_ascii before c after small whole =
    let all = before ++ c ∷ after in
    let size : length all ≡ length before + suc (length after) = length-append before (c ∷ after) in
    let inside : length before < length all = omega (arith, size) in
    let here : get_or all (length before) 0 ≡ c = get_or-append_seam before c after 0 in
    let low : get_or all (length before) 0 < 128 = omega (arith, here) in
    let first = IsUtf8-take all (length before) whole (IsCharBoundary-before_ascii all (length before) inside low) in
    let last = IsUtf8-drop all (length before + 1) whole (IsCharBoundary-after_ascii all (length before) whole inside low) in (
      subst IsUtf8 (take-append_seam before (c ∷ after)) first,
      subst IsUtf8 (drop-append-add before (c ∷ after) 1) last,
    )

-- if a line is UTF-8, each of its fields is
pub each_field_is_utf8 : (fields : List (List ℕ)) → IsUtf8 (line_of fields) → AllByRecursion (λ field. is_utf8 field ≡ true) fields
each_field_is_utf8 [] h = tt
each_field_is_utf8 (field ∷ []) h = (is_utf8-from_IsUtf8 field h, tt)
each_field_is_utf8 (field ∷ next ∷ later) h =
    let sides = around_ascii field 9 (line_of (next ∷ later)) (lit< tt) h in
    (is_utf8-from_IsUtf8 field sides.0, each_field_is_utf8 (next ∷ later) sides.1)

tab_is_ascii : (i : ℕ) → get_or (9 ∷ []) i 0 < 128
tab_is_ascii zero = lit< tt
tab_is_ascii (suc i) = lit< tt

-- if all fields are UTF-8, their line is
pub line_is_utf8 : (fields : List (List ℕ)) → AllByRecursion (λ field. is_utf8 field ≡ true) fields → IsUtf8 (line_of fields)
line_is_utf8 [] h = IsUtf8-nil
line_is_utf8 (field ∷ []) h = IsUtf8-from_is_utf8 field h.0
line_is_utf8 (field ∷ next ∷ later) h =
    IsUtf8-append field (9 ∷ line_of (next ∷ later)) (IsUtf8-from_is_utf8 field h.0)
    (IsUtf8-append (9 ∷ []) (line_of (next ∷ later)) (IsUtf8-from_ascii (9 ∷ []) tab_is_ascii) (line_is_utf8 (next ∷ later) h.1))

-- the list doesn't have the byte `c`
abbrev pub Lacks : ℕ → List ℕ → Type 0
Lacks c xs = All (λ x. eqb x c ≡ false) xs

-- if no line has an LF, the pieces of their text are the lines and then an empty piece
pub pieces_of-text_of : (lines : List (List ℕ)) → AllByRecursion (Lacks line_feed) lines → pieces_of (text_of lines) ≡ lines ++ [] ∷ []
pieces_of-text_of [] h = refl
pieces_of-text_of (line ∷ lines) h =
    let regrouped : text_of (line ∷ lines) ≡ line ++ (line_feed ∷ text_of lines) = append_assoc line (line_feed ∷ []) (text_of lines) in
    ap pieces_of regrouped ∙ (slice_split_at (λ b. eqb b line_feed) line line_feed (text_of lines) h.0 refl ∙ ap (λ ls. line ∷ ls) (pieces_of-text_of lines h.1))

-- if no field has a TAB, the fields of their line are these fields again
pub fields_of-line_of : (field : List ℕ) (fields : List (List ℕ)) → AllByRecursion (Lacks tab) (field ∷ fields) → fields_of (line_of (field ∷ fields)) ≡ field ∷ fields
fields_of-line_of field [] h = slice_split_none (λ b. eqb b tab) field h.0
fields_of-line_of field (next ∷ later) h =
    slice_split_at (λ b. eqb b tab) field tab (line_of (next ∷ later)) h.0 refl ∙ ap (λ fs. field ∷ fs) (fields_of-line_of next later h.1)

-- the line made of the fields of a line is this line again
pub line_of-fields_of : (line : List ℕ) → line_of (fields_of line) ≡ line
line_of-fields_of line = join_with_byte-slice_split tab line

line-tabbed : (word : List ℕ) (fields : List (List ℕ)) → line_of (word ∷ fields) ≡ word ++ tabbed fields
line-tabbed word [] = sym (append-nil word)
line-tabbed word (field ∷ fields) = ap (λ rest. word ++ (tab ∷ rest)) (line-tabbed field fields)

-- code writes a word, each field after a TAB, and LF: that is the text of one line
pub line_written : (word : List ℕ) (fields : List (List ℕ)) → (word ++ tabbed fields) ++ line_feed ∷ [] ≡ text_of (line_of (word ∷ fields) ∷ [])
line_written word fields =
    ap (λ line. line ++ line_feed ∷ []) (sym (line-tabbed word fields)) ∙ sym (append-nil (line_of (word ∷ fields) ++ line_feed ∷ []))

-- if a text begins with lines that have no LF, they are its first pieces
pub pieces_of-text_of_then : (lines : List (List ℕ)) (rest : List ℕ) → AllByRecursion (Lacks line_feed) lines → pieces_of (text_of lines ++ rest) ≡ lines ++ pieces_of rest
pieces_of-text_of_then [] rest h = refl
pieces_of-text_of_then (line ∷ lines) rest h =
    let regrouped : text_of (line ∷ lines) ++ rest ≡ line ++ (line_feed ∷ (text_of lines ++ rest)) = simp append_assoc in
    ap pieces_of regrouped ∙ (slice_split_at (λ b. eqb b line_feed) line line_feed (text_of lines ++ rest) h.0 refl ∙ ap (λ ls. line ∷ ls) (pieces_of-text_of_then lines rest h.1))

-- a text has at least one piece
pub some_piece : (rest : List ℕ) → (first : List ℕ) × (later : List (List ℕ)) × (pieces_of rest ≡ first ∷ later)
some_piece [] = ([], [], refl)
some_piece (byte ∷ rest) =
    elim (eqb byte 10) as (λ b. (first : List ℕ) × (later : List (List ℕ)) × (cond b ([] ∷ pieces_of rest) (onto_first byte (pieces_of rest)) ≡ first ∷ later)) [
      | true ↦ ([], pieces_of rest, refl)
      | false ↦ let more = some_piece rest in (byte ∷ more.0, more.1, ap (onto_first byte) more.2)
    ]

-- no piece has an LF
pub pieces_lack : (bytes : List ℕ) → AllByRecursion (Lacks line_feed) (pieces_of bytes)
pieces_lack [] = (All-from_recursion (λ x. eqb x 10 ≡ false) [] tt, tt)
pieces_lack (byte ∷ bytes) =
    (elim (eqb byte 10) as (λ b. eqb byte 10 ≡ b → AllByRecursion (Lacks line_feed) (cond b ([] ∷ pieces_of bytes) (onto_first byte (pieces_of bytes)))) [
      | true ↦ λ e. (All-from_recursion (λ x. eqb x 10 ≡ false) [] tt, pieces_lack bytes)
      | false ↦ λ e. onto byte (pieces_of bytes) e (pieces_lack bytes)
    ]) refl
  where
    onto : (byte : ℕ) (pieces : List (List ℕ)) → eqb byte 10 ≡ false → AllByRecursion (Lacks line_feed) pieces → AllByRecursion (Lacks line_feed) (onto_first byte pieces)
    onto byte [] e h = (All-cons (λ x. eqb x 10 ≡ false) byte [] e (All-from_recursion (λ x. eqb x 10 ≡ false) [] tt), tt)
    onto byte (piece ∷ pieces) e h = (All-cons (λ x. eqb x 10 ≡ false) byte piece e h.0, h.1)

-- appending a word, a first field, other fields and LF to a text, in turn, appends their line
pub line_added : (text word first : List ℕ) (fields : List (List ℕ)) →
    (((text ++ word) ++ (tab ∷ first)) ++ tabbed fields) ++ line_feed ∷ [] ≡ text ++ text_of (line_of (word ∷ first ∷ fields) ∷ [])
line_added text word first fields =
    let regrouped : (((text ++ word) ++ (tab ∷ first)) ++ tabbed fields) ++ line_feed ∷ [] ≡ text ++ ((word ++ tabbed (first ∷ fields)) ++ line_feed ∷ []) = simp append_assoc in
    regrouped ∙ ap (λ line. text ++ line) (line_written word (first ∷ fields))

-- appending lines `xs` and then lines `ys` to a text appends `xs ++ ys`
pub text_of-append : (text : List ℕ) (xs ys : List (List ℕ)) → (text ++ text_of xs) ++ text_of ys ≡ text ++ text_of (xs ++ ys)
text_of-append text xs ys = append_assoc text (text_of xs) (text_of ys) ∙ ap (λ lines. text ++ lines) (sym (flat_map-append (λ line. line ++ line_feed ∷ []) xs ys))
