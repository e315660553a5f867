-- A text taken apart one line at a time: its pieces if it has an LF, and if it has none.
use Rattle.std.proofs.Common.{◌≡◌, ℕ, ◌+◌, ◌-◌, true, false, cond, eqb, ltb, arith, subst, List, [], ◌∷◌, length, take, drop, sym, ap, ◌∙◌, Some, None, refl}
use Rattle.std.specs.Prelude.{position}
use Rattle.std.proofs.lemmas.Bool.{ltb-true, ltb-false}
use Rattle.std.proofs.lemmas.List.{length-drop, take_all}
use Rattle.std.proofs.lemmas.List.Sums.{fails_before_first}
use Rattle.std.specs.List.{position_or_len}
use Rattle.std.proofs.lemmas.List.Splits.{slice_split_first, slice_split_none}
use Rattle.define_lines.specs.Lines.{pieces_of}

-- If a text has an LF, its pieces are the line before the first LF, and the pieces of the bytes after it.
pub cut_at : (bytes : List ℕ) (end : ℕ) → position (λ byte. eqb byte 10) bytes ≡ Some end →
    pieces_of bytes ≡ take end bytes ∷ pieces_of (take (length bytes - (end + 1)) (drop (end + 1) bytes))
cut_at bytes end h =
    let n = position_or_len (λ byte. eqb byte 10) bytes in
    (elim (ltb n (length bytes)) as (λ b. ltb n (length bytes) ≡ b → cond b (Some n) None ≡ Some end → pieces_of bytes ≡ take end bytes ∷ pieces_of (take (length bytes - (end + 1)) (drop (end + 1) bytes))) [
      | true ↦ λ e k.
          let same : n ≡ end = cc in
          let first = slice_split_first (λ byte. eqb byte 10) bytes 0 (ltb-true n (length bytes) e) in
          let size : length (drop (end + 1) bytes) ≡ length bytes - (end + 1) = length-drop (end + 1) bytes in
          let whole = take_all (length bytes - (end + 1)) (drop (end + 1) bytes) (omega (arith, size)) in
          subst (λ m. pieces_of bytes ≡ take m bytes ∷ pieces_of (drop (m + 1) bytes)) same first
          ∙ ap (λ rest. take end bytes ∷ pieces_of rest) (sym whole)
      | false ↦ λ e k. cc
    ]) refl h

-- If a text has no LF, it is one piece.
pub no_cut : (bytes : List ℕ) → position (λ byte. eqb byte 10) bytes ≡ None → pieces_of bytes ≡ bytes ∷ []
no_cut bytes h =
    let n = position_or_len (λ byte. eqb byte 10) bytes in
    (elim (ltb n (length bytes)) as (λ b. ltb n (length bytes) ≡ b → cond b (Some n) None ≡ None → pieces_of bytes ≡ bytes ∷ []) [
      | true ↦ λ e k. cc
      | false ↦ λ e k. let high = ltb-false n (length bytes) e in
          slice_split_none (λ byte. eqb byte 10) bytes (λ i d l. fails_before_first (λ byte. eqb byte 10) bytes i d (omega arith))
    ]) refl h
