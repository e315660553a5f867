-- A text that grows by the lines of the next pair of two lists.
use Rattle.std.proofs.Common.{◌≡◌, ℕ, ◌+◌, ◌<◌, List, [], ◌∷◌, ◌++◌, length, get_or, take, sym, ap, ◌∙◌, arith}
use Rattle.std.specs.List.{flat_map, zip}
use Rattle.std.proofs.lemmas.List.{append-nil, take_more}
use Rattle.std.proofs.lemmas.List.Concat.{flat_map-append}
use Rattle.std.proofs.lemmas.Slice.Zip.{get_or-zip, length-zip}
use Rattle.define_lines.specs.Lines.{text_of}
use Rattle.define_lines.proofs.LineLemmas.{text_of-append}

module _ {X Y : Type 0} (lines : X × Y → List (List ℕ)) (xs : List X) (ys : List Y) where
  pub pair_more : (i : ℕ) (x : X) (y : Y) → i < length xs → i < length ys → x ≡ get_or xs i x → y ≡ get_or ys i y →
      flat_map lines (take (i + 1) (zip xs ys)) ≡ flat_map lines (take i (zip xs ys)) ++ lines (x, y)
  pair_more i x y l m same_x same_y =
      let before = take i (zip xs ys) in
      let inside : i < length (zip xs ys) = omega (arith, length-zip xs ys) in
      let pair : get_or (zip xs ys) i (x, y) ≡ (x, y) =
      get_or-zip xs ys i (x, y) l m ∙ (ap (λ (a : X). (let p : X × Y = (a, get_or ys i y) in p)) (sym same_x) ∙ ap (λ (b : Y). (let p : X × Y = (x, b) in p)) (sym same_y)) in
      ap (flat_map lines) (take_more (zip xs ys) i (x, y) inside)
      ∙ (flat_map-append lines before (get_or (zip xs ys) i (x, y) ∷ [])
      ∙ ap (λ more. flat_map lines before ++ more) (append-nil (lines (get_or (zip xs ys) i (x, y))) ∙ ap lines pair))

  -- if a text has the lines of the first `i` pairs, and the lines of the next pair are appended, it has those of the first `i + 1`
  pub pair_written : (i : ℕ) (x : X) (y : Y) (start before after : List ℕ) → i < length xs → i < length ys → x ≡ get_or xs i x → y ≡ get_or ys i y →
      before ≡ start ++ text_of (flat_map lines (take i (zip xs ys))) → after ≡ before ++ text_of (lines (x, y)) →
      after ≡ start ++ text_of (flat_map lines (take (i + 1) (zip xs ys)))
  pair_written i x y start before after l m same_x same_y stood added =
      added ∙ (ap (λ text. text ++ text_of (lines (x, y))) stood
      ∙ (text_of-append start (flat_map lines (take i (zip xs ys))) (lines (x, y))
      ∙ ap (λ all. start ++ text_of all) (sym (pair_more i x y l m same_x same_y))))
