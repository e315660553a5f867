-- A text that grows by the lines of the next element of a list. `office_reports`, `bundle_page` and `command_questions` write texts so.
use Rattle.std.proofs.Common.{◌≡◌, ℕ, ◌+◌, ◌<◌, List, [], ◌∷◌, ◌++◌, length, get_or, take, map, sym, ap, ◌∙◌, arith}
use Rattle.std.specs.List.{enumerate_from, flat_map}
use Rattle.std.proofs.lemmas.List.{append-nil, length-take, map-append, take_more}
use Rattle.std.proofs.lemmas.List.Concat.{flat_map-append}
use Rattle.define_lines.specs.Lines.{text_of}
use Rattle.define_lines.proofs.LineLemmas.{text_of-append}

-- if `before` is `start` followed by `lines`, and `after` is `before` followed by `more`, then `after` is `start` followed by `lines` and
-- `more`
pub lines_added : (start before after : List ℕ) (lines more : List (List ℕ)) → before ≡ start ++ text_of lines → after ≡ before ++ text_of more → after ≡ start ++ text_of (lines ++ more)
lines_added start before after lines more b a = a ∙ ap (λ text. text ++ text_of more) b ∙ text_of-append start lines more

module _ {X : Type 0} where
  enumerate_from-push : (first : ℕ) (xs : List X) (x : X) → enumerate_from first (xs ++ x ∷ []) ≡ enumerate_from first xs ++ (first + length xs, x) ∷ []
  enumerate_from-push first [] x = let e : first ≡ first + 0 = omega arith in ap (λ n. (let pair : ℕ × X = (n, x) in pair) ∷ []) e
  enumerate_from-push first (y ∷ ys) x =
      let e : (first + 1) + length ys ≡ first + length (y ∷ ys) = omega arith in
      ap (λ rest. (let pair : ℕ × X = (first, y) in pair) ∷ rest)
      (enumerate_from-push (first + 1) ys x ∙ ap (λ n. enumerate_from (first + 1) ys ++ (let pair : ℕ × X = (n, x) in pair) ∷ []) e)

  module _ (xs : List X) (i : ℕ) (x : X) (inside : i < length xs) (is : x ≡ get_or xs i x) where
    taken_more : take (i + 1) xs ≡ take i xs ++ x ∷ []
    taken_more = take_more xs i x inside ∙ ap (λ y. take i xs ++ y ∷ []) (sym is)

    numbered_more : enumerate_from 0 (take (i + 1) xs) ≡ enumerate_from 0 (take i xs) ++ (i, x) ∷ []
    numbered_more =
        let e : 0 + length (take i xs) ≡ i = omega (arith, length-take i xs) in
        ap (enumerate_from 0) taken_more ∙ enumerate_from-push 0 (take i xs) x
        ∙ ap (λ n. enumerate_from 0 (take i xs) ++ (let pair : ℕ × X = (n, x) in pair) ∷ []) e

    -- if a text has a line for each of the first `i` elements, appending the line of element `i` gives those of the first `i + 1`
    pub line_of_each : (line : ℕ × X → List ℕ) (start before after : List ℕ) → before ≡ start ++ text_of (map line (enumerate_from 0 (take i xs))) →
        after ≡ before ++ text_of (line (i, x) ∷ []) → after ≡ start ++ text_of (map line (enumerate_from 0 (take (i + 1) xs)))
    line_of_each line start before after b a =
        lines_added start before after (map line (enumerate_from 0 (take i xs))) (line (i, x) ∷ []) b a
        ∙ ap (λ all. start ++ text_of all) (sym (ap (map line) numbered_more ∙ map-append line (enumerate_from 0 (take i xs)) ((i, x) ∷ [])))

    -- if a text has the lines of the first `i` elements, appending the lines of element `i` gives those of the first `i + 1`
    pub lines_of_each : (lines : ℕ × X → List (List ℕ)) (start before after : List ℕ) → before ≡ start ++ text_of (flat_map lines (enumerate_from 0 (take i xs))) →
        after ≡ before ++ text_of (lines (i, x)) → after ≡ start ++ text_of (flat_map lines (enumerate_from 0 (take (i + 1) xs)))
    lines_of_each lines start before after b a =
        lines_added start before after (flat_map lines (enumerate_from 0 (take i xs))) (lines (i, x)) b a
        ∙ ap (λ all. start ++ text_of all)
        (sym (ap (flat_map lines) numbered_more ∙ flat_map-append lines (enumerate_from 0 (take i xs)) ((i, x) ∷ [])
        ∙ ap (λ last. flat_map lines (enumerate_from 0 (take i xs)) ++ last) (append-nil (lines (i, x)))))
