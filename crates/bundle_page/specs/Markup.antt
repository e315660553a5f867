-- How a template is filled with values, and how names and numbers in per cent are written in HTML. Drawn and Page build on it.
use Rattle.std.specs.Prelude.{ℕ, ◌==◌, nat_lt, if◌then◌else◌, ◌&&◌, List, [], ◌∷◌, ◌++◌, codes}
use Rattle.std.specs.List.{flat_map}
use Rattle.bundle_page.specs.Decimals.{fixed_point, ten_thousandths}

-- the template with the values in place of its `~`, in their order; a `~` for which no value is left is dropped
unfoldable pub filled : List ℕ → List (List ℕ) → List ℕ
filled [] values = []
filled (byte ∷ template) [] = if byte == 126 then filled template [] else byte ∷ filled template []
filled (byte ∷ template) (value ∷ values) =
    if byte == 126 then value ++ filled template values else byte ∷ filled template (value ∷ values)

-- a byte of a name in HTML: `&`, `<`, `>` and `"` are written as their HTML entities
abbrev pub escaped_byte : ℕ → List ℕ
escaped_byte byte =
    if byte == 38 then codes "&amp;"
    else (if byte == 60 then codes "&lt;" else (if byte == 62 then codes "&gt;" else (if byte == 34 then codes "&quot;" else byte ∷ [])))

abbrev pub escaped : List ℕ → List ℕ
escaped name = flat_map escaped_byte name

-- ten-thousandths, written in per cent
abbrev pub percent : ℕ → List ℕ
percent part = fixed_point 2 part ++ codes " %"

-- the chance of who is on panels with `count` of `total` tickets, in per cent; only a chance of 0 is shown as 0, and only one of 1 as 100
abbrev pub chance_words : ℕ → ℕ → List ℕ
chance_words count total =
    if nat_lt 0 count && ten_thousandths count total == 0 then codes "below 0.01 %"
    else (if nat_lt count total && ten_thousandths count total == 10000 then codes "above 99.99 %" else percent (ten_thousandths count total))
