-- What `chances` prints: the chance of each volunteer, the chances added up for each value, and the least and greatest chance. `counts` is
-- each volunteer's count, which is the chance times the total. Builds on the numbers of `bundle_page`.
use Rattle.std.specs.Prelude.{ℕ, ◌==◌, List, [], ◌∷◌, ◌++◌, codes, count_by, map, slice_index}
use Rattle.std.specs.Fmt.{decimal}
use Rattle.std.specs.List.{enumerate_from, flat_map}
use Rattle.frac128.specs.Fractions.{fraction_text, lowest_of}
use Rattle.define_bundles.specs.BundleText.{Bundle}
use Rattle.define_lines.specs.Lines.{line_of}
use Rattle.define_made_pools.specs.Summary.{greatest, least, number_line}
use Rattle.define_pools.specs.Lottery.{counts}
use Rattle.define_pools.specs.Pool.{BoundedValue, Category, Pool, Volunteer, volunteer}
use Rattle.bundle_page.specs.Decimals.{fixed_point, ten_thousandths}
use Rattle.bundle_page.specs.Sums.{count_with}

-- ---- the chance of each volunteer

-- the line of a chance, in lowest terms and rounded to four places
abbrev pub chance_line : List ℕ → ℕ → ℕ → List ℕ
chance_line id count total =
    line_of (codes "chance" ∷ id ∷ fraction_text (lowest_of count total) ∷ fixed_point 4 (ten_thousandths count total) ∷ [])

abbrev pub chance_lines : List Volunteer → List ℕ → ℕ → List (List ℕ)
chance_lines volunteers counts total =
    map (λ (i, volunteer). chance_line volunteer.id (slice_index counts i) total) (enumerate_from 0 volunteers)

-- ---- the chances added up for each value

-- the line of a value: its category, its bounds, and the sum of the chances, which is the expected number of members with the value
abbrev pub sum_line : List ℕ → BoundedValue → ℕ → ℕ → List ℕ
sum_line category value count total =
    line_of (codes "sum" ∷ category ∷ value.name ∷ decimal value.lower ∷ decimal value.upper ∷ fraction_text (lowest_of count total) ∷ [])

-- the lines of the values of the category at `category_place`
abbrev pub value_lines : List Volunteer → List ℕ → ℕ → ℕ → Category → List (List ℕ)
value_lines volunteers counts total category_place category =
    map (λ (value_place, value). sum_line category.name value (count_with volunteers counts category_place value_place) total)
    (enumerate_from 0 category.values)

abbrev pub sum_lines : Pool → List ℕ → ℕ → List (List ℕ)
sum_lines pool counts total =
    flat_map (λ (category_place, category). value_lines pool.volunteers counts total category_place category)
    (enumerate_from 0 pool.categories)

-- ---- the least and the greatest chance

-- how many volunteers have this count
abbrev pub number_with : List ℕ → ℕ → ℕ
number_with counts count = count_by (λ other. other == count) counts

-- the line of a word, a chance in lowest terms, and how many have it
abbrev pub number_line_of : List ℕ → List ℕ → ℕ → ℕ → List ℕ
number_line_of word counts total count =
    line_of (word ∷ fraction_text (lowest_of count total) ∷ decimal (number_with counts count) ∷ [])

-- how many are certain to be chosen, how many never are, and the least and the greatest chance
abbrev pub end_lines : List ℕ → ℕ → List (List ℕ)
end_lines counts total =
    number_line (codes "certain") (number_with counts total)
    ∷ number_line (codes "never") (number_with counts 0)
    ∷ number_line_of (codes "least") counts total (least counts)
    ∷ number_line_of (codes "greatest") counts total (greatest counts)
    ∷ []

-- ---- all lines of `chances`

abbrev pub lines_of_counts : Pool → List ℕ → ℕ → List (List ℕ)
lines_of_counts pool counts total =
    chance_lines pool.volunteers counts total ++ sum_lines pool counts total ++ end_lines counts total

abbrev pub lines_of_chances : Bundle → List (List ℕ)
lines_of_chances bundle = lines_of_counts bundle.pool (counts bundle.pool bundle.answer.lottery) bundle.answer.lottery.total
