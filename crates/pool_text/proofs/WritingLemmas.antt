-- The names of a volunteer's values, written field by field, and the text of a pool, written part by part.
use Rattle.std.proofs.Common.{◌≡◌, ℕ, zero, suc, ◌+◌, ◌<◌, true, List, [], ◌∷◌, ◌++◌, length, map, take, get_or, refl, sym, ◌∙◌, ap, append_assoc, arith}
use Rattle.std.proofs.lemmas.Bool.{and_parts, false≢true, ltb-true}
use Rattle.std.proofs.lemmas.List.{append-nil}
use Rattle.std.specs.List.{flat_map}
use Rattle.define_pools.specs.Pool.{Category, Pool, has_values}
use Rattle.define_pools.specs.Building.{value_names}
use Rattle.define_bundles.specs.PoolText.{version_line, version_of, size_line, category_lines, names_at, volunteer_line, household_lines, standing_lines, end_line, lines_before_end, spelling}
use Rattle.define_lines.specs.Lines.{tab, tabbed, text_of}
use Rattle.define_lines.proofs.LineLemmas.{text_of-append}

-- if `places` has a value for each category, each place is below the number of its category's values
pub place_inside : (categories : List Category) (places : List ℕ) (i : ℕ) (d : Category) → has_values categories places ≡ true → i < length places → get_or places i 0 < length (get_or categories i d).values
place_inside [] [] i d h l = absurd (omega arith)
place_inside [] (place ∷ places) i d h l = absurd (false≢true h)
place_inside (category ∷ categories) [] i d h l = absurd (omega arith)
place_inside (category ∷ categories) (place ∷ places) zero d h l = ltb-true place (length category.values) (and_parts _ (has_values categories places) h).0
place_inside (category ∷ categories) (place ∷ places) (suc i) d h l = place_inside categories places i d (and_parts _ (has_values categories places) h).1 (omega arith)

-- if `places` has a value for each category, there are as many places as categories
pub as_many : (categories : List Category) (places : List ℕ) → has_values categories places ≡ true → length places ≡ length categories
as_many [] [] h = refl
as_many [] (place ∷ places) h = absurd (false≢true h)
as_many (category ∷ categories) [] h = absurd (false≢true h)
as_many (category ∷ categories) (place ∷ places) h = ap suc (as_many categories places (and_parts _ (has_values categories places) h).1)

-- the fields of the first `i + 1` names are those of the first `i`, then one for the name in category `i`
pub tabbed_more : (categories : List Category) (places : List ℕ) (i : ℕ) (d : Category) → i < length categories → i < length places →
    tabbed (names_at (take (i + 1) categories) (take (i + 1) places)) ≡ tabbed (names_at (take i categories) (take i places)) ++ (tab ∷ get_or (value_names (get_or categories i d).values) (get_or places i 0) [])
tabbed_more [] places i d l m = absurd (omega arith)
tabbed_more (category ∷ categories) [] i d l m = absurd (omega arith)
tabbed_more (category ∷ categories) (place ∷ places) zero d l m = append-nil (tab ∷ get_or (value_names category.values) place [])
tabbed_more (category ∷ categories) (place ∷ places) (suc i) d l m =
    let first = tab ∷ get_or (value_names category.values) place [] in
    let last = tab ∷ get_or (value_names (get_or categories i d).values) (get_or places i 0) [] in
    let e : suc i + 1 ≡ suc (i + 1) = omega arith in
    rw e (ap (λ rest. first ++ rest) (tabbed_more categories places i d (omega arith) (omega arith))
    ∙ sym (append_assoc first (tabbed (names_at (take i categories) (take i places))) last))

-- the parts of a pool's text, one after the other, are its spelling
pub pool_written : (text : List ℕ) (pool : Pool) →
    ((((((text ++ text_of (version_line (version_of pool) ∷ [])) ++ text_of (size_line pool.size ∷ [])) ++ text_of (flat_map category_lines pool.categories))
    ++ text_of (map (volunteer_line pool.categories) pool.volunteers)) ++ text_of (household_lines pool.volunteers)) ++ text_of (standing_lines pool.volunteers)) ++ text_of (end_line ∷ []) ≡ text ++ spelling pool
pool_written text pool =
    let version = version_line (version_of pool) ∷ [] in
    let size = size_line pool.size ∷ [] in
    let categories = flat_map category_lines pool.categories in
    let volunteers = map (volunteer_line pool.categories) pool.volunteers in
    let households = household_lines pool.volunteers in
    let standings = standing_lines pool.volunteers in
    let last = end_line ∷ [] in
    ap (λ t. ((((t ++ text_of categories) ++ text_of volunteers) ++ text_of households) ++ text_of standings) ++ text_of last) (text_of-append text version size)
    ∙ (ap (λ t. (((t ++ text_of volunteers) ++ text_of households) ++ text_of standings) ++ text_of last) (text_of-append text (version ++ size) categories)
    ∙ (ap (λ t. ((t ++ text_of households) ++ text_of standings) ++ text_of last) (text_of-append text (version ++ size ++ categories) volunteers)
    ∙ (ap (λ t. (t ++ text_of standings) ++ text_of last) (text_of-append text (version ++ size ++ categories ++ volunteers) households)
    ∙ (ap (λ t. t ++ text_of last) (text_of-append text (version ++ size ++ categories ++ volunteers ++ households) standings)
    ∙ text_of-append text (lines_before_end pool) last))))
