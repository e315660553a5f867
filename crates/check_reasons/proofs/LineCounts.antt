-- How many lines a pool has, part by part.
use Rattle.std.proofs.Common.{◌≡◌, ℕ, ◌+◌, ◌<◌, Bool, not, List, [], ◌∷◌, ◌++◌, length, count_by, get_or, take, map, Option, Some, None, Result, refl, sym, ap, ◌∙◌, subst, arith}
use Rattle.std.specs.Prelude.{is_some, IfOk}
use Rattle.std.specs.declared.alloc.AllocError.{AllocError}
use Rattle.std.specs.List.{flat_map}
use Rattle.std.proofs.lemmas.Grind.{flat_map-append}
use Rattle.std.proofs.lemmas.List.{append-nil, length-append, length-map, take_more}
use Rattle.define_pools.proofs.Sums.{count_by-total, one_if, total}
use Rattle.define_pools.specs.declared.Standing.{Standing}
use Rattle.define_pools.specs.declared.Standing.TheVariants.{Open, Seated, Gone}
use Rattle.define_pools.specs.Certificate.{Answer}
use Rattle.define_pools.specs.Pool.{Category, Pool, Volunteer}
use Rattle.define_bundles.specs.BundleText.{answer_lines, lines_before_done, panel_line, pool_lines, stage_line}
use Rattle.define_proofs.specs.Trees.{is_open}
use Rattle.define_bundles.specs.PoolText.{category_lines, end_line, household_line, household_lines, lines_before_end, standing_line, standing_lines, value_line, volunteer_line}

-- one more category adds a line for itself and one for each of its values
pub categories_more : (categories : List Category) (k : ℕ) (category : Category) → k < length categories → category ≡ get_or categories k category →
    length (flat_map category_lines (take (k + 1) categories)) ≡ length (flat_map category_lines (take k categories)) + length category.values + 1
categories_more categories k category below at =
    let first = take k categories in
    let next : take (k + 1) categories ≡ first ++ category ∷ [] = take_more categories k category below ∙ ap (λ one. first ++ one ∷ []) (sym at) in
    let split = ap (λ those. length (flat_map category_lines those)) next ∙ ap (λ (lines : List (List ℕ)). length lines) (flat_map-append category_lines first (category ∷ [])) in
    let sum = length-append (flat_map category_lines first) (category_lines category ++ []) in
    let none = ap (λ (lines : List (List ℕ)). length lines) (append-nil (category_lines category)) in
    let values = length-map category.values value_line in
    omega (arith, split, sum, none, values)

count_more : {X : Type 0} (f : X → List (List ℕ)) (p : X → Bool) → ((x : X) → length (f x) ≡ one_if (p x)) → (xs : List X) → length (flat_map f xs) ≡ total (λ x. one_if (p x)) xs
count_more f p e [] = refl
count_more f p e (x ∷ xs) =
    let rest = count_more f p e xs in let here = e x in let sum = length-append (f x) (flat_map f xs) in omega (arith, rest, here, sum)

pub households_counted : (volunteers : List Volunteer) → length (household_lines volunteers) ≡ count_by (λ volunteer. is_some volunteer.household) volunteers
households_counted volunteers =
    count_more (λ (volunteer : Volunteer). household_line volunteer.household volunteer.id) (λ volunteer. is_some volunteer.household) (λ volunteer. one_line volunteer.household volunteer.id) volunteers
    ∙ sym (count_by-total (λ (volunteer : Volunteer). is_some volunteer.household) volunteers)
  where
    one_line : (household : Option (List ℕ)) (id : List ℕ) → length (household_line household id) ≡ one_if (is_some household)
    one_line None id = refl
    one_line (Some name) id = refl

pub standings_counted : (volunteers : List Volunteer) → length (standing_lines volunteers) ≡ count_by (λ volunteer. not (is_open volunteer.standing)) volunteers
standings_counted volunteers =
    count_more (λ (volunteer : Volunteer). standing_line volunteer.standing volunteer.id) (λ volunteer. not (is_open volunteer.standing)) (λ volunteer. one_line volunteer.standing volunteer.id) volunteers
    ∙ sym (count_by-total (λ (volunteer : Volunteer). not (is_open volunteer.standing)) volunteers)
  where
    one_line : (standing : Standing) (id : List ℕ) → length (standing_line standing id) ≡ one_if (not (is_open standing))
    one_line Open id = refl
    one_line Seated id = refl
    one_line Gone id = refl

pub pool_lines_counted : (pool : Pool) → length (pool_lines pool)
    ≡ length (flat_map category_lines pool.categories) + 3 + length pool.volunteers + count_by (λ volunteer. is_some volunteer.household) pool.volunteers
    + count_by (λ volunteer. not (is_open volunteer.standing)) pool.volunteers
pool_lines_counted pool =
    let categories = flat_map category_lines pool.categories in
    let volunteers = map (volunteer_line pool.categories) pool.volunteers in
    let households = household_lines pool.volunteers in
    let of_standings = standing_lines pool.volunteers in
    let all = length-append (lines_before_end pool) (end_line ∷ []) in
    let first = length-append ((categories ++ volunteers) ++ households) of_standings in
    let second = length-append (categories ++ volunteers) households in
    let third = length-append categories volunteers in
    let fourth = length-map pool.volunteers (volunteer_line pool.categories) in
    let fifth = households_counted pool.volunteers in
    let sixth = standings_counted pool.volunteers in
    omega (arith, all, first, second, third, fourth, fifth, sixth)

pub bundle_lines_counted : (pool : Pool) (answer : Answer) → length (lines_before_done pool answer) ≡ length (pool_lines pool) + 2 + length answer.lottery.rows + length answer.stages
bundle_lines_counted pool answer =
    let rows = map panel_line answer.lottery.rows in
    let stages = map stage_line answer.stages in
    let first = length-append (pool_lines pool) (answer_lines answer) in
    let second = length-append rows stages in
    let third = length-map answer.lottery.rows panel_line in
    let fourth = length-map answer.stages stage_line in
    omega (arith, first, second, third, fourth)

-- if a call returns `a`, and `a` equals `b`, the call returns `b`
pub same_sum : (result : Result ℕ AllocError) (a b : ℕ) → IfOk result (λ sum. sum ≡ a) → a ≡ b → IfOk result (λ sum. sum ≡ b)
same_sum result a b h e = subst (λ n. IfOk result (λ sum. sum ≡ n)) e h

-- if `first` to `fourth`, `housed` and `decided` are what the code computes for a pool, `fourth + decided` is the number of its lines
pub pool_sum : (pool : Pool) (categories : List Category) (volunteers : List Volunteer) (first second third fourth housed decided : ℕ) → categories ≡ pool.categories → volunteers ≡ pool.volunteers →
    first ≡ length (flat_map category_lines categories) → second ≡ first + 3 → third ≡ second + length volunteers → housed ≡ count_by (λ volunteer. is_some volunteer.household) volunteers →
    fourth ≡ third + housed → decided ≡ count_by (λ volunteer. not (is_open volunteer.standing)) volunteers → fourth + decided ≡ length (pool_lines pool)
pool_sum pool categories volunteers first second third fourth housed decided same_categories same_volunteers a b c d e f =
    let all = pool_lines_counted pool in
    let in_categories = ap (λ cs. length (flat_map category_lines cs)) same_categories in
    let many = ap (λ (vs : List Volunteer). length vs) same_volunteers in
    let homes = ap (count_by (λ (volunteer : Volunteer). is_some volunteer.household)) same_volunteers in
    let others = ap (count_by (λ (volunteer : Volunteer). not (is_open volunteer.standing))) same_volunteers in
    omega (arith, all, in_categories, many, homes, others, a, b, c, d, e, f)

-- if `before` to `stages` are what the code computes for a bundle, `with_rows + stages` is the number of its lines before `done`
pub bundle_sum : (pool : Pool) (answer : Answer) (before with_total with_rows rows stages : ℕ) → before ≡ length (pool_lines pool) → with_total ≡ before + 2 → with_rows ≡ with_total + rows →
    rows ≡ length answer.lottery.rows → stages ≡ length answer.stages → with_rows + stages ≡ length (lines_before_done pool answer)
bundle_sum pool answer before with_total with_rows rows stages a b c d e =
    let all = bundle_lines_counted pool answer in omega (arith, all, a, b, c, d, e)
