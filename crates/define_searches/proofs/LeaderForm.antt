-- Compositions over the pool itself, with each class given by its leader. In this form a sum over a panel can be taken class by class.
use Rattle.std.specs.Prelude.{nat_lt, nat_le, ℕ, ◌+◌, ◌-◌, ◌==◌, if◌then◌else◌, Bool, true, ◌&&◌, List, [], ◌∷◌, map, length, count_by, filter, slice_index, ℤ, pos, ◌+ℤ◌, ◌*ℤ◌, int_le, Option, Some, None}
use Rattle.std.specs.List.{list_all, flat_map, enumerate_from, range_with_len}
use Rattle.define_pools.specs.Certificate.{Stage, weight_of}
use Rattle.define_pools.specs.Pool.{Pool, volunteer, is_within}
use Rattle.define_searches.specs.Classes.{leaders, class_of, least_taken, most_taken, shared_household}
use Rattle.define_searches.specs.Compositions.{counts_down, is_of_household}

-- how many members of a panel are of each class
abbrev pub composition_of : (ℕ → ℕ → Bool) → List ℕ → List ℕ → List ℕ
composition_of alike firsts panel = map (λ leader. count_by (alike leader) panel) firsts

abbrev pub all_counts : (ℕ → ℕ) → (ℕ → ℕ) → List ℕ → List (List ℕ)
all_counts low high [] = [] ∷ []
all_counts low high (leader ∷ firsts) =
    flat_map (λ c. map (λ counts. c ∷ counts) (all_counts low high firsts)) (counts_down (low leader) (high leader - low leader))

abbrev pub taken_of : (ℕ → Bool) → List ℕ → List ℕ → ℕ
taken_of passes [] counts = 0
taken_of passes (leader ∷ firsts) [] = 0
taken_of passes (leader ∷ firsts) (c ∷ counts) = (if passes leader then c else 0) + taken_of passes firsts counts

abbrev pub composition_weight : (ℕ → ℤ) → List ℕ → List ℕ → ℤ
composition_weight weight [] counts = pos 0
composition_weight weight (leader ∷ firsts) [] = pos 0
composition_weight weight (leader ∷ firsts) (c ∷ counts) = pos c *ℤ weight leader +ℤ composition_weight weight firsts counts

abbrev pub composition_attains : List Stage → List ℕ → List ℕ → Bool
composition_attains stages firsts counts = list_all (λ stage. int_le stage.cap (composition_weight (weight_of stage) firsts counts)) stages

abbrev pub meets_bounds : Pool → List ℕ → List ℕ → Bool
meets_bounds pool firsts counts =
    list_all (λ (c, category).
    list_all (λ (v, value). is_within value (taken_of (λ leader. slice_index (volunteer pool.volunteers leader).values c == v) firsts counts))
    (enumerate_from 0 category.values))
    (enumerate_from 0 pool.categories)

abbrev pub takes_one_of : Pool → List ℕ → List ℕ → Option ℕ → Bool
takes_one_of pool firsts counts None = true
takes_one_of pool firsts counts (Some h) = nat_le (taken_of (λ leader. is_of_household h (shared_household pool.volunteers leader)) firsts counts) 1

abbrev pub takes_one_a_household : Pool → List ℕ → List ℕ → Bool
takes_one_a_household pool firsts counts = list_all (λ leader. takes_one_of pool firsts counts (shared_household pool.volunteers leader)) firsts

abbrev pub is_composition : Pool → List ℕ → List ℕ → Bool
is_composition pool firsts counts =
    taken_of (λ leader. true) firsts counts == pool.size && meets_bounds pool firsts counts && takes_one_a_household pool firsts counts

abbrev pub compositions : Pool → (ℕ → ℕ → Bool) → List (List ℕ)
compositions pool alike =
    let n = length pool.volunteers in
    let firsts = leaders alike n in
    filter (is_composition pool firsts)
    (all_counts (λ leader. least_taken (volunteer pool.volunteers leader).standing (length (class_of alike n leader)))
    (λ leader. most_taken (volunteer pool.volunteers leader).standing (length (class_of alike n leader))) firsts)

-- the first panel of `counts`: volunteer `i` is on it if fewer members of `i`'s class have lower numbers than `counts` takes of the class
abbrev pub first_panel : (ℕ → ℕ → Bool) → ℕ → List ℕ → List ℕ
first_panel alike count counts =
    filter (λ i. nat_lt (count_by (alike i) (range_with_len 0 i)) (taken_of (λ leader. alike leader i) (leaders alike count) counts)) (range_with_len 0 count)
