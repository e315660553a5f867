-- How a check finds a quota panel above the cap of a stage: it searches compositions over classes of its own. A list of earlier stages has
-- the latest first. Builds on Compositions and Stages of `define_searches`. `check_search` searches this way.
use Rattle.std.specs.Prelude.{ℕ, Bool, ◌&&◌, List, ◌∷◌, map, Option, int_lt}
use Rattle.std.specs.List.{find, list_all}
use Rattle.std.specs.Option.{option_map}
use Rattle.std.specs.Ordering.{int_eq}
use Rattle.define_pools.specs.Certificate.{Stage, weight_of}
use Rattle.define_pools.specs.Pool.{Pool}
use Rattle.define_rows.specs.Row.{Row}
use Rattle.define_searches.specs.Classes.{Classes, are_alike, classes_by}
use Rattle.define_searches.specs.Compositions.{attains, compositions, first_panel, weight_in}
use Rattle.define_searches.specs.Stages.{row_of}

-- volunteers `i` and `j` have the same weight in each of the stages
abbrev pub weigh_equal : List Stage → ℕ → ℕ → Bool
weigh_equal stages i j = list_all (λ stage. int_eq (weight_of stage i) (weight_of stage j)) stages

-- volunteers `i` and `j` are alike at the latest of the stages, which is the first in the list: they are the same, or have equal values,
-- equal standing and equal weights in all the stages, and neither shares a household
abbrev pub alike_at : Pool → List Stage → ℕ → ℕ → Bool
alike_at pool stages i j = are_alike pool i j && weigh_equal stages i j

-- the classes of volunteers who are alike at the first stage of the list
abbrev pub classes_at : Pool → List Stage → Classes
classes_at pool stages = classes_by (alike_at pool stages) pool

-- `stage` as a row over the classes at the first of `stages`
abbrev pub stage_row : Pool → List Stage → Stage → Row
stage_row pool stages stage = row_of (alike_at pool stages) pool stage

-- the first element of `compositions all` that attains the closed rows and weighs more in `row` than its right side
abbrev pub first_above : Classes → List Row → Row → Option (List ℕ)
first_above all closed row = find (λ counts. attains closed counts && int_lt row.b (weight_in row.a counts)) (compositions all)

-- the first composition, in the order of `compositions`, that attains each earlier cap and weighs more than the stage's cap
abbrev pub composition_above : Pool → List Stage → Stage → Option (List ℕ)
composition_above pool earlier stage =
    first_above (classes_at pool (stage ∷ earlier)) (map (stage_row pool (stage ∷ earlier)) earlier) (stage_row pool (stage ∷ earlier) stage)

-- the panel with the first members of each class, as many as `composition_above` takes: a quota panel that attains each earlier cap and
-- weighs more than the stage's cap
abbrev pub first_above_cap : Pool → List Stage → Stage → Option (List ℕ)
first_above_cap pool earlier stage = option_map (first_panel (classes_at pool (stage ∷ earlier))) (composition_above pool earlier stage)
