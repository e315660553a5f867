-- The search of a check at a stage, front by front, and what a check answers under a budget of visits at each stage. Builds on Reasons, and
-- on Fronts and Visits of `define_searches`. `check_search` counts visits this way.
use Rattle.std.specs.Prelude.{ℕ, ◌+◌, ◌==◌, nat_lt, if◌then◌else◌, Bool, false, ◌&&◌, ◌||◌, List, [], ◌∷◌, ◌++◌, filter, length, map, Option, Some, None, Result, Ok, Err}
use Rattle.define_pools.specs.Certificate.{Answer, Stage}
use Rattle.define_pools.specs.Pool.{Pool}
use Rattle.define_rows.specs.Row.{Row}
use Rattle.define_searches.specs.Classes.{Class, Classes}
use Rattle.define_searches.specs.Compositions.{counts_of}
use Rattle.define_searches.specs.Fronts.{is_live_above}
use Rattle.define_searches.specs.Visits.{Search, one_by_one}
use Rattle.define_checks.specs.Caps.{classes_at, stage_row}
use Rattle.define_checks.specs.Reasons.{Refused, Valid, Verdict, verdict}

-- the search from a front that is entered; `later` are the classes after it. A front of all classes is a composition. The row's right side
-- is the floor
abbrev pub enter_above : Classes → List Row → Row → List Class → List ℕ → Search
enter_above all closed row [] front = record { visits = 1; found = Some front }
enter_above all closed row (class ∷ later) front =
    let below = one_by_one (map (λ child. enter_above all closed row later child) (filter (is_live_above all closed row row.b) (map (λ c. front ++ c ∷ []) (counts_of class)))) in
    record { visits = 1 + below.visits; found = below.found }

-- the search for the first composition that attains the closed rows and weighs more in `row` than its right side
abbrev pub above_search : Classes → List Row → Row → Search
above_search all closed row =
    if is_live_above all closed row row.b [] then enter_above all closed row all.classes [] else record { visits = 1; found = None }

-- the search at a stage, with the earlier stages as closed rows and the stage's cap as the floor
abbrev pub stage_search : Pool → List Stage → Stage → Search
stage_search pool earlier stage =
    above_search (classes_at pool (stage ∷ earlier)) (map (stage_row pool (stage ∷ earlier)) earlier) (stage_row pool (stage ∷ earlier) stage)

-- the number of the first of the stages `later`, after the stages `earlier`, at which the search makes more than `nodes` visits
abbrev pub first_spent : Pool → ℕ → List Stage → List Stage → Option ℕ
first_spent pool nodes earlier [] = None
first_spent pool nodes earlier (stage ∷ later) =
    if nat_lt nodes (stage_search pool earlier stage).visits then Some (length earlier + 1) else first_spent pool nodes (stage ∷ earlier) later

-- the reason of a verdict is tried before the search at stage `spent`
abbrev pub is_ahead : ℕ → Verdict → Bool
is_ahead spent Valid = false
is_ahead spent (Refused refusal) = nat_lt refusal.stage spent || (refusal.stage == spent && nat_lt refusal.reason 8)

-- the verdict, unless the visits are spent at stage `spent` before the verdict's reason is tried; then `spent`
abbrev pub unless_spent : Option ℕ → Verdict → Result Verdict ℕ
unless_spent None verdict = Ok verdict
unless_spent (Some spent) verdict = if is_ahead spent verdict then Ok verdict else Err spent

-- the answer of a check with a budget of `nodes` visits at each stage: the verdict, or the number of the stage at which they are spent
abbrev pub check_answer : Pool → Answer → ℕ → Result Verdict ℕ
check_answer pool answer nodes = unless_spent (first_spent pool nodes [] answer.stages) (verdict pool answer)
