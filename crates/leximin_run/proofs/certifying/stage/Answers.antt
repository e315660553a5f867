use Rattle.std.proofs.Common.{◌≡◌, ◌∙◌, ap, ap₂, map, ℤ, List, FitsSigned, rules}
use Rattle.std.specs.Int.{w128}
use Rattle.std.specs.List.{range_with_len}
use Rattle.std.proofs.lemmas.Int.{to_z-of_z}
use Rattle.define_pools.proofs.Lists.{map-map}
use Rattle.define_pools.specs.Certificate.{Stage}
use Rattle.define_rows.specs.Row.{entry}
use Rattle.define_searches.specs.Classes.{class_number, volunteer_count}
use Rattle.leximin_run.proofs.certifying.stage.Goals as goal

abbrev made : List ℤ → ℤ → Stage
made weights cap = record { weights = weights; cap = cap }

pub returns : goal.returns
returns c = λ all numbers.
    let row = c.args.row.now in
    let fits : FitsSigned w128 c.side.result = search rules in
    let weights : c.in_ok-weights.weights.items ≡ map (λ i. entry row (class_number all.classes i)) (range_with_len 0 (volunteer_count all)) =
    c.in_ok-weights.ensures ∙ ap (map (entry row)) numbers ∙ map-map (entry row) (class_number all.classes) (range_with_len 0 (volunteer_count all)) in
    c.new.ensures ∙ ap (made c.in_ok-weights.weights.items) (to_z-of_z w128 c.side.result fits) ∙ ap₂ made weights c.side.ensures
