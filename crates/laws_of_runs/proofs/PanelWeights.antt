-- A panel's weight in a row's stage is its composition's weight in the row.
use Rattle.std.proofs.Common.{◌≡◌, ℕ, ◌<◌, Bool, true, ltb, List, length, sym, ap, ◌∙◌}
use Rattle.std.specs.List.{list_all}
use Rattle.std.proofs.lemmas.Bool.{ltb-true}
use Rattle.define_pools.proofs.Each.{each_from_list_all, each_map}
use Rattle.define_pools.specs.Certificate.{panel_weight, weight_of}
use Rattle.define_pools.specs.Pool.{Pool}
use Rattle.define_rows.specs.Row.{Row}
use Rattle.define_searches.specs.Classes.{MakesClasses, classes_by, leaders}
use Rattle.define_searches.specs.Compositions.{composition_of, weight_in}
use Rattle.define_searches.proofs.LeaderForm as by_leader
use Rattle.define_searches.proofs.NothingToPrice.{weight_same}
use Rattle.define_searches.proofs.PanelCompositions.{weighing}
use Rattle.define_searches.proofs.PoolClasses.{composition_of_same}
use Rattle.define_runs.specs.Run.{stage_of}
use Rattle.laws_of_runs.proofs.StageRows.{entries_back, weighs_alike}

pub panel_weighs : (pool : Pool) (alike : ℕ → ℕ → Bool) → MakesClasses pool alike → (row : Row) → length row.a ≡ length (classes_by alike pool).classes → (counts panel : List ℕ) →
    list_all (λ i. ltb i (length pool.volunteers)) panel ≡ true → composition_of (classes_by alike pool) panel ≡ counts →
    panel_weight (stage_of (classes_by alike pool) row) panel ≡ weight_in row.a counts
panel_weighs pool alike makes row entries counts panel inside composed =
    let n = length pool.volunteers in
    let stage = stage_of (classes_by alike pool) row in
    let firsts = leaders alike n in
    let below = each_map (λ i. ltb i n ≡ true) (λ i. i < n) (λ i e. ltb-true i n e) panel (each_from_list_all (λ i. ltb i n) panel inside) in
    sym (weighing alike makes.same n stage (weighs_alike pool alike makes row) panel below)
    ∙ ap (by_leader.composition_weight (weight_of stage) firsts) (sym (composition_of_same pool alike makes panel below firsts) ∙ composed)
    ∙ sym (weight_same (weight_of stage) firsts counts)
    ∙ ap (λ a. weight_in a counts) (entries_back pool alike makes row entries)
