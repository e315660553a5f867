-- If a panel's composition over the classes of a pool is among the compositions, the panel is a quota panel.
use Rattle.std.proofs.Common.{◌≡◌, ℕ, ◌≤◌, ◌<◌, Bool, true, ltb, List, length, sym, ◌∙◌, subst}
use Rattle.std.specs.List.{list_all, Contains}
use Rattle.std.proofs.lemmas.Bool.{ltb-true}
use Rattle.define_pools.proofs.Each.{each_from_list_all, each_map}
use Rattle.define_pools.specs.Lists.{is_increasing}
use Rattle.define_pools.specs.Pool.{Pool, volunteer, is_quota_panel}
use Rattle.define_searches.specs.Classes.{MakesClasses, class_of, classes_by, leaders, least_taken, most_taken}
use Rattle.define_searches.specs.Compositions.{composition_of, compositions}
use Rattle.define_searches.proofs.Contained.{each_contains}
use Rattle.define_searches.proofs.FirstPanel.{leaders_rise}
use Rattle.define_searches.proofs.LeaderForm as by_leader
use Rattle.define_searches.proofs.LeaderPanels.{ByLeader, each_by_leader, panel_fits}
use Rattle.define_searches.proofs.PoolClasses.{composition_of_same, compositions_same}

pub composed_panel_fits : (pool : Pool) (alike : ℕ → ℕ → Bool) → MakesClasses pool alike → (counts panel : List ℕ) →
    Contains (compositions (classes_by alike pool)) counts → is_increasing panel ≡ true → list_all (λ i. ltb i (length pool.volunteers)) panel ≡ true →
    composition_of (classes_by alike pool) panel ≡ counts → is_quota_panel pool panel ≡ true
composed_panel_fits pool alike makes counts panel listed up below composed =
    let n = length pool.volunteers in
    let low : ℕ → ℕ = λ l. least_taken (volunteer pool.volunteers l).standing (length (class_of alike n l)) in
    let high : ℕ → ℕ = λ l. most_taken (volunteer pool.volunteers l).standing (length (class_of alike n l)) in
    let inside = each_map (λ i. ltb i n ≡ true) (λ i. i < n) (λ i e. ltb-true i n e) panel (each_from_list_all (λ i. ltb i n) panel below) in
    let given = each_contains (λ counts. ByLeader low high (leaders alike n) counts × (by_leader.is_composition pool (leaders alike n) counts ≡ true)) (by_leader.compositions pool alike) counts
    (each_by_leader pool alike (leaders_rise pool alike makes)) (subst (λ all. Contains all counts) (compositions_same pool alike) listed) in
    panel_fits pool alike makes given.0.of panel up below
    (sym (composition_of_same pool alike makes panel inside (leaders alike n)) ∙ composed ∙ given.0.is) given.0.within
    (subst (λ counts. by_leader.is_composition pool (leaders alike n) counts ≡ true) given.0.is given.1)
