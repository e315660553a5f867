-- A composition above the cap is found exactly if a quota panel that attains the earlier caps passes the cap.
use Rattle.std.proofs.Common.{◌≡◌, ℕ, ◌<◌, Bool, true, false, not, ◌&&◌, ◌||◌, ltb, List, [], ◌∷◌, map, length, ℤ, Option, Some, None, refl, sym, ap, ap₂, ◌∙◌, subst, arith}
use Rattle.std.specs.Prelude.{int_le, int_lt}
use Rattle.std.specs.List.{AllByRecursion}
use Rattle.std.specs.Option.{option_map}
use Rattle.std.proofs.lemmas.Bool.{and_from, and_parts, false≢true, ltb-true}
use borrow.Author.Differences.{le-true, lt-true}
use Rattle.define_pools.proofs.Each.{each_both, each_from_list_all, each_map}
use Rattle.define_pools.proofs.Found.{find-each, find-none, find-passes}
use Rattle.define_pools.proofs.Tests.{implied}
use Rattle.define_pools.specs.Certificate as certificate
use Rattle.define_pools.specs.Certificate.{Stage, is_capped, panel_weight, weight_of}
use Rattle.define_pools.specs.Pool.{Pool, is_quota_panel, panels}
use Rattle.define_pools.proofs.AllPanels.{each_panel, quota_parts}
use Rattle.define_rows.specs.Row.{Row}
use Rattle.define_searches.specs.Best.{Qualifies}
use Rattle.define_searches.specs.Classes.{Classes, MakesClasses, classes_by, leaders}
use Rattle.define_searches.specs.Compositions.{attains, composition_of, compositions, first_panel, weight_in}
use Rattle.define_searches.specs.Stages.{WeighAlike, row_of}
use Rattle.define_searches.proofs.Best.{price_none_where}
use Rattle.define_searches.proofs.Contained.{each_contains}
use Rattle.define_searches.proofs.LeaderForm as by_leader
use Rattle.define_searches.proofs.NothingToPrice.{capped_where_nothing_priced, weight_same}
use Rattle.define_searches.proofs.PanelCompositions.{weighing}
use Rattle.define_searches.proofs.PoolClasses.{classes_in_order, composition_of_same, first_panels_compose, first_panels_fit}
use Rattle.define_checks.specs.Caps.{alike_at, classes_at, composition_above, first_above_cap, stage_row}
use Rattle.define_checks.specs.Visits.{stage_search}
use Rattle.define_checks.proofs.CheckClasses.{alike_at_makes, alike_at_weigh}
use Rattle.define_checks.proofs.CheckSearch.{above_search_finds}
use Rattle.define_checks.proofs.StageRows.{rows_have_entries}

module _ (pool : Pool) (alike : ℕ → ℕ → Bool) (makes : MakesClasses pool alike) (counts panel : List ℕ) (below : AllByRecursion (λ i. i < length pool.volunteers) panel)
    (composed : composition_of (classes_by alike pool) panel ≡ counts) where
  abbrev firsts : List ℕ
  firsts = leaders alike (length pool.volunteers)

  -- A panel's weight in a stage is the weight of its composition in the stage's row.
  weight_is : (stage : Stage) → ((i j : ℕ) → i < length pool.volunteers → j < length pool.volunteers → alike i j ≡ true → weight_of stage i ≡ weight_of stage j) →
      weight_in (row_of alike pool stage).a counts ≡ panel_weight stage panel
  weight_is stage respects =
      weight_same (weight_of stage) firsts counts
      ∙ ap (by_leader.composition_weight (weight_of stage) firsts) (sym composed ∙ composition_of_same pool alike makes panel below firsts)
      ∙ weighing alike makes.same (length pool.volunteers) stage respects panel below

  attained_are : (stages : List Stage) → WeighAlike alike (length pool.volunteers) stages → attains (map (row_of alike pool) stages) counts ≡ certificate.attains stages panel
  attained_are [] weigh = refl
  attained_are (stage ∷ stages) weigh = ap₂ (λ a b. a && b) (ap (int_le stage.cap) (weight_is stage weigh.0)) (attained_are stages weigh.1)

not_above : (cap weight : ℤ) → int_le weight cap ≡ true → int_lt cap weight ≡ true → ⊥
not_above cap weight l m = omega (arith, le-true weight cap l, lt-true cap weight m)

module _ (pool : Pool) (earlier : List Stage) (stage : Stage) where
  abbrev alike : ℕ → ℕ → Bool
  alike = alike_at pool (stage ∷ earlier)

  abbrev all : Classes
  all = classes_at pool (stage ∷ earlier)

  abbrev closed : List Row
  closed = map (stage_row pool (stage ∷ earlier)) earlier

  abbrev row : Row
  row = stage_row pool (stage ∷ earlier) stage

  makes : MakesClasses pool alike
  makes = alike_at_makes pool (stage ∷ earlier)

  weigh : WeighAlike alike (length pool.volunteers) (stage ∷ earlier)
  weigh = alike_at_weigh pool (stage ∷ earlier)

  abbrev qualifies : List ℕ → Bool
  qualifies counts = attains closed counts && int_lt row.b (weight_in row.a counts)

  -- ---- if no composition is found, the cap holds

  pub capped_where_none : composition_above pool earlier stage ≡ None → is_capped pool earlier stage ≡ true
  capped_where_none none = capped_where_nothing_priced pool alike earlier stage makes weigh ((price_none_where all closed row).1 conflict)
    where
      conflict : (counts : List ℕ) → Qualifies all closed row counts → ⊥
      conflict counts q =
          let fails = each_contains (λ counts. qualifies counts ≡ false) (compositions all) counts (find-none qualifies (compositions all) none) q.composition in
          false≢true (sym fails ∙ and_from (attains closed counts) (int_lt row.b (weight_in row.a counts)) q.attained q.above)

  -- ---- if a composition is found, the cap is passed

  -- a quota panel that attains the earlier caps and weighs more than the stage's cap
  pub record Passes (panel : List ℕ) : Type 0 where
    pub quota : is_quota_panel pool panel ≡ true
    pub attained : certificate.attains earlier panel ≡ true
    pub above : int_lt stage.cap (panel_weight stage panel) ≡ true

  pub passes_where_found : (counts : List ℕ) → composition_above pool earlier stage ≡ Some counts → Passes (first_panel all counts)
  passes_where_found counts found =
      let panel = first_panel all counts in
      let known = find-each qualifies (λ counts. (is_quota_panel pool (first_panel all counts) ≡ true) × (composition_of all (first_panel all counts) ≡ counts)) (compositions all) counts
      (each_both (λ counts. is_quota_panel pool (first_panel all counts) ≡ true) (λ counts. composition_of all (first_panel all counts) ≡ counts) (compositions all)
      (first_panels_fit pool alike makes) (first_panels_compose pool alike makes)) found in
      let n = length pool.volunteers in
      let below = each_map (λ i. ltb i n ≡ true) (λ i. i < n) (λ i e. ltb-true i n e) panel (each_from_list_all (λ i. ltb i n) panel (quota_parts pool panel known.0).below) in
      let parts = and_parts (attains closed counts) (int_lt row.b (weight_in row.a counts)) (find-passes qualifies (compositions all) counts found) in
      record {
        quota = known.0;
        attained = sym (attained_are pool alike makes counts panel below known.1 earlier weigh.1) ∙ parts.0;
        above = sym (ap (int_lt stage.cap) (weight_is pool alike makes counts panel below known.1 stage weigh.0)) ∙ parts.1;
      }

  pub none_where_capped : is_capped pool earlier stage ≡ true → composition_above pool earlier stage ≡ None
  none_where_capped capped = by (composition_above pool earlier stage) refl
    where
      by : (found : Option (List ℕ)) → composition_above pool earlier stage ≡ found → found ≡ None
      by None e = refl
      by (Some counts) e =
          let panel = first_panel all counts in
          let passes = passes_where_found counts e in
          let within = each_panel (λ panel. (not (certificate.attains earlier panel) || int_le (panel_weight stage panel) stage.cap) ≡ true) pool
          (each_from_list_all (λ panel. not (certificate.attains earlier panel) || int_le (panel_weight stage panel) stage.cap) (panels pool) capped) panel passes.quota in
          absurd (not_above stage.cap (panel_weight stage panel) (implied (certificate.attains earlier panel) (int_le (panel_weight stage panel) stage.cap) within passes.attained) passes.above)

  -- ---- a panel is found exactly if the cap is passed

  none_of_panel : (found : Option (List ℕ)) → option_map (first_panel all) found ≡ None → found ≡ None
  none_of_panel None e = refl
  none_of_panel (Some counts) e = absurd cc

  pub capped_where_no_panel : first_above_cap pool earlier stage ≡ None → is_capped pool earlier stage ≡ true
  capped_where_no_panel none = capped_where_none (none_of_panel (composition_above pool earlier stage) none)

  pub no_panel_where_capped : is_capped pool earlier stage ≡ true → first_above_cap pool earlier stage ≡ None
  no_panel_where_capped capped = ap (option_map (first_panel all)) (none_where_capped capped)

  pub panel_passes : (panel : List ℕ) → first_above_cap pool earlier stage ≡ Some panel → Passes panel
  panel_passes panel e = by (composition_above pool earlier stage) refl e
    where
      by : (found : Option (List ℕ)) → composition_above pool earlier stage ≡ found → option_map (first_panel all) found ≡ Some panel → Passes panel
      by None f e = absurd cc
      by (Some counts) f e = let same : first_panel all counts ≡ panel = cc in subst Passes same (passes_where_found counts f)

  -- ---- the search at a stage finds this composition

  pub stage_search_finds : (stage_search pool earlier stage).found ≡ composition_above pool earlier stage
  stage_search_finds = above_search_finds all closed row (rows_have_entries pool (stage ∷ earlier) (stage ∷ earlier)) (classes_in_order pool alike)
