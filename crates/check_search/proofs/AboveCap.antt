-- What a search over the classes and rows of a stage finds.
use Rattle.std.proofs.Common.{◌≡◌, ℕ, ◌≤◌, ◌<◌, Bool, true, List, [], ◌∷◌, Some, None, map, reverse, refl, ap, ◌∙◌, subst}
use Rattle.std.specs.List.{list_all}
use Rattle.std.specs.Option.{option_map}
use Rattle.std.proofs.lemmas.Bool.{and_from, and_parts}
use Rattle.std.proofs.lemmas.Grind.{reverse_onto}
use Rattle.define_pools.proofs.Each.{list_all-push}
use Rattle.define_checks.specs.Caps.{classes_at, composition_above, first_above_cap, stage_row}
use Rattle.define_checks.specs.Visits.{above_search, stage_search}
use Rattle.define_checks.proofs.PassedCaps.{stage_search_finds}
use Rattle.define_pools.specs.Certificate.{Stage}
use Rattle.define_pools.specs.Pool.{Pool}
use Rattle.define_searches.specs.Compositions.{first_panel}
use Rattle.check_search.specs.Terms.{AreOfStage}
use Rattle.check_search.specs.declared.terms.Terms.{Terms}

module _ (pool : Pool) (earlier latest : List Stage) (stage : Stage) (terms : Terms) (same : latest ≡ earlier) (made : AreOfStage pool latest stage terms) where
  pub search_at : above_search terms.classes terms.closed.items terms.row ≡ stage_search pool earlier stage
  search_at =
      ap (λ all. above_search all terms.closed.items terms.row) made.classes
      ∙ ap (λ closed. above_search (classes_at pool (stage ∷ latest)) closed terms.row) made.closed
      ∙ ap (above_search (classes_at pool (stage ∷ latest)) (map (stage_row pool (stage ∷ latest)) latest)) made.row
      ∙ ap (λ earlier. stage_search pool earlier stage) same

  pub visits_within : (nodes : ℕ) → (above_search terms.classes terms.closed.items terms.row).visits ≤ nodes → (stage_search pool earlier stage).visits ≤ nodes
  visits_within nodes few = subst (λ search. search.visits ≤ nodes) search_at few

  pub visits_passed : (nodes : ℕ) → nodes < (above_search terms.classes terms.closed.items terms.row).visits → nodes < (stage_search pool earlier stage).visits
  visits_passed nodes many = subst (λ search. nodes < search.visits) search_at many

  composition_is : (above_search terms.classes terms.closed.items terms.row).found ≡ composition_above pool earlier stage
  composition_is = ap (λ search. search.found) search_at ∙ stage_search_finds pool earlier stage

  pub none_above : None ≡ (above_search terms.classes terms.closed.items terms.row).found → None ≡ first_above_cap pool earlier stage
  none_above none = ap (option_map (first_panel (classes_at pool (stage ∷ earlier)))) (none ∙ composition_is)

  pub panel_is : (counts panel : List ℕ) → Some counts ≡ (above_search terms.classes terms.closed.items terms.row).found → panel ≡ first_panel terms.classes counts → Some panel ≡ first_above_cap pool earlier stage
  panel_is counts panel found first =
      ap Some (first ∙ ap (λ all. first_panel all counts) made.classes ∙ ap (λ earlier. first_panel (classes_at pool (stage ∷ earlier)) counts) same)
      ∙ ap (option_map (first_panel (classes_at pool (stage ∷ earlier)))) (found ∙ composition_is)

-- If `p` is true of `stage` and of each earlier stage, it is true of each stage in the list with the latest first.
pub turned_in_ranges : (p : Stage → Bool) (earlier latest : List Stage) (stage : Stage) → list_all p earlier ≡ true → p stage ≡ true → latest ≡ reverse earlier → list_all p (stage ∷ latest) ≡ true
turned_in_ranges p earlier latest stage each here turned = and_from (p stage) (list_all p latest) here (ap (list_all p) turned ∙ turned_round earlier each)
  where
    turned_round : (xs : List Stage) → list_all p xs ≡ true → list_all p (reverse xs) ≡ true
    turned_round [] each = refl
    turned_round (x ∷ xs) each =
        let parts = and_parts (p x) (list_all p xs) each in
        ap (list_all p) (reverse_onto xs x []) ∙ list_all-push p (reverse xs) x (turned_round xs parts.1) parts.0
