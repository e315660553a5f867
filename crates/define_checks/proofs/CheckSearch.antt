-- The search at a stage finds the first composition that attains the closed rows and weighs more than the row's right side.
use Rattle.std.proofs.Common.{◌≡◌, ℕ, Bool, true, false, cond, ◌&&◌, List, [], ◌∷◌, ◌++◌, map, filter, Some, None, refl, sym, ap, ◌∙◌}
use Rattle.std.specs.Prelude.{int_lt, slice_get}
use Rattle.std.specs.List.{find}
use Rattle.std.proofs.lemmas.Bool.{and_from, and_parts, false≢true, false_from_ne_true}
use Rattle.std.proofs.lemmas.List.{append-nil}
use Rattle.define_pools.proofs.Each.{each_everywhere, each_filter, each_map, each_mapped, none_pass}
use Rattle.define_rows.specs.Row.{Row}
use Rattle.define_searches.specs.Classes.{Class, Classes, IsSearchable}
use Rattle.define_searches.specs.Compositions.{all_counts, attains, compositions, counts_of, is_composition, weight_in}
use Rattle.define_searches.specs.Fronts.{HaveEntries, is_live_above}
use Rattle.define_searches.proofs.BestSearch.{filter-flat_map, flat_map-map, live_from_better, whole_from_live}
use Rattle.define_searches.proofs.FirstSearch.{Gives, InOrder, Split, all_counts_give, child_splits, completions, completions_of_none, empty_splits, first, get_first, in_turn_finds, of_children}
use Rattle.define_checks.specs.Caps.{first_above}
use Rattle.define_checks.specs.Visits.{above_search, enter_above}

-- The first of the elements that satisfy `p` is the one that `find` finds.
find_first : {X : Type 0} (p : X → Bool) (xs : List X) → slice_get (filter p xs) 0 ≡ find p xs
find_first p [] = refl
find_first p (x ∷ xs) =
    elim (p x) as (λ b. slice_get (cond b (x ∷ filter p xs) (filter p xs)) 0 ≡ cond b (Some x) (find p xs)) [
      | true ↦ refl
      | false ↦ find_first p xs
    ]

module _ (all : Classes) (closed : List Row) (row : Row) (entries : HaveEntries all (row ∷ closed)) where
  -- the counts attain the closed rows, and weigh more than the row's right side
  abbrev qualifies : List ℕ → Bool
  qualifies counts = attains closed counts && int_lt row.b (weight_in row.a counts)

  abbrev live : List ℕ → Bool
  live = is_live_above all closed row row.b

  -- the compositions that begin with a front and qualify
  abbrev sought : List ℕ → List Class → List (List ℕ)
  sought front later = filter qualifies (completions all front later)

  none_sought : (pre later : List Class) (front : List ℕ) → Split all pre later front → InOrder later → live front ≡ false → sought front later ≡ []
  none_sought pre later front split order dead =
      none_pass qualifies (completions all front later)
      (each_filter (λ counts. qualifies counts ≡ false) (is_composition all) (map (λ counts. front ++ counts) (all_counts later))
      (each_mapped (λ counts. is_composition all counts ≡ true → qualifies counts ≡ false) (λ counts. front ++ counts) (all_counts later)
      (each_map (Gives later) (λ counts. is_composition all (front ++ counts) ≡ true → qualifies (front ++ counts) ≡ false)
      (λ counts gives composes. false_from_ne_true (qualifies (front ++ counts))
      (λ passes. let parts = and_parts (attains closed (front ++ counts)) (int_lt row.b (weight_in row.a (front ++ counts))) passes in
      false≢true (sym dead ∙ live_from_better all closed row row.b pre later front counts split gives entries composes parts.0 parts.1)))
      (all_counts later) (all_counts_give later order))))

  enter_finds : (pre later : List Class) (front : List ℕ) → Split all pre later front → InOrder later → live front ≡ true → (enter_above all closed row later front).found ≡ first (sought front later)
  enter_finds pre [] front split order alive =
      let whole = whole_from_live all closed row row.b pre front split alive in
      let composes = whole.composes in
      let passes = and_from (attains closed front) (int_lt row.b (weight_in row.a front)) whole.attained whole.above in
      let same = append-nil front in
      rw (same, composes, passes) (sym (get_first (front ∷ [])))
  enter_finds pre (class ∷ later) front split order alive =
      in_turn_finds (λ child. sought child later) (λ child. enter_above all closed row later child) live (map (λ c. front ++ c ∷ []) (counts_of class))
      (each_mapped (λ child. (live child ≡ true → (enter_above all closed row later child).found ≡ first (sought child later)) × (live child ≡ false → sought child later ≡ []))
      (λ c. front ++ c ∷ []) (counts_of class)
      (each_everywhere (λ c. (live (front ++ c ∷ []) ≡ true → (enter_above all closed row later (front ++ c ∷ [])).found ≡ first (sought (front ++ c ∷ []) later)) × (live (front ++ c ∷ []) ≡ false → sought (front ++ c ∷ []) later ≡ []))
      (λ c. (
        λ alive. enter_finds (pre ++ class ∷ []) later (front ++ c ∷ []) (child_splits all pre later class front c split) order.1 alive,
        λ dead. none_sought (pre ++ class ∷ []) later (front ++ c ∷ []) (child_splits all pre later class front c split) order.1 dead,
      ))
      (counts_of class)))
      ∙ ap first
      (sym (flat_map-map (λ child. sought child later) (λ c. front ++ c ∷ []) (counts_of class))
      ∙ filter-flat_map qualifies (λ c. completions all (front ++ c ∷ []) later) (counts_of class)
      ∙ ap (filter qualifies) (flat_map-map (λ child. completions all child later) (λ c. front ++ c ∷ []) (counts_of class) ∙ of_children all front later (counts_of class)))

  first_sought : first (sought [] all.classes) ≡ first_above all closed row
  first_sought = ap (λ xs. first (filter qualifies xs)) (completions_of_none all) ∙ get_first (filter qualifies (compositions all)) ∙ find_first qualifies (compositions all)

  pub above_search_finds : IsSearchable all → (above_search all closed row).found ≡ first_above all closed row
  above_search_finds searchable =
      (elim (live []) as (λ b. live [] ≡ b → (cond b (enter_above all closed row all.classes []) (record { visits = 1; found = None })).found ≡ first_above all closed row) [
        | true ↦ λ alive. enter_finds [] all.classes [] (empty_splits all) searchable.in_order alive ∙ first_sought
        | false ↦ λ dead. sym (get_first []) ∙ ap first (sym (none_sought [] all.classes [] (empty_splits all) searchable.in_order dead)) ∙ first_sought
      ]) refl
