-- The search through live fronts finds the cheapest team.
use Rattle.std.proofs.Common.{◌≡◌, ℕ, ◌+◌, ◌-◌, ◌≤◌, Bool, true, false, cond, List, [], ◌∷◌, ◌++◌, map, filter, fold, sum_by, Option, Some, None, refl, sym, ap, ◌∙◌, arith, append_assoc}
use Rattle.std.specs.List.{flat_map, enumerate_from, AllByRecursion}
use Rattle.std.proofs.lemmas.Bool.{and_parts, and_from, ltb-true, lt-ltb, false≢true, false_from_ne_true}
use Rattle.std.proofs.lemmas.List.{map-append, map-id, append-nil}
use Rattle.std.proofs.lemmas.List.Elements.{filter-append}
use Rattle.std.proofs.lemmas.List.Sums.{fold-append}
use Rattle.define_pools.proofs.Each.{each_map, each_mapped, each_filter, each_everywhere}
use Rattle.define_pools.proofs.Sums.{sum_by-is-total, total_le}
use Rattle.define_searches.specs.declared.Bounds.{Bounds}
use Rattle.define_searches.specs.Classes.{Class, Classes, IsSearchable}
use Rattle.define_searches.specs.Compositions.{counts_of, all_counts, taken_of, has_value, is_composition}
use Rattle.define_searches.specs.Fronts.{later_than, most_given}
use Rattle.define_searches.proofs.FirstSearch.{Gives, InOrder, Split, all_counts_give, child_splits, composition_from_live, empty_splits, later_is, live_from_composition, taken_split, taken_within_most}
use Rattle.define_searches.proofs.BestSearch.{flat_map-map}
use Rattle.define_quotas.specs.Costs.{team_counts, cost, surely_missed, sure_cost, cheapest_team, widened}
use Rattle.define_quotas.specs.CostSearch.{leads_to_team, may_cost_less, is_live_below, CostSearch, enter_cheapest, cheapest_search}
use Rattle.define_quotas.specs.Teams.{missed_by}
use Rattle.define_quotas.proofs.Keeping.{costs_less, keep, keep_none, keeps_first_cheapest}

-- ---- a front and the teams that begin with it

wide_split : (all : Classes) (pre later : List Class) (front : List ℕ) → Split all pre later front → Split (widened all) pre later front
wide_split all pre later front split = record { whole = split.whole; fits = split.fits }

-- if the counts of a team begin with a front, the front leads to a team
leads_from_team : (all : Classes) (pre later : List Class) (front counts : List ℕ) → Split all pre later front → Gives later counts →
    is_composition (widened all) (front ++ counts) ≡ true → leads_to_team all front ≡ true
leads_from_team all pre later front counts split gives team =
    live_from_composition (widened all) pre later front counts (wide_split all pre later front split) gives team

-- a front of all classes that leads to a team is a team's counts
team_from_front : (all : Classes) (pre : List Class) (front : List ℕ) → Split all pre [] front → leads_to_team all front ≡ true → is_composition (widened all) front ≡ true
team_from_front all pre front split leads = composition_from_live (widened all) pre front (wide_split all pre [] front split) leads

-- ---- the cost of counts that begin with a front

-- if each term of one sum over the values is at most the same term of another, the first sum is at most the second
sums_within : (f g : ℕ → ℕ → Bounds → ℕ) → ((c v : ℕ) (bound : Bounds) → f c v bound ≤ g c v bound) → (bounds : List (List Bounds)) →
    sum_by (λ (c, values). sum_by (λ (v, bound). f c v bound) (enumerate_from 0 values)) (enumerate_from 0 bounds)
    ≤ sum_by (λ (c, values). sum_by (λ (v, bound). g c v bound) (enumerate_from 0 values)) (enumerate_from 0 bounds)
sums_within f g le bounds =
    let F : ℕ × List Bounds → ℕ = λ (c, values). sum_by (λ (v, bound). f c v bound) (enumerate_from 0 values) in
    let G : ℕ × List Bounds → ℕ = λ (c, values). sum_by (λ (v, bound). g c v bound) (enumerate_from 0 values) in
    let here = total_le F G (enumerate_from 0 bounds) (each_everywhere (λ x. F x ≤ G x) (λ (c, values).
    let A : ℕ × Bounds → ℕ = λ (v, bound). f c v bound in let B : ℕ × Bounds → ℕ = λ (v, bound). g c v bound in
    let inner = total_le A B (enumerate_from 0 values) (each_everywhere (λ x. A x ≤ B x) (λ (v, bound). le c v bound) (enumerate_from 0 values)) in
    omega (arith, inner, sum_by-is-total A (enumerate_from 0 values), sum_by-is-total B (enumerate_from 0 values))) (enumerate_from 0 bounds)) in
    omega (arith, here, sum_by-is-total F (enumerate_from 0 bounds), sum_by-is-total G (enumerate_from 0 bounds))

surely_within : (lower upper taken more most : ℕ) → more ≤ most → (lower - (taken + most)) + (taken - upper) ≤ missed_by lower upper (taken + more)
surely_within lower upper taken more most l = omega arith

-- counts that begin with a front cost at least the front's sure cost
sure_cost_within : (all : Classes) (pre later : List Class) (front counts : List ℕ) → Split all pre later front → Gives later counts → sure_cost all front ≤ cost all (front ++ counts)
sure_cost_within all pre later front counts split gives =
    sums_within (λ c v bound. surely_missed bound (taken_of (has_value c v) all.classes front) (most_given (has_value c v) (later_than front all.classes)))
    (λ c v bound. missed_by bound.lower bound.upper (taken_of (has_value c v) all.classes (front ++ counts)))
    (λ c v bound.
    let after = later_is all pre later front split in let whole = taken_split all pre later front counts split (has_value c v) in
    rw (after, whole) (surely_within bound.lower bound.upper (taken_of (has_value c v) all.classes front) (taken_of (has_value c v) later counts) (most_given (has_value c v) later)
    (taken_within_most (has_value c v) later counts gives)))
    all.bounds

missed_without : (lower upper taken : ℕ) → missed_by lower upper taken ≤ (lower - (taken + 0)) + (taken - upper)
missed_without lower upper taken = omega arith

-- if a front has counts for all classes, they cost at most its sure cost
cost_of_all : (all : Classes) (pre : List Class) (front : List ℕ) → Split all pre [] front → cost all front ≤ sure_cost all front
cost_of_all all pre front split =
    sums_within (λ c v bound. missed_by bound.lower bound.upper (taken_of (has_value c v) all.classes front))
    (λ c v bound. surely_missed bound (taken_of (has_value c v) all.classes front) (most_given (has_value c v) (later_than front all.classes)))
    (λ c v bound. let after = later_is all pre [] front split in rw after (missed_without bound.lower bound.upper (taken_of (has_value c v) all.classes front)))
    all.bounds

-- if a front has counts for all classes and its sure cost is less than the cost of the counts kept, its counts cost less too
whole_costs_less : (all : Classes) (pre : List Class) (kept : Option (List ℕ)) (front : List ℕ) → Split all pre [] front → may_cost_less all kept front ≡ true → costs_less (cost all) kept front ≡ true
whole_costs_less all pre None front split less = refl
whole_costs_less all pre (Some kept) front split less =
    let l = ltb-true (sure_cost all front) (cost all kept) less in let within = cost_of_all all pre front split in lt-ltb (cost all front) (cost all kept) (omega arith)

-- if counts that begin with a front cost less than those kept, the front's sure cost is less too
front_costs_less : (all : Classes) (pre later : List Class) (kept : Option (List ℕ)) (front counts : List ℕ) → Split all pre later front → Gives later counts →
    costs_less (cost all) kept (front ++ counts) ≡ true → may_cost_less all kept front ≡ true
front_costs_less all pre later None front counts split gives less = refl
front_costs_less all pre later (Some kept) front counts split gives less =
    let l = ltb-true (cost all (front ++ counts)) (cost all kept) less in let within = sure_cost_within all pre later front counts split gives in lt-ltb (sure_cost all front) (cost all kept) (omega arith)

-- ---- the teams that begin with a front

abbrev teams_from : Classes → List ℕ → List Class → List (List ℕ)
teams_from all front later = filter (is_composition (widened all)) (map (λ counts. front ++ counts) (all_counts later))

-- if a front isn't live, no team that begins with it costs less than what is kept
none_cheaper : (all : Classes) (kept : Option (List ℕ)) (pre later : List Class) (front : List ℕ) → Split all pre later front → InOrder later →
    is_live_below all kept front ≡ false → AllByRecursion (λ counts. costs_less (cost all) kept counts ≡ false) (teams_from all front later)
none_cheaper all kept pre later front split order dead =
    each_filter (λ counts. costs_less (cost all) kept counts ≡ false) (is_composition (widened all)) (map (λ counts. front ++ counts) (all_counts later))
    (each_mapped (λ counts. is_composition (widened all) counts ≡ true → costs_less (cost all) kept counts ≡ false) (λ counts. front ++ counts) (all_counts later)
    (each_map (Gives later) (λ counts. is_composition (widened all) (front ++ counts) ≡ true → costs_less (cost all) kept (front ++ counts) ≡ false)
    (λ counts gives team. false_from_ne_true (costs_less (cost all) kept (front ++ counts))
    (λ less. false≢true (sym dead ∙ and_from (leads_to_team all front) (may_cost_less all kept front)
    (leads_from_team all pre later front counts split gives team) (front_costs_less all pre later kept front counts split gives less))))
    (all_counts later) (all_counts_give later order)))

joined : (front : List ℕ) (c : ℕ) (xs : List (List ℕ)) → map (λ counts. front ++ counts) (map (λ counts. c ∷ counts) xs) ≡ map (λ counts. (front ++ c ∷ []) ++ counts) xs
joined front c [] = refl
joined front c (x ∷ xs) =
    let e : front ++ (c ∷ x) ≡ (front ++ c ∷ []) ++ x = sym (append_assoc front (c ∷ []) x) in let rest = joined front c xs in cc

-- the teams that begin with a front are those that begin with its children, in the order of the children
of_children : (all : Classes) (front : List ℕ) (later : List Class) (cs : List ℕ) →
    flat_map (λ child. teams_from all child later) (map (λ c. front ++ c ∷ []) cs)
    ≡ filter (is_composition (widened all)) (map (λ counts. front ++ counts) (flat_map (λ c. map (λ counts. c ∷ counts) (all_counts later)) cs))
of_children all front later [] = refl
of_children all front later (c ∷ cs) =
    let X = map (λ counts. c ∷ counts) (all_counts later) in
    let Y = flat_map (λ c. map (λ counts. c ∷ counts) (all_counts later)) cs in
    let rest = of_children all front later cs in
    let a = map-append (λ counts. front ++ counts) X Y in
    let b = filter-append (is_composition (widened all)) (map (λ counts. front ++ counts) X) (map (λ counts. front ++ counts) Y) in
    let j = joined front c (all_counts later) in
    rw (a, b, j, rest) refl

-- ---- the search

children_keep : (enter : ℕ → CostSearch → CostSearch) (live : Option (List ℕ) → ℕ → Bool) (L : ℕ → List (List ℕ)) (price : List ℕ → ℕ) →
    ((c : ℕ) (now : CostSearch) → live now.kept c ≡ true → (enter c now).kept ≡ fold (keep price) now.kept (L c)) →
    ((c : ℕ) (now : CostSearch) → live now.kept c ≡ false → fold (keep price) now.kept (L c) ≡ now.kept) →
    (cs : List ℕ) (now : CostSearch) → (fold (λ now c. cond (live now.kept c) (enter c now) now) now cs).kept ≡ fold (keep price) now.kept (flat_map L cs)
children_keep enter live L price enters dead [] now = refl
children_keep enter live L price enters dead (c ∷ cs) now =
    let next : CostSearch = cond (live now.kept c) (enter c now) now in
    let rest = children_keep enter live L price enters dead cs next in
    let here : next.kept ≡ fold (keep price) now.kept (L c) =
    (elim (live now.kept c) as (λ b. live now.kept c ≡ b → (cond b (enter c now) now).kept ≡ fold (keep price) now.kept (L c)) [
      | true ↦ λ e. enters c now e
      | false ↦ λ e. sym (dead c now e)
    ]) refl in
    rest ∙ ap (λ begun. fold (keep price) begun (flat_map L cs)) here ∙ sym (fold-append (keep price) now.kept (L c) (flat_map L cs))

enter_keeps : (all : Classes) (pre later : List Class) (front : List ℕ) (so_far : CostSearch) → Split all pre later front → InOrder later →
    is_live_below all so_far.kept front ≡ true → (enter_cheapest all later front so_far).kept ≡ fold (keep (cost all)) so_far.kept (teams_from all front later)
enter_keeps all pre [] front so_far split order live =
    let parts = and_parts (leads_to_team all front) (may_cost_less all so_far.kept front) live in
    let team = team_from_front all pre front split parts.0 in
    let less = whole_costs_less all pre so_far.kept front split parts.1 in
    let same = append-nil front in
    rw (same, team, less) refl
enter_keeps all pre (class ∷ later) front so_far split order live =
    children_keep (λ c now. enter_cheapest all later (front ++ c ∷ []) now) (λ kept c. is_live_below all kept (front ++ c ∷ [])) (λ c. teams_from all (front ++ c ∷ []) later) (cost all)
    (λ c now live. enter_keeps all (pre ++ class ∷ []) later (front ++ c ∷ []) now (child_splits all pre later class front c split) order.1 live)
    (λ c now dead. keep_none (cost all) now.kept (teams_from all (front ++ c ∷ []) later)
    (none_cheaper all now.kept (pre ++ class ∷ []) later (front ++ c ∷ []) (child_splits all pre later class front c split) order.1 dead))
    (counts_of class) (record { visits = so_far.visits + 1; kept = so_far.kept })
    ∙ ap (fold (keep (cost all)) so_far.kept) (flat_map-map (λ child. teams_from all child later) (λ c. front ++ c ∷ []) (counts_of class) ∙ of_children all front later (counts_of class))

pub search_keeps_cheapest : (all : Classes) → IsSearchable all → (cheapest_search all).kept ≡ cheapest_team all
search_keeps_cheapest all searchable =
    let kept : fold (keep (cost all)) None (teams_from all [] all.classes) ≡ cheapest_team all =
    ap (λ xs. fold (keep (cost all)) None (filter (is_composition (widened all)) xs)) (map-id (all_counts all.classes)) ∙ keeps_first_cheapest (cost all) (team_counts all) in
    (elim (is_live_below all None []) as (λ b. is_live_below all None [] ≡ b →
    (cond b (enter_cheapest all all.classes [] (record { visits = 0; kept = None })) (record { visits = 1; kept = None })).kept ≡ cheapest_team all) [
      | true ↦ λ live. enter_keeps all [] all.classes [] (record { visits = 0; kept = None }) (empty_splits all) searchable.in_order live ∙ kept
      | false ↦ λ dead. sym (keep_none (cost all) None (teams_from all [] all.classes) (none_cheaper all None [] all.classes [] (empty_splits all) searchable.in_order dead)) ∙ kept
    ]) refl
