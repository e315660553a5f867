-- The search through live fronts for the best composition finds the price.
use Rattle.std.proofs.Common.{◌≡◌, ℕ, zero, suc, ◌+◌, ◌-◌, Bool, true, false, cond, ◌&&◌, List, [], ◌∷◌, ◌++◌, map, length, filter, take, drop, fold, ℤ, pos, ◌+ℤ◌, Option, Some, None, refl, sym, ap, ◌∙◌, arith, length-append}
use Rattle.std.specs.Prelude.{int_le, int_lt, unwrap_or}
use Rattle.std.specs.List.{list_all, flat_map, AllByRecursion}
use Rattle.std.proofs.lemmas.Bool.{and_parts, and_from, false≢true, false_from_ne_true}
use Rattle.std.proofs.lemmas.List.{length-drop, append-nil}
use Rattle.std.proofs.lemmas.List.Elements.{filter-append}
use Rattle.std.proofs.lemmas.List.Sums.{fold-append}
use borrow.Author.Differences.{sum_is_lem, same_in, le-true, lt-true, true_is_le, true_is_lt}
use Rattle.define_pools.proofs.Each.{each_map, each_mapped, each_filter}
use Rattle.define_rows.specs.Row.{Row}
use Rattle.define_searches.specs.Classes.{Class, Classes, IsSearchable}
use Rattle.define_searches.specs.Compositions.{counts_of, all_counts, taken_of, is_composition, compositions, weight_in, attains, first_greatest, price}
use Rattle.define_searches.specs.Fronts.{HaveEntries, later_than, taken_by, is_reachable, sum_of, greatest_sum, optimistic, is_live_above}
use Rattle.define_searches.specs.Visits.{Pricing, enter_best, best_search}
use Rattle.define_searches.proofs.FirstSearch.{composition_parts, Gives, InOrder, all_counts_give, Split, later_is, taken_split, live_from_composition, composition_from_live, completions, of_children, child_splits, completions_of_none, empty_splits}
use Rattle.define_searches.proofs.GreatestSum.{AtMost, weight_within_greatest, weight-append}

-- ---- optimistic weights

-- a composition that begins with a front weighs at most the front's optimistic weight
weight_within_optimistic : (all : Classes) (pre later : List Class) (front counts : List ℕ) (row : Row) → Split all pre later front → Gives later counts → length row.a ≡ length all.classes →
    is_composition all (front ++ counts) ≡ true → AtMost (weight_in row.a (front ++ counts)) (optimistic all row front)
weight_within_optimistic all pre later front counts row split gives entries composes =
    let after = later_is all pre later front split in
    let size = (composition_parts all (front ++ counts) composes).size in
    let taken = taken_split all pre later front counts split (λ class. true) in
    let lack : taken_of (λ class. true) later counts ≡ all.size - taken_by all front = omega arith in
    let whole = ap length split.whole in
    let fits = split.fits in
    let rest : length (drop (length front) row.a) ≡ length later = omega (arith, length-drop (length front) row.a, length-append pre later) in
    let within = weight_within_greatest later (drop (length front) row.a) counts rest gives in
    let greatest : AtMost (weight_in (drop (length front) row.a) counts) (greatest_sum (all.size - taken_by all front) (later_than front all.classes) (drop (length front) row.a)) = rw (after, ← lack) within in
    omega (arith, greatest, weight-append row.a front counts (omega (arith, length-append pre later)), sum_is_lem (weight_in row.a front) (greatest_sum (all.size - taken_by all front) (later_than front all.classes) (drop (length front) row.a)))

-- if no class comes after a front, its optimistic weight is its weight
optimistic_of_all : (all : Classes) (pre : List Class) (front : List ℕ) (row : Row) → Split all pre [] front → optimistic all row front ≡ weight_in row.a front
optimistic_of_all all pre front row split =
    let after = later_is all pre [] front split in
    let none : greatest_sum (all.size - taken_by all front) [] (drop (length front) row.a) ≡ pos 0 = nothing (all.size - taken_by all front) in
    rw (after, none) (same_in (weight_in row.a front +ℤ pos 0) (weight_in row.a front) (omega (arith, sum_is_lem (weight_in row.a front) (pos 0))))
  where
    nothing : (n : ℕ) → sum_of (take n []) ≡ pos 0
    nothing zero = refl
    nothing (suc n) = refl

at_least_of : (b x y : ℤ) → AtMost x y → int_le b x ≡ true → int_le b y ≡ true
at_least_of b x y h e = sym (true_is_le b y (omega (arith, le-true b x e)))

above_of : (b x y : ℤ) → AtMost x y → int_lt b x ≡ true → int_lt b y ≡ true
above_of b x y h e = sym (true_is_lt b y (omega (arith, lt-true b x e)))

-- a front is live if some composition begins with it, attains the closed rows and weighs more than the floor
pub live_from_better : (all : Classes) (closed : List Row) (row : Row) (floor : ℤ) (pre later : List Class) (front counts : List ℕ) → Split all pre later front → Gives later counts → HaveEntries all (row ∷ closed) →
    is_composition all (front ++ counts) ≡ true → attains closed (front ++ counts) ≡ true → int_lt floor (weight_in row.a (front ++ counts)) ≡ true → is_live_above all closed row floor front ≡ true
live_from_better all closed row floor pre later front counts split gives entries composes attained above =
    let live = live_from_composition all pre later front counts split gives composes in
    and_from (is_reachable all front && list_all (λ r. int_le r.b (optimistic all r front)) closed) (int_lt floor (optimistic all row front))
    (and_from (is_reachable all front) (list_all (λ r. int_le r.b (optimistic all r front)) closed) live (each_closed closed entries.1 attained))
    (above_of floor (weight_in row.a (front ++ counts)) (optimistic all row front) (weight_within_optimistic all pre later front counts row split gives entries.0 composes) above)
  where
    each_closed : (closed : List Row) → AllByRecursion (λ row. length row.a ≡ length all.classes) closed → attains closed (front ++ counts) ≡ true → list_all (λ r. int_le r.b (optimistic all r front)) closed ≡ true
    each_closed [] h e = refl
    each_closed (r ∷ closed) h e =
        let parts = and_parts (int_le r.b (weight_in r.a (front ++ counts))) (attains closed (front ++ counts)) e in
        and_from (int_le r.b (optimistic all r front)) (list_all (λ r. int_le r.b (optimistic all r front)) closed)
        (at_least_of r.b (weight_in r.a (front ++ counts)) (optimistic all r front) (weight_within_optimistic all pre later front counts r split gives h.0 composes) parts.0)
        (each_closed closed h.1 parts.1)

-- `front` is a composition that attains the closed rows and weighs more than `floor` in `row`
pub record Whole (all : Classes) (closed : List Row) (row : Row) (floor : ℤ) (front : List ℕ) : Type 0 where
  pub composes : is_composition all front ≡ true
  pub attained : attains closed front ≡ true
  pub above : int_lt floor (weight_in row.a front) ≡ true

-- a live front of all classes is a composition that attains the closed rows and weighs more than the floor
pub whole_from_live : (all : Classes) (closed : List Row) (row : Row) (floor : ℤ) (pre : List Class) (front : List ℕ) → Split all pre [] front → is_live_above all closed row floor front ≡ true → Whole all closed row floor front
whole_from_live all closed row floor pre front split live =
    let all_parts = and_parts (is_reachable all front && list_all (λ r. int_le r.b (optimistic all r front)) closed) (int_lt floor (optimistic all row front)) live in
    let parts = and_parts (is_reachable all front) (list_all (λ r. int_le r.b (optimistic all r front)) closed) all_parts.0 in
    record {
      composes = composition_from_live all pre front split parts.0;
      attained = attained_from closed parts.1;
      above = rw (optimistic_of_all all pre front row split) at all_parts.1;
    }
  where
    attained_from : (closed : List Row) → list_all (λ r. int_le r.b (optimistic all r front)) closed ≡ true → attains closed front ≡ true
    attained_from [] e = refl
    attained_from (r ∷ closed) e =
        let parts = and_parts (int_le r.b (optimistic all r front)) (list_all (λ r. int_le r.b (optimistic all r front)) closed) e in
        let whole = optimistic_of_all all pre front r split in
        and_from (int_le r.b (weight_in r.a front)) (attains closed front) (rw whole at parts.0) (attained_from closed parts.1)

-- ---- keeping the best of a list

abbrev pub Kept : Type 0
Kept = ℤ × Option (List ℕ)

-- one step of keeping: a list is kept if it weighs more than the floor, and its weight is the floor from then on
abbrev pub keep : (List ℕ → ℤ) → Kept → List ℕ → Kept
keep weight now counts = cond (int_lt now.0 (weight counts)) (weight counts, Some counts) now

pub keep_none : (weight : List ℕ → ℤ) (floor : ℤ) (kept : Option (List ℕ)) (xs : List (List ℕ)) → AllByRecursion (λ counts. int_lt floor (weight counts) ≡ false) xs → fold (keep weight) (floor, kept) xs ≡ (floor, kept)
keep_none weight floor kept [] h = refl
keep_none weight floor kept (x ∷ xs) h = let e = h.0 in rw e (keep_none weight floor kept xs h.1)

abbrev or_kept : Option (List ℕ) → Option (List ℕ) → Option (List ℕ)
or_kept None kept = kept
or_kept (Some x) kept = Some x

keeps_greatest : (weight : List ℕ → ℤ) (floor : ℤ) (kept : Option (List ℕ)) (xs : List (List ℕ)) → (fold (keep weight) (floor, kept) xs).1 ≡ or_kept (first_greatest weight floor xs) kept
keeps_greatest weight floor kept [] = refl
keeps_greatest weight floor kept (x ∷ xs) =
    (elim (int_lt floor (weight x)) as (λ b. (fold (keep weight) (cond b (weight x, Some x) (floor, kept)) xs).1
    ≡ or_kept (cond b (Some (unwrap_or (first_greatest weight (weight x) xs) x)) (first_greatest weight floor xs)) kept) [
      | true ↦ keeps_greatest weight (weight x) (Some x) xs ∙ later (first_greatest weight (weight x) xs)
      | false ↦ keeps_greatest weight floor kept xs
    ])
  where
    later : (o : Option (List ℕ)) → or_kept o (Some x) ≡ Some (unwrap_or o x)
    later None = refl
    later (Some y) = refl

-- if nothing is kept at first, what is kept at the end is the first of greatest weight above the floor
pub keeps_first_greatest : (weight : List ℕ → ℤ) (floor : ℤ) (xs : List (List ℕ)) → (fold (keep weight) (floor, None) xs).1 ≡ first_greatest weight floor xs
keeps_first_greatest weight floor xs = keeps_greatest weight floor None xs ∙ none_kept (first_greatest weight floor xs)
  where
    none_kept : (o : Option (List ℕ)) → or_kept o None ≡ o
    none_kept None = refl
    none_kept (Some x) = refl

-- ---- the search

-- the floor of a search, and what it has kept
abbrev pub told : Pricing → Kept
told now = (now.floor, now.kept)

pub filter-flat_map : (p : List ℕ → Bool) (L : ℕ → List (List ℕ)) (cs : List ℕ) → flat_map (λ c. filter p (L c)) cs ≡ filter p (flat_map L cs)
filter-flat_map p L [] = refl
filter-flat_map p L (c ∷ cs) = let rest = filter-flat_map p L cs in let a = filter-append p (L c) (flat_map L cs) in rw (a, rest) refl

pub flat_map-map : (L : List ℕ → List (List ℕ)) (f : ℕ → List ℕ) (cs : List ℕ) → flat_map (λ c. L (f c)) cs ≡ flat_map L (map f cs)
flat_map-map L f [] = refl
flat_map-map L f (c ∷ cs) = ap (λ rest. L (f c) ++ rest) (flat_map-map L f cs)

children_keep : (enter : ℕ → Pricing → Pricing) (live : ℤ → ℕ → Bool) (L : ℕ → List (List ℕ)) (weight : List ℕ → ℤ) →
    ((c : ℕ) (now : Pricing) → live now.floor c ≡ true → told (enter c now) ≡ fold (keep weight) (told now) (L c)) →
    ((c : ℕ) (now : Pricing) → live now.floor c ≡ false → fold (keep weight) (told now) (L c) ≡ told now) →
    (cs : List ℕ) (now : Pricing) → told (fold (λ now c. cond (live now.floor c) (enter c now) now) now cs) ≡ fold (keep weight) (told now) (flat_map L cs)
children_keep enter live L weight enters dead [] now = refl
children_keep enter live L weight enters dead (c ∷ cs) now =
    let next : Pricing = cond (live now.floor c) (enter c now) now in
    let rest = children_keep enter live L weight enters dead cs next in
    let here : told next ≡ fold (keep weight) (told now) (L c) =
    (elim (live now.floor c) as (λ b. live now.floor c ≡ b → told (cond b (enter c now) now) ≡ fold (keep weight) (told now) (L c)) [
      | true ↦ λ e. enters c now e
      | false ↦ λ e. sym (dead c now e)
    ]) refl in
    rest ∙ ap (λ begun. fold (keep weight) begun (flat_map L cs)) here ∙ sym (fold-append (keep weight) (told now) (L c) (flat_map L cs))

-- the compositions that begin with `front` and attain the closed rows. `later` are the classes after the front
abbrev pub sought : Classes → List Row → List ℕ → List Class → List (List ℕ)
sought all closed front later = filter (attains closed) (completions all front later)

-- if `front` isn't live above `floor`, no composition that is sought weighs more than `floor`
pub none_better : (all : Classes) (closed : List Row) (row : Row) (floor : ℤ) (pre later : List Class) (front : List ℕ) → Split all pre later front → InOrder later → HaveEntries all (row ∷ closed) →
    is_live_above all closed row floor front ≡ false → AllByRecursion (λ counts. int_lt floor (weight_in row.a counts) ≡ false) (sought all closed front later)
none_better all closed row floor pre later front split order entries dead =
    each_filter (λ counts. int_lt floor (weight_in row.a counts) ≡ false) (attains closed) (completions all front later)
    (each_filter (λ counts. attains closed counts ≡ true → int_lt floor (weight_in row.a counts) ≡ false) (is_composition all) (map (λ counts. front ++ counts) (all_counts later))
    (each_mapped (λ counts. is_composition all counts ≡ true → attains closed counts ≡ true → int_lt floor (weight_in row.a counts) ≡ false) (λ counts. front ++ counts) (all_counts later)
    (each_map (Gives later) (λ counts. is_composition all (front ++ counts) ≡ true → attains closed (front ++ counts) ≡ true → int_lt floor (weight_in row.a (front ++ counts)) ≡ false)
    (λ counts gives composes attained. false_from_ne_true (int_lt floor (weight_in row.a (front ++ counts)))
    (λ above. false≢true (sym dead ∙ live_from_better all closed row floor pre later front counts split gives entries composes attained above)))
    (all_counts later) (all_counts_give later order))))

-- the compositions that are sought below a front are those sought below its children, one child after the other
pub sought_by_child : (all : Classes) (closed : List Row) (front : List ℕ) (class : Class) (later : List Class) →
    flat_map (λ c. sought all closed (front ++ c ∷ []) later) (counts_of class) ≡ sought all closed front (class ∷ later)
sought_by_child all closed front class later =
    filter-flat_map (attains closed) (λ c. completions all (front ++ c ∷ []) later) (counts_of class)
    ∙ ap (filter (attains closed)) (flat_map-map (λ child. completions all child later) (λ c. front ++ c ∷ []) (counts_of class) ∙ of_children all front later (counts_of class))

pub enter_best_keeps : (all : Classes) (closed : List Row) (row : Row) (pre later : List Class) (front : List ℕ) (so_far : Pricing) → Split all pre later front → InOrder later → HaveEntries all (row ∷ closed) →
    is_live_above all closed row so_far.floor front ≡ true → told (enter_best all closed row later front so_far) ≡ fold (keep (weight_in row.a)) (told so_far) (sought all closed front later)
enter_best_keeps all closed row pre [] front so_far split order entries live =
    let whole = whole_from_live all closed row so_far.floor pre front split live in
    let composes = whole.composes in
    let attained = whole.attained in
    let above = whole.above in
    let same = append-nil front in
    rw (same, composes, attained, above) refl
enter_best_keeps all closed row pre (class ∷ later) front so_far split order entries live =
    children_keep (λ c now. enter_best all closed row later (front ++ c ∷ []) now) (λ floor c. is_live_above all closed row floor (front ++ c ∷ [])) (λ c. sought all closed (front ++ c ∷ []) later) (weight_in row.a)
    (λ c now live. enter_best_keeps all closed row (pre ++ class ∷ []) later (front ++ c ∷ []) now (child_splits all pre later class front c split) order.1 entries live)
    (λ c now dead. keep_none (weight_in row.a) now.floor now.kept (sought all closed (front ++ c ∷ []) later)
    (none_better all closed row now.floor (pre ++ class ∷ []) later (front ++ c ∷ []) (child_splits all pre later class front c split) order.1 entries dead))
    (counts_of class) (record so_far { visits = so_far.visits + 1 })
    ∙ ap (fold (keep (weight_in row.a)) (told so_far)) (sought_by_child all closed front class later)

pub search_keeps_price : (all : Classes) (closed : List Row) (row : Row) → IsSearchable all → HaveEntries all (row ∷ closed) → (best_search all closed row).kept ≡ price all closed row
search_keeps_price all closed row searchable entries =
    let begun : Pricing = record { visits = 0; floor = row.b; kept = None } in
    let whole = completions_of_none all in
    let kept : (fold (keep (weight_in row.a)) (row.b, None) (sought all closed [] all.classes)).1 ≡ price all closed row =
    ap (λ xs. (fold (keep (weight_in row.a)) (row.b, None) (filter (attains closed) xs)).1) whole
    ∙ keeps_first_greatest (weight_in row.a) row.b (filter (attains closed) (compositions all)) in
    (elim (is_live_above all closed row row.b []) as (λ b. is_live_above all closed row row.b [] ≡ b → (cond b (enter_best all closed row all.classes [] begun) (record begun { visits = 1 })).kept ≡ price all closed row) [
      | true ↦ λ live. ap (λ (now : Kept). now.1) (enter_best_keeps all closed row [] all.classes [] begun (empty_splits all) searchable.in_order entries live) ∙ kept
      | false ↦ λ dead. ap (λ (now : Kept). now.1) (sym (keep_none (weight_in row.a) row.b None (sought all closed [] all.classes) (none_better all closed row row.b [] all.classes [] (empty_splits all) searchable.in_order entries dead))) ∙ kept
    ]) refl
