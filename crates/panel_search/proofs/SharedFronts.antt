-- The parts of a search that shares a word: fronts, and the children of a front.
use Rattle.std.proofs.Common.{◌≡◌, ℕ, ◌+◌, ◌≤◌, ◌<◌, true, false, cond, ◌&&◌, List, [], ◌∷◌, ◌++◌, length, take, drop, fold, ℤ, pos, Some, Result, Ok, Err, refl, sym, ap, ◌∙◌, arith, subst, length-append}
use Rattle.std.specs.Prelude.{Contains, IsErr, int_le, int_lt, ◌<ℤ◌, ◌≤ℤ◌}
use Rattle.std.specs.List.{AllByRecursion, list_all}
use Rattle.std.proofs.lemmas.Bool.{and_parts, and_from, false≢true}
use Rattle.std.proofs.lemmas.Int.{ints, clamps}
use Rattle.std.proofs.lemmas.List.{append-nil, length-drop, take-append-drop, take_all}
use Rattle.define_pools.proofs.Each.{each_right}
use borrow.Author.Differences.{le_out, lt-true, true_is_lt}
use Rattle.define_rows.specs.Row.{Row}
use Rattle.define_searches.specs.Best.{Qualifies}
use Rattle.define_searches.specs.Classes.{Class, Classes, IsSearchable}
use Rattle.define_searches.specs.Compositions.{compositions, counts_of, weight_in}
use Rattle.define_searches.specs.Fronts.{HaveEntries, is_live_above, is_reachable, later_than, optimistic}
use Rattle.define_searches.specs.Visits.{Pricing, enter_best}
use Rattle.define_searches.proofs.BestSearch.{keep, keep_none, told, sought, none_better, enter_best_keeps, whole_from_live}
use Rattle.define_searches.proofs.Contained.{each_itself, filtered}
use Rattle.define_searches.proofs.FirstSearch.{InOrder, Split}
use Rattle.define_searches.specs.Below.{IsFront, begins_with, below, child_best}
use Rattle.define_searches.proofs.Below.{Fits, below_goes_on, fits_none, fitting_is_front, front_fits, front_splits}
use Rattle.define_searches.specs.Front.{AreWithin, Stands}
use Rattle.panel_search.specs.Front.{Tracks}
use Rattle.panel_search.specs.Weights.{Weighs, WeighEach}
use Rattle.panel_search.specs.declared.searching.BudgetSpent.{BudgetSpent}
use Rattle.panel_search.specs.declared.pricing.BestSearch.{BestSearch}
use Rattle.define_searches.proofs.Tracking.{comes_next}
use Rattle.panel_search.specs.Pricers.{Priced}
use Rattle.panel_search.specs.Pricing.{StandsAt, children_best, pricing_of}
use Rattle.panel_search.specs.Sharing.{Exceeds, FrontsWithin, Goes, IsBeaten, IsBounded, Shares, begun_at}
use Rattle.panel_search.proofs.Ranges.{LiveBetween}
use Rattle.panel_search.proofs.BestStepping.{children_within, enter_children, enter_more}
use Rattle.panel_search.proofs.SharedSearches.{IsSearch, Shifted, as_alone, entered_visits, no_part, then, then_exceeds, two_parts, visited}

-- ---- the visits depend on the floor alone

module _ (all : Classes) (closed : List Row) (row : Row) where
  child_shift : (later : List Class) (child : List ℕ) → ((front : List ℕ) (n : ℕ) (a b : Pricing) → Shifted n a b → Shifted n (enter_best all closed row later front a) (enter_best all closed row later front b)) →
      (n : ℕ) (a b : Pricing) → Shifted n a b → Shifted n (child_best all closed row later child a) (child_best all closed row later child b)
  child_shift later child h n a b e =
      let same : is_live_above all closed row a.floor child ≡ is_live_above all closed row b.floor child = ap (λ floor. is_live_above all closed row floor child) e.1 in
      rw same (elim (is_live_above all closed row b.floor child) as (λ t. Shifted n (cond t (enter_best all closed row later child a) a) (cond t (enter_best all closed row later child b) b)) [
        | true ↦ h child n a b e
        | false ↦ e
      ])

  children_shift : (later : List Class) (front counts : List ℕ) → ((front : List ℕ) (n : ℕ) (a b : Pricing) → Shifted n a b → Shifted n (enter_best all closed row later front a) (enter_best all closed row later front b)) →
      (n : ℕ) (a b : Pricing) → Shifted n a b → Shifted n (children_best all closed row later front counts a) (children_best all closed row later front counts b)
  children_shift later front [] h n a b e = e
  children_shift later front (c ∷ counts) h n a b e =
      children_shift later front counts h n (child_best all closed row later (front ++ c ∷ []) a) (child_best all closed row later (front ++ c ∷ []) b) (child_shift later (front ++ c ∷ []) h n a b e)

  enter_shift : (later : List Class) (front : List ℕ) (n : ℕ) (a b : Pricing) → Shifted n a b → Shifted n (enter_best all closed row later front a) (enter_best all closed row later front b)
  enter_shift [] front n a b e = (omega (arith, e.0), refl)
  enter_shift (class ∷ later) front n a b e = children_shift later front (counts_of class) (enter_shift later) n (visited a) (visited b) (omega (arith, e.0), e.1)

-- ---- fronts as parts of a search

module _ (all : Classes) (closed : List Row) (row : Row) (searchable : IsSearchable all) (entries : HaveEntries all (row ∷ closed)) where
  order : (front : List ℕ) → InOrder (later_than front all.classes)
  order front =
      each_right (λ (class : Class). class.least ≤ class.most) (take (length front) all.classes) (later_than front all.classes)
      (subst InOrder (sym (take-append-drop (length front) all.classes)) searchable.in_order)

  split_part : (pre later : List Class) (front : List ℕ) → Split all pre later front → InOrder later → IsSearch (weight_in row.a) (child_best all closed row later front) (sought all closed front later)
  split_part pre later front split order = record {
    keeps = λ now. (elim (is_live_above all closed row now.floor front) as (λ b. is_live_above all closed row now.floor front ≡ b →
        told (cond b (enter_best all closed row later front now) now) ≡ fold (keep (weight_in row.a)) (told now) (sought all closed front later)) [
          | true ↦ λ live. enter_best_keeps all closed row pre later front now split order entries live
          | false ↦ λ dead. sym (keep_none (weight_in row.a) now.floor now.kept (sought all closed front later) (none_better all closed row now.floor pre later front split order entries dead))
        ]) refl;
    shift = child_shift all closed row later front (enter_shift all closed row later);
  }

  -- what the search below a front goes through
  abbrev pub below_front : ℕ → List ℕ → List (List ℕ)
  below_front depth front = sought all closed front (drop depth all.classes)

  pub front_part : (depth : ℕ) (front : List ℕ) → length front ≡ depth → depth ≤ length all.classes → IsSearch (weight_in row.a) (child_best all closed row (drop depth all.classes) front) (below_front depth front)
  front_part depth front long few =
      subst (λ n. IsSearch (weight_in row.a) (child_best all closed row (drop n all.classes) front) (sought all closed front (drop n all.classes))) long
      (split_part (take (length front) all.classes) (later_than front all.classes) front (front_splits all front (omega (arith, long, few))) (order front))

  pub child_part : (depth count : ℕ) (front : List ℕ) → length front ≡ depth → depth < length all.classes →
      IsSearch (weight_in row.a) (child_best all closed row (drop (depth + 1) all.classes) (front ++ count ∷ [])) (below_front (depth + 1) (front ++ count ∷ []))
  child_part depth count front long deep = front_part (depth + 1) (front ++ count ∷ []) (omega (arith, length-append front (count ∷ []), long)) (omega arith)

  -- what the search below some children of a front goes through
  abbrev pub below_children : ℕ → List ℕ → List ℕ → List (List ℕ)
  below_children depth front [] = []
  below_children depth front (c ∷ counts) = below_front (depth + 1) (front ++ c ∷ []) ++ below_children depth front counts

  pub children_part : (depth : ℕ) (front counts : List ℕ) → length front ≡ depth → depth < length all.classes →
      IsSearch (weight_in row.a) (children_best all closed row (drop (depth + 1) all.classes) front counts) (below_children depth front counts)
  children_part depth front [] long deep = no_part (weight_in row.a)
  children_part depth front (c ∷ counts) long deep =
      two_parts (weight_in row.a) (child_best all closed row (drop (depth + 1) all.classes) (front ++ c ∷ [])) (children_best all closed row (drop (depth + 1) all.classes) front counts)
      (below_front (depth + 1) (front ++ c ∷ [])) (below_children depth front counts) (child_part depth c front long deep) (children_part depth front counts long deep)

-- ---- a live front

module _ (all : Classes) (closed : List Row) (row : Row) where
  -- a front that is live above a floor is live above a lower one
  live_lower : (floor low : ℤ) (front : List ℕ) → is_live_above all closed row floor front ≡ true → low ≤ℤ floor → is_live_above all closed row low front ≡ true
  live_lower floor low front live le =
      let rest = is_reachable all front && list_all (λ r. int_le r.b (optimistic all r front)) closed in
      let parts = and_parts rest (int_lt floor (optimistic all row front)) live in
      and_from rest (int_lt low (optimistic all row front)) parts.0 (sym (true_is_lt low (optimistic all row front) (omega (arith, lt-true floor (optimistic all row front) parts.1, le_out low floor le))))

  -- from a floor that is no higher, a live front is entered
  pub is_entered : (floor : ℤ) (later : List Class) (front : List ℕ) → is_live_above all closed row floor front ≡ true → (now : Pricing) → now.floor ≤ℤ floor → child_best all closed row later front now ≡ enter_best all closed row later front now
  is_entered floor later front live now le = ap (λ b. cond b (enter_best all closed row later front now) now) (live_lower floor now.floor front live le)

  -- a front that isn't live is passed over
  pub is_passed : (later : List Class) (front : List ℕ) (now : Pricing) → is_live_above all closed row now.floor front ≡ false → child_best all closed row later front now ≡ now
  is_passed later front now dead = ap (λ b. cond b (enter_best all closed row later front now) now) dead

  -- the weights of a child, and whether it is reachable, tell whether it is live
  pub live_is : (floor : ℤ) (child : List ℕ) (allowed : _) → is_reachable all child ≡ true → allowed ≡ (list_all (λ r. int_le r.b (optimistic all r child)) closed && int_lt floor (optimistic all row child)) → is_live_above all closed row floor child ≡ allowed
  live_is floor child allowed reachable e = ap (λ b. b && list_all (λ r. int_le r.b (optimistic all r child)) closed && int_lt floor (optimistic all row child)) reachable ∙ sym e

  -- if no visit is left, a live front can't be entered
  pub spent_here : (later : List Class) (front : List ℕ) (before : Pricing) (nodes : ℕ) → is_live_above all closed row before.floor front ≡ true → before.visits ≡ nodes → Exceeds (child_best all closed row later front) before nodes
  spent_here later front before nodes live spent u under =
      let more = enter_more all closed row later front (begun_at u) in
      let same = ap (λ now. now.visits) (is_entered before.floor later front live (begun_at u) under) in
      omega (arith, more, same, spent)

  pub with_children : (floor : ℤ) (depth : ℕ) (class : Class) (front : List ℕ) (low end : ℕ) → Stands all depth class → class.least ≤ class.most → LiveBetween all front class low end → is_live_above all closed row floor front ≡ true →
      (now : Pricing) → now.floor ≤ℤ floor → child_best all closed row (drop depth all.classes) front now ≡ children_within all closed row depth front low end (visited now)
  with_children floor depth class front low end stands order between live now le =
      is_entered floor (drop depth all.classes) front live now le ∙ enter_children all closed row depth class front low end now stands order between

  -- a front of all classes is kept
  abbrev pub kept_whole : List ℕ → Pricing → Pricing
  kept_whole front now = record now { floor = weight_in row.a front; kept = Some front }

  pub as_whole : (floor : ℤ) (front : List ℕ) (later : List Class) → later ≡ [] → is_live_above all closed row floor front ≡ true → (now : Pricing) → now.floor ≤ℤ floor → child_best all closed row later front now ≡ kept_whole front (visited now)
  as_whole floor front later none live now le = is_entered floor later front live now le ∙ ap (λ later. enter_best all closed row later front now) none

  pub kept_shift : (front : List ℕ) (n : ℕ) (a b : Pricing) → Shifted n a b → Shifted n (kept_whole front a) (kept_whole front b)
  kept_shift front n a b e = (e.0, refl)

-- ---- a live front of all classes

-- no class comes after all classes
pub none_after : (depth : ℕ) (classes : List Class) → depth ≡ length classes → drop depth classes ≡ []
none_after depth classes e = by (drop depth classes) (omega (arith, length-drop depth classes, e))
  where
    by : (left : List Class) → length left ≡ 0 → left ≡ []
    by [] e = refl
    by (class ∷ left) e = absurd (omega arith)

-- such a front is a composition that attains the closed rows and weighs more than the floor
pub qualifies : (all : Classes) (closed : List Row) (row : Row) (floor : ℤ) (front : List ℕ) → IsFront all front → length front ≡ length all.classes → is_live_above all closed row floor front ≡ true → row.b ≤ℤ floor →
    Qualifies all closed row front × (floor <ℤ weight_in row.a front)
qualifies all closed row floor front is long live above =
    let none = none_after (length front) all.classes long in
    let split : Split all (take (length front) all.classes) [] front = subst (λ later. Split all (take (length front) all.classes) later front) none (front_splits all front (omega (arith, long))) in
    let whole = whole_from_live all closed row floor (take (length front) all.classes) front split live in
    let heavier : floor <ℤ weight_in row.a front = let e = whole.above in omega (arith, ints) in
    let each : AllByRecursion (Contains (compositions all)) (below all front) = firsts (below all front) (filtered (Contains (compositions all)) (begins_with front) (compositions all) (each_itself (compositions all))) in
    let goes_on = below_goes_on all front is in
    let same = append-nil front in
    let composes = whole.composes in
    let only : below all front ≡ front ∷ [] = goes_on ∙ (rw (none, same, composes) refl) in
    let e : int_lt row.b (weight_in row.a front) ≡ true = sym (true_is_lt row.b (weight_in row.a front) (omega (arith, lt-true floor (weight_in row.a front) whole.above, le_out row.b floor above))) in
    (record { composition = (subst (AllByRecursion (Contains (compositions all))) only each).0; attained = whole.attained; above = e }, heavier)
  where
    firsts : (xs : List (List ℕ)) → AllByRecursion (λ x. Contains (compositions all) x × (begins_with front x ≡ true)) xs → AllByRecursion (Contains (compositions all)) xs
    firsts [] h = tt
    firsts (x ∷ xs) h = (h.0.0, firsts xs h.1)

-- a lighter word is beaten by it
pub beats : (priced : Priced) (front : List ℕ) → Qualifies priced.classes priced.closed priced.row front → (n : ℕ) → pos n <ℤ weight_in priced.row.a front → IsBeaten priced n
beats priced front qualifies n lt = record { counts = front; qualifies = qualifies; heavier = lt }

-- ---- fronts with one count more

fits_next : (pre later : List Class) (class : Class) (front : List ℕ) (c : ℕ) → Fits (pre ++ class ∷ later) front → length front ≡ length pre → class.least ≤ c → c ≤ class.most → Fits (pre ++ class ∷ later) (front ++ c ∷ [])
fits_next [] later class [] c fits e l m = ((l, m), fits_none later)
fits_next [] later class (b ∷ front) c fits e l m = absurd (omega arith)
fits_next (one ∷ pre) later class [] c fits e l m = absurd (omega arith)
fits_next (one ∷ pre) later class (b ∷ front) c fits e l m = (fits.0, fits_next pre later class front c fits.1 (omega arith) l m)

pub fronts_next : (all : Classes) (depth : ℕ) (class : Class) (front : List ℕ) (low end : ℕ) → IsFront all front → length front ≡ depth → Stands all depth class → LiveBetween all front class low end → FrontsWithin all front low end
fronts_next all depth class front low end is long stands live count l m =
    let split = front_splits all front is.few in
    let next : later_than front all.classes ≡ class ∷ drop (depth + 1) all.classes = ap (λ n. drop n all.classes) long ∙ comes_next all depth class stands in
    let whole : all.classes ≡ take (length front) all.classes ++ class ∷ drop (depth + 1) all.classes = split.whole ∙ ap (λ later. take (length front) all.classes ++ later) next in
    let here = live.inside count l m in
    fitting_is_front all (front ++ count ∷ []) (subst (λ classes. Fits classes (front ++ count ∷ [])) (sym whole)
    (fits_next (take (length front) all.classes) (drop (depth + 1) all.classes) class front count (subst (λ classes. Fits classes front) whole (front_fits all front is)) split.fits here.0 (omega (arith, here.1))))

-- ---- what the contracts of the code need

pub bounded_on : (priced : Priced) (due : Pricing → Pricing) (before after : Pricing) (seen last : ℕ) → IsBounded priced before.floor seen → Shares priced due before seen after last → IsBounded priced after.floor last
bounded_on priced due before after seen last bounded shares = record {
  above = let above = bounded.above in let rises = shares.rises in omega (arith, ints);
  no_less = let floor = shares.floor in omega (arith, ints, clamps);
  stands = shares.stands;
}

pub goes_err : (all : Classes) (closed : List Row) (row : Row) (depth : ℕ) (later : List Class) (priced : Priced) (due : Pricing → Pricing) (before : BestSearch) (seen : ℕ) (result : Result (Unit {0}) BudgetSpent) (after : BestSearch) (last : ℕ) →
    IsErr result → Exceeds due (pricing_of before) before.nodes → Goes all closed row depth later priced due before seen result after last
goes_err all closed row depth later priced due before seen (Ok done) after last e exceeds = absurd (false≢true e)
goes_err all closed row depth later priced due before seen (Err spent) after last e exceeds = exceeds

pub goes_on : (weight : List ℕ → ℤ) (one other : Pricing → Pricing) (xs ys : List (List ℕ)) → IsSearch weight one xs → IsSearch weight other ys →
    (all : Classes) (closed : List Row) (row : Row) (depth : ℕ) (later : List Class) (priced : Priced) (before middle after : BestSearch) (seen loaded last : ℕ) (result : Result (Unit {0}) BudgetSpent) →
    Shares priced one (pricing_of before) seen (pricing_of middle) loaded → take depth middle.counts.items ≡ take depth before.counts.items → middle.nodes ≡ before.nodes →
    Goes all closed row depth later priced other middle loaded result after last → Goes all closed row depth later priced (λ now. other (one now)) before seen result after last
goes_on weight one other xs ys first second all closed row depth later priced before middle after seen loaded last (Ok done) a e n b =
    (then weight one other xs ys first second priced (pricing_of before) (pricing_of middle) (pricing_of after) seen loaded last a b.0, b.1 ∙ e, b.2 ∙ n, omega (arith, b.3, n), b.4)
goes_on weight one other xs ys first second all closed row depth later priced before middle after seen loaded last (Err spent) a e n b = λ u under.
    let spent = then_exceeds weight one other xs ys first second priced (pricing_of before) (pricing_of middle) seen loaded middle.nodes a b u under in omega (arith, spent, n)

-- a live front of all classes that is kept
pub keeps_whole : (all : Classes) (closed : List Row) (row : Row) (priced : Priced) (depth : ℕ) (front : List ℕ) (before after : Pricing) (seen : ℕ) (xs : List (List ℕ)) →
    IsSearch (weight_in row.a) (child_best all closed row (drop depth all.classes) front) xs → depth ≡ length all.classes → IsBounded priced before.floor seen → is_live_above all closed row before.floor front ≡ true →
    after ≡ kept_whole all closed row front (visited before) → Shares priced (child_best all closed row (drop depth all.classes) front) before seen after seen
keeps_whole all closed row priced depth front before after seen xs search end bounded live is =
    let later = drop depth all.classes in
    let whole = as_whole all closed row before.floor front later (none_after depth all.classes end) live in
    as_alone (weight_in row.a) priced (child_best all closed row later front) xs before after seen search bounded.stands bounded.no_less (is ∙ sym (whole before (omega (arith, ints))))
    (λ u under. omega (arith, ap (λ now. now.visits) is, entered_visits (child_best all closed row later front) (kept_whole all closed row front) before (kept_shift all closed row front) whole u under))

-- if the front is kept, the search is at the same front
pub stands_kept : (all : Classes) (closed : List Row) (row : Row) (depth : ℕ) (rest : List Class) (before after : BestSearch) → StandsAt all closed row depth rest before → after.counts ≡ before.counts → length after.kept.items ≡ length after.counts.items →
    after.tally ≡ before.tally → after.priced ≡ before.priced → after.closed ≡ before.closed → StandsAt all closed row depth rest after
stands_kept all closed row depth rest before after stands e kept f g h =
    let items = ap (λ counts. counts.items) e in
    let places = ap length items ∙ stands.places in
    record {
      places = places;
      kept_places = kept ∙ places;
      within = stands.within;
      live = ap (λ xs. is_reachable all (take depth xs)) items ∙ stands.live;
      counts = subst (λ xs. AreWithin all (take depth xs)) (sym items) stands.counts;
      tally = subst (λ xs. Tracks all (take depth xs) rest after.tally) (sym items) (subst (Tracks all (take depth before.counts.items) rest) (sym f) stands.tally);
      priced = subst (λ xs. Weighs all row (take depth xs) after.priced) (sym items) (subst (Weighs all row (take depth before.counts.items)) (sym g) stands.priced);
      closed_rows = subst (λ xs. WeighEach all closed (take depth xs) after.closed.items) (sym items) (subst (λ rows. WeighEach all closed (take depth before.counts.items) rows.items) (sym h) stands.closed_rows);
    }

-- all counts are the front of all classes
pub whole_front : (depth : ℕ) (items : List ℕ) (n : ℕ) → length items ≡ n → depth ≡ n → take depth items ≡ items
whole_front depth items n e f = take_all depth items (omega (arith, e, f))
