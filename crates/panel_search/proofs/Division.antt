-- How a search is cut into pieces, class by class.
use Rattle.std.proofs.Common.{◌≡◌, ℕ, zero, suc, ◌+◌, ◌-◌, ◌*◌, ◌≤◌, ◌<◌, Bool, true, false, cond, leb, ltb, ◌&&◌, List, [], ◌∷◌, ◌++◌, length, take, drop, filter, map, get_or, refl, sym, ap, ◌∙◌, arith, subst, length-append, append_assoc}
use Rattle.std.specs.Prelude.{int_le, int_lt, ℤ, Result, Ok, Err, Vec}
use Rattle.std.specs.Result.{IsErrAnd}
use Rattle.std.specs.declared.alloc.Global.{Global}
use Rattle.std.specs.List.{AllByRecursion, flat_map, list_all, range_with_len}
use Rattle.std.proofs.lemmas.Bool.{false_from_ne_true, leb-true, le-leb, ltb-true, ltb-false}
use Rattle.std.proofs.lemmas.List.{append-nil, drop_more, length-take-le}
use Rattle.std.proofs.lemmas.List.FromFn.{get_or-range_with_len, length-range_with_len}
use Rattle.std.proofs.lemmas.List.Sums.{fold-append, position_or_len_is}
use Rattle.std.proofs.lemmas.Nat.{mul-le}
use Rattle.define_pools.proofs.Each.{each_append, each_filter, each_map, each_mapped}
use Rattle.define_rows.specs.Row.{Row}
use Rattle.define_searches.specs.Classes.{Class, Classes, KeepsLimits}
use Rattle.define_searches.specs.Compositions.{counts_of}
use Rattle.define_searches.specs.Fronts.{is_live_above, is_reachable, optimistic}
use Rattle.define_searches.specs.Waves.{Pieces, lists_of, piece_depth, pieces, pieces_below, together}
use Rattle.define_searches.specs.Below.{IsFront}
use Rattle.define_searches.proofs.Below.{Fits, fitting_is_front, fits_none, front_fits}
use Rattle.define_searches.proofs.Pieces.{counts_within, depth_within}
use Rattle.panel_search.specs.Answers.{AnswersPieces}
use Rattle.panel_search.specs.declared.searching.SearchStop.{SearchStop}
use Rattle.panel_search.specs.declared.searching.SearchStop.TheVariants.{Spent}
use Rattle.panel_search.specs.Pieces.{IsLiveFront, counts_first, live_among, live_children}
use Rattle.panel_search.specs.Steps.{counts_below}
use Rattle.define_searches.specs.Front.{Stands}
use Rattle.define_searches.proofs.Fronts.{class_limits}
use Rattle.panel_search.proofs.Ranges.{LiveBetween, below_next, below_none, live_counts}
use Rattle.define_searches.proofs.Tracking.{comes_next, stands_there}

-- ---- how many classes the front of a piece has

lists_next : (all : Classes) (depth : ℕ) (class : Class) → Stands all depth class → lists_of (take (depth + 1) all.classes) ≡ lists_of (take depth all.classes) * (class.most - class.least + 1)
lists_next all depth class stands =
    let more : take (depth + 1) all.classes ≡ take depth all.classes ++ class ∷ [] = taken all.classes depth class stands.below stands.is in
    ap lists_of more ∙ fold-append (λ lists (class : Class). lists * (class.most - class.least + 1)) 1 (take depth all.classes) (class ∷ [])
  where
    taken : (xs : List Class) (n : ℕ) (x : Class) → n < length xs → x ≡ get_or xs n x → take (n + 1) xs ≡ take n xs ++ x ∷ []
    taken [] n x l e = absurd (omega arith)
    taken (y ∷ ys) zero x l e = ap (λ (z : Class). z ∷ []) (sym e)
    taken (y ∷ ys) (suc n) x l e = let same : suc n + 1 ≡ suc (n + 1) = omega arith in rw same (ap (λ (zs : List Class). y ∷ zs) (taken ys n x (omega arith) e))

-- if the first `k` classes have fewer than 64 lists of counts, for each `k` up to `depth`, then the first `depth + 1` classes have `next`
-- lists, at most 300000
pub few_next : (all : Classes) (depth lists next : ℕ) (class : Class) → KeepsLimits all → Stands all depth class → lists ≡ lists_of (take depth all.classes) → lists < 64 → ((k : ℕ) → k < depth → lists_of (take k all.classes) < 64) →
    next ≡ lists * (class.most - class.least + 1) →
    (next ≡ lists_of (take (depth + 1) all.classes)) × (next ≤ 300000) × ((k : ℕ) → k < depth + 1 → lists_of (take k all.classes) < 64)
few_next all depth lists next class limits stands e few earlier f =
    let bounds = class_limits all depth class limits stands in
    let ways : class.most - class.least + 1 ≤ 4001 = omega (arith, bounds.0, bounds.1, bounds.2) in (
      f ∙ ap (λ n. n * (class.most - class.least + 1)) e ∙ sym (lists_next all depth class stands),
      omega (arith, f, product lists (class.most - class.least + 1) few ways),
      λ k l. by k l,
    )
  where
    product : (m n : ℕ) → m < 64 → n ≤ 4001 → m * n ≤ 300000
    product m n l k = omega (arith, mul-le m n 63 4001 (omega arith) k)

    by : (k : ℕ) → k < depth + 1 → lists_of (take k all.classes) < 64
    by k l = (elim (ltb k depth) as (λ b. ltb k depth ≡ b → lists_of (take k all.classes) < 64) [
      | true ↦ λ t. earlier k (ltb-true k depth t)
      | false ↦ λ t. let same : k ≡ depth = omega (arith, ltb-false k depth t) in omega (arith, ap (λ n. lists_of (take n all.classes)) same, e)
    ]) refl

pub depth_is : (all : Classes) (depth : ℕ) → depth ≤ length all.classes → ((k : ℕ) → k < depth → lists_of (take k all.classes) < 64) → (depth < length all.classes → 64 ≤ lists_of (take depth all.classes)) → depth ≡ piece_depth all
depth_is all depth within earlier here =
    let size = length-range_with_len 0 (length all.classes) in
    sym (position_or_len_is (λ depth. leb 64 (lists_of (take depth all.classes))) (range_with_len 0 (length all.classes)) depth 0 (omega arith)
    (λ k l. ap (λ n. leb 64 (lists_of (take n all.classes))) (place k (omega arith)) ∙ not_yet (lists_of (take k all.classes)) (earlier k l))
    (λ l. ap (λ n. leb 64 (lists_of (take n all.classes))) (place depth (omega arith)) ∙ le-leb 64 (lists_of (take depth all.classes)) (here (omega arith))))
  where
    place : (k : ℕ) → k < length all.classes → get_or (range_with_len 0 (length all.classes)) k 0 ≡ k
    place k l = omega (arith, get_or-range_with_len 0 (length all.classes) k 0 l)

    not_yet : (n : ℕ) → n < 64 → leb 64 n ≡ false
    not_yet n l = false_from_ne_true (leb 64 n) (λ e. absurd (omega (arith, leb-true 64 n e)))

-- ---- the live children of a front

among_next : (all : Classes) (closed : List Row) (row : Row) (floor : ℤ) (front : List ℕ) (c : ℕ) (counts : List ℕ) →
    live_among all closed row floor front (c ∷ counts) ≡ live_among all closed row floor front (c ∷ []) ++ live_among all closed row floor front counts
among_next all closed row floor front c counts =
    elim (is_live_above all closed row floor (front ++ c ∷ [])) as (λ b. cond b ((front ++ c ∷ []) ∷ live_among all closed row floor front counts) (live_among all closed row floor front counts)
    ≡ cond b ((front ++ c ∷ []) ∷ []) [] ++ live_among all closed row floor front counts) [
      | true ↦ refl
      | false ↦ refl
    ]

-- if `end` is at most `low`, there is no live child
pub among_none : (all : Classes) (closed : List Row) (row : Row) (floor : ℤ) (front : List ℕ) (low end : ℕ) → end ≤ low → live_among all closed row floor front (counts_below low end) ≡ []
among_none all closed row floor front low end l = ap (live_among all closed row floor front) (below_none low end l)

-- if `low` is below `end`, the child with the count `end - 1` comes first, if it is live, and then the live children with smaller counts
pub among_more : (all : Classes) (closed : List Row) (row : Row) (floor : ℤ) (front : List ℕ) (low end : ℕ) → low < end →
    live_among all closed row floor front (counts_below low end) ≡ live_among all closed row floor front ((end - 1) ∷ []) ++ live_among all closed row floor front (counts_below low (end - 1))
among_more all closed row floor front low end l = ap (live_among all closed row floor front) (below_next low end l) ∙ among_next all closed row floor front (end - 1) (counts_below low (end - 1))

-- leaving out the children that aren't reachable leaves the same live children
passed_over : (all : Classes) (closed : List Row) (row : Row) (floor : ℤ) (front counts : List ℕ) →
    live_among all closed row floor front counts ≡ live_among all closed row floor front (filter (λ c. is_reachable all (front ++ c ∷ [])) counts)
passed_over all closed row floor front [] = refl
passed_over all closed row floor front (c ∷ counts) =
    let child = front ++ c ∷ [] in
    let rest = passed_over all closed row floor front counts in
    let left = live_among all closed row floor front counts in
    let others = filter (λ c. is_reachable all (front ++ c ∷ [])) counts in
    let weighs = list_all (λ r. int_le r.b (optimistic all r child)) closed in
    let above = int_lt floor (optimistic all row child) in
    (elim (is_reachable all child) as (λ b. is_reachable all child ≡ b → cond (is_live_above all closed row floor child) (child ∷ left) left ≡ live_among all closed row floor front (cond b (c ∷ others) others)) [
      | true ↦ λ e. ap (λ children. cond (is_live_above all closed row floor child) (child ∷ children) children) rest
      | false ↦ λ e. ap (λ b. cond (b && weighs && above) (child ∷ left) left) e ∙ rest
    ]) refl

-- if exactly the counts in `low..end` make reachable children of `front`, the live children with these counts are all live children of
-- `front`
pub among_all : (all : Classes) (closed : List Row) (row : Row) (front : List ℕ) (class : Class) (low end : ℕ) → Stands all (length front) class → class.least ≤ class.most → LiveBetween all front class low end →
    live_among all closed row row.b front (counts_below low end) ≡ live_children all closed row front
among_all all closed row front class low end stands order live =
    ap (live_among all closed row row.b front) (sym (live_counts all front class low end order live.inside live.outside))
    ∙ sym (ap (live_among all closed row row.b front) (ap counts_first (comes_next all (length front) class stands)) ∙ passed_over all closed row row.b front (counts_of class))

-- ---- from the live fronts of `depth` classes to those of one class more

abbrev pub firsts : Classes → List Class
firsts all = take (piece_depth all) all.classes

-- the pieces below `fronts`, each a front of the first `depth` classes
abbrev pub below_each : Classes → List Row → Row → ℕ → List (List ℕ) → Pieces
below_each all closed row depth fronts = together (map (λ front. pieces_below all closed row (drop depth (firsts all)) front) fronts)

-- the pieces are those below `here`, which are live fronts of `depth` classes, and `so_far` visits were made before
pub record GoesOn (all : Classes) (closed : List Row) (row : Row) (depth so_far : ℕ) (here : List (List ℕ)) : Type 0 where
  pub live : AllByRecursion (IsLiveFront all closed row depth) here
  pub visits : (pieces all closed row).visits ≡ so_far + (below_each all closed row depth here).visits
  pub fronts : (pieces all closed row).fronts ≡ (below_each all closed row depth here).fronts

pub goes_first : (all : Classes) (closed : List Row) (row : Row) (fronts : List (List ℕ)) → fronts ≡ filter (is_live_above all closed row row.b) ([] ∷ []) → (length fronts ≡ 0 → ⊥) → GoesOn all closed row 0 0 fronts
goes_first all closed row fronts e some = by (is_live_above all closed row row.b []) refl
  where
    by : (b : Bool) → is_live_above all closed row row.b [] ≡ b → GoesOn all closed row 0 0 fronts
    by false dead = absurd (some (ap length e ∙ ap (λ b. let left : List (List ℕ) = cond b ([] ∷ []) [] in length left) dead))
    by true live =
        let only : fronts ≡ [] ∷ [] = e ∙ ap (λ b. cond b ([] ∷ []) []) live in
        let begun : pieces all closed row ≡ pieces_below all closed row (firsts all) [] = ap (λ b. cond b (pieces_below all closed row (firsts all) []) (record { visits = 1; fronts = [] })) live in
        subst (GoesOn all closed row 0 0) (sym only) (record {
          live = (record { long = refl; is_front = fitting_is_front all [] (fits_none all.classes); live = live }, tt);
          visits = omega (arith, ap (λ (p : Pieces). p.visits) begun);
          fronts = ap (λ (p : Pieces). p.fronts) begun ∙ sym (append-nil (pieces_below all closed row (firsts all) []).fronts);
        })

pub none_begun : (all : Classes) (closed : List Row) (row : Row) (fronts : List (List ℕ)) → fronts ≡ filter (is_live_above all closed row row.b) ([] ∷ []) → length fronts ≡ 0 → (fronts ≡ []) × (pieces all closed row ≡ record { visits = 1; fronts = [] })
none_begun all closed row fronts e none = by (is_live_above all closed row row.b []) refl
  where
    by : (b : Bool) → is_live_above all closed row row.b [] ≡ b → (fronts ≡ []) × (pieces all closed row ≡ record { visits = 1; fronts = [] })
    by true live = absurd (omega (arith, ap length e, ap (λ b. let left : List (List ℕ) = cond b ([] ∷ []) [] in length left) live))
    by false dead = (
      e ∙ ap (λ b. cond b ([] ∷ []) []) dead,
      ap (λ b. cond b (pieces_below all closed row (firsts all) []) (record { visits = 1; fronts = [] })) dead,
    )

together-append : {X : Type 0} (below : X → Pieces) (xs ys : List X) →
    ((together (map below (xs ++ ys))).visits ≡ (together (map below xs)).visits + (together (map below ys)).visits) × ((together (map below (xs ++ ys))).fronts ≡ (together (map below xs)).fronts ++ (together (map below ys)).fronts)
together-append below [] ys = (omega arith, refl)
together-append below (x ∷ xs) ys =
    let rest = together-append below xs ys in
    (omega (arith, rest.0), ap (λ zs. (below x).fronts ++ zs) rest.1 ∙ sym (append_assoc (below x).fronts (together (map below xs)).fronts (together (map below ys)).fronts))

-- the pieces below fronts are those below their live children, and each front counts one visit
enter_each : (all : Classes) (closed : List Row) (row : Row) (class : Class) (later : List Class) (fronts : List (List ℕ)) → AllByRecursion (λ front. counts_first (drop (length front) all.classes) ≡ counts_of class) fronts →
    ((together (map (λ front. pieces_below all closed row (class ∷ later) front) fronts)).visits ≡ length fronts + (together (map (λ front. pieces_below all closed row later front) (flat_map (live_children all closed row) fronts))).visits)
    × ((together (map (λ front. pieces_below all closed row (class ∷ later) front) fronts)).fronts ≡ (together (map (λ front. pieces_below all closed row later front) (flat_map (live_children all closed row) fronts))).fronts)
enter_each all closed row class later [] h = (omega arith, refl)
enter_each all closed row class later (front ∷ fronts) h =
    let below : List ℕ → Pieces = λ front. pieces_below all closed row later front in
    let rest = enter_each all closed row class later fronts h.1 in
    let split = together-append below (live_children all closed row front) (flat_map (live_children all closed row) fronts) in
    let same : live_among all closed row row.b front (counts_of class) ≡ live_children all closed row front = ap (live_among all closed row row.b front) (sym h.0) in (
      omega (arith, rest.0, split.0, ap (λ children. (together (map below children)).visits) same),
      ap (λ children. (together (map below children)).fronts ++ (together (map (λ front. pieces_below all closed row (class ∷ later) front) fronts)).fronts) same
          ∙ ap (λ zs. (together (map below (live_children all closed row front))).fronts ++ zs) rest.1 ∙ sym split.1,
    )

-- if a piece's front has more than `depth` classes, its classes from place `depth` on are `class`, followed by those from place `depth + 1`
-- on
pub firsts_from : (all : Classes) (depth : ℕ) (class : Class) → Stands all depth class → depth < piece_depth all → drop depth (firsts all) ≡ class ∷ drop (depth + 1) (firsts all)
firsts_from all depth class stands below =
    let size = length-take-le (piece_depth all) all.classes (depth_within all) in
    drop_more (firsts all) depth class (omega arith) ∙ ap (λ (c : Class). c ∷ drop (depth + 1) (firsts all)) (first_same (piece_depth all) all.classes depth class below ∙ sym stands.is)
  where
    first_same : (n : ℕ) (xs : List Class) (i : ℕ) (d : Class) → i < n → get_or (take n xs) i d ≡ get_or xs i d
    first_same zero xs i d l = absurd (omega arith)
    first_same (suc n) [] i d l = refl
    first_same (suc n) (x ∷ xs) zero d l = refl
    first_same (suc n) (x ∷ xs) (suc i) d l = first_same n xs i d (omega arith)

fits_next : (classes : List Class) (front : List ℕ) (class : Class) (c : ℕ) → length front < length classes → class ≡ get_or classes (length front) class → class.least ≤ c → c ≤ class.most → Fits classes front → Fits classes (front ++ c ∷ [])
fits_next [] front class c below is l m fits = absurd (omega arith)
fits_next (one ∷ classes) [] class c below is l m fits = (subst (λ (one : Class). (one.least ≤ c) × (c ≤ one.most)) is (l, m), fits_none classes)
fits_next (one ∷ classes) (b ∷ front) class c below is l m fits = (fits.0, fits_next classes front class c (omega arith) is l m fits.1)

front_more : (all : Classes) (front : List ℕ) (depth : ℕ) (class : Class) (c : ℕ) → length front ≡ depth → Stands all depth class → class.least ≤ c → c ≤ class.most → IsFront all front → IsFront all (front ++ c ∷ [])
front_more all front depth class c long stands l m is =
    fitting_is_front all (front ++ c ∷ []) (fits_next all.classes front class c (omega (arith, long, stands.below)) (stands.is ∙ ap (λ n. get_or all.classes n class) (sym long)) l m (front_fits all front is))

children_live : (all : Classes) (closed : List Row) (row : Row) (depth : ℕ) (class : Class) (front : List ℕ) → KeepsLimits all → Stands all depth class → IsLiveFront all closed row depth front →
    AllByRecursion (IsLiveFront all closed row (depth + 1)) (live_among all closed row row.b front (counts_of class))
children_live all closed row depth class front limits stands here =
    let bounds = class_limits all depth class limits stands in
    each_filter (IsLiveFront all closed row (depth + 1)) (is_live_above all closed row row.b) (map (λ c. front ++ c ∷ []) (counts_of class))
    (each_mapped (λ child. is_live_above all closed row row.b child ≡ true → IsLiveFront all closed row (depth + 1) child) (λ c. front ++ c ∷ []) (counts_of class)
    (each_map (λ c. (class.least ≤ c) × (c ≤ class.most)) (λ c. is_live_above all closed row row.b (front ++ c ∷ []) ≡ true → IsLiveFront all closed row (depth + 1) (front ++ c ∷ []))
    (λ c within live. child c within.0 within.1 live) (counts_of class)
    (counts_within class.least (class.most - class.least) class.most (omega (arith, bounds.0)))))
  where
    child : (c : ℕ) → class.least ≤ c → c ≤ class.most → is_live_above all closed row row.b (front ++ c ∷ []) ≡ true → IsLiveFront all closed row (depth + 1) (front ++ c ∷ [])
    child c l m live = record {
      long = omega (arith, length-append front (c ∷ []), here.long);
      is_front = front_more all front depth class c here.long stands l m here.is_front;
      live = live;
    }

pub goes_next : (all : Classes) (closed : List Row) (row : Row) (depth visits more : ℕ) (class : Class) (fronts next : List (List ℕ)) → KeepsLimits all → Stands all depth class → depth < piece_depth all → GoesOn all closed row depth visits fronts →
    next ≡ flat_map (live_children all closed row) fronts → more ≡ visits + length fronts → GoesOn all closed row (depth + 1) more next
goes_next all closed row depth visits more class fronts next limits stands below goes e f =
    let from = firsts_from all depth class stands below in
    let later = drop (depth + 1) (firsts all) in
    let counts : AllByRecursion (λ front. counts_first (drop (length front) all.classes) ≡ counts_of class) fronts = each_count fronts goes.live in
    let step = enter_each all closed row class later fronts counts in
    let here = ap (λ classes. together (map (λ front. pieces_below all closed row classes front) fronts)) from in
    subst (GoesOn all closed row (depth + 1) more) (sym e) (record {
      live = each_child fronts goes.live counts;
      visits = omega (arith, goes.visits, ap (λ (p : Pieces). p.visits) here, step.0);
      fronts = goes.fronts ∙ ap (λ (p : Pieces). p.fronts) here ∙ step.1;
    })
  where
    each_count : (fronts : List (List ℕ)) → AllByRecursion (IsLiveFront all closed row depth) fronts → AllByRecursion (λ front. counts_first (drop (length front) all.classes) ≡ counts_of class) fronts
    each_count [] h = tt
    each_count (front ∷ fronts) h = (ap (λ n. counts_first (drop n all.classes)) h.0.long ∙ ap counts_first (comes_next all depth class stands), each_count fronts h.1)

    each_child : (fronts : List (List ℕ)) → AllByRecursion (IsLiveFront all closed row depth) fronts → AllByRecursion (λ front. counts_first (drop (length front) all.classes) ≡ counts_of class) fronts →
        AllByRecursion (IsLiveFront all closed row (depth + 1)) (flat_map (live_children all closed row) fronts)
    each_child [] h k = tt
    each_child (front ∷ fronts) h k =
        each_append (IsLiveFront all closed row (depth + 1)) (live_children all closed row front) (flat_map (live_children all closed row) fronts)
        (subst (λ counts. AllByRecursion (IsLiveFront all closed row (depth + 1)) (live_among all closed row row.b front counts)) (sym k.0) (children_live all closed row depth class front limits stands h.0))
        (each_child fronts h.1 k.1)

-- if the pieces are those below `fronts` after `visits` visits, and `visits` and one visit to each of `fronts` exceed the budget, the
-- visits of the whole division exceed it
pub goes_too_far : (all : Classes) (closed : List Row) (row : Row) (depth visits nodes : ℕ) (class : Class) (fronts : List (List ℕ)) → Stands all depth class → depth < piece_depth all → GoesOn all closed row depth visits fronts →
    nodes < visits + length fronts → nodes < (pieces all closed row).visits
goes_too_far all closed row depth visits nodes class fronts stands below goes l =
    let from = firsts_from all depth class stands below in
    let counts : AllByRecursion (λ front. counts_first (drop (length front) all.classes) ≡ counts_of class) fronts = each_count fronts goes.live in
    let step = enter_each all closed row class (drop (depth + 1) (firsts all)) fronts counts in
    let here = ap (λ classes. together (map (λ front. pieces_below all closed row classes front) fronts)) from in
    omega (arith, l, goes.visits, ap (λ (p : Pieces). p.visits) here, step.0)
  where
    each_count : (fronts : List (List ℕ)) → AllByRecursion (IsLiveFront all closed row depth) fronts → AllByRecursion (λ front. counts_first (drop (length front) all.classes) ≡ counts_of class) fronts
    each_count [] h = tt
    each_count (front ∷ fronts) h = (ap (λ n. counts_first (drop n all.classes)) h.0.long ∙ ap counts_first (comes_next all depth class stands), each_count fronts h.1)

-- if the pieces are those below `fronts` after `visits` visits, and `fronts` are as long as a piece's front, they are the fronts of the
-- pieces, and no more visits are made
pub goes_last : (all : Classes) (closed : List Row) (row : Row) (depth visits : ℕ) (fronts : List (List ℕ)) → depth ≡ piece_depth all → GoesOn all closed row depth visits fronts → ((pieces all closed row).visits ≡ visits) × ((pieces all closed row).fronts ≡ fronts)
goes_last all closed row depth visits fronts e goes =
    let none : drop depth (firsts all) ≡ [] = ap (λ n. drop n (firsts all)) (e ∙ sym (length-take-le (piece_depth all) all.classes (depth_within all))) ∙ dropped (firsts all) in
    let here = ap (λ classes. together (map (λ front. pieces_below all closed row classes front) fronts)) none in
    let only = each_only fronts in
    (omega (arith, goes.visits, ap (λ (p : Pieces). p.visits) here, only.0), goes.fronts ∙ ap (λ (p : Pieces). p.fronts) here ∙ only.1)
  where
    dropped : (xs : List Class) → drop (length xs) xs ≡ []
    dropped [] = refl
    dropped (x ∷ xs) = dropped xs

    each_only : (fronts : List (List ℕ)) → ((together (map (λ front. pieces_below all closed row [] front) fronts)).visits ≡ 0) × ((together (map (λ front. pieces_below all closed row [] front) fronts)).fronts ≡ fronts)
    each_only [] = (refl, refl)
    each_only (front ∷ fronts) = let rest = each_only fronts in (omega (arith, rest.0), ap (λ zs. front ∷ zs) rest.1)

-- ---- what the contracts of the code need

-- the class that the code reads at the index `length front` is the class after the front
pub stands_after : (all : Classes) (front items : List ℕ) (classes : List Class) (class : Class) → length front < length all.classes → items ≡ front → classes ≡ all.classes → class ≡ get_or classes (length items) class → Stands all (length front) class
stands_after all front items classes class below e f is =
    stands_there all (length front) classes class below f (is ∙ ap (λ xs. get_or classes (length xs) class) e)

-- if the visits are more than the budget, `Spent` is a right answer
pub pieces_spent : (parts : Pieces) (nodes : ℕ) (result : Result (Vec (List ℕ) Global × ℕ) SearchStop) → IsErrAnd result (λ e. e ≡ Spent) → nodes < parts.visits → AnswersPieces parts nodes result
pieces_spent parts nodes (Ok answer) h l = absurd h
pieces_spent parts nodes (Err stop) h l = subst (λ stop. AnswersPieces parts nodes (Err stop)) (sym h) l
