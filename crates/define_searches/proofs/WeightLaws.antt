-- The weights of fronts, and bounds on their absolute values.
use Rattle.std.proofs.Common.{◌≡◌, ℕ, zero, suc, ◌+◌, ◌-◌, ◌*◌, ◌^◌, ◌≤◌, ◌<◌, true, false, ◌&&◌, eqb, leb, List, [], ◌∷◌, ◌++◌, length, sum_by, take, drop, set, map, get_or, ℤ, pos, ◌+ℤ◌, ◌*ℤ◌, refl, sym, ap, ◌∙◌, arith, mul-le-mul_right, subst, length-append}
use Rattle.std.specs.Prelude.{unsigned_abs, slice_index}
use Rattle.std.specs.List.{AllByRecursion}
use Rattle.std.proofs.lemmas.Bool.{eqb-true, eqb-false, leb-true, and_parts}
use Rattle.std.proofs.lemmas.Int.{ints, unsigned_abs-mul}
use Rattle.std.proofs.lemmas.List.{take-append-le, length-take-le, length-set, get_or-set_other}
use Rattle.std.proofs.lemmas.Grind.{get_or-set_at}
use Rattle.std.proofs.lemmas.Nat.{mul-add-lt}
use Rattle.std.proofs.lemmas.List.Elements.{recursion_from_All}
use Rattle.std.proofs.Math.Seq.{take-length}
use Rattle.define_pools.proofs.Sums.{sum_by-is-total}
use Rattle.define_rows.specs.Row.{Row, sum_of_sizes}
use Rattle.define_rows.proofs.SumLaws.{abs_sum_le}
use Rattle.define_searches.specs.Classes.{Class, Classes, KeepsLimits}
use Rattle.define_searches.specs.Compositions.{taken_of, takes_one_a_household, weight_in}
use Rattle.define_searches.specs.Fronts.{sizes_of, is_reachable, size_reachable, values_reachable, taken_by, units, greatest_sum, optimistic}
use Rattle.define_searches.specs.Front.{AreWithin}
use Rattle.define_searches.specs.Weights.{at, cell_of, AreNarrow, HoldsSums, Weighs}
use Rattle.define_searches.proofs.UnitSums.{width, greatest_width, units_width}
use Rattle.define_searches.proofs.Tracking.{taken_more}

-- If a front takes `count` of the next class, its weight grows by `count` times the class's entry.
pub weight_more : (entries : List ℤ) (front : List ℕ) (count : ℕ) → length front < length entries → weight_in entries (front ++ count ∷ []) ≡ weight_in entries front +ℤ pos count *ℤ at entries (length front)
weight_more [] front count l = absurd (omega arith)
weight_more (x ∷ []) [] count l = omega (arith, ints)
weight_more (x ∷ y ∷ entries) [] count l = omega (arith, ints)
weight_more (x ∷ entries) (c ∷ front) count l = omega (arith, ints, weight_more entries front count (omega arith))

no_weight : (entries : List ℤ) → weight_in entries [] ≡ pos 0
no_weight [] = refl
no_weight (x ∷ entries) = refl

-- the absolute values of a front's weight, of `count` times the next class's entry, and of the later classes' units sum to at most the sum
-- of sizes times absolute entries
front_width : (classes : List Class) (entries : List ℤ) (front : List ℕ) (count : ℕ) → AllByRecursion (λ class. class.most ≤ length class.members) classes → length entries ≡ length classes → length front < length classes →
    ((t : ℕ) → t < length (front ++ count ∷ []) → slice_index (front ++ count ∷ []) t ≤ slice_index (map (λ class. length class.members) classes) t) →
    unsigned_abs (weight_in entries front) + count * unsigned_abs (at entries (length front)) + width (units (drop (suc (length front)) classes) (drop (suc (length front)) entries))
    ≤ sum_of_sizes (map (λ class. length class.members) classes) entries
front_width [] entries front count most e l within = absurd (omega arith)
front_width (class ∷ classes) [] front count most e l within = absurd (omega arith)
front_width (class ∷ classes) (x ∷ entries) [] count most e l within =
    let here = mul-le-mul_right (unsigned_abs x) (within 0 (omega arith)) in omega (arith, here, units_width classes entries most.1)
front_width (class ∷ classes) (x ∷ entries) (c ∷ front) count most e l within =
    let here = mul-le-mul_right (unsigned_abs x) (within 0 (omega arith)) in
    let rest = front_width classes entries front count most.1 (omega arith) (omega arith) (λ t m. within (suc t) (omega arith)) in
    let sum = abs_sum_le (pos c *ℤ x) (weight_in entries front) (c * unsigned_abs x) (unsigned_abs (weight_in entries front)) (omega (arith, unsigned_abs-mul (pos c) x)) (omega arith) in
    omega (arith, here, rest, sum)

-- the absolute values of the front's weight, of what `count` members of the next class add, and of a greatest sum of later units sum to
-- below 2 ^ 127
pub child_narrow : (all : Classes) (entries : List ℤ) (front : List ℕ) (count n : ℕ) → KeepsLimits all → AreNarrow all entries → length front < length all.classes → AreWithin all (front ++ count ∷ []) →
    unsigned_abs (weight_in entries front) + count * unsigned_abs (at entries (length front)) + unsigned_abs (greatest_sum n (drop (length front + 1) all.classes) (drop (length front + 1) entries)) < 2 ^ 127
child_narrow all entries front count n limits narrow below within =
    let e : suc (length front) ≡ length front + 1 = omega arith in
    let most = recursion_from_All (λ (class : Class). class.most ≤ length class.members) all.classes limits.most in
    let front_fits = subst (λ k. unsigned_abs (weight_in entries front) + count * unsigned_abs (at entries (length front)) + width (units (drop k all.classes) (drop k entries)) ≤ sum_of_sizes (sizes_of all) entries) e
    (front_width all.classes entries front count most narrow.one_each below within) in
    omega (arith, front_fits, greatest_width n (units (drop (length front + 1) all.classes) (drop (length front + 1) entries)), narrow.narrow)

front_width_whole : (classes : List Class) (entries : List ℤ) (front : List ℕ) → AllByRecursion (λ class. class.most ≤ length class.members) classes → length entries ≡ length classes → length front ≤ length classes →
    ((t : ℕ) → t < length front → slice_index front t ≤ slice_index (map (λ class. length class.members) classes) t) →
    unsigned_abs (weight_in entries front) + width (units (drop (length front) classes) (drop (length front) entries)) ≤ sum_of_sizes (map (λ class. length class.members) classes) entries
front_width_whole classes [] [] most e l within = omega (arith, units_width classes [] most)
front_width_whole classes (x ∷ entries) [] most e l within = omega (arith, units_width classes (x ∷ entries) most)
front_width_whole [] entries (c ∷ front) most e l within = absurd (omega arith)
front_width_whole (class ∷ classes) [] (c ∷ front) most e l within = absurd (omega arith)
front_width_whole (class ∷ classes) (x ∷ entries) (c ∷ front) most e l within =
    let here = mul-le-mul_right (unsigned_abs x) (within 0 (omega arith)) in
    let rest = front_width_whole classes entries front most.1 (omega arith) (omega arith) (λ t m. within (suc t) (omega arith)) in
    let sum = abs_sum_le (pos c *ℤ x) (weight_in entries front) (c * unsigned_abs x) (unsigned_abs (weight_in entries front)) (omega (arith, unsigned_abs-mul (pos c) x)) (omega arith) in
    omega (arith, here, rest, sum)

-- a front's weight plus any greatest sum of units of the later classes has an absolute value below 2 ^ 127
pub front_narrow : (all : Classes) (entries : List ℤ) (front : List ℕ) (n : ℕ) → KeepsLimits all → AreNarrow all entries → length front ≤ length all.classes → AreWithin all front →
    unsigned_abs (weight_in entries front +ℤ greatest_sum n (drop (length front) all.classes) (drop (length front) entries)) < 2 ^ 127
front_narrow all entries front n limits narrow few within =
    let most = recursion_from_All (λ (class : Class). class.most ≤ length class.members) all.classes limits.most in
    let greatest = greatest_sum n (drop (length front) all.classes) (drop (length front) entries) in
    omega (
      arith,
      front_width_whole all.classes entries front most narrow.one_each few within,
      greatest_width n (units (drop (length front) all.classes) (drop (length front) entries)),
      narrow.narrow,
      abs_sum_le (weight_in entries front) greatest (unsigned_abs (weight_in entries front)) (unsigned_abs greatest) (omega arith) (omega arith),
    )

-- If `later` is at most the number of classes and `count` at most the size, their cell is in the table.
pub cell_within : (all : Classes) (later count : ℕ) (entries table : List ℤ) → HoldsSums all entries (length all.classes + 1) table → later ≤ length all.classes → count ≤ all.size → cell_of all later count < length table
cell_within all later count entries table holds l m = omega (arith, holds.room, mul-add-lt later (all.size + 1) count (length all.classes + 1) (omega arith) (omega arith))

pub optimistic_child : (all : Classes) (row : Row) (front : List ℕ) (count lack : ℕ) → AreNarrow all row.a → length front < length all.classes → lack ≡ all.size - taken_by all (front ++ count ∷ []) →
    optimistic all row (front ++ count ∷ []) ≡ weight_in row.a front +ℤ pos count *ℤ at row.a (length front) +ℤ greatest_sum lack (drop (length front + 1) all.classes) (drop (length front + 1) row.a)
optimistic_child all row front count lack narrow below f =
    let size = length-append front (count ∷ []) in
    let weight = weight_more row.a front count (omega (arith, narrow.one_each)) in
    ap (λ z. z +ℤ greatest_sum (all.size - taken_by all (front ++ count ∷ [])) (drop (length (front ++ count ∷ [])) all.classes) (drop (length (front ++ count ∷ [])) row.a)) weight
    ∙ ap (λ n. weight_in row.a front +ℤ pos count *ℤ at row.a (length front) +ℤ greatest_sum (all.size - taken_by all (front ++ count ∷ [])) (drop n all.classes) (drop n row.a)) size
    ∙ ap (λ n. weight_in row.a front +ℤ pos count *ℤ at row.a (length front) +ℤ greatest_sum n (drop (length front + 1) all.classes) (drop (length front + 1) row.a)) (sym f)

pub weight_fits : (x : ℤ) (count : ℕ) (a : ℤ) → unsigned_abs (x +ℤ pos count *ℤ a) ≤ unsigned_abs x + count * unsigned_abs a
weight_fits x count a = abs_sum_le x (pos count *ℤ a) (unsigned_abs x) (count * unsigned_abs a) (omega arith) (omega (arith, unsigned_abs-mul (pos count) a))

-- `made` is a child's weight, and `greatest` the greatest sum of as many units as the child lacks members. Together they are the child's
-- optimistic weight, which fits 128 bits.
pub record IsChild (all : Classes) (row : Row) (front : List ℕ) (count : ℕ) (made greatest : ℤ) : Type 0 where
  pub weight : made ≡ weight_in row.a front +ℤ pos count *ℤ at row.a (length front)
  pub narrow : unsigned_abs (made +ℤ greatest) < 2 ^ 127
  pub value : made +ℤ greatest ≡ optimistic all row (front ++ count ∷ [])

pub child_is : (all : Classes) (row : Row) (front : List ℕ) (count lack : ℕ) {before entry weight greatest : ℤ} → KeepsLimits all → AreNarrow all row.a → length front < length all.classes → AreWithin all (front ++ count ∷ []) →
    lack ≡ all.size - taken_by all (front ++ count ∷ []) → weight ≡ before +ℤ pos count *ℤ entry → before ≡ weight_in row.a front → entry ≡ at row.a (length front) →
    greatest ≡ greatest_sum lack (drop (length front + 1) all.classes) (drop (length front + 1) row.a) → IsChild all row front count weight greatest
child_is all row front count lack {before = before} {entry = entry} {weight = weight} {greatest = greatest} limits narrow below within lack_is made before_is entry_is greatest_is =
    let here : weight ≡ weight_in row.a front +ℤ pos count *ℤ at row.a (length front) = made ∙ ap (λ z. z +ℤ pos count *ℤ entry) before_is ∙ ap (λ z. weight_in row.a front +ℤ pos count *ℤ z) entry_is in
    record {
      weight = here;
      narrow = omega (
        arith,
        child_narrow all row.a front count lack limits narrow below within,
        ap unsigned_abs here,
        ap unsigned_abs greatest_is,
        weight_fits (weight_in row.a front) count (at row.a (length front)),
        abs_sum_le weight greatest (unsigned_abs weight) (unsigned_abs greatest) (omega arith) (omega arith),
      );
      value = ap (λ z. z +ℤ greatest) here ∙ ap (λ z. weight_in row.a front +ℤ pos count *ℤ at row.a (length front) +ℤ z) greatest_is
          ∙ sym (optimistic_child all row front count lack narrow below lack_is);
    }

pub weighs_child : (all : Classes) (row : Row) (front : List ℕ) (count : ℕ) (before after : List ℤ) → AreNarrow all row.a → length front < length all.classes → Weighs all row front before →
    after ≡ set before (length front + 1) (weight_in row.a front +ℤ pos count *ℤ at row.a (length front)) →
    Weighs all row (front ++ count ∷ []) after
weighs_child all row front count before after narrow below weighs e = record {
  room = ap length e ∙ length-set before (length front + 1) _ ∙ weighs.room;
  each = λ depth l.
      (elim (eqb depth (length front + 1)) as (λ b. eqb depth (length front + 1) ≡ b → at after depth ≡ weight_in row.a (take depth (front ++ count ∷ []))) [
        | true ↦ λ t. let same = eqb-true depth (length front + 1) t in whole depth same
        | false ↦ λ t. let other = eqb-false depth (length front + 1) t in part depth other (shorter depth other l)
      ]) refl;
}
  where
    shorter : (depth : ℕ) → (depth ≡ length front + 1 → ⊥) → depth ≤ length (front ++ count ∷ []) → depth ≤ length front
    shorter depth other l = omega (arith, length-append front (count ∷ []))

    part : (depth : ℕ) → (depth ≡ length front + 1 → ⊥) → depth ≤ length front → at after depth ≡ weight_in row.a (take depth (front ++ count ∷ []))
    part depth other l =
        ap (λ xs. at xs depth) e ∙ get_or-set_other before (length front + 1) depth _ (pos 0) other ∙ weighs.each depth l ∙ ap (weight_in row.a) (sym (take-append-le depth front (count ∷ []) l))

    whole : (depth : ℕ) → depth ≡ length front + 1 → at after depth ≡ weight_in row.a (take depth (front ++ count ∷ []))
    whole depth same =
        let size : depth ≡ length (front ++ count ∷ []) = omega (arith, length-append front (count ∷ [])) in
        ap (λ xs. at xs depth) e ∙ get_or-set_at before (length front + 1) depth _ (pos 0) same (omega (arith, weighs.room))
        ∙ sym (weight_more row.a front count (omega (arith, narrow.one_each)))
        ∙ ap (weight_in row.a) (sym (ap (λ n. take n (front ++ count ∷ [])) size ∙ take-length (front ++ count ∷ [])))

-- If a list has the child's weights in a row, it has the weights of the front that the child begins with.
pub weighs_front : (all : Classes) (row : Row) (front : List ℕ) (count : ℕ) (weighing : List ℤ) → Weighs all row (front ++ count ∷ []) weighing → Weighs all row front weighing
weighs_front all row front count weighing weighs = record {
  room = weighs.room;
  each = λ depth l. weighs.each depth (omega (arith, length-append front (count ∷ []))) ∙ ap (weight_in row.a) (take-append-le depth front (count ∷ []) l);
}

-- If a list has the weights of `child`, which is the front and one more count, it has those of `back`, which equals the front.
pub weighs_back : (all : Classes) (row : Row) (front child back : List ℕ) (count : ℕ) (weighing : List ℤ) → child ≡ front ++ count ∷ [] → back ≡ front → Weighs all row child weighing → Weighs all row back weighing
weighs_back all row front child back count weighing e f weighs =
    subst (λ x. Weighs all row x weighing) (sym f) (weighs_front all row front count weighing (subst (λ x. Weighs all row x weighing) e weighs))

-- If the list begins with 0, it has the weights of the empty front.
pub weighs_none : (all : Classes) (row : Row) (weighing : List ℤ) → length weighing ≡ length all.classes + 1 → at weighing 0 ≡ pos 0 → Weighs all row [] weighing
weighs_none all row weighing room none = record {
  room = room;
  each = λ depth l. let e : depth ≡ 0 = omega arith in ap (at weighing) e ∙ none ∙ sym (no_weight row.a) ∙ ap (λ n. weight_in row.a (take n [])) (sym e);
}

-- If a front's counts are within the classes' sizes, so are its first `depth` counts.
pub within_first : (all : Classes) (front : List ℕ) (depth : ℕ) → AreWithin all front → depth ≤ length front → AreWithin all (take depth front)
within_first all front depth within few t l =
    let long = length-take-le depth front few in
    let here = within t (omega arith) in
    let same : slice_index (take depth front) t ≡ slice_index front t = same_at front depth t (omega arith) in
    omega arith
  where
    same_at : (xs : List ℕ) (n t : ℕ) → t < n → slice_index (take n xs) t ≡ slice_index xs t
    same_at [] zero t m = absurd (omega arith)
    same_at [] (suc n) t m = refl
    same_at (x ∷ xs) zero t m = absurd (omega arith)
    same_at (x ∷ xs) (suc n) zero m = refl
    same_at (x ∷ xs) (suc n) (suc t) m = same_at xs n t (omega arith)

-- If counts are within the classes' sizes, they take at most all members.
within_members : (classes : List Class) (counts : List ℕ) → ((t : ℕ) → t < length counts → slice_index counts t ≤ slice_index (map (λ class. length class.members) classes) t) →
    taken_of (λ class. true) classes counts ≤ sum_by (λ class. length class.members) classes
within_members [] counts within = omega arith
within_members (class ∷ classes) [] within = omega arith
within_members (class ∷ classes) (c ∷ counts) within =
    let here = within 0 (omega arith) in
    let rest = within_members classes counts (λ t l. within (suc t) (omega arith)) in
    let a = sum_by-is-total (λ (class : Class). length class.members) (class ∷ classes) in let b = sum_by-is-total (λ (class : Class). length class.members) classes in
    omega arith

size_few : (classes : List Class) (t : ℕ) → slice_index (map (λ class. length class.members) classes) t ≤ sum_by (λ class. length class.members) classes
size_few [] t = omega arith
size_few (class ∷ classes) zero = let a = sum_by-is-total (λ (class : Class). length class.members) (class ∷ classes) in omega arith
size_few (class ∷ classes) (suc t) =
    let rest = size_few classes t in
    let a = sum_by-is-total (λ (class : Class). length class.members) (class ∷ classes) in let b = sum_by-is-total (λ (class : Class). length class.members) classes in
    omega arith

pub count_few : (all : Classes) (front : List ℕ) (t : ℕ) → KeepsLimits all → AreWithin all front → t < length front → slice_index front t ≤ 4000
count_few all front t limits within l = omega (arith, within t l, size_few all.classes t, limits.few_members)

pub within_few : (all : Classes) (front : List ℕ) → KeepsLimits all → AreWithin all front → taken_by all front ≤ 4000
within_few all front limits within = let sum = within_members all.classes front within in omega (arith, limits.few_members)

-- ---- live fronts

pub taken_few : (all : Classes) (front : List ℕ) → is_reachable all front ≡ true → taken_by all front ≤ all.size
taken_few all front live =
    let both = and_parts (size_reachable all front && values_reachable all front) (takes_one_a_household all.classes front) live in
    let parts = and_parts (size_reachable all front) (values_reachable all front) both.0 in
    leb-true (taken_by all front) all.size (and_parts (leb (taken_by all front) all.size) _ parts.0).0

pub element_at : {X : Type 0} (xs : List X) (i : ℕ) → i < length xs → (x : X) × (x ≡ get_or xs i x)
element_at [] i l = absurd (omega arith)
element_at (x ∷ xs) zero l = (x, refl)
element_at (x ∷ xs) (suc i) l = element_at xs i (omega arith)

-- If `count` members of the next class are added to a front, it takes `count` more members.
pub taken_next : (all : Classes) (front : List ℕ) (count : ℕ) → length front < length all.classes → taken_by all (front ++ count ∷ []) ≡ taken_by all front + count
taken_next all front count below =
    let class = element_at all.classes (length front) below in
    taken_more all front class.0 count (record { below = below; is = class.1 }) (λ class. true)
