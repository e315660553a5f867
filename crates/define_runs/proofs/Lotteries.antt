-- If each volunteer is in exactly one class, spreading over the classes gives a lottery, in which all members of a class have the same
-- chance.
use Rattle.std.proofs.Common.{◌≡◌, ℕ, zero, suc, ◌+◌, ◌*◌, ◌/◌, ◌≤◌, ◌<◌, Bool, true, false, cond, not, leb, ltb, List, [], ◌∷◌, ◌++◌, map, filter, length, get_or, slice_get, slice_index, Some, Result, Ok, Err, refl, sym, ap, ◌∙◌, ⊎_elim, arith, subst, length-append}
use Rattle.std.specs.Int.{◌∣◌}
use Rattle.std.specs.List.{flat_map, list_all, range_with_len, AllByRecursion, Contains}
use Rattle.std.specs.Str.{bytes_eq}
use Rattle.std.proofs.lemmas.Bool.{and_parts, and_from, cases_Bool, lt-ltb, ltb-true, le-leb, or_from, or_parts, not-true, not_from_false, false≢true}
use Rattle.std.proofs.lemmas.List.Concat.{flat_map-cons}
use Rattle.std.proofs.lemmas.List.Elements.{recursion_from_All}
use Rattle.std.proofs.lemmas.Slice.Eq.{bytes_eq-Decides}
use Rattle.std.proofs.Math.Nat.{mul-pos, mul-div_assoc, mul-div_cancel', mul-div_cancel_left}
use Rattle.std.proofs.lemmas.List.{map-append}
use Rattle.define_pools.proofs.Each.{each_both, each_map, each_append, each_mapped, each_filter, each_range, each_of_map, each_everywhere, list_all_from_each, each_flat_map}
use Rattle.define_pools.proofs.Lists.{map-map}
use Rattle.define_pools.proofs.Sums.{total, total_eq, total_ext, total-filter, total-scaled, one_if, sum_by-is-total}
use Rattle.frac128.specs.Fractions.{Fraction}
use Rattle.define_pools.specs.Lists.{all_different, includes, includes_list, is_increasing}
use Rattle.define_pools.specs.Lottery.{LotteryRow, Lottery, IsLottery, count}
use Rattle.define_pools.specs.Pool.{Pool, is_quota_panel, volunteer}
use Rattle.define_pools.specs.declared.Standing.{Standing}
use Rattle.define_pools.specs.declared.Standing.TheVariants.{Open, Seated, Gone}
use Rattle.define_searches.specs.Classes.{Class, Classes, KeepsLimits, MakesClasses, PartVolunteers, class_by, class_of, classes_by, leaders, most_taken, volunteer_count}
use Rattle.define_searches.specs.Compositions.{compositions, composition_of}
use Rattle.define_searches.proofs.ComposedPanels.{composed_panel_fits}
use Rattle.define_searches.proofs.FirstPanel.{filter_increases}
use Rattle.define_searches.proofs.LeaderPanels.{least_to_most}
use Rattle.define_searches.proofs.Parting.{all_counted, classes_part}
use Rattle.define_runs.specs.Spreading.{AreParts, HasEvenChances, IsCommonTotal, TotalPass, arcs, arcs_between, cuts, dial, is_given, lottery_of, panel_at, rows_of, spread, total_from}
use Rattle.define_runs.proofs.Arcs.{arcs_begin, each_long}
use Rattle.define_runs.proofs.CommonTotals.{common_total}
use Rattle.define_runs.proofs.Cuts.{cuts_begin, cuts_increase}
use Rattle.define_runs.proofs.Dials.{Cut, cuts_are}
use Rattle.define_runs.proofs.Panels.{CanGive, Within, arcs_length, chance, compositions_within, panel_composes, panels_apart}
use Rattle.define_runs.proofs.PartsOfWhole.{each_composition, some_parts, sum_is_total}

-- ---- sums over mapped and joined lists

total-map : {X Y : Type 0} (g : Y → ℕ) (f : X → Y) (xs : List X) → total g (map f xs) ≡ total (λ x. g (f x)) xs
total-map g f [] = refl
total-map g f (x ∷ xs) = omega (arith, total-map g f xs)

total-append : {X : Type 0} (g : X → ℕ) (xs ys : List X) → total g (xs ++ ys) ≡ total g xs + total g ys
total-append g [] ys = omega arith
total-append g (x ∷ xs) ys = omega (arith, total-append g xs ys)

total-flat_map : {X Y : Type 0} (g : Y → ℕ) (f : X → List Y) (xs : List X) → total g (flat_map f xs) ≡ total (λ x. total g (f x)) xs
total-flat_map g f [] = refl
total-flat_map g f (x ∷ xs) = ap (total g) (flat_map-cons f x xs) ∙ omega (arith, total-append g (f x) (flat_map f xs), total-flat_map g f xs)

-- ---- lists whose elements are all different

abbrev Apart : List (List ℕ) → Type 0
Apart [] = Unit {0}
Apart (xs ∷ rest) = AllByRecursion (λ ys. xs ≡ ys → ⊥) rest × Apart rest

apart_append : (xss yss : List (List ℕ)) → Apart xss → Apart yss → AllByRecursion (λ xs. AllByRecursion (λ ys. xs ≡ ys → ⊥) yss) xss → Apart (xss ++ yss)
apart_append [] yss a b c = b
apart_append (xs ∷ xss) yss a b c = (each_append (λ ys. xs ≡ ys → ⊥) xss yss a.0 c.0, apart_append xss yss a.1 b c.1)

different_from_apart : (xss : List (List ℕ)) → Apart xss → all_different xss ≡ true
different_from_apart [] a = refl
different_from_apart (xs ∷ xss) a =
    and_from (not (includes_list xss xs)) (all_different xss) (not_from_false (includes_list xss xs) (none xss a.0)) (different_from_apart xss a.1)
  where
    none : (yss : List (List ℕ)) → AllByRecursion (λ ys. xs ≡ ys → ⊥) yss → includes_list yss xs ≡ false
    none [] a = refl
    none (ys ∷ yss) a = or_from (bytes_eq xs ys) (includes_list yss xs) (⊎_elim (λ (e : bytes_eq xs ys ≡ true). absurd (a.0 ((bytes_eq-Decides xs ys).0 e))) (λ (e : bytes_eq xs ys ≡ false). e) (cases_Bool (bytes_eq xs ys))) (none yss a.1)

apart_from_different : (xss : List (List ℕ)) → all_different xss ≡ true → Apart xss
apart_from_different [] h = tt
apart_from_different (xs ∷ xss) h =
    let parts = and_parts (not (includes_list xss xs)) (all_different xss) h in
    (none xss (not-true (includes_list xss xs) parts.0), apart_from_different xss parts.1)
  where
    none : (yss : List (List ℕ)) → includes_list yss xs ≡ false → AllByRecursion (λ ys. xs ≡ ys → ⊥) yss
    none [] h = tt
    none (ys ∷ yss) h =
        let parts = or_parts (bytes_eq xs ys) (includes_list yss xs) h in
        (λ e. false≢true (sym parts.0 ∙ (bytes_eq-Decides xs ys).1 e), none yss parts.1)

-- ---- the weights of a part

-- the row of an arc weighs the arc's length times `num * unit`, and the part's fraction of `sum` is the dial's length times `num * unit`
record Weighed (all : Classes) (sum : ℕ) (part : List ℕ × Fraction) : Type 0 where
  unit : ℕ
  some : 0 < part.1.num * unit
  weight_is : (arc : ℕ) → arc * part.1.num * sum / (part.1.den * dial all part.0) ≡ arc * (part.1.num * unit)
  part_is : part.1.num * (sum / part.1.den) ≡ dial all part.0 * (part.1.num * unit)

weighed : (all : Classes) (sum : ℕ) (part : List ℕ × Fraction) → 0 < sum → 0 < part.1.num → 0 < part.1.den → part.1.den * dial all part.0 ∣ sum → Weighed all sum part
weighed all sum part has num_some den_some h =
    let num = part.1.num in let den = part.1.den in let len = dial all part.0 in
    let unit : ℕ = sum / (den * len) in
    let whole : den * len * unit ≡ sum = mul-div_cancel' (den * len) h in
    let quotient : sum / den ≡ len * unit = ap (λ n. n / den) (sym whole ∙ (let e : den * len * unit ≡ den * (len * unit) = omega arith in e)) ∙ mul-div_cancel_left (len * unit) den_some in
    record {
      unit = unit;
      some = mul-pos num_some (positive (den * len) unit whole);
      weight_is = λ arc. mul-div_assoc (den * len) (arc * num) h ∙ omega arith;
      part_is = ap (λ n. num * n) quotient ∙ omega arith;
    }
  where
    positive : (k unit : ℕ) → k * unit ≡ sum → 0 < unit
    positive k zero e = absurd (omega arith)
    positive k (suc unit) e = omega arith

all_weighed : (all : Classes) (sum : ℕ) (parts : List (List ℕ × Fraction)) → AreParts all parts → IsCommonTotal all parts sum → AllByRecursion (Weighed all sum) parts
all_weighed all sum parts are common =
    each_map (λ part. (0 < part.1.num) × ((0 < part.1.den) × (part.1.den * dial all part.0 ∣ sum))) (Weighed all sum) (λ part h. weighed all sum part common.positive h.0 h.1.0 h.1.1) parts
    (each_both (λ part. 0 < part.1.num) (λ part. (0 < part.1.den) × (part.1.den * dial all part.0 ∣ sum)) parts (recursion_from_All (λ part. 0 < part.1.num) parts are.positive)
    (each_both (λ part. 0 < part.1.den) (λ part. part.1.den * dial all part.0 ∣ sum) parts (recursion_from_All (λ part. 0 < part.1.den) parts are.over) (recursion_from_All (λ part. part.1.den * dial all part.0 ∣ sum) parts common.multiple)))

-- ---- the lottery rows of the parts

module _ (all : Classes) (sum : ℕ) where
  -- the lottery row of an arc
  abbrev pub row_at : List ℕ × Fraction → ℕ × ℕ → LotteryRow
  row_at part a = record { panel = panel_at all part.0 a.0; weight = a.1 * part.1.num * sum / (part.1.den * dial all part.0) }

  rows_are : (part : List ℕ × Fraction) → rows_of all sum part ≡ map (row_at part) (arcs all part.0)
  rows_are part = refl

  pub some_rows : (part : List ℕ × Fraction) → 0 < length (rows_of all sum part)
  some_rows part = by (cuts_begin all part.0)
    where
      some_arcs : (end x : ℕ) (xs : List ℕ) → 0 < length (map (row_at part) (arcs_between end (x ∷ xs)))
      some_arcs end x [] = omega arith
      some_arcs end x (y ∷ ys) = omega arith

      by : ((rest : List ℕ) × (cuts all part.0 ≡ 0 ∷ rest)) → 0 < length (rows_of all sum part)
      by (rest, e) = subst (λ xs. 0 < length (map (row_at part) (arcs_between (dial all part.0) xs))) (sym e) (some_arcs (dial all part.0) 0 rest)

  abbrev panels_of : List (List ℕ × Fraction) → List (List ℕ)
  panels_of parts = flat_map (λ part. map (panel_at all part.0) (cuts all part.0)) parts

  panels_are : (part : List ℕ × Fraction) → map (λ row. row.panel) (rows_of all sum part) ≡ map (panel_at all part.0) (cuts all part.0)
  panels_are part =
      map-map (λ (row : LotteryRow). row.panel) (row_at part) (arcs all part.0)
      ∙ sym (map-map (panel_at all part.0) (λ a. a.0) (arcs all part.0))
      ∙ ap (map (panel_at all part.0)) (arcs_begin (dial all part.0) (cuts all part.0))

  pub all_panels_are : (parts : List (List ℕ × Fraction)) → map (λ row. row.panel) (flat_map (rows_of all sum) parts) ≡ panels_of parts
  all_panels_are [] = refl
  all_panels_are (part ∷ parts) =
      ap (map (λ (row : LotteryRow). row.panel)) (flat_map-cons (rows_of all sum) part parts)
      ∙ map-append (λ (row : LotteryRow). row.panel) (rows_of all sum part) (flat_map (rows_of all sum) parts)
      ∙ ap (λ xss. xss ++ map (λ (row : LotteryRow). row.panel) (flat_map (rows_of all sum) parts)) (panels_are part)
      ∙ ap (λ xss. map (panel_at all part.0) (cuts all part.0) ++ xss) (all_panels_are parts)
      ∙ sym (flat_map-cons (λ part. map (panel_at all part.0) (cuts all part.0)) part parts)

  each_weight : (part : List ℕ × Fraction) → Weighed all sum part → AllByRecursion (λ row. 0 < row.weight) (rows_of all sum part)
  each_weight part w =
      each_mapped (λ row. 0 < row.weight) (row_at part) (arcs all part.0)
      (each_map (λ (a : ℕ × ℕ). 0 < a.1) (λ (a : ℕ × ℕ). 0 < a.1 * part.1.num * sum / (part.1.den * dial all part.0))
      (λ a long. let e = w.weight_is a.1 in let some = mul-pos long w.some in rw e some) (arcs all part.0)
      (each_long (dial all part.0) (cuts all part.0) (cuts_increase all part.0) (each_map (Cut all part.0) (λ x. x < dial all part.0) (λ x cut. cut.0) (cuts all part.0) (cuts_are all part.0))))

  module _ (parting : PartVolunteers all) where
    abbrev IsWithin : List ℕ × Fraction → Type 0
    IsWithin part = Within all.classes part.0

    weights_sum : (part : List ℕ × Fraction) → Weighed all sum part → IsWithin part → total (λ row. row.weight) (rows_of all sum part) ≡ part.1.num * (sum / part.1.den)
    weights_sum part w within =
        total-map (λ (row : LotteryRow). row.weight) (row_at part) (arcs all part.0)
        ∙ total_ext (λ (a : ℕ × ℕ). a.1 * part.1.num * sum / (part.1.den * dial all part.0)) (λ (a : ℕ × ℕ). a.1 * (part.1.num * w.unit)) (λ a. w.weight_is a.1) (arcs all part.0)
        ∙ total-scaled (λ (a : ℕ × ℕ). a.1) (part.1.num * w.unit) (arcs all part.0)
        ∙ ap (λ n. n * (part.1.num * w.unit)) (arcs_length all parting part.0 within)
        ∙ sym w.part_is

    all_weights_sum : (parts : List (List ℕ × Fraction)) → AllByRecursion (Weighed all sum) parts → AllByRecursion IsWithin parts →
        total (λ row. row.weight) (flat_map (rows_of all sum) parts) ≡ total (λ part. part.1.num * (sum / part.1.den)) parts
    all_weights_sum parts w within =
        total-flat_map (λ (row : LotteryRow). row.weight) (rows_of all sum) parts
        ∙ total_eq (λ part. total (λ (row : LotteryRow). row.weight) (rows_of all sum part)) (λ part. part.1.num * (sum / part.1.den)) parts
        (each_map (λ part. Weighed all sum part × IsWithin part) (λ part. total (λ (row : LotteryRow). row.weight) (rows_of all sum part) ≡ part.1.num * (sum / part.1.den))
        (λ part h. weights_sum part h.0 h.1) parts (each_both (Weighed all sum) IsWithin parts w within))

    -- ---- different panels

    each_composes : (part : List ℕ × Fraction) → IsWithin part → AllByRecursion (λ panel. composition_of all panel ≡ part.0) (map (panel_at all part.0) (cuts all part.0))
    each_composes part within =
        each_mapped (λ panel. composition_of all panel ≡ part.0) (panel_at all part.0) (cuts all part.0)
        (each_map (Cut all part.0) (λ x. composition_of all (panel_at all part.0 x) ≡ part.0) (λ x cut. panel_composes all parting part.0 within x cut.0) (cuts all part.0) (cuts_are all part.0))

    cuts_apart : (counts : List ℕ) → Within all.classes counts → (xs : List ℕ) → is_increasing xs ≡ true → AllByRecursion (Cut all counts) xs → Apart (map (panel_at all counts) xs)
    cuts_apart counts within [] up each = tt
    cuts_apart counts within (x ∷ xs) up each =
        let parts = and_parts (list_all (λ y. ltb x y) xs) (is_increasing xs) up in
        (each_mapped (λ panel. panel_at all counts x ≡ panel → ⊥) (panel_at all counts) xs (later xs parts.0 each.1), cuts_apart counts within xs parts.1 each.1)
      where
        later : (ys : List ℕ) → list_all (λ y. ltb x y) ys ≡ true → AllByRecursion (Cut all counts) ys → AllByRecursion (λ y. panel_at all counts x ≡ panel_at all counts y → ⊥) ys
        later [] above each = tt
        later (y ∷ ys) above each =
            let parts = and_parts (ltb x y) (list_all (λ y. ltb x y) ys) above in
            (panels_apart all parting counts within x y (ltb-true x y parts.0) each.0, later ys parts.1 each.1)

    other_compositions : (counts : List ℕ) (parts : List (List ℕ × Fraction)) → AllByRecursion IsWithin parts → AllByRecursion (λ other. counts ≡ other → ⊥) (map (λ part. part.0) parts) →
        AllByRecursion (λ panel. composition_of all panel ≡ counts → ⊥) (panels_of parts)
    other_compositions counts [] within apart = tt
    other_compositions counts (part ∷ parts) within apart =
        subst (AllByRecursion (λ panel. composition_of all panel ≡ counts → ⊥)) (sym (flat_map-cons (λ part. map (panel_at all part.0) (cuts all part.0)) part parts))
        (each_append (λ panel. composition_of all panel ≡ counts → ⊥) (map (panel_at all part.0) (cuts all part.0)) (panels_of parts)
        (each_map (λ panel. composition_of all panel ≡ part.0) (λ panel. composition_of all panel ≡ counts → ⊥) (λ panel e f. apart.0 (sym f ∙ e)) (map (panel_at all part.0) (cuts all part.0)) (each_composes part within.0))
        (other_compositions counts parts within.1 apart.1))

    all_apart : (parts : List (List ℕ × Fraction)) → AllByRecursion IsWithin parts → Apart (map (λ part. part.0) parts) → Apart (panels_of parts)
    all_apart [] within apart = tt
    all_apart (part ∷ parts) within apart =
        let others = other_compositions part.0 parts within.1 apart.0 in
        subst Apart (sym (flat_map-cons (λ part. map (panel_at all part.0) (cuts all part.0)) part parts))
        (apart_append (map (panel_at all part.0) (cuts all part.0)) (panels_of parts)
        (cuts_apart part.0 within.0 (cuts all part.0) (cuts_increase all part.0) (cuts_are all part.0)) (all_apart parts within.1 apart.1)
        (each_map (λ panel. composition_of all panel ≡ part.0) (λ panel. AllByRecursion (λ other. panel ≡ other → ⊥) (panels_of parts))
        (λ panel e. each_map (λ other. composition_of all other ≡ part.0 → ⊥) (λ other. panel ≡ other → ⊥) (λ other ne same. ne (ap (composition_of all) (sym same) ∙ e)) (panels_of parts) others)
        (map (panel_at all part.0) (cuts all part.0)) (each_composes part within.0)))

    -- ---- even chances

    part_chance : (part : List ℕ × Fraction) → Weighed all sum part → IsWithin part → (t i : ℕ) (class : Class) → slice_get all.classes t ≡ Some class → includes class.members i ≡ true →
        total (λ row. cond (includes row.panel i) row.weight 0) (rows_of all sum part) * length class.members ≡ get_or part.0 t 0 * (part.1.num * (sum / part.1.den))
    part_chance part w within t i class at is_member =
        let unit : ℕ = part.1.num * w.unit in
        let held : ℕ = total (λ (a : ℕ × ℕ). a.1 * one_if (includes (panel_at all part.0 a.0) i)) (arcs all part.0) in
        let rows : total (λ row. cond (includes row.panel i) row.weight 0) (rows_of all sum part) ≡ held * unit =
        total-map (λ (row : LotteryRow). cond (includes row.panel i) row.weight 0) (row_at part) (arcs all part.0)
        ∙ total_ext (λ (a : ℕ × ℕ). cond (includes (panel_at all part.0 a.0) i) (a.1 * part.1.num * sum / (part.1.den * dial all part.0)) 0) (λ (a : ℕ × ℕ). a.1 * one_if (includes (panel_at all part.0 a.0) i) * unit)
        (λ a. scaled (includes (panel_at all part.0 a.0) i) a.1 (a.1 * part.1.num * sum / (part.1.den * dial all part.0)) unit (w.weight_is a.1)) (arcs all part.0)
        ∙ total-scaled (λ (a : ℕ × ℕ). a.1 * one_if (includes (panel_at all part.0 a.0) i)) unit (arcs all part.0) in
        let even : held * length class.members ≡ get_or part.0 t 0 * dial all part.0 = chance all parting part.0 within t class at i is_member in
        let turned : held * unit * length class.members ≡ held * length class.members * unit = omega arith in
        let share : get_or part.0 t 0 * dial all part.0 * unit ≡ get_or part.0 t 0 * (dial all part.0 * unit) = omega arith in
        ap (λ n. n * length class.members) rows ∙ turned ∙ ap (λ n. n * unit) even ∙ share ∙ ap (λ n. get_or part.0 t 0 * n) (sym w.part_is)
      where
        scaled : (b : Bool) (arc weight unit : ℕ) → weight ≡ arc * unit → cond b weight 0 ≡ arc * one_if b * unit
        scaled true arc weight unit e = e ∙ (let f : arc * unit ≡ arc * 1 * unit = omega arith in f)
        scaled false arc weight unit e = let f : arc * 0 * unit ≡ 0 = omega arith in sym f

    even : (parts : List (List ℕ × Fraction)) → AllByRecursion (Weighed all sum) parts → AllByRecursion IsWithin parts → HasEvenChances all parts (record { total = sum; rows = flat_map (rows_of all sum) parts })
    even parts w within t i class at is_member =
        let rows = flat_map (rows_of all sum) parts in
        let counted : count (record { total = sum; rows = rows }) i ≡ total (λ part. total (λ (row : LotteryRow). cond (includes row.panel i) row.weight 0) (rows_of all sum part)) parts =
        sum_by-is-total (λ (row : LotteryRow). row.weight) (filter (λ (row : LotteryRow). includes row.panel i) rows)
        ∙ total-filter (λ (row : LotteryRow). row.weight) (λ (row : LotteryRow). includes row.panel i) rows
        ∙ total-flat_map (λ (row : LotteryRow). cond (includes row.panel i) row.weight 0) (rows_of all sum) parts in
        ap (λ n. n * length class.members) counted
        ∙ sym (total-scaled (λ part. total (λ (row : LotteryRow). cond (includes row.panel i) row.weight 0) (rows_of all sum part)) (length class.members) parts)
        ∙ total_eq (λ part. total (λ (row : LotteryRow). cond (includes row.panel i) row.weight 0) (rows_of all sum part) * length class.members) (λ part. slice_index part.0 t * (part.1.num * (sum / part.1.den))) parts
        (each_map (λ part. Weighed all sum part × IsWithin part) (λ part. total (λ (row : LotteryRow). cond (includes row.panel i) row.weight 0) (rows_of all sum part) * length class.members ≡ slice_index part.0 t * (part.1.num * (sum / part.1.den)))
        (λ part h. part_chance part h.0 h.1 t i class at is_member) parts (each_both (Weighed all sum) IsWithin parts w within))
        ∙ sym (sum_by-is-total (λ part. slice_index part.0 t * (part.1.num * (sum / part.1.den))) parts)

-- ---- the lottery that is spread

-- the lottery that is spread has a common total of the parts as its total, and the rows of the parts for this total
pub record IsSpread (all : Classes) (parts : List (List ℕ × Fraction)) (lottery : Lottery) : Type 0 where
  pub common : IsCommonTotal all parts lottery.total
  pub is : lottery ≡ (let made : Lottery = record { total = lottery.total; rows = flat_map (rows_of all lottery.total) parts } in made)

pub is_spread : (all : Classes) (parts : List (List ℕ × Fraction)) (lottery : Lottery) → AreParts all parts → spread all parts ≡ Ok lottery → IsSpread all parts lottery
unfolding spread
is_spread all parts lottery are e = by (total_from all 0 1 parts) refl e
  where
    by : (found : Result ℕ TotalPass) → total_from all 0 1 parts ≡ found → lottery_of all parts found ≡ Ok lottery → IsSpread all parts lottery
    by (Ok sum) f g =
        let made : Lottery = record { total = sum; rows = flat_map (rows_of all sum) parts } in
        let told : ◌≡◌ {A = Result Lottery TotalPass} (Ok made) (Ok lottery) = g in
        let same : made ≡ lottery = cc in
        subst (IsSpread all parts) same (record { common = common_total all parts sum are f; is = refl })
    by (Err pass) f g = absurd cc

pub parts_within : (all : Classes) (parts : List (List ℕ × Fraction)) → CanGive all.classes → AreParts all parts → AllByRecursion (λ part. Within all.classes part.0) parts
parts_within all parts can are = each_composition (Within all.classes) all parts are (compositions_within all can)

-- all members of a class have the same chance
pub even_chances : (all : Classes) (parts : List (List ℕ × Fraction)) (lottery : Lottery) → PartVolunteers all → CanGive all.classes → AreParts all parts → spread all parts ≡ Ok lottery → HasEvenChances all parts lottery
even_chances all parts lottery parting can are e =
    let found = is_spread all parts lottery are e in
    subst (HasEvenChances all parts) (sym found.is) (even all lottery.total parting parts (all_weighed all lottery.total parts are found.common) (parts_within all parts can are))

pub limits_can_give : (all : Classes) → KeepsLimits all → CanGive all.classes
limits_can_give all keeps =
    each_both (λ class. class.least ≤ class.most) (λ class. class.most ≤ length class.members) all.classes
    keeps.searchable.in_order (recursion_from_All (λ class. class.most ≤ length class.members) all.classes keeps.most)

-- ---- parts over a pool's classes make a lottery of the pool

most_fits : (s : Standing) (size : ℕ) → most_taken s size ≤ size
most_fits Open size = omega arith
most_fits Seated size = omega arith
most_fits Gone size = omega arith

pub pool_can_give : (pool : Pool) (alike : ℕ → ℕ → Bool) → CanGive (classes_by alike pool).classes
pool_can_give pool alike =
    each_mapped (λ class. (class.least ≤ class.most) × (class.most ≤ length class.members)) (class_by alike pool) (leaders alike (length pool.volunteers))
    (each_everywhere (λ l. ((class_by alike pool l).least ≤ (class_by alike pool l).most) × ((class_by alike pool l).most ≤ length (class_by alike pool l).members))
    (λ l. let size = length (class_of alike (length pool.volunteers) l) in (least_to_most (volunteer pool.volunteers l).standing size, most_fits (volunteer pool.volunteers l).standing size)) (leaders alike (length pool.volunteers)))

module _ (pool : Pool) (alike : ℕ → ℕ → Bool) (makes : MakesClasses pool alike) where
  abbrev of_pool : Classes
  of_pool = classes_by alike pool

  pub panel_below : (counts : List ℕ) (at : ℕ) → list_all (λ i. ltb i (length pool.volunteers)) (panel_at of_pool counts at) ≡ true
  panel_below counts at =
      let many = all_counted pool alike makes in
      list_all_from_each (λ i. ltb i (length pool.volunteers)) (panel_at of_pool counts at)
      (each_filter (λ i. ltb i (length pool.volunteers) ≡ true) (is_given (dial of_pool counts) at of_pool.classes counts) (range_with_len 0 (volunteer_count of_pool))
      (each_range (λ i. is_given (dial of_pool counts) at of_pool.classes counts i ≡ true → ltb i (length pool.volunteers) ≡ true) 0 (volunteer_count of_pool) (λ i low below given. lt-ltb i (length pool.volunteers) (omega arith))))

  panel_fits : (counts : List ℕ) (at : ℕ) → Contains (compositions of_pool) counts → Within of_pool.classes counts → at < dial of_pool counts → is_quota_panel pool (panel_at of_pool counts at) ≡ true
  panel_fits counts at there within below =
      composed_panel_fits pool alike makes counts (panel_at of_pool counts at) there (filter_increases (is_given (dial of_pool counts) at of_pool.classes counts) 0 (volunteer_count of_pool)) (panel_below counts at)
      (panel_composes of_pool (classes_part pool alike makes) counts within at below)

  all_fit : (parts : List (List ℕ × Fraction)) → AllByRecursion (λ part. Contains (compositions of_pool) part.0) parts → AllByRecursion (λ part. Within of_pool.classes part.0) parts →
      AllByRecursion (λ panel. is_quota_panel pool panel ≡ true) (flat_map (λ part. map (panel_at of_pool part.0) (cuts of_pool part.0)) parts)
  all_fit parts there within =
      each_flat_map (λ panel. is_quota_panel pool panel ≡ true) (λ part. map (panel_at of_pool part.0) (cuts of_pool part.0)) parts
      (each_map (λ part. Contains (compositions of_pool) part.0 × Within of_pool.classes part.0) (λ part. AllByRecursion (λ panel. is_quota_panel pool panel ≡ true) (map (panel_at of_pool part.0) (cuts of_pool part.0)))
      (λ part h. each_mapped (λ panel. is_quota_panel pool panel ≡ true) (panel_at of_pool part.0) (cuts of_pool part.0)
      (each_map (Cut of_pool part.0) (λ x. is_quota_panel pool (panel_at of_pool part.0 x) ≡ true) (λ x cut. panel_fits part.0 x h.0 h.1 cut.0) (cuts of_pool part.0) (cuts_are of_pool part.0)))
      parts (each_both (λ part. Contains (compositions of_pool) part.0) (λ part. Within of_pool.classes part.0) parts there within))

  lottery_for : (parts : List (List ℕ × Fraction)) (sum : ℕ) → AreParts of_pool parts → IsCommonTotal of_pool parts sum → IsLottery pool (record { total = sum; rows = flat_map (rows_of of_pool sum) parts })
  lottery_for parts sum are common =
      let parting = classes_part pool alike makes in
      let rows = flat_map (rows_of of_pool sum) parts in
      let within = parts_within of_pool parts (pool_can_give pool alike) are in
      let w = all_weighed of_pool sum parts are common in
      let panels = all_panels_are of_pool sum parts in
      let there = recursion_from_All (λ part. Contains (compositions of_pool) part.0) parts are.compositions in
      record {
        some = lt-ltb 0 (length rows) (some_in parts (some_parts of_pool parts are));
        panels = list_all_from_each (λ row. is_quota_panel pool row.panel) rows
            (each_of_map (λ panel. is_quota_panel pool panel ≡ true) (λ (row : LotteryRow). row.panel) rows (subst (AllByRecursion (λ panel. is_quota_panel pool panel ≡ true)) (sym panels) (all_fit parts there within)));
        different = subst (λ xss. all_different xss ≡ true) (sym panels)
            (different_from_apart (flat_map (λ part. map (panel_at of_pool part.0) (cuts of_pool part.0)) parts) (all_apart of_pool sum parting parts within (apart_from_different (map (λ part. part.0) parts) are.different)));
        total_agrees = record {
          weights = list_all_from_each (λ row. leb 1 row.weight) rows
              (each_map (λ (row : LotteryRow). 0 < row.weight) (λ (row : LotteryRow). leb 1 row.weight ≡ true) (λ row some. le-leb 1 row.weight some) rows
              (each_flat_map (λ (row : LotteryRow). 0 < row.weight) (rows_of of_pool sum) parts (each_map (Weighed of_pool sum) (λ part. AllByRecursion (λ (row : LotteryRow). 0 < row.weight) (rows_of of_pool sum part)) (λ part w. each_weight of_pool sum part w) parts w)));
          total = sym (sum_by-is-total (λ (row : LotteryRow). row.weight) rows ∙ all_weights_sum of_pool sum parting parts w within
              ∙ sym (sum_by-is-total (λ part. part.1.num * (sum / part.1.den)) parts) ∙ sum_is_total of_pool parts sum are common);
        };
      }
    where
      some_in : (parts : List (List ℕ × Fraction)) → 0 < length parts → 0 < length (flat_map (rows_of of_pool sum) parts)
      some_in [] some = absurd (omega arith)
      some_in (part ∷ parts) some =
          let cons = ap length (flat_map-cons (rows_of of_pool sum) part parts) in
          omega (arith, cons, length-append (rows_of of_pool sum part) (flat_map (rows_of of_pool sum) parts), some_rows of_pool sum part)

  -- spreading over a pool's classes gives a lottery over the pool's quota panels
  pub pool_lottery : (parts : List (List ℕ × Fraction)) (lottery : Lottery) → AreParts of_pool parts → spread of_pool parts ≡ Ok lottery → IsLottery pool lottery
  pool_lottery parts lottery are e =
      let found = is_spread of_pool parts lottery are e in
      subst (IsLottery pool) (sym found.is) (lottery_for parts lottery.total are found.common)
