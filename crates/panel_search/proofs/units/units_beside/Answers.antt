use Rattle.std.proofs.Common.{rules, ◌≡◌, ◌+◌, ◌*◌, ◌<◌, ◌^◌, cond, ◌++◌, arith, pos, get_or, replicate, FitsSigned, to_z, sym, ap, ◌∙◌, ◌+ℤ◌, ◌*ℤ◌}
use Rattle.std.specs.Int.{w128}
use Rattle.std.specs.Prelude.{int_le, int_lt, unsigned_abs}
use Rattle.std.proofs.lemmas.Int.{to_z-of_z}
use Rattle.define_searches.specs.Weights.{units_from}
use Rattle.define_searches.proofs.UnitSums.{units_few, units_narrow, units_next}
use Rattle.panel_search.specs.Units.{heavier, no_lighter}
use Rattle.panel_search.specs.declared.units.Beside.{Beside}
use Rattle.panel_search.proofs.UnitsBeside.{IsBesideSome, beside_all, beside_fits, beside_more, beside_none, units_end, with_class, with_few}
use Rattle.panel_search.proofs.units.units_beside.Goals as goal

pub loop-i-init : goal.loop-i-init
loop-i-init c = beside_none _ _

pub overflow_add-heavier : goal.overflow_add-heavier
overflow_add-heavier c =
    let all = c.args.classes.now in let entries = c.args.entries.now in let i = c.loop-i.i in let weight = c.args.weight in let entry = get_or entries i (pos 0) in
    let fw : FitsSigned w128 weight = c.ranges.weight in
    let fx : FitsSigned w128 entry = search rules in
    let some : IsBesideSome (units_from all entries c.args.place) weight (units_from all entries i) c.loop-i.heavier (to_z w128 c.loop-i.sum-bits) c.loop-i.no_lighter = simp to_z-of_z at c.loop-i.invariant in
    let more : c.count_if-more.result ≡ cond (int_lt weight entry) c.most-most.result 0 = simp to_z-of_z at c.count_if-more.ensures in
    let units : units_from all entries i ≡ replicate c.most-most.result entry ++ units_from all entries (i + 1) =
    units_next all entries i c.class_at.result.now c.class_at.ensures.stands c.requires.narrow.one_each ∙ ap (λ most. replicate most entry ++ units_from all entries (i + 1)) (sym c.most-most.ensures) in
    omega (
      arith,
      some.above,
      more,
      ap (heavier weight) units,
      with_class (int_lt weight) c.most-most.result entry (units_from all entries (i + 1)),
      with_few (int_lt weight) (units_from all entries c.args.place),
      units_few all entries c.args.place c.facts.ensures,
    )

pub overflow_add-no_lighter : goal.overflow_add-no_lighter
overflow_add-no_lighter c =
    let all = c.args.classes.now in let entries = c.args.entries.now in let i = c.loop-i.i in let weight = c.args.weight in let entry = get_or entries i (pos 0) in
    let fw : FitsSigned w128 weight = c.ranges.weight in
    let fx : FitsSigned w128 entry = search rules in
    let some : IsBesideSome (units_from all entries c.args.place) weight (units_from all entries i) c.loop-i.heavier (to_z w128 c.loop-i.sum-bits) c.loop-i.no_lighter = simp to_z-of_z at c.loop-i.invariant in
    let more : c.count_if-no_lighter.result ≡ cond (int_le weight entry) c.most-most.result 0 = simp to_z-of_z at c.count_if-no_lighter.ensures in
    let units : units_from all entries i ≡ replicate c.most-most.result entry ++ units_from all entries (i + 1) =
    units_next all entries i c.class_at.result.now c.class_at.ensures.stands c.requires.narrow.one_each ∙ ap (λ most. replicate most entry ++ units_from all entries (i + 1)) (sym c.most-most.ensures) in
    omega (
      arith,
      some.from,
      more,
      ap (no_lighter weight) units,
      with_class (int_le weight) c.most-most.result entry (units_from all entries (i + 1)),
      with_few (int_le weight) (units_from all entries c.args.place),
      units_few all entries c.args.place c.facts.ensures,
    )

pub with_count-sum-requires : goal.with_count-sum-requires
with_count-sum-requires c =
    let all = c.args.classes.now in let entries = c.args.entries.now in let i = c.loop-i.i in let weight = c.args.weight in let entry = get_or entries i (pos 0) in
    let fw : FitsSigned w128 weight = c.ranges.weight in
    let fx : FitsSigned w128 entry = search rules in
    let some : IsBesideSome (units_from all entries c.args.place) weight (units_from all entries i) c.loop-i.heavier (to_z w128 c.loop-i.sum-bits) c.loop-i.no_lighter = simp to_z-of_z at c.loop-i.invariant in
    let more : c.count_if-more.result ≡ cond (int_lt weight entry) c.most-most.result 0 = simp to_z-of_z at c.count_if-more.ensures in
    let units : units_from all entries i ≡ replicate c.most-most.result entry ++ units_from all entries (i + 1) =
    units_next all entries i c.class_at.result.now c.class_at.ensures.stands c.requires.narrow.one_each ∙ ap (λ most. replicate most entry ++ units_from all entries (i + 1)) (sym c.most-most.ensures) in
    let narrow : unsigned_abs (to_z w128 c.loop-i.sum-bits) + c.count_if-more.result * unsigned_abs entry < 2 ^ 127 =
    omega (
      arith,
      beside_fits (units_from all entries c.args.place) weight c.most-most.result entry (units_from all entries (i + 1)) (units_from all entries i) units some (units_narrow all entries c.args.place c.facts.ensures c.requires.narrow),
      ap (λ n. n * unsigned_abs entry) more,
    ) in
    simp to_z-of_z narrow

pub loop-i-preserved : goal.loop-i-preserved
loop-i-preserved c =
    let all = c.args.classes.now in let entries = c.args.entries.now in let i = c.loop-i.i in let weight = c.args.weight in let entry = get_or entries i (pos 0) in
    let fw : FitsSigned w128 weight = c.ranges.weight in
    let fx : FitsSigned w128 entry = search rules in
    let some : IsBesideSome (units_from all entries c.args.place) weight (units_from all entries i) c.loop-i.heavier (to_z w128 c.loop-i.sum-bits) c.loop-i.no_lighter = simp to_z-of_z at c.loop-i.invariant in
    let fr : FitsSigned w128 c.with_count-sum.result = search rules in
    let more : c.count_if-more.result ≡ cond (int_lt weight entry) c.most-most.result 0 = simp to_z-of_z at c.count_if-more.ensures in
    let also : c.count_if-no_lighter.result ≡ cond (int_le weight entry) c.most-most.result 0 = simp to_z-of_z at c.count_if-no_lighter.ensures in
    let made : c.with_count-sum.result ≡ to_z w128 c.loop-i.sum-bits +ℤ pos c.count_if-more.result *ℤ entry = simp to_z-of_z at c.with_count-sum.ensures in
    let units : units_from all entries i ≡ replicate c.most-most.result entry ++ units_from all entries (i + 1) =
    units_next all entries i c.class_at.result.now c.class_at.ensures.stands c.requires.narrow.one_each ∙ ap (λ most. replicate most entry ++ units_from all entries (i + 1)) (sym c.most-most.ensures) in
    let next = beside_more (units_from all entries c.args.place) weight c.most-most.result entry (units_from all entries (i + 1)) (units_from all entries i) units some
    (ap (λ n. c.loop-i.heavier + n) more) (made ∙ ap (λ n. to_z w128 c.loop-i.sum-bits +ℤ pos n *ℤ entry) more) (ap (λ n. c.loop-i.no_lighter + n) also) in
    simp to_z-of_z next

pub returns : goal.returns
returns c =
    let all = c.args.classes.now in let entries = c.args.entries.now in let i = c.loop-i.i in let weight = c.args.weight in
    let fw : FitsSigned w128 weight = c.ranges.weight in
    let some : IsBesideSome (units_from all entries c.args.place) weight (units_from all entries i) c.loop-i.heavier (to_z w128 c.loop-i.sum-bits) c.loop-i.no_lighter = simp to_z-of_z at c.loop-i.invariant in
    let beside : Beside = record { heavier = c.loop-i.heavier; sum = to_z w128 c.loop-i.sum-bits; no_lighter = c.loop-i.no_lighter } in
    beside_all (units_from all entries c.args.place) weight (units_from all entries i) beside (units_end all entries i (omega (arith, c.loop-i-test.false, c.requires.narrow.one_each))) some
