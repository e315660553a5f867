use Rattle.std.proofs.Common.{◌≡◌, ℕ, ◌+◌, ◌*◌, Bool, true, false, eqb, [], None, ap, sym, ◌∙◌, arith, eq-eqb}
use Rattle.std.specs.Prelude.{slice_index}
use Rattle.std.proofs.lemmas.Bool.{ne_eqb}
use Rattle.std.proofs.lemmas.List.{get_or_read}
use Rattle.define_pools.specs.declared.Standing.TheVariants.{Gone}
use Rattle.define_pools.specs.Pool.{Volunteer, volunteer}
use Rattle.bundle_page.specs.declared.sums.Sum.{Sum}
use Rattle.bundle_page.proofs.SummedCounts.{one_left, one_summed}
use Rattle.bundle_page.proofs.sums.sum_with.Goals as goal
use Rattle.bundle_page.proofs.sums.sum_with.Goals.{then-value_at-value_place, else-value_at-value_place}

pub loop-i-preserved : goal.loop-i-preserved
loop-i-preserved c =
    let volunteers = c.args.volunteers.now in
    let counts = c.args.counts.now in
    let total = c.args.total in
    let place = c.args.place in
    let i = c.loop-i.i in
    let v = c.index-volunteers-i.result in
    let is : v ≡ volunteer volunteers i = get_or_read volunteers i v c.loop-i-test.true c.index-volunteers-i.is (record { id = []; values = []; standing = Gone; household = None }) in
    let has : ℕ → Bool = λ k. eqb (slice_index (volunteer volunteers k).values place) c.args.value_place in
    let read : c.value_at.result ≡ slice_index (volunteer volunteers i).values place = c.value_at.ensures ∙ ap (λ (w : Volunteer). slice_index w.values place) is in
    let before = c.loop-i.sum.whole * total + c.loop-i.sum.rest in
    let sum = c.if-value_at-value_place.sum in
    elim c.if-value_at-value_place.branch [
      | then-value_at-value_place w ↦
          let passes : has i ≡ true = eq-eqb (slice_index (volunteer volunteers i).values place) c.args.value_place (sym read ∙ w.if-value_at-value_place.true) in
          let added = ap (λ (s : Sum). s.whole * total + s.rest) w.sum-is ∙ w.with_count-sum.ensures.value in
          let few = ap (λ (s : Sum). s.whole) w.sum-is in
          let rest = ap (λ (s : Sum). s.rest) w.sum-is in
          record {
            value = one_summed (slice_index counts) has i before (sum.whole * total + sum.rest) passes c.loop-i.invariant.value added;
            rest = omega (arith, rest, w.with_count-sum.ensures.rest);
            few = omega (arith, few, w.with_count-sum.ensures.few, c.loop-i.invariant.few);
          }
      | else-value_at-value_place w ↦
          let fails : has i ≡ false = ne_eqb (slice_index (volunteer volunteers i).values place) c.args.value_place (λ same. w.if-value_at-value_place.false (read ∙ same)) in
          let same = ap (λ (s : Sum). s.whole * total + s.rest) w.sum-is in
          let few = ap (λ (s : Sum). s.whole) w.sum-is in
          let rest = ap (λ (s : Sum). s.rest) w.sum-is in
          record {
            value = same ∙ one_left (slice_index counts) has i before fails c.loop-i.invariant.value;
            rest = omega (arith, rest, c.loop-i.invariant.rest);
            few = omega (arith, few, c.loop-i.invariant.few);
          }
    ]
