use Rattle.std.proofs.Common.{◌≡◌, ℕ, ◌+◌, ◌≤◌, ◌<◌, true, leb, nat_cmp, List, length, take, get_or, ◌∙◌, arith}
use Rattle.std.specs.List.{list_all}
use Rattle.std.specs.Ordering.{ord_max}
use Rattle.std.proofs.lemmas.Bool.{and_from, le-leb, leb-true}
use Rattle.std.proofs.lemmas.Grind.{common_steps}
use Rattle.std.proofs.lemmas.List.Folds.{list_all_more}
use Rattle.define_pools.proofs.Each.{list_all_implies, passes_at}
use Rattle.define_quotas.specs.declared.Counted.TheVariants.{Everybody}
use Rattle.define_quotas.specs.declared.Side.TheVariants.{AtLeast}
use Rattle.define_quotas.specs.declared.WeightedQuota.{WeightedQuota}
use Rattle.quota_conflicts.proofs.misses.greatest_weight.Goals as goal

-- if the first `k` weights are at most `some`, and `some` and weight `k` are at most `more`, the first `k + 1` weights are at most `more`
one_lighter : (weighted : List WeightedQuota) (k some more : ℕ) (d : WeightedQuota) → k < length weighted → some ≤ more → (get_or weighted k d).weight ≤ more →
    list_all (λ it. leb it.weight some) (take k weighted) ≡ true → list_all (λ it. leb it.weight more) (take (k + 1) weighted) ≡ true
one_lighter weighted k some more d l grows next light =
    list_all_more (λ it. leb it.weight more) weighted k d l
    ∙ and_from _ _
    (list_all_implies (λ it. leb it.weight some) (λ it. leb it.weight more) (λ it e. le-leb it.weight more (let low = leb-true it.weight some e in omega arith)) (take k weighted) light)
    (le-leb (get_or weighted k d).weight more next)

pub loop-it-preserved : goal.loop-it-preserved
loop-it-preserved c =
    let d : WeightedQuota = record { quota = record { counted = Everybody; side = AtLeast }; weight = 0 } in
    let is : c.max-greatest.result ≡ ord_max nat_cmp c.loop-it.greatest (get_or c.args.weighted.now c.loop-it.it-index d).weight = c.max-greatest.ensures in
    let grows : c.loop-it.greatest ≤ c.max-greatest.result = grind (arith, common_steps) in
    let next : (get_or c.args.weighted.now c.loop-it.it-index d).weight ≤ c.max-greatest.result = grind (arith, common_steps) in
    record {
      light = one_lighter c.args.weighted.now c.loop-it.it-index c.loop-it.greatest c.max-greatest.result d c.loop-it-test.true grows next c.loop-it.invariant.light;
      some = let s = c.loop-it.invariant.some in omega arith;
      least = λ bound some light.
          let before : c.loop-it.greatest ≤ bound = c.loop-it.invariant.least bound some light in
          let here : (get_or c.args.weighted.now c.loop-it.it-index d).weight ≤ bound =
          leb-true (get_or c.args.weighted.now c.loop-it.it-index d).weight bound (passes_at (λ it. leb it.weight bound) c.args.weighted.now c.loop-it.it-index d light c.loop-it-test.true) in
          grind (arith, common_steps);
    }
