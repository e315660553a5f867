use Rattle.std.proofs.Common.{◌≡◌, ℕ, ◌+◌, ◌≤◌, ◌<◌, List, [], ◌++◌, length, take, sym, ap, ◌∙◌, arith}
use Rattle.std.specs.List.{enumerate_from, flat_map}
use Rattle.std.proofs.lemmas.List.{append_assoc}
use Rattle.define_quotas.specs.declared.Quota.{Quota}
use Rattle.define_quotas.specs.LeastMisses.{quotas_of}
use Rattle.define_quotas.specs.AllQuotas.{quotas_of_value}
use Rattle.define_pools.specs.Pool.{BoundedValue}
use Rattle.define_quotas.proofs.Listed.{all_listed, one_more_list}
use Rattle.loosening_by_proof.proofs.quotas.push_category.Goals as goal

pub loop-value-preserved : goal.loop-value-preserved
loop-value-preserved c =
    let values = c.args.category.now.values in let place = c.args.place in let i = c.loop-value.value in
    let d : BoundedValue = record { name = []; lower = 0; upper = 0 } in
    let f : ℕ × BoundedValue → List Quota = λ (value, bounds). quotas_of_value place value in
    let start = quotas_of c.args.weighted.now.items in
    let before = flat_map f (take i (enumerate_from 0 values)) in
    let inside : i < length values = omega (arith, c.loop-value-test.true, ap length c.values-value-end.ensures) in
    c.in_ok-push_value.ensures
    ∙ (ap (λ stood. stood ++ quotas_of_value place i) c.loop-value.invariant
    ∙ (append_assoc start before (quotas_of_value place i)
    ∙ ap (λ more. start ++ more) (sym (one_more_list f values i d inside))))

pub returns : goal.returns
returns c =
    let values = c.args.category.now.values in let i = c.loop-value.value in
    let f : ℕ × BoundedValue → List Quota = λ (value, bounds). quotas_of_value c.args.place value in
    let start = quotas_of c.args.weighted.now.items in
    let whole : length values ≤ i = omega (arith, c.loop-value-test.false, ap length c.values-value-end.ensures) in
    c.loop-value.invariant ∙ ap (λ more. start ++ more) (all_listed f values i whole)
