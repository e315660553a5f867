use Rattle.std.proofs.Common.{ℕ, List, Some, set, subst, ◌∙◌}
use Rattle.std.proofs.lemmas.Option.{IfSome_then, MatchOption-at_some}
use Rattle.std.proofs.lemmas.Result.{IfOk-weaker}
use Rattle.define_pools.specs.declared.Standing.{Standing}
use Rattle.define_pools.specs.declared.Standing.TheVariants.{Gone}
use Rattle.define_quotas.specs.CostBounds.{CostsAt}
use Rattle.loosening_by_proof.proofs.covers.+end_of_tree.Goals as goal

pub returns-in_ok-with-in-Split-clause-costs : goal.returns-in_ok-with-in-Split-clause-costs
returns-in_ok-with-in-Split-clause-costs t c =
    let pool = c.args.pool.now in
    let all = c.args.standings.now in
    let i = c.in-Split.i in
    let At : List Standing → Type 0 = λ standings. CostsAt pool standings (Some c.args.least) in
    let none = λ (end : ℕ). At c.deref.result.now in
    let without : At (set all i Gone) =
    subst At (c.deref.ensures.value ∙ c.in_ok-without-in-Split.ensures) (MatchOption-at_some _ none c.in-Some.middle c.in-Some.is c.in_ok-middle-in-Split.ensures.costs) in
    let is_with = c.deref-in-Split.ensures.value ∙ c.in_ok-with-in-Split.ensures in
    IfOk-weaker c.end_of_tree-in-Split.result _ _ (λ end answer. IfSome_then end answer (λ at costs. c.both_parts_cost.ensures pool all i (Some c.args.least) without (subst At is_with costs)))
    c.end_of_tree-in-Split.ensures.costs
