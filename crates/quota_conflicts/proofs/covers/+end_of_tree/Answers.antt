use Rattle.std.proofs.Common.{ℕ, List, slice_set, subst, ◌∙◌}
use Rattle.std.proofs.lemmas.Option.{IfSome_then, MatchOption-at_some}
use Rattle.std.proofs.lemmas.Result.{IfOk-weaker}
use Rattle.define_pools.specs.declared.Standing.{Standing}
use Rattle.define_pools.specs.declared.Standing.TheVariants.{Gone}
use Rattle.define_quotas.specs.Quotas.{MissAt}
use Rattle.quota_conflicts.proofs.covers.+end_of_tree.Goals as goal

pub returns-in_ok-with-in-Split-clause-misses : goal.returns-in_ok-with-in-Split-clause-misses
returns-in_ok-with-in-Split-clause-misses t c =
    let pool = c.args.pool.now in
    let quotas = c.args.quotas.now in
    let all = c.args.standings.now in
    let i = c.in-Split.i in
    let At : List Standing → Type 0 = λ standings. MissAt pool quotas standings 1 in
    let none = λ (end : ℕ). At c.deref-in-Split.result.now in
    let without : At (slice_set all i Gone) =
    subst At (c.deref-in-Split.ensures.value ∙ c.in_ok-without-in-Split.ensures) (MatchOption-at_some _ none c.in-Some.middle c.in-Some.is c.in_ok-middle-in-Split.ensures.misses) in
    let is_with = c.deref-in-Split-2.ensures.value ∙ c.in_ok-with-in-Split.ensures in
    IfOk-weaker c.end_of_tree-in-Split.result _ _ (λ end answer. IfSome_then end answer (λ at misses. c.both_parts_miss.ensures pool quotas all i 1 without (subst At is_with misses)))
    c.end_of_tree-in-Split.ensures.misses
