use Rattle.std.proofs.Common.{◌≡◌, ◌≤◌, Some, ap, sym, subst, ◌∙◌}
use Rattle.define_quotas.specs.CostSearch.{cheapest_search}
use Rattle.define_quotas.specs.Loosenings.{Loosening}
use Rattle.define_searches.specs.Classes.{Classes}
use Rattle.quota_loosen.proofs.Loosenings.{cheapest_from, kept_none, kept_some, loosening_from, no_loosening}
use Rattle.quota_loosen.proofs.least.loosen.Goals as goal

pub loosening-requires-clause-counts : goal.loosening-requires-clause-counts
loosening-requires-clause-counts c =
    let all = c.in_ok-classes.classes in
    cheapest_from c.args.pool.now all c.in-Some.counts c.in_ok-classes.ensures
    (kept_some all (cheapest_search all).kept c.in_ok-counts.field-0 c.in-Some.counts c.in-Some.total c.in_ok-counts.ensures.1 c.in-Some.is)

pub returns-in-Some : goal.returns-in-Some
returns-in-Some c =
    let all = c.in_ok-classes.classes in
    let kept = kept_some all (cheapest_search all).kept c.in_ok-counts.field-0 c.in-Some.counts c.in-Some.total c.in_ok-counts.ensures.1 c.in-Some.is in (
      subst (λ (k : Classes). (cheapest_search k).visits ≤ c.args.nodes) c.in_ok-classes.ensures c.in_ok-counts.ensures.0,
      ap (λ (l : Loosening). Some l) c.in_ok-loosening-in-Some.ensures ∙ loosening_from c.args.pool.now all c.in-Some.counts c.in_ok-classes.ensures kept,
    )

pub returns : goal.returns
returns c =
    let all = c.in_ok-classes.classes in
    let kept = kept_none all (cheapest_search all).kept c.in_ok-counts.field-0 c.in_ok-counts.ensures.1 c.in-None.is in (
      subst (λ (k : Classes). (cheapest_search k).visits ≤ c.args.nodes) c.in_ok-classes.ensures c.in_ok-counts.ensures.0,
      sym (no_loosening c.args.pool.now all c.in_ok-classes.ensures kept),
    )
