use Rattle.std.proofs.Common.{◌≡◌, ◌+◌, [], ◌∷◌, ◌++◌, map, filter, sym, ap, ◌∙◌, append_assoc}
use Rattle.std.specs.List.{range_with_len}
use Rattle.std.proofs.lemmas.List.{map-append}
use Rattle.std.proofs.lemmas.List.Elements.{filter-append}
use Rattle.define_pools.proofs.Lists.{numbers_more}
use Rattle.define_quotas.specs.AllQuotas.{household_quota, is_first_of_shared}
use Rattle.quota_conflicts.proofs.together.push_households.Goals as goal

pub loop-member-preserved : goal.loop-member-preserved
loop-member-preserved c =
    let i = c.loop-member.member in
    let is_first = is_first_of_shared c.args.pool.now in
    let start = c.args.quotas.now.items in
    let before = filter is_first (range_with_len 0 i) in
    let next = filter is_first (i ∷ []) in
    let more : filter is_first (range_with_len 0 (i + 1)) ≡ before ++ next = ap (filter is_first) (numbers_more i) ∙ filter-append is_first (range_with_len 0 i) (i ∷ []) in
    c.in_ok-push_household.ensures
    ∙ (ap (λ stood. stood ++ map household_quota next) c.loop-member.invariant
    ∙ (append_assoc start (map household_quota before) (map household_quota next)
    ∙ ap (λ quotas. start ++ quotas) (sym (ap (map household_quota) more ∙ map-append household_quota before next))))
