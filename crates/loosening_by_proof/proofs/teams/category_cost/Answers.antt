use Rattle.std.proofs.Common.{◌≡◌, ℕ, ◌+◌, get_or, sum_by, sym, ap₂, ◌∙◌}
use Rattle.define_quotas.specs.Teams.{missed_by}
use Rattle.define_pools.specs.Pool.{BoundedValue, members_with}
use Rattle.loosening_by_proof.proofs.Sums.{all_read, one_more}
use Rattle.loosening_by_proof.proofs.teams.category_cost.Goals as goal

pub loop-v-preserved : goal.loop-v-preserved
loop-v-preserved c =
    let volunteers = c.args.volunteers.now in let members = c.args.members.now in let values = c.args.values.now in
    let i = c.loop-v.v in let d = c.index-values-v.result in
    let f : ℕ × BoundedValue → ℕ = λ (v, value). missed_by value.lower value.upper (members_with volunteers members c.args.category v) in
    c.in_ok-sum.ensures.1
    ∙ (ap₂ (λ m n. m + n) c.loop-v.invariant
    (c.in_ok-missed.ensures ∙ ap₂ (λ (value : BoundedValue) n. missed_by value.lower value.upper n) c.index-values-v.is c.number_with-number.ensures)
    ∙ sym (one_more f values i d c.loop-v-test.true))

pub returns : goal.returns
returns c =
    let volunteers = c.args.volunteers.now in let members = c.args.members.now in
    let f : ℕ × BoundedValue → ℕ = λ (v, value). missed_by value.lower value.upper (members_with volunteers members c.args.category v) in
    c.loop-v.invariant ∙ all_read f c.args.values.now c.loop-v.v c.loop-v-test.false
