use Rattle.std.proofs.Common.{◌≡◌, ℕ, ◌+◌, List, get_or, sum_by, sym, ap, ap₂, ◌∙◌}
use Rattle.std.specs.List.{enumerate_from}
use Rattle.define_quotas.specs.Teams.{missed_by}
use Rattle.define_pools.specs.Pool.{BoundedValue, Category, members_with}
use Rattle.loosening_by_proof.proofs.Sums.{all_read, one_more}
use Rattle.loosening_by_proof.proofs.teams.cost.Goals as goal

pub loop-c-preserved : goal.loop-c-preserved
loop-c-preserved c =
    let volunteers = c.args.volunteers.now in let members = c.args.members.now in let categories = c.args.categories.now in
    let i = c.loop-c.c in let d = c.index-categories-c.result in
    let missed : ℕ → List BoundedValue → ℕ = λ k values. sum_by (λ (v, value). missed_by value.lower value.upper (members_with volunteers members k v)) (enumerate_from 0 values) in
    let f : ℕ × Category → ℕ = λ (k, category). missed k category.values in
    c.in_ok-sum.ensures.1
    ∙ (ap₂ (λ m n. m + n) c.loop-c.invariant (c.in_ok-missed.ensures ∙ ap (missed i) (c.values.ensures ∙ ap (λ (k : Category). k.values) c.index-categories-c.is))
    ∙ sym (one_more f categories i d c.loop-c-test.true))

pub returns : goal.returns
returns c =
    let volunteers = c.args.volunteers.now in let members = c.args.members.now in
    let f : ℕ × Category → ℕ = λ (k, category). sum_by (λ (v, value). missed_by value.lower value.upper (members_with volunteers members k v)) (enumerate_from 0 category.values) in
    c.loop-c.invariant ∙ all_read f c.args.categories.now c.loop-c.c c.loop-c-test.false
