use Rattle.std.proofs.Common.{◌≡◌, ℕ, Some, refl, sym, subst}
use Rattle.std.proofs.lemmas.Result.{IfOk-weaker}
use Rattle.define_proofs.specs.Leaves.{standings}
use Rattle.define_quotas.specs.CostBounds.{CostsAt}
use Rattle.define_quotas.specs.Loosenings.{loosening_for}
use Rattle.loosening_by_proof.specs.Answers.{IsLeastForTeam}
use Rattle.loosening_by_proof.proofs.answers.least_loosening.Goals as goal

pub returns : goal.returns
returns c =
    let pool = c.args.pool.now in
    let team = c.args.team in
    let right : IsLeastForTeam pool (loosening_for pool team) = record {
      team = c.requires.team;
      is_for = refl;
      least = c.cheapest_by_bound.ensures.least pool team c.facts.ensures c.requires.team (subst (λ (n : ℕ). CostsAt pool (standings pool) (Some n)) c.requires.cost c.requires.least);
    } in
    IfOk-weaker c.for_team.result _ _ (λ loosened e. subst (IsLeastForTeam pool) (sym e) right) c.for_team.ensures
