use Rattle.std.proofs.Common.{◌≡◌, ◌≤◌, None, refl, arith}
use Rattle.std.specs.Str.{is_utf8, chars}
use lib.Utf8.{encode}
use Rattle.define_quotas.specs.Loosenings.{least_loosening}
use Rattle.define_pools.specs.Pool.{IsPool}
use Rattle.define_pools.specs.WorkedExamples.{couple, nobody}
use Rattle.command_meanings.specs.Loosening.{visits_of}
use Rattle.command_quotas.proofs.Least.{no_panels}
use Rattle.command_quotas.proofs.worked.worked_no_team.Goals as goal

one_visit : visits_of nobody ≡ 1
one_visit = refl

two_visits : visits_of couple ≡ 2
two_visits = refl

none_of_nobody : least_loosening nobody ≡ None
none_of_nobody = refl

none_of_couple : least_loosening couple ≡ None
none_of_couple = refl

nobody_is_pool : IsPool nobody
unfolding is_utf8 chars encode
nobody_is_pool = record {
  size = refl;
  few_categories = refl;
  categories = refl;
  different_categories = refl;
  few_volunteers = refl;
  ids = refl;
  different_ids = refl;
  values = refl;
  households = refl;
}

couple_is_pool : IsPool couple
unfolding is_utf8 chars encode
couple_is_pool = record {
  size = refl;
  few_categories = refl;
  categories = refl;
  different_categories = refl;
  few_volunteers = refl;
  ids = refl;
  different_ids = refl;
  values = refl;
  households = refl;
}

pub returns-clause-nobody : goal.returns-clause-nobody
returns-clause-nobody c =
    let no_team = (c.least_loosening_is_least.ensures.none nobody).0 none_of_nobody in
    let within : visits_of nobody ≤ 1 = omega (arith, one_visit) in
    record { within = within; no_team = no_team; none = no_panels nobody nobody_is_pool no_team; line = refl }

pub returns-clause-couple : goal.returns-clause-couple
returns-clause-couple c =
    let no_team = (c.least_loosening_is_least.ensures.none couple).0 none_of_couple in
    let within : visits_of couple ≤ 2 = omega (arith, two_visits) in
    record { within = within; no_team = no_team; none = no_panels couple couple_is_pool no_team; line = refl }
