use Rattle.std.proofs.Common.{◌≡◌, ◌≤◌, ◌<◌, [], ◌∷◌, Some, refl, arith}
use Rattle.std.specs.Fmt.{digits}
use Rattle.std.specs.Str.{is_utf8, chars}
use lib.Utf8.{encode}
use Rattle.define_pools.specs.Pool.{IsPool}
use Rattle.define_quotas.specs.Loosenings.{Loosening, least_loosening}
use Rattle.define_quotas.specs.WorkedLoosenings.{one_woman}
use Rattle.define_searches.specs.Classes.{are_alike}
use Rattle.command_meanings.specs.Loosening.{visits_of}
use Rattle.command_quotas.proofs.Least.{the_least}
use Rattle.command_quotas.proofs.worked.worked_moved.Goals as goal

three_visits : visits_of (one_woman 2 2) ≡ 3
three_visits = refl

abbrev lowered : Loosening
lowered = record { total = 1; pool = one_woman 1 2; panel = 0 ∷ 1 ∷ [] }

found : least_loosening (one_woman 2 2) ≡ Some lowered
found = refl

given_is_pool : IsPool (one_woman 2 2)
unfolding is_utf8 chars encode
given_is_pool = record {
  size = refl;
  few_categories = refl;
  categories = refl;
  different_categories = refl;
  few_volunteers = refl;
  ids = refl;
  different_ids = refl;
  values = refl;
  households = refl;
}

pub returns-clause-answer : goal.returns-clause-answer
unfolding digits
returns-clause-answer c =
    let pool = one_woman 2 2 in
    let within : visits_of pool ≤ 3 = omega (arith, three_visits) in
    record {
      within = within;
      loosening = lowered;
      least = the_least pool lowered (λ counts e. c.cheapest_is_least.ensures.found pool (are_alike pool) counts (c.alike_make_classes.ensures pool) e)
          (c.least_loosening_is_least.ensures.least pool lowered given_is_pool found) found;
      lines = refl;
    }

pub returns-clause-spent : goal.returns-clause-spent
unfolding digits
returns-clause-spent c =
    let more : 2 < visits_of (one_woman 2 2) = omega (arith, three_visits) in
    record { more = more; line = refl }
