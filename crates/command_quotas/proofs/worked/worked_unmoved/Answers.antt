use Rattle.std.proofs.Common.{◌≡◌, ◌≤◌, [], ◌∷◌, Some, refl, arith}
use Rattle.std.specs.Fmt.{digits}
use Rattle.std.specs.Str.{is_utf8, chars}
use lib.Utf8.{encode}
use Rattle.define_quotas.specs.Loosenings.{Loosening, least_loosening}
use Rattle.define_pools.specs.Pool.{IsPool}
use Rattle.define_pools.specs.WorkedExamples.{four}
use Rattle.define_searches.specs.Classes.{are_alike}
use Rattle.command_meanings.specs.Loosening.{visits_of}
use Rattle.command_quotas.proofs.Least.{the_least}
use Rattle.command_quotas.proofs.worked.worked_unmoved.Goals as goal

five_visits : visits_of four ≡ 5
five_visits = refl

abbrev unmoved : Loosening
unmoved = record { total = 0; pool = four; panel = 0 ∷ 2 ∷ [] }

found : least_loosening four ≡ Some unmoved
found = refl

four_is_pool : IsPool four
unfolding is_utf8 chars encode
four_is_pool = record {
  size = refl;
  few_categories = refl;
  categories = refl;
  different_categories = refl;
  few_volunteers = refl;
  ids = refl;
  different_ids = refl;
  values = refl;
  households = refl;
}

pub returns : goal.returns
unfolding digits
returns c =
    let within : visits_of four ≤ 5 = omega (arith, five_visits) in
    record {
      within = within;
      loosening = unmoved;
      least = the_least four unmoved (λ counts e. c.cheapest_is_least.ensures.found four (are_alike four) counts (c.alike_make_classes.ensures four) e)
          (c.least_loosening_is_least.ensures.least four unmoved four_is_pool found) found;
      lines = refl;
    }
