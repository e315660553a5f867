-- The coefficients that a constraint of the check refers to, as a list.
use Rattle.std.specs.Prelude.{ℕ, ◌==◌, if◌then◌else◌, List, length, map, slice_index, ℤ, pos}
use Rattle.std.specs.List.{range_with_len}
use Rattle.define_pools.specs.Pool.{volunteer}
use Rattle.define_searches.specs.Compositions.{is_of_household}
use Rattle.check_proofs.specs.declared.constraints.Coefficients.{Coefficients}
use Rattle.check_proofs.specs.declared.constraints.Coefficients.TheVariants.{Everybody, WithValue, Weights, OfHousehold}

abbrev pub coefficients_of : Coefficients → List ℤ
coefficients_of (Everybody volunteers) = map (λ i. pos 1) (range_with_len 0 (length volunteers.now))
coefficients_of (WithValue volunteers c v) =
    map (λ i. if slice_index (volunteer volunteers.now i).values c == v then pos 1 else pos 0) (range_with_len 0 (length volunteers.now))
coefficients_of (Weights weights) = weights.now
coefficients_of (OfHousehold households number) = map (λ household. if is_of_household number household then pos 1 else pos 0) households.now
