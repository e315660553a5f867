-- Properties of the parts that are spread.
use Rattle.std.proofs.Common.{◌≡◌, ℕ, ◌*◌, ◌/◌, ◌<◌, List, [], ◌∷◌, length, sum_by, arith}
use Rattle.std.specs.Int.{◌∣◌}
use Rattle.std.specs.List.{AllByRecursion, Contains}
use Rattle.std.proofs.lemmas.List.Elements.{All-contains, All-from_recursion, All-weaker, recursion_from_All}
use Rattle.define_pools.proofs.Sums.{total}
use Rattle.frac128.specs.Fractions.{Fraction}
use Rattle.define_searches.specs.Classes.{Classes}
use Rattle.define_searches.specs.Compositions.{compositions}
use Rattle.define_runs.specs.Spreading.{AreParts, IsCommonTotal}
use Rattle.define_runs.proofs.CommonTotals.{each_den}

-- there is at least one part, since the fractions of the parts sum to one
pub some_parts : (all : Classes) (parts : List (List ℕ × Fraction)) → AreParts all parts → 0 < length parts
some_parts all [] are = let sum : ℕ = 0 in let none : sum ≡ 1 = are.one 1 (λ k d h. absurd (omega arith)) in absurd (omega arith)
some_parts all (part ∷ parts) are = omega arith

-- if P holds of each composition of the classes, it holds of the composition of each part
pub each_composition : (P : List ℕ → Type 0) (all : Classes) (parts : List (List ℕ × Fraction)) → AreParts all parts → AllByRecursion P (compositions all) → AllByRecursion (λ part. P part.0) parts
each_composition P all parts are each =
    recursion_from_All (λ part. P part.0) parts
    (All-weaker (λ part. Contains (compositions all) part.0) (λ part. P part.0) (λ part h. All-contains P (compositions all) part.0 (All-from_recursion P (compositions all) each) h) parts are.compositions)

-- with the common total as denominator, the parts' numerators sum to the total
pub sum_is_total : (all : Classes) (parts : List (List ℕ × Fraction)) (total : ℕ) → AreParts all parts → IsCommonTotal all parts total →
    sum_by (λ part. part.1.num * (total / part.1.den)) parts ≡ total
sum_is_total all parts total are common = are.one total (All-from_recursion (λ part. part.1.den ∣ total) parts (each_den all parts total common))
