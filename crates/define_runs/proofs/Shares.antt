-- Shares of a whole, as fractions in lowest terms, sum to one.
use Rattle.std.proofs.Common.{◌≡◌, ℕ, ◌*◌, ◌/◌, ◌<◌, true, List, [], ◌∷◌, map, refl, sym, ap, subst, ◌∙◌, arith}
use Rattle.std.specs.Int.{◌∣◌}
use Rattle.std.specs.List.{AllByRecursion, Contains}
use Rattle.std.proofs.lemmas.List.Elements.{All-from_recursion, recursion_from_All}
use Rattle.std.proofs.Math.Nat.{mul-div_cancel', eq_of_mul-eq-mul_right}
use Rattle.define_pools.proofs.Sums.{total, sum_by-is-total}
use Rattle.define_pools.proofs.Each.{each_map, each_everywhere, each_mapped}
use Rattle.frac128.specs.Divisors.{gcd_of}
use Rattle.frac128.specs.Fractions.{lowest_of}
use Rattle.frac128.proofs.DivisorLaws.{beyond-positive}
use Rattle.frac128.proofs.FractionLaws.{IsLowest-divided, products-divided}
use Rattle.define_pools.specs.Lists.{all_different}
use Rattle.define_searches.specs.Classes.{Classes}
use Rattle.define_searches.specs.Compositions.{compositions}
use Rattle.define_runs.specs.Spreading.{AreParts, AreShares, with_fraction}

-- a share's numerator over a common multiple, times the whole, is the share times the multiple
share_of : (share whole common : ℕ) → (lowest_of share whole).den ∣ common → (lowest_of share whole).num * (common / (lowest_of share whole).den) * whole ≡ share * common
share_of share whole common h =
    over (lowest_of share whole).num (lowest_of share whole).den (common / (lowest_of share whole).den) share whole common
    (products-divided share whole (gcd_of share whole) refl) (mul-div_cancel' (lowest_of share whole).den h)
  where
    over : (num den times share whole common : ℕ) → share * den ≡ num * whole → den * times ≡ common → num * times * whole ≡ share * common
    over num den times share whole common e f =
        let a : share * den * times ≡ num * whole * times = ap (λ n. n * times) e in
        let b : share * (den * times) ≡ share * common = ap (λ n. share * n) f in
        omega arith

all_shares : (whole common : ℕ) (shares : List (List ℕ × ℕ)) → AllByRecursion (λ part. part.1.den ∣ common) (map (with_fraction whole) shares) →
    total (λ part. part.1.num * (common / part.1.den)) (map (with_fraction whole) shares) * whole ≡ total (λ part. part.1) shares * common
all_shares whole common [] each = omega arith
all_shares whole common (part ∷ shares) each =
    let here = share_of part.1 whole common each.0 in
    let rest = all_shares whole common shares each.1 in
    omega arith

same_parts : (whole : ℕ) (shares : List (List ℕ × ℕ)) → map (λ part. part.0) (map (with_fraction whole) shares) ≡ map (λ part. part.0) shares
same_parts whole [] = refl
same_parts whole (part ∷ shares) = ap (λ rest. part.0 ∷ rest) (same_parts whole shares)

pub parts_from_shares : (all : Classes) (whole : ℕ) (shares : List (List ℕ × ℕ)) → AreShares all whole shares → AreParts all (map (with_fraction whole) shares)
parts_from_shares all whole shares are =
    let parts = map (with_fraction whole) shares in
    record {
      compositions = All-from_recursion (λ part. Contains (compositions all) part.0) parts
          (each_mapped (λ part. Contains (compositions all) part.0) (with_fraction whole) shares are.compositions);
      different = subst (λ xs. all_different xs ≡ true) (sym (same_parts whole shares)) are.different;
      positive = All-from_recursion (λ part. 0 < part.1.num) parts
          (each_mapped (λ part. 0 < part.1.num) (with_fraction whole) shares
          (each_map (λ part. 0 < part.1) (λ part. 0 < (lowest_of part.1 whole).num) (λ part some. beyond-positive part.1 whole (gcd_of part.1 whole) refl some) shares are.positive));
      over = All-from_recursion (λ part. 0 < part.1.den) parts
          (each_mapped (λ part. 0 < part.1.den) (with_fraction whole) shares
          (each_everywhere (λ part. 0 < (lowest_of part.1 whole).den) (λ part. (IsLowest-divided part.1 whole (gcd_of part.1 whole) refl are.some).0) shares));
      one = λ common h.
          let sum = all_shares whole common shares (recursion_from_All (λ part. part.1.den ∣ common) parts h) in
          let whole_is : total (λ part. part.1) shares * common ≡ whole * common = ap (λ n. n * common) (sym (sum_by-is-total (λ part. part.1) shares) ∙ are.sum) in
          let turned : whole * common ≡ common * whole = omega arith in
          sum_by-is-total (λ part. part.1.num * (common / part.1.den)) parts
          ∙ eq_of_mul-eq-mul_right whole are.some (total (λ part. part.1.num * (common / part.1.den)) parts) common (sum ∙ whole_is ∙ turned);
    }
