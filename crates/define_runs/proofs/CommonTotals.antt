-- The common total of parts: a multiple of each denominator times the length of its composition's dial.
use Rattle.std.proofs.Common.{◌≡◌, ℕ, ◌+◌, ◌*◌, ◌≤◌, ◌<◌, true, false, cond, leb, ltb, List, [], ◌∷◌, ◌++◌, length, Ok, Err, refl, subst, arith}
use Rattle.std.specs.Int.{◌∣◌}
use Rattle.std.specs.List.{fold, AllByRecursion}
use Rattle.std.proofs.lemmas.Bool.{and_parts, leb-true, ltb-true}
use Rattle.std.proofs.lemmas.List.Elements.{All-from_recursion, recursion_from_All}
use Rattle.std.proofs.lemmas.Nat.Gcd.{dvd_refl, dvd_trans}
use Rattle.std.proofs.Math.Nat.{mul-pos, dvd-mul_right}
use Rattle.define_pools.proofs.Sums.{total}
use Rattle.define_pools.proofs.Each.{each_map}
use Rattle.frac128.specs.Divisors.{lcm_of, gcd_of, IsLeastCommonMultiple}
use Rattle.frac128.specs.Fractions.{Fraction}
use Rattle.frac128.proofs.DivisorLaws.{IsLeastCommonMultiple-lcm_of, beyond-positive}
use Rattle.define_searches.specs.Classes.{Class, Classes}
use Rattle.define_runs.specs.Spreading.{is_partly_taken, partly_taken, dial, greatest_total, total_from, AreParts, IsCommonTotal}

pub lcm_of-positive : (x y : ℕ) → 0 < x → 0 < y → 0 < lcm_of x y
unfolding lcm_of
lcm_of-positive x y some_x some_y = mul-pos (beyond-positive x y (gcd_of x y) refl some_x) some_y

-- a dial has at least one place
pub dial-positive : (all : Classes) (counts : List ℕ) → 0 < dial all counts
dial-positive all counts = fold_positive 1 (partly_taken all.classes counts) (omega arith) (each_size all.classes counts)
  where
    fold_positive : (a : ℕ) (xs : List ℕ) → 0 < a → AllByRecursion (λ x. 0 < x) xs → 0 < fold lcm_of a xs
    fold_positive a [] some each = some
    fold_positive a (x ∷ xs) some each = fold_positive (lcm_of a x) xs (lcm_of-positive a x some each.0) each.1

    has_size : (class : Class) (count : ℕ) → is_partly_taken class count ≡ true → 0 < length class.members
    has_size class count e =
        let parts = and_parts (ltb 0 count) (ltb count (length class.members)) e in
        let more = ltb-true count (length class.members) parts.1 in omega arith

    each_size : (classes : List Class) (counts : List ℕ) → AllByRecursion (λ n. 0 < n) (partly_taken classes counts)
    each_size [] counts = tt
    each_size (class ∷ classes) [] = tt
    each_size (class ∷ classes) (count ∷ counts) =
        let rest = each_size classes counts in
        (elim (is_partly_taken class count) as (λ b. is_partly_taken class count ≡ b → AllByRecursion (λ n. 0 < n) (cond b (length class.members ∷ []) [] ++ partly_taken classes counts)) [
          | true ↦ λ e. (has_size class count e, rest)
          | false ↦ λ e. rest
        ]) refl

-- `total` is above 0, at most 10 ^ 38, and a multiple of `before` and of each part's denominator times the length of its dial
pub record Grows (all : Classes) (parts : List (List ℕ × Fraction)) (before total : ℕ) : Type 0 where
  divided : before ∣ total
  positive : 0 < total
  within : total ≤ greatest_total
  multiple : AllByRecursion (λ part. part.1.den * dial all part.0 ∣ total) parts

pub common_from : (all : Classes) (parts : List (List ℕ × Fraction)) (place before total : ℕ) → 0 < before → before ≤ greatest_total →
    AllByRecursion (λ part. 0 < part.1.den) parts → total_from all place before parts ≡ Ok total → Grows all parts before total
unfolding IsLeastCommonMultiple
common_from all [] place before total some within over e =
    let same : before ≡ total = cc in
    record {
      divided = subst (λ n. before ∣ n) same (dvd_refl before);
      positive = subst (λ n. 0 < n) same some;
      within = subst (λ n. n ≤ greatest_total) same within;
      multiple = tt;
    }
common_from all (part ∷ parts) place before total some within over e =
    let step : ℕ = part.1.den * dial all part.0 in
    let next : ℕ = lcm_of before step in
    let least = IsLeastCommonMultiple-lcm_of before step some in
    let more : 0 < next = lcm_of-positive before step some (mul-pos over.0 (dial-positive all part.0)) in
    (elim (leb next greatest_total) as (λ b. leb next greatest_total ≡ b →
    cond b (total_from all (place + 1) next parts) (Err (record { place = place; total = before; den = part.1.den })) ≡ Ok total → Grows all (part ∷ parts) before total) [
      | true ↦ λ low e.
          let rest = common_from all parts (place + 1) next total more (leb-true next greatest_total low) over.1 e in
          record {
            divided = dvd_trans _ least.0 rest.divided;
            positive = rest.positive;
            within = rest.within;
            multiple = (dvd_trans _ least.1 rest.divided, rest.multiple);
          }
      | false ↦ λ high e. cc
    ]) refl e

pub common_total : (all : Classes) (parts : List (List ℕ × Fraction)) (total : ℕ) → AreParts all parts → total_from all 0 1 parts ≡ Ok total → IsCommonTotal all parts total
common_total all parts total are e =
    let low : 1 ≤ greatest_total = leb-true 1 greatest_total refl in
    let grown = common_from all parts 0 1 total (omega arith) low (recursion_from_All (λ part. 0 < part.1.den) parts are.over) e in
    record {
      positive = grown.positive;
      within = grown.within;
      multiple = All-from_recursion (λ part. part.1.den * dial all part.0 ∣ total) parts grown.multiple;
    }

-- a common total is a multiple of each denominator
pub each_den : (all : Classes) (parts : List (List ℕ × Fraction)) (total : ℕ) → IsCommonTotal all parts total → AllByRecursion (λ part. part.1.den ∣ total) parts
each_den all parts total common =
    each_map (λ part. part.1.den * dial all part.0 ∣ total) (λ part. part.1.den ∣ total) (λ part h. dvd_trans _ (dvd-mul_right part.1.den (dial all part.0)) h)
    parts (recursion_from_All (λ part. part.1.den * dial all part.0 ∣ total) parts common.multiple)
