-- The leaders of classes are numbers below the count of volunteers.
use Rattle.std.proofs.Common.{◌≡◌, ℕ, ◌<◌, Bool, true, not, List, [], ◌∷◌, get_or, length, sym, arith, subst, suc, zero}
use Rattle.std.specs.List.{AllByRecursion, list_any, range_with_len}
use Rattle.define_pools.proofs.Each.{each_filter, each_range}
use Rattle.define_searches.specs.Classes.{leaders}

-- each leader's number is below `count`
leaders_below : (alike : ℕ → ℕ → Bool) (count : ℕ) → AllByRecursion (λ leader. leader < count) (leaders alike count)
leaders_below alike count =
    let leads : ℕ → Bool = λ i. not (list_any (λ j. alike j i) (range_with_len 0 i)) in
    each_filter (λ leader. leader < count) leads (range_with_len 0 count) (each_range (λ leader. leads leader ≡ true → leader < count) 0 count (λ k l m t. omega (arith, m)))

each_below : (count : ℕ) (xs : List ℕ) (k : ℕ) → k < length xs → AllByRecursion (λ x. x < count) xs → get_or xs k 0 < count
each_below count [] k l each = absurd (omega arith)
each_below count (x ∷ xs) zero l each = each.0
each_below count (x ∷ xs) (suc k) l each = each_below count xs k (omega arith) each.1

pub leader_below : (alike : ℕ → ℕ → Bool) (count : ℕ) (found : List ℕ) (k : ℕ) → found ≡ leaders alike count → k < length found → get_or found k 0 < count
leader_below alike count found k e below = each_below count found k below (subst (AllByRecursion (λ leader. leader < count)) (sym e) (leaders_below alike count))
