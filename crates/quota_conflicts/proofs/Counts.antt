-- Numbers of a range that pass a test, counted one after the other.
use Rattle.std.proofs.Common.{◌≡◌, ℕ, ◌+◌, Bool, true, false, cond, [], ◌∷◌, count_by, ap, ◌∙◌, add-zero, zero-add}
use Rattle.std.specs.List.{range_with_len}
use Rattle.std.proofs.lemmas.List.Sums.{sum_by-append}
use Rattle.define_pools.proofs.Lists.{numbers_more}

-- number `n` adds 1 to the count if it passes `p`, and else nothing
pub counted_more : (p : ℕ → Bool) (n : ℕ) → count_by p (range_with_len 0 (n + 1)) ≡ count_by p (range_with_len 0 n) + cond (p n) 1 0
counted_more p n =
    ap (count_by p) (numbers_more n) ∙ sum_by-append (λ k. cond (p k) 1 0) (range_with_len 0 n) (n ∷ [])
    ∙ ap (λ last. count_by p (range_with_len 0 n) + last) (zero-add (cond (p n) 1 0))

pub counted_yes : (p : ℕ → Bool) (n : ℕ) → p n ≡ true → count_by p (range_with_len 0 (n + 1)) ≡ count_by p (range_with_len 0 n) + 1
counted_yes p n passes = counted_more p n ∙ ap (λ b. count_by p (range_with_len 0 n) + cond b 1 0) passes

pub counted_no : (p : ℕ → Bool) (n : ℕ) → p n ≡ false → count_by p (range_with_len 0 (n + 1)) ≡ count_by p (range_with_len 0 n)
counted_no p n fails = counted_more p n ∙ ap (λ b. count_by p (range_with_len 0 n) + cond b 1 0) fails ∙ add-zero (count_by p (range_with_len 0 n))
