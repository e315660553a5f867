-- Whole numbers with a sign: their products, which `omega` treats as unknowns, and tests.
use Rattle.std.proofs.Common.{◌≡◌, ℕ, true, zero, suc, ◌*◌, ◌+◌, ◌<◌, ◌≤◌, ℤ, pos, negsuc, ◌+ℤ◌, ◌-ℤ◌, ◌*ℤ◌, neg_ℤ, ap, ◌∙◌, sym, arith, ◌≤ℤ◌, ◌<ℤ◌, mul-le-mul_right, le_of_mul-le-mul_right, le_antisymm}
use Rattle.std.specs.Prelude.{int_lt, int_le, unsigned_abs}
use Rattle.std.specs.Ordering.{int_eq}
use Rattle.std.proofs.lemmas.Bool.Decides.{Decides-int_eq}
use Rattle.std.proofs.lemmas.Int.{ints}
use borrow.Author.Differences.{up, down, sum_is_lem, product_is, same_in, le_out, at_most_in}

pub mul_comm : (a b : ℤ) → a *ℤ b ≡ b *ℤ a
mul_comm a b = omega (arith, ints)

pub mul-add : (a b c : ℤ) → a *ℤ (b +ℤ c) ≡ a *ℤ b +ℤ a *ℤ c
mul-add a b c = omega (arith, ints, ap (λ z. up a * z) (sum_is_lem b c), ap (λ z. down a * z) (sum_is_lem b c))

pub mul_assoc : (a b c : ℤ) → (a *ℤ b) *ℤ c ≡ a *ℤ (b *ℤ c)
mul_assoc a b c =
    omega (
      arith,
      ints,
      ap (λ z. z * up c) (product_is a b).0,
      ap (λ z. z * up c) (product_is a b).1,
      ap (λ z. z * down c) (product_is a b).0,
      ap (λ z. z * down c) (product_is a b).1,
      ap (λ z. up a * z) (product_is b c).0,
      ap (λ z. up a * z) (product_is b c).1,
      ap (λ z. down a * z) (product_is b c).0,
      ap (λ z. down a * z) (product_is b c).1,
    )

-- the middle factor moves to the front
pub mul-left_comm : (a b c : ℤ) → a *ℤ (b *ℤ c) ≡ b *ℤ (a *ℤ c)
mul-left_comm a b c = sym (mul_assoc a b c) ∙ ap (λ z. z *ℤ c) (mul_comm a b) ∙ mul_assoc b a c

pub mul-neg : (a b : ℤ) → a *ℤ neg_ℤ b ≡ neg_ℤ (a *ℤ b)
mul-neg a (pos zero) = omega (arith, ints)
mul-neg a (pos (suc n)) = omega (arith, ints)
mul-neg a (negsuc n) = omega (arith, ints)

pub neg-mul : (a b : ℤ) → neg_ℤ a *ℤ b ≡ neg_ℤ (a *ℤ b)
neg-mul a b = mul_comm (neg_ℤ a) b ∙ mul-neg b a ∙ ap neg_ℤ (mul_comm b a)

pub mul-sub : (a b c : ℤ) → a *ℤ (b -ℤ c) ≡ a *ℤ b -ℤ a *ℤ c
mul-sub a b c = mul-add a b (neg_ℤ c) ∙ ap (λ z. a *ℤ b +ℤ z) (mul-neg a c)

pub mul-zero : (a : ℤ) → a *ℤ pos 0 ≡ pos 0
mul-zero a = omega (arith, ints)

pub one-mul : (a : ℤ) → pos 1 *ℤ a ≡ a
one-mul a = omega (arith, ints)

-- a positive factor on both sides of an equality can be left out
pub same-unscaled : (a b : ℤ) (k : ℕ) → 0 < k → pos k *ℤ a ≡ pos k *ℤ b → a ≡ b
same-unscaled a b k p e =
    let l : (up a + down b) * k ≤ (up b + down a) * k = omega (arith, ints, e) in
    let m : (up b + down a) * k ≤ (up a + down b) * k = omega (arith, ints, e) in
    same_in a b (le_antisymm (le_of_mul-le-mul_right l p) (le_of_mul-le-mul_right m p))

-- a positive factor on both sides of `≤` can be left out
pub le-unscaled : (a b : ℤ) (k : ℕ) → 0 < k → (pos k *ℤ a) ≤ℤ (pos k *ℤ b) → a ≤ℤ b
le-unscaled a b k p h =
    let l : (up a + down b) * k ≤ (up b + down a) * k = omega (arith, ints, le_out (pos k *ℤ a) (pos k *ℤ b) h) in
    at_most_in a b (le_of_mul-le-mul_right l p)

-- both sides of `≤` can be multiplied by a natural number
pub le-scaled : (a b : ℤ) (k : ℕ) → a ≤ℤ b → (pos k *ℤ a) ≤ℤ (pos k *ℤ b)
le-scaled a b k h = let l = mul-le-mul_right k (le_out a b h) in omega (arith, ints, l)

-- the product of two positive numbers is positive
pub product-positive : (a b : ℤ) → pos 0 <ℤ a → pos 0 <ℤ b → pos 0 <ℤ (a *ℤ b)
product-positive (pos zero) b h k = absurd (omega (arith, ints))
product-positive (pos (suc a)) (pos zero) h k = absurd (omega (arith, ints))
product-positive (pos (suc a)) (pos (suc b)) h k = omega (arith, ints)
product-positive (pos (suc a)) (negsuc b) h k = absurd (omega (arith, ints))
product-positive (negsuc a) b h k = absurd (omega (arith, ints))

-- the product of two numbers of at least 0 is at least 0
pub product-not_negative : (a b : ℤ) → pos 0 ≤ℤ a → pos 0 ≤ℤ b → pos 0 ≤ℤ (a *ℤ b)
product-not_negative (pos a) (pos b) h k = omega (arith, ints)
product-not_negative (pos a) (negsuc b) h k = absurd (omega (arith, ints))
product-not_negative (negsuc a) b h k = absurd (omega (arith, ints))

-- the product of a number of at least 0 and one of at most 0 is at most 0
pub product-not_positive : (a b : ℤ) → pos 0 ≤ℤ a → b ≤ℤ pos 0 → (a *ℤ b) ≤ℤ pos 0
product-not_positive (pos a) (pos zero) h k = omega (arith, ints)
product-not_positive (pos a) (pos (suc b)) h k = absurd (omega (arith, ints))
product-not_positive (pos a) (negsuc b) h k = omega (arith, ints)
product-not_positive (negsuc a) b h k = absurd (omega (arith, ints))

-- if a product with a positive factor is at least 0, so is the other factor
pub factor-not_negative : (a b : ℤ) → pos 0 <ℤ b → pos 0 ≤ℤ (a *ℤ b) → pos 0 ≤ℤ a
factor-not_negative (pos a) b h k = omega (arith, ints)
factor-not_negative (negsuc a) (pos zero) h k = absurd (omega (arith, ints))
factor-not_negative (negsuc a) (pos (suc b)) h k = absurd (omega (arith, ints))
factor-not_negative (negsuc a) (negsuc b) h k = absurd (omega (arith, ints))

-- if a product with a positive factor is above 0, so is the other factor
pub factor-positive : (a b : ℤ) → pos 0 <ℤ b → pos 0 <ℤ (a *ℤ b) → pos 0 <ℤ a
factor-positive (pos zero) b h k = absurd (omega (arith, ints))
factor-positive (pos (suc a)) b h k = omega (arith, ints)
factor-positive (negsuc a) (pos zero) h k = absurd (omega (arith, ints))
factor-positive (negsuc a) (pos (suc b)) h k = absurd (omega (arith, ints))
factor-positive (negsuc a) (negsuc b) h k = absurd (omega (arith, ints))

-- if a product with a positive factor is 0, the other factor is 0
pub other-zero : (a b : ℤ) → pos 0 <ℤ a → a *ℤ b ≡ pos 0 → b ≡ pos 0
other-zero (pos zero) b h e = absurd (omega (arith, ints))
other-zero (pos (suc a)) b h e = same-unscaled b (pos 0) (suc a) (omega arith) (e ∙ sym (mul-zero (pos (suc a))))
other-zero (negsuc a) b h e = absurd (omega (arith, ints))

-- ---- tests, and numbers of at least 0

pub lt-tested : (a b : ℤ) → int_lt a b ≡ true → a <ℤ b
lt-tested a b e = omega (arith, ints)

pub eq-tested : (a b : ℤ) → int_eq a b ≡ true → a ≡ b
eq-tested a b e = (Decides-int_eq a b).0 e

pub tested-lt : (a b : ℤ) → a <ℤ b → int_lt a b ≡ true
tested-lt a b h = grind (arith, ints)

pub tested-le : (a b : ℤ) → a ≤ℤ b → int_le a b ≡ true
tested-le a b h = grind (arith, ints)

pub as_natural : (z : ℤ) → pos 0 ≤ℤ z → z ≡ pos (unsigned_abs z)
as_natural z h = omega (arith, ints)

pub abs-positive : (z : ℤ) → pos 0 <ℤ z → 0 < unsigned_abs z
abs-positive z h = omega (arith, ints)

pub same_pos : (m n : ℕ) → pos m ≡ pos n → m ≡ n
same_pos m n e = omega (arith, ints)

pub zero-mul : (z : ℤ) → pos 0 *ℤ z ≡ pos 0
zero-mul z = omega (arith, ints)

-- `z` is `up z` less `down z`, so `c` times `z` is `c * up z` less `c * down z`. The law says this as an equation of natural numbers
pub product-parts : (c : ℕ) (z : ℤ) → up (pos c *ℤ z) + c * down z ≡ c * up z + down (pos c *ℤ z)
product-parts c z = omega (arith, ints, product_is (pos c) z)

-- the absolute value of a sum is at most the sum of the absolute values
pub abs-add : (a b : ℤ) → unsigned_abs (a +ℤ b) ≤ unsigned_abs a + unsigned_abs b
abs-add a b = omega (arith, ints)

-- the absolute value of a difference is at most the sum of the absolute values
pub abs-sub : (a b : ℤ) → unsigned_abs (a -ℤ b) ≤ unsigned_abs a + unsigned_abs b
abs-sub a b = omega (arith, ints)
