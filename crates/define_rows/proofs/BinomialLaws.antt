-- Laws of binomial coefficients, by which they can be computed as a running product.
use Rattle.std.proofs.Common.{◌≡◌, ℕ, zero, suc, ◌+◌, ◌*◌, ◌^◌, ◌<◌, ◌≤◌, le_of_mul-le-mul_right, mul-le-mul_right, refl, sym, ap, ap₂, ◌∙◌, subst, arith}
use Rattle.std.proofs.Math.Nat.{two-pow-succ}
use Rattle.define_rows.specs.Binomials.{binomial}

pub choose_none : (n : ℕ) → binomial n 0 ≡ 1
unfolding binomial
choose_none n = refl

-- more things than there are can't be chosen
pub choose_past : (n size : ℕ) → n < size → binomial n size ≡ 0
unfolding binomial
choose_past n zero l = absurd (omega arith)
choose_past zero (suc size) l = refl
choose_past (suc n) (suc size) l = omega (arith, choose_past n size (omega arith), choose_past n (suc size) (omega arith))

-- all things can be chosen in one way
pub choose_all : (n : ℕ) → binomial n n ≡ 1
unfolding binomial
choose_all zero = refl
choose_all (suc n) = omega (arith, choose_all n, choose_past n (suc n) (omega arith))

-- one more thing, and one more chosen: the factor of a running product
pub choose_product : (n size : ℕ) → suc size * binomial (suc n) (suc size) ≡ suc n * binomial n size
unfolding binomial
choose_product zero zero = omega arith
choose_product zero (suc size) = omega arith
choose_product (suc n) zero = omega (arith, choose_product n zero)
choose_product (suc n) (suc size) = omega (arith, choose_product n size, choose_product n (suc size))

-- choosing some is leaving out the others
pub choose_others : (a b n : ℕ) → a + b ≡ n → binomial n a ≡ binomial n b
unfolding binomial
choose_others zero b n e = let s : b ≡ n = omega arith in sym (ap (binomial n) s ∙ choose_all n)
choose_others (suc a) zero n e = let s : suc a ≡ n = omega arith in ap (binomial n) s ∙ choose_all n
choose_others (suc a) (suc b) zero e = absurd (omega arith)
choose_others (suc a) (suc b) (suc n) e = omega (arith, choose_others a (suc b) n (omega arith), choose_others (suc a) b n (omega arith))

pub choose_one : (n : ℕ) → binomial n 1 ≡ n
unfolding binomial
choose_one zero = refl
choose_one (suc n) = omega (arith, choose_one n)

-- one more thing and one more chosen: not fewer ways
choose_on : (n size : ℕ) → binomial n size ≤ binomial (suc n) (suc size)
unfolding binomial
choose_on n size = omega arith

-- as many more chosen as there are more things: not fewer ways
pub choose_rises : (n size more : ℕ) → binomial n size ≤ binomial (n + more) (size + more)
choose_rises n size zero =
    let count_is : n ≡ n + 0 = omega arith in
    let size_is : size ≡ size + 0 = omega arith in
    let same : binomial n size ≡ binomial (n + 0) (size + 0) = ap₂ binomial count_is size_is in
    omega (arith, same)
choose_rises n size (suc more) =
    let count_is : suc (n + more) ≡ n + suc more = omega arith in
    let size_is : suc (size + more) ≡ size + suc more = omega arith in
    let rise : binomial n size ≤ binomial (suc (n + more)) (suc (size + more)) = omega (arith, choose_rises n size more, choose_on (n + more) (size + more)) in
    subst (λ k. binomial n size ≤ binomial (n + suc more) k) size_is (subst (λ k. binomial n size ≤ binomial k (suc (size + more))) count_is rise)

-- if at most half of the things are chosen, one more thing and one more chosen make at least twice as many ways
choose_twice : (size rest : ℕ) → size < rest → 2 * binomial (rest + size) size ≤ binomial (suc (rest + size)) (suc size)
choose_twice size rest l =
    let before = binomial (rest + size) size in
    let least : (2 * suc size) * before ≤ suc (rest + size) * before = mul-le-mul_right before (omega (arith, l)) in
    let scaled : (2 * before) * suc size ≤ binomial (suc (rest + size)) (suc size) * suc size = omega (arith, least, choose_product (rest + size) size) in
    le_of_mul-le-mul_right scaled (omega arith)

pub choose_doubles : (size rest : ℕ) → size ≤ rest → 2 ^ size ≤ binomial (rest + size) size
choose_doubles zero rest l = omega (arith, choose_none (rest + 0))
choose_doubles (suc size) rest l =
    let so_far = choose_doubles size rest (omega (arith, l)) in
    let twice = choose_twice size rest (omega (arith, l)) in
    let same : suc (rest + size) ≡ rest + suc size = omega arith in
    subst (λ n. 2 ^ suc size ≤ binomial n (suc size)) same (omega (arith, so_far, twice, two-pow-succ size))
