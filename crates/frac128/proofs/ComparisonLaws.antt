-- Laws of the comparison of two fractions, `nat_cmp (an * bd) (bn * ad)` for an/ad and bn/bd. The quotient of an/ad is `an / ad`, rounded
-- down.
use Rattle.std.proofs.Common.{◌≡◌, ◌≢◌, ℕ, ◌+◌, ◌*◌, ◌/◌, ◌%◌, ◌<◌, ◌≤◌, ◌⊎◌, inl, inr, sym, ◌∙◌, ap, subst, arith}
use Rattle.std.specs.Ordering.{nat_cmp}
use Rattle.std.proofs.lemmas.Bool.Decides.{nat_tests}
use Rattle.std.proofs.Math.Nat.{mul-le-mul_right, mul-pos, mul-lt-mul_of_pos_left, div-add-mod', lt-div-mul-add, div-mul-le_self}

-- If `a` and `b` being less, equal or greater implies the same of `c` and `d`, the two comparisons are equal.
pub nat_cmp-same : (a b c d : ℕ) → (a < b → c < d) → (a ≡ b → c ≡ d) → (b < a → d < c) → nat_cmp a b ≡ nat_cmp c d
nat_cmp-same a b c d less same more = grind (arith, nat_tests)

less_from_quotients : (an ad bn bd q p : ℕ) → an < q * ad + ad → p * bd ≤ bn → q < p → 0 < bd → an * bd < bn * ad
less_from_quotients an ad bn bd q p above below h some_bd =
    let one : (an + 1) * bd ≤ (q * ad + ad) * bd = mul-le-mul_right bd (omega arith) in
    let two : (q + 1) * (ad * bd) ≤ p * (ad * bd) = mul-le-mul_right (ad * bd) (omega arith) in
    let three : p * bd * ad ≤ bn * ad = mul-le-mul_right ad below in
    omega arith

-- If the quotient of a fraction is less, the fraction is less.
less_by_quotients : (an ad bn bd : ℕ) → 0 < ad → 0 < bd → an / ad < bn / bd → an * bd < bn * ad
less_by_quotients an ad bn bd some_ad some_bd h =
    less_from_quotients an ad bn bd (an / ad) (bn / bd) (lt-div-mul-add some_ad) (div-mul-le_self bn bd) h some_bd

-- If the quotients differ, the fractions compare as the quotients do.
pub nat_cmp_by_quotients : (an ad bn bd : ℕ) → 0 < ad → 0 < bd → an / ad ≢ bn / bd → nat_cmp (an / ad) (bn / bd) ≡ nat_cmp (an * bd) (bn * ad)
nat_cmp_by_quotients an ad bn bd some_ad some_bd other =
    nat_cmp-same (an / ad) (bn / bd) (an * bd) (bn * ad)
    (less_by_quotients an ad bn bd some_ad some_bd)
    (λ e. absurd (other e))
    (less_by_quotients bn bd an ad some_bd some_ad)

nat_cmp_from_rests : (an ad bn bd q ar br : ℕ) → q * ad + ar ≡ an → q * bd + br ≡ bn → nat_cmp (bd * ar) (ad * br) ≡ nat_cmp (an * bd) (bn * ad)
nat_cmp_from_rests an ad bn bd q ar br a_is b_is =
    let a_product : (q * ad + ar) * bd ≡ an * bd = ap (λ n. n * bd) a_is in
    let b_product : (q * bd + br) * ad ≡ bn * ad = ap (λ n. n * ad) b_is in
    nat_cmp-same (bd * ar) (ad * br) (an * bd) (bn * ad) (λ h. omega arith) (λ h. omega arith) (λ h. omega arith)

-- If the quotients are equal, an/ad compares with bn/bd as (an % ad)/ad does with (bn % bd)/bd.
pub nat_cmp_by_rests : (an ad bn bd : ℕ) → an / ad ≡ bn / bd → nat_cmp (bd * (an % ad)) (ad * (bn % bd)) ≡ nat_cmp (an * bd) (bn * ad)
nat_cmp_by_rests an ad bn bd e =
    nat_cmp_from_rests an ad bn bd (an / ad) (an % ad) (bn % bd) (div-add-mod' an ad)
    (subst (λ q. q * bd + bn % bd ≡ bn) (sym e) (div-add-mod' bn bd))

-- If `ar` or `br` is 0, `ar` and `br` compare as `bd * ar` and `ad * br` do.
pub nat_cmp_at_zero : (ad bd ar br : ℕ) → 0 < ad → 0 < bd → (ar ≡ 0) ⊎ (br ≡ 0) → nat_cmp ar br ≡ nat_cmp (bd * ar) (ad * br)
nat_cmp_at_zero ad bd ar br some_ad some_bd (inl e) =
    let none : bd * ar ≡ 0 = ap (λ n. bd * n) e ∙ omega arith in
    nat_cmp-same ar br (bd * ar) (ad * br)
    (λ h. let some : 0 < ad * br = mul-pos some_ad (omega arith) in omega arith)
    (λ h. none ∙ sym (ap (λ n. ad * n) (sym h ∙ e) ∙ omega arith))
    (λ h. absurd (omega arith))
nat_cmp_at_zero ad bd ar br some_ad some_bd (inr e) =
    let none : ad * br ≡ 0 = ap (λ n. ad * n) e ∙ omega arith in
    nat_cmp-same ar br (bd * ar) (ad * br)
    (λ h. absurd (omega arith))
    (λ h. ap (λ n. bd * n) (h ∙ e) ∙ omega arith ∙ sym none)
    (λ h. let some : 0 < bd * ar = mul-pos some_bd (omega arith) in omega arith)

-- If `k` is above 0, multiplying both numbers by `k` changes no comparison.
pub nat_cmp-scale : (k a b : ℕ) → 0 < k → nat_cmp (k * a) (k * b) ≡ nat_cmp a b
nat_cmp-scale k a b some =
    sym (nat_cmp-same a b (k * a) (k * b) (λ h. mul-lt-mul_of_pos_left h some) (λ h. ap (λ n. k * n) h) (λ h. mul-lt-mul_of_pos_left h some))

-- If `k` is above 0, (k * an)/(k * ad) compares with bn/bd as an/ad does: a fraction may be expanded.
pub nat_cmp_products-scale : (k an ad bn bd : ℕ) → 0 < k → nat_cmp (k * an * bd) (bn * (k * ad)) ≡ nat_cmp (an * bd) (bn * ad)
nat_cmp_products-scale k an ad bn bd some =
    let first : k * an * bd ≡ k * (an * bd) = omega arith in
    let second : bn * (k * ad) ≡ k * (bn * ad) = omega arith in
    ap (λ n. nat_cmp n (bn * (k * ad))) first ∙ ap (nat_cmp (k * (an * bd))) second ∙ nat_cmp-scale k (an * bd) (bn * ad) some
