-- One stage, in numbers. Its cap bounds the weighted sums of two lotteries, so those whom it settles have equal chances in both.
use Rattle.std.proofs.Common.{◌≡◌, ℕ, ◌+◌, ◌*◌, ◌≤◌, ◌<◌, Bool, true, false, List, [], ◌∷◌, refl, sym, ap, ◌∙◌, ⊎_elim, arith, mul-le-mul_right, mul-le-mul_left, le_of_mul-le-mul_right, le_antisymm, le_of_eq, mul_comm, eq-zero-or-pos}
use Rattle.std.specs.List.{AllByRecursion}
use Rattle.define_pools.proofs.Sums.{total, total_le, total_same, total-add}
use Rattle.define_pools.proofs.Each.{each_map, each_both}
use Rattle.define_pools.proofs.Orders.{Known}

pub cancel : (a b k : ℕ) → 0 < k → a * k ≡ b * k → a ≡ b
cancel a b k h e = le_antisymm (le_of_mul-le-mul_right (le_of_eq e) h) (le_of_mul-le-mul_right (le_of_eq (sym e)) h)

-- what a stage requires of a volunteer of weight `U - D` and chance `x` who isn't settled yet. The weight isn't negative. If it is
-- positive, the chance is `level`
pub record Weighs (settled : Bool) (U D x level : ℕ) : Type 0 where
  pub none_negative : settled ≡ false → D ≡ 0
  pub at_level : settled ≡ false → 0 < U → x ≡ level

term_le : (b : Bool) (U D x y level : ℕ) → Known b x y level level → Weighs b U D x level → U * x + D * y ≤ U * y + D * x
term_le true U D x y level k w = let e = k.equal refl in rw e (le_of_eq refl)
term_le false U D x y level k w =
    let none = w.none_negative refl in let low = k.low refl in
    let up : U * x ≤ U * y = ⊎_elim (λ (z : U ≡ 0). rw z (omega arith)) (λ (p : 0 < U). let e = w.at_level refl p in rw e (mul-le-mul_left U low)) (eq-zero-or-pos U) in
    rw none (omega arith)

-- If an unsettled volunteer of positive weight adds the same to both sums, the volunteer's two chances are equal.
term_eq : (b : Bool) (U D x y level : ℕ) → Known b x y level level → Weighs b U D x level → U * x + D * y ≡ U * y + D * x → b ≡ false → 0 < U → x ≡ y
term_eq b U D x y level k w e s p =
    let none = w.none_negative s in
    let same : U * x ≡ U * y = omega (arith, rw none at e) in
    cancel x y U p (mul_comm x U ∙ same ∙ mul_comm U y)

-- A common factor `k` can be taken out of a sum.
total-product : (f g : ℕ → ℕ) (k : ℕ) (xs : List ℕ) → total (λ i. f i * (g i * k)) xs ≡ total (λ i. f i * g i) xs * k
total-product f g k [] = omega arith
total-product f g k (x ∷ xs) = omega (arith, total-product f g k xs)

-- Take two lotteries: the first has the total `W` and the counts `c`, the other the total `V` and the counts `d`. And take a stage: its
-- weights are `U - D`, its cap is `h - k`, and those whom it settles have the count `T` in the first lottery.
module _ (xs : List ℕ) (settled : ℕ → Bool) (U D c d : ℕ → ℕ) (W V h k T : ℕ) where
  left : ℕ → ℕ
  left i = U i * (c i * V) + D i * (d i * W)

  right : ℕ → ℕ
  right i = U i * (d i * W) + D i * (c i * V)

  total-left : total left xs ≡ total (λ i. U i * c i) xs * V + total (λ i. D i * d i) xs * W
  unfolding left
  total-left = total-add (λ i. U i * (c i * V)) (λ i. D i * (d i * W)) xs ∙ omega (arith, total-product U c V xs, total-product D d W xs)

  total-right : total right xs ≡ total (λ i. U i * d i) xs * W + total (λ i. D i * c i) xs * V
  unfolding right
  total-right = total-add (λ i. U i * (d i * W)) (λ i. D i * (c i * V)) xs ∙ omega (arith, total-product U d W xs, total-product D c V xs)

  module _ (first : total (λ i. U i * c i) xs + k * W ≡ h * W + total (λ i. D i * c i) xs)
      (known : AllByRecursion (λ i. Known (settled i) (c i * V) (d i * W) (T * V) (T * V)) xs)
      (weighs : AllByRecursion (λ i. Weighs (settled i) (U i) (D i) (c i * V) (T * V)) xs)
    where
      terms : AllByRecursion (λ i. left i ≤ right i) xs
      unfolding left right
      terms = each_map (λ i. Known (settled i) (c i * V) (d i * W) (T * V) (T * V) × Weighs (settled i) (U i) (D i) (c i * V) (T * V)) (λ i. left i ≤ right i)
          (λ i p. term_le (settled i) (U i) (D i) (c i * V) (d i * W) (T * V) p.0 p.1) xs
          (each_both (λ i. Known (settled i) (c i * V) (d i * W) (T * V) (T * V)) (λ i. Weighs (settled i) (U i) (D i) (c i * V) (T * V)) xs known weighs)

      module _ (second : total (λ i. U i * d i) xs + k * V ≤ h * V + total (λ i. D i * d i) xs) where
        no_more : total right xs ≤ total left xs
        no_more =
            let mine = ap (λ z. z * V) first in let other = mul-le-mul_right W second in
            omega (arith, total-left, total-right, mine, other)

        terms_same : AllByRecursion (λ i. left i ≡ right i) xs
        terms_same = total_same left right xs terms no_more

        -- each unsettled volunteer of positive weight has equal chances in both lotteries
        pub newly_equal : AllByRecursion (λ i. settled i ≡ false → 0 < U i → c i * V ≡ d i * W) xs
        unfolding left right
        newly_equal =
            each_map (λ i. (Known (settled i) (c i * V) (d i * W) (T * V) (T * V) × Weighs (settled i) (U i) (D i) (c i * V) (T * V)) × (left i ≡ right i))
            (λ i. settled i ≡ false → 0 < U i → c i * V ≡ d i * W)
            (λ i p. term_eq (settled i) (U i) (D i) (c i * V) (d i * W) (T * V) p.0.0 p.0.1 p.1) xs
            (each_both (λ i. Known (settled i) (c i * V) (d i * W) (T * V) (T * V) × Weighs (settled i) (U i) (D i) (c i * V) (T * V)) (λ i. left i ≡ right i) xs
            (each_both (λ i. Known (settled i) (c i * V) (d i * W) (T * V) (T * V)) (λ i. Weighs (settled i) (U i) (D i) (c i * V) (T * V)) xs known weighs) terms_same)

        -- the other lottery's weighted sum is at least the cap times its total
        pub cap_met : 0 < W → h * V + total (λ i. D i * d i) xs ≤ total (λ i. U i * d i) xs + k * V
        cap_met pos =
            let mine = ap (λ z. z * V) first in
            let both = total_le left right xs terms in
            let more : (h * V + total (λ i. D i * d i) xs) * W ≤ (total (λ i. U i * d i) xs + k * V) * W = omega (arith, total-left, total-right, mine, both) in
            le_of_mul-le-mul_right more pos
