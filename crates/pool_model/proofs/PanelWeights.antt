-- A panel's weight in a stage stays within the sum of the absolute values of the stage's weights.
use Rattle.std.proofs.Common.{◌≡◌, ℕ, zero, suc, ◌+◌, ◌<◌, ◌≤◌, true, ltb, leb, List, [], ◌∷◌, length, get_or, take, drop, fold, refl, sym, ◌∙◌, ap, subst, arith, ℤ, pos, ◌+ℤ◌}
use Rattle.std.specs.Prelude.{sum_by, unsigned_abs}
use Rattle.std.specs.List.{list_all}
use Rattle.std.proofs.lemmas.Bool.{and_parts, ltb-true, leb-true, le-leb}
use Rattle.std.proofs.lemmas.List.Sums.{sum_by-cons, sum_by-take-le}
use Rattle.define_pools.proofs.Integers.{abs-add}
use Rattle.define_pools.specs.Lists.{is_increasing}
use Rattle.define_pools.specs.Certificate.{Stage, weight_of, panel_weight}

-- if `from` is at most `m`, the absolute values of weight m and the later weights sum to at most those of all weights from `from` on
one_more : (ws : List ℤ) (from m : ℕ) → from ≤ m → unsigned_abs (get_or ws m (pos 0)) + sum_by unsigned_abs (drop (suc m) ws) ≤ sum_by unsigned_abs (drop from ws)
one_more [] zero zero h = omega arith
one_more [] zero (suc m) h = omega arith
one_more [] (suc from) zero h = absurd (omega arith)
one_more [] (suc from) (suc m) h = omega arith
one_more (w ∷ ws) zero zero h = let sum = sum_by-cons unsigned_abs w ws in omega (arith, sum)
one_more (w ∷ ws) zero (suc m) h =
    let sum = sum_by-cons unsigned_abs w ws in
    let rest = one_more ws zero m (omega arith) in omega (arith, sum)
one_more (w ∷ ws) (suc from) zero h = absurd (omega arith)
one_more (w ∷ ws) (suc from) (suc m) h = one_more ws from m (omega arith)

from_next : (m : ℕ) (members : List ℕ) → list_all (λ i. ltb m i) members ≡ true → list_all (λ i. leb (suc m) i) members ≡ true
from_next m [] h = refl
from_next m (i ∷ members) h =
    let parts = and_parts (ltb m i) (list_all (λ i. ltb m i) members) h in
    let below = ltb-true m i parts.0 in
    rw (le-leb (suc m) i (omega arith)) (from_next m members parts.1)

-- if members are increasing and each is at least `from`, their absolute weights sum to at most those of all volunteers from `from` on
members_within : (ws : List ℤ) (members : List ℕ) (from : ℕ) → is_increasing members ≡ true → list_all (λ i. leb from i) members ≡ true →
    sum_by (λ i. unsigned_abs (get_or ws i (pos 0))) members ≤ sum_by unsigned_abs (drop from ws)
members_within ws [] from increasing h = omega arith
members_within ws (m ∷ members) from increasing h =
    let parts = and_parts (list_all (λ i. ltb m i) members) (is_increasing members) increasing in
    let here = leb-true from m (and_parts (leb from m) (list_all (λ i. leb from i) members) h).0 in
    let rest = members_within ws members (suc m) parts.1 (from_next m members parts.0) in
    let one = one_more ws from m here in
    let sum = sum_by-cons (λ i. unsigned_abs (get_or ws i (pos 0))) m members in
    omega (arith, sum)

from_zero : (members : List ℕ) → list_all (λ i. leb 0 i) members ≡ true
from_zero [] = refl
from_zero (m ∷ members) = rw (le-leb 0 m (omega arith)) (from_zero members)

-- the absolute value of a sum of weights is at most that of `start` plus the sum of the absolute weights
fold_within : (stage : Stage) (members : List ℕ) (start : ℤ) →
    unsigned_abs (fold (λ sum i. sum +ℤ weight_of stage i) start members) ≤ unsigned_abs start + sum_by (λ i. unsigned_abs (weight_of stage i)) members
fold_within stage [] start = omega arith
fold_within stage (m ∷ members) start =
    let rest = fold_within stage members (start +ℤ weight_of stage m) in
    let sum = sum_by-cons (λ i. unsigned_abs (weight_of stage i)) m members in
    let step = abs-add start (weight_of stage m) in
    omega (arith, sum)

-- the weight of a panel's first `n` members is within the sum of the stage's absolute weights
pub first_within : (stage : Stage) (panel : List ℕ) (n : ℕ) → is_increasing panel ≡ true → unsigned_abs (panel_weight stage (take n panel)) ≤ sum_by unsigned_abs stage.weights
first_within stage panel n increasing =
    let within = fold_within stage (take n panel) (pos 0) in
    let fewer = sum_by-take-le (λ i. unsigned_abs (weight_of stage i)) panel n in
    let all = members_within stage.weights panel 0 increasing (from_zero panel) in
    omega arith

-- the first n + 1 members weigh what the first n weigh, plus the weight of member n
pub one_weight_more : (stage : Stage) (panel : List ℕ) (n d : ℕ) → n < length panel → panel_weight stage (take (n + 1) panel) ≡ panel_weight stage (take n panel) +ℤ weight_of stage (get_or panel n d)
one_weight_more stage panel n d l = from (pos 0) panel n l
  where
    from : (start : ℤ) (panel : List ℕ) (n : ℕ) → n < length panel →
        fold (λ sum i. sum +ℤ weight_of stage i) start (take (n + 1) panel) ≡ fold (λ sum i. sum +ℤ weight_of stage i) start (take n panel) +ℤ weight_of stage (get_or panel n d)
    from start [] n m = absurd (omega arith)
    from start (i ∷ panel) zero m = refl
    from start (i ∷ panel) (suc n) m =
        let e : suc n + 1 ≡ suc (n + 1) = omega arith in rw e (from (start +ℤ weight_of stage i) panel n (omega arith))

-- if `sum` is the weight of the first n members, `sum + weight` is that of the first n + 1; it is within the sum of the stage's absolute
-- weights
pub next_within : (stage : Stage) (panel items : List ℕ) (n d : ℕ) (sum weight : ℤ) → items ≡ panel → is_increasing panel ≡ true → n < length items → sum ≡ panel_weight stage (take n panel) →
    weight ≡ weight_of stage (get_or items n d) →
    (sum +ℤ weight ≡ panel_weight stage (take (n + 1) panel)) × (unsigned_abs (sum +ℤ weight) ≤ sum_by unsigned_abs stage.weights)
next_within stage panel items n d sum weight same increasing l e f =
    let inside : n < length panel = subst (λ xs. n < length xs) same l in
    let here : weight ≡ weight_of stage (get_or panel n d) = f ∙ ap (λ (xs : List ℕ). weight_of stage (get_or xs n d)) same in
    let next : sum +ℤ weight ≡ panel_weight stage (take (n + 1) panel) =
    ap (λ s. s +ℤ weight) e ∙ (ap (λ w. panel_weight stage (take n panel) +ℤ w) here ∙ sym (one_weight_more stage panel n d inside)) in
    (next, subst (λ z. unsigned_abs z ≤ sum_by unsigned_abs stage.weights) (sym next) (first_within stage panel (n + 1) increasing))
