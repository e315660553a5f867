-- Two rising lists with the same numbers are equal. So sorting the marks and dropping repeated ones gives a dial's cuts.
use Rattle.std.proofs.Common.{◌≡◌, ℕ, zero, suc, ◌≤◌, ◌<◌, Bool, true, false, ◌||◌, eqb, ltb, List, [], ◌∷◌, refl, sym, ap, ◌∙◌, ⊎_elim, arith}
use Rattle.std.specs.Ordering.{nat_cmp}
use Rattle.std.specs.List.{dedup, list_all, Contains}
use Rattle.std.specs.List.Sorted.{IsPermutation, IsSorted}
use Rattle.std.proofs.lemmas.Bool.{and_parts, cases_Bool, cases_lt, eqb-true, eq-eqb, ne_eqb, ltb-true, false≢true}
use Rattle.std.proofs.lemmas.List.Kept.{Contains-dedup_nat, Contains-from_dedup}
use Rattle.std.proofs.lemmas.Map.Keys.{IsStrictlyIncreasing-dedup}
use Rattle.std.proofs.lemmas.List.Sorted.{Contains-permutation, IsPermutation-sym}
use Rattle.std.proofs.Math.Bool.{or-true}
use Rattle.define_pools.specs.Lists.{includes, is_increasing, rising}
use Rattle.define_pools.proofs.Increasing.{is_increasing-from_neighbours}
use Rattle.define_runs.specs.Spreading.{once_each}
use Rattle.define_runs.proofs.Cuts.{once_increases, includes-once_rising}

-- if `x` is below all numbers of a list and `z` is at most `x`, then `z` is not in the list
none_above : (x z : ℕ) (xs : List ℕ) → list_all (λ y. ltb x y) xs ≡ true → z ≤ x → includes xs z ≡ false
none_above x z [] h l = refl
none_above x z (y ∷ xs) h l =
    let parts = and_parts (ltb x y) (list_all (λ y. ltb x y) xs) h in
    let less = ltb-true x y parts.0 in
    let e : eqb y z ≡ false = ne_eqb y z (λ e. omega arith) in
    let rest = none_above x z xs parts.1 l in rw (e, rest) refl

first_there : (x : ℕ) (xs : List ℕ) → includes (x ∷ xs) x ≡ true
first_there x xs = let e : eqb x x ≡ true = eq-eqb x x refl in rw e refl

pub same_rising : (xs ys : List ℕ) → is_increasing xs ≡ true → is_increasing ys ≡ true → ((z : ℕ) → includes xs z ≡ includes ys z) → xs ≡ ys
same_rising [] [] up vp h = refl
same_rising [] (y ∷ ys) up vp h = absurd (false≢true (h y ∙ first_there y ys))
same_rising (x ∷ xs) [] up vp h = absurd (false≢true (sym (h x) ∙ first_there x xs))
same_rising (x ∷ xs) (y ∷ ys) up vp h =
    let ups = and_parts (list_all (λ z. ltb x z) xs) (is_increasing xs) up in
    let vps = and_parts (list_all (λ z. ltb y z) ys) (is_increasing ys) vp in
    let same : x ≡ y = heads ups.0 vps.0 in
    let rest = same_rising xs ys ups.1 vps.1 (tails same ups.0 vps.0) in
    ap (λ n. n ∷ xs) same ∙ ap (λ zs. y ∷ zs) rest
  where
    heads : list_all (λ z. ltb x z) xs ≡ true → list_all (λ z. ltb y z) ys ≡ true → x ≡ y
    heads up vp =
        let not_less : x < y → ⊥ = λ l. false≢true (sym (let e : eqb y x ≡ false = ne_eqb y x (λ e. omega arith) in let n = none_above y x ys vp (omega arith) in (let g : includes (y ∷ ys) x ≡ false = rw (e, n) refl in g)) ∙ sym (h x) ∙ first_there x xs) in
        let not_more : y < x → ⊥ = λ l. false≢true (sym (let e : eqb x y ≡ false = ne_eqb x y (λ e. omega arith) in let n = none_above x y xs up (omega arith) in (let g : includes (x ∷ xs) y ≡ false = rw (e, n) refl in g)) ∙ h y ∙ first_there y ys) in
        ⊎_elim (λ (l : x < y). absurd (not_less l)) (λ (l : y ≤ x). ⊎_elim (λ (m : y < x). absurd (not_more m)) (λ (m : x ≤ y). omega arith) (cases_lt y x)) (cases_lt x y)

    tails : x ≡ y → list_all (λ z. ltb x z) xs ≡ true → list_all (λ z. ltb y z) ys ≡ true → (z : ℕ) → includes xs z ≡ includes ys z
    tails same up vp z = ⊎_elim
        (λ (l : x < z).
        let e : eqb x z ≡ false = ne_eqb x z (λ e. omega arith) in
        let f : eqb y z ≡ false = ne_eqb y z (λ e. omega arith) in
        let both = h z in
        let both' : includes xs z ≡ includes ys z = (rw (e, f) at both) in both')
        (λ (l : z ≤ x). none_above x z xs up l ∙ sym (none_above y z ys vp (omega arith))) (cases_lt x z)

-- ---- what lists contain

pub contained : (xs : List ℕ) (z : ℕ) → includes xs z ≡ true → Contains xs z
contained [] z h = absurd cc
contained (x ∷ xs) z h = by (eqb x z) refl h (λ later. contained xs z later)
  where
    by : (b : Bool) → eqb x z ≡ b → (b || includes xs z) ≡ true → (includes xs z ≡ true → Contains xs z) → Contains (x ∷ xs) z
    by true e h rest = (0, omega arith, eqb-true x z e)
    by false e h rest = let there = rest h in (suc there.0, omega (arith, there.1), there.2)

pub included : (xs : List ℕ) (z : ℕ) → Contains xs z → includes xs z ≡ true
included [] z (k, l, e) = absurd (omega arith)
included (x ∷ xs) z (zero, l, e) = let s : eqb x z ≡ true = eq-eqb x z e in rw s refl
included (x ∷ xs) z (suc k, l, e) = let rest = included xs z (k, omega arith, e) in rw rest (or-true (eqb x z))

-- if two lists contain the same numbers, the test `includes` is the same for both
pub same_includes : (xs ys : List ℕ) → ((z : ℕ) → Contains xs z → Contains ys z) → ((z : ℕ) → Contains ys z → Contains xs z) → (z : ℕ) → includes xs z ≡ includes ys z
same_includes xs ys f g z = ⊎_elim
    (λ (h : includes xs z ≡ true). h ∙ sym (included ys z (f z (contained xs z h))))
    (λ (h : includes xs z ≡ false). ⊎_elim (λ (k : includes ys z ≡ true). absurd (false≢true (sym h ∙ included xs z (g z (contained ys z k))))) (λ (k : includes ys z ≡ false). h ∙ sym k) (cases_Bool (includes ys z)))
    (cases_Bool (includes xs z))

-- sorting the marks and dropping repeated ones gives the cuts
pub cuts_made : (marks sorted kept : List ℕ) → IsPermutation marks sorted → IsSorted nat_cmp sorted → kept ≡ dedup eqb sorted → kept ≡ once_each (rising marks)
cuts_made marks sorted kept moved order e =
    e ∙ same_rising (dedup eqb sorted) (once_each (rising marks)) (is_increasing-from_neighbours (dedup eqb sorted) (IsStrictlyIncreasing-dedup sorted order)) (once_increases marks)
    (λ z. same_includes (dedup eqb sorted) marks
    (λ z there. Contains-permutation sorted marks z (IsPermutation-sym marks sorted moved) (Contains-from_dedup eqb sorted z there))
    (λ z there. Contains-dedup_nat sorted z (Contains-permutation marks sorted z moved there)) z ∙ sym (includes-once_rising marks z))
