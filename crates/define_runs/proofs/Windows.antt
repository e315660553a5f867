-- How often a number is in a list, and in its windows. A window begins at a place of the list, and goes on with the first members after the
-- last one.
use Rattle.std.proofs.Common.{◌≡◌, ℕ, zero, suc, ◌+◌, ◌-◌, ◌*◌, ◌≤◌, ◌<◌, true, false, ◌||◌, eqb, ltb, List, [], ◌∷◌, ◌++◌, take, drop, length, get_or, refl, sym, ap, ◌∙◌, ⊎_elim, arith, length-append, length-drop}
use Rattle.std.specs.List.{AllByRecursion, list_all, range_with_len}
use Rattle.std.proofs.lemmas.Bool.{and_parts, cases_lt, eq-eqb, eqb-true, ne_eqb, lt-ltb, le-ltb, ltb-true}
use Rattle.std.proofs.lemmas.List.{length-take, take-append-le, take-append-drop, take_all}
use Rattle.std.proofs.Math.Seq.{take-add, take-append-add}
use Rattle.define_pools.proofs.Sums.{total, total-add, total-zero, one_if}
use Rattle.define_pools.specs.Lists.{includes, is_increasing}
use Rattle.define_pools.proofs.Weights.{one_member}
use Rattle.define_runs.specs.Spreading.{turned}

-- ---- sums below a number

-- the sum of f over the numbers below n
abbrev pub sum_below : (ℕ → ℕ) → ℕ → ℕ
sum_below f zero = 0
sum_below f (suc k) = sum_below f k + f k

-- ---- how often a number is in a list

abbrev pub times : List ℕ → ℕ → ℕ
times xs i = total (λ x. one_if (eqb x i)) xs

pub times-append : (xs ys : List ℕ) (i : ℕ) → times (xs ++ ys) i ≡ times xs i + times ys i
times-append [] ys i = omega arith
times-append (x ∷ xs) ys i = omega (arith, times-append xs ys i)

pub includes-times : (xs : List ℕ) (i : ℕ) → includes xs i ≡ ltb 0 (times xs i)
includes-times [] i = refl
includes-times (x ∷ xs) i =
    let rest = includes-times xs i in
    elim (eqb x i) as (λ b. (b || includes xs i) ≡ ltb 0 (one_if b + times xs i)) [
      | true ↦ sym (lt-ltb 0 (1 + times xs i) (omega arith))
      | false ↦ let e : 0 + times xs i ≡ times xs i = omega arith in rw e rest
    ]

-- if a number is in a list at most once, it is there once if the list includes it, else never
pub one_if-includes : (xs : List ℕ) (i : ℕ) → times xs i ≤ 1 → one_if (includes xs i) ≡ times xs i
one_if-includes xs i few = ap one_if (includes-times xs i) ∙ ⊎_elim
    (λ (l : 0 < times xs i). let e = lt-ltb 0 (times xs i) l in rw e (omega arith))
    (λ (l : times xs i ≤ 0). let e = le-ltb 0 (times xs i) l in rw e (omega arith)) (cases_lt 0 (times xs i))

pub times-none : (xs : List ℕ) (i : ℕ) → includes xs i ≡ false → times xs i ≡ 0
times-none xs i h = ⊎_elim
    (λ (l : 0 < times xs i). absurd (let e = lt-ltb 0 (times xs i) l in let f = includes-times xs i in cc))
    (λ (l : times xs i ≤ 0). omega arith) (cases_lt 0 (times xs i))

pub includes-none : (xs : List ℕ) (i : ℕ) → times xs i ≤ 0 → includes xs i ≡ false
includes-none xs i h = includes-times xs i ∙ le-ltb 0 (times xs i) h

pub times-some : (xs : List ℕ) (i : ℕ) → includes xs i ≡ true → 0 < times xs i
times-some xs i h = ltb-true 0 (times xs i) (sym (includes-times xs i) ∙ h)

-- no number is in an increasing list twice
pub at_most_once : (xs : List ℕ) → is_increasing xs ≡ true → (i : ℕ) → times xs i ≤ 1
at_most_once [] h i = omega arith
at_most_once (x ∷ xs) h i =
    let parts = and_parts (list_all (λ y. ltb x y) xs) (is_increasing xs) h in
    let rest = at_most_once xs parts.1 i in
    (elim (eqb x i) as (λ b. eqb x i ≡ b → one_if b + times xs i ≤ 1) [
      | true ↦ λ e. let s : x ≡ i = eqb-true x i e in let none = none_above xs x i parts.0 (omega arith) in omega arith
      | false ↦ λ e. omega arith
    ]) refl
  where
    none_above : (xs : List ℕ) (x i : ℕ) → list_all (λ y. ltb x y) xs ≡ true → i ≤ x → times xs i ≡ 0
    none_above [] x i h l = refl
    none_above (y ∷ xs) x i h l =
        let parts = and_parts (ltb x y) (list_all (λ y. ltb x y) xs) h in
        let less = ltb-true x y parts.0 in
        let e : eqb y i ≡ false = ne_eqb y i (λ e. omega arith) in
        let rest = none_above xs x i parts.1 l in rw e (omega (arith, rest))

-- summing over all numbers below `n` how often each is in a list counts each of the list's elements once
pub all_times : (n : ℕ) (xs : List ℕ) → AllByRecursion (λ i. i < n) xs → total (λ i. times xs i) (range_with_len 0 n) ≡ length xs
all_times n [] each = total-zero (λ i. 0) (λ i. refl) (range_with_len 0 n)
all_times n (x ∷ xs) each =
    let here = one_member (λ _. 1) x 0 n (omega arith) (omega (arith, each.0)) in
    omega (arith, total-add (λ i. one_if (eqb x i)) (λ i. times xs i) (range_with_len 0 n), here, all_times n xs each.1)

-- ---- windows

pub times-turned : (j c : ℕ) (xs : List ℕ) (i : ℕ) → j ≤ length xs → c ≤ length xs →
    times (turned j c xs) i + times (take j xs) i ≡ times (take (j + c) xs) i + times (take (j + c - length xs) xs) i
times-turned j c xs i within few = ⊎_elim beyond before (cases_lt (length xs) (j + c))
  where
    halves : times (drop j xs) i + times (take j xs) i ≡ times xs i
    halves = let whole = ap (λ zs. times zs i) (take-append-drop j xs) in omega (arith, times-append (take j xs) (drop j xs) i, whole)

    before : j + c ≤ length xs → times (turned j c xs) i + times (take j xs) i ≡ times (take (j + c) xs) i + times (take (j + c - length xs) xs) i
    before l =
        let none : j + c - length xs ≡ 0 = omega arith in
        let first : take c (drop j xs ++ take j xs) ≡ take c (drop j xs) = take-append-le c (drop j xs) (take j xs) (omega (arith, length-drop j xs)) in
        let sum = ap (λ zs. times zs i) (take-add j c xs) in
        rw (none, first) (omega (arith, sum, times-append (take j xs) (take c (drop j xs)) i))

    beyond : length xs < j + c → times (turned j c xs) i + times (take j xs) i ≡ times (take (j + c) xs) i + times (take (j + c - length xs) xs) i
    beyond l =
        let d = j + c - length xs in
        let split : c ≡ length (drop j xs) + d = omega (arith, length-drop j xs) in
        let first : take c (drop j xs ++ take j xs) ≡ drop j xs ++ take d (take j xs) =
        ap (λ k. take k (drop j xs ++ take j xs)) split ∙ take-append-add (drop j xs) (take j xs) d in
        let again : take d xs ≡ take d (take j xs) =
        ap (take d) (sym (take-append-drop j xs)) ∙ take-append-le d (take j xs) (drop j xs) (omega (arith, length-take j xs)) in
        let all : take (j + c) xs ≡ xs = take_all (j + c) xs (omega arith) in
        rw (first, all, again) (omega (arith, times-append (drop j xs) (take d (take j xs)) i, halves))

pub length-turned : (j c : ℕ) (xs : List ℕ) → j ≤ length xs → c ≤ length xs → length (turned j c xs) ≡ c
length-turned j c xs within few =
    omega (arith, length-take c (drop j xs ++ take j xs), length-append (drop j xs) (take j xs), length-drop j xs, length-take j xs)

-- ---- all windows of a class

-- let `S n` be the sum over k below n of how often the first k members contain i. The windows of c members that begin at the first m places
-- contain i, all together, `S (m + c) + S (m + c - length xs) - S m - S c` times
windows_below : (xs : List ℕ) (i c m : ℕ) → c ≤ length xs → m ≤ length xs →
    sum_below (λ j. times (turned j c xs) i) m + sum_below (λ k. times (take k xs) i) m + sum_below (λ k. times (take k xs) i) c
    ≡ sum_below (λ k. times (take k xs) i) (m + c) + sum_below (λ k. times (take k xs) i) (m + c - length xs)
windows_below xs i c zero few within =
    let e : 0 + c ≡ c = omega arith in let f : c - length xs ≡ 0 = omega arith in rw (e, f) (omega arith)
windows_below xs i c (suc m) few within =
    let here = times-turned m c xs i (omega arith) few in
    let rest = windows_below xs i c m few (omega arith) in
    let next : suc m + c ≡ suc (m + c) = omega arith in
    let first : sum_below (λ k. times (take k xs) i) (suc m + c) ≡ sum_below (λ k. times (take k xs) i) (m + c) + times (take (m + c) xs) i = ap (sum_below (λ k. times (take k xs) i)) next in
    ⊎_elim
    (λ (l : m + c < length xs).
    let a : m + c - length xs ≡ 0 = omega arith in let b : suc m + c - length xs ≡ 0 = omega arith in
    let rest' : sum_below (λ j. times (turned j c xs) i) m + sum_below (λ k. times (take k xs) i) m + sum_below (λ k. times (take k xs) i) c ≡ sum_below (λ k. times (take k xs) i) (m + c) + 0 = rest ∙ ap (λ z. sum_below (λ k. times (take k xs) i) (m + c) + sum_below (λ k. times (take k xs) i) z) a in
    let here' : times (turned m c xs) i + times (take m xs) i ≡ times (take (m + c) xs) i + 0 = here ∙ ap (λ z. times (take (m + c) xs) i + times (take z xs) i) a in
    let end : sum_below (λ k. times (take k xs) i) (suc m + c - length xs) ≡ 0 = ap (sum_below (λ k. times (take k xs) i)) b in
    omega (arith, rest', here', first, end))
    (λ (l : length xs ≤ m + c).
    let b : suc m + c - length xs ≡ suc (m + c - length xs) = omega arith in
    let end : sum_below (λ k. times (take k xs) i) (suc m + c - length xs) ≡ sum_below (λ k. times (take k xs) i) (m + c - length xs) + times (take (m + c - length xs) xs) i = ap (sum_below (λ k. times (take k xs) i)) b in
    omega (arith, rest, here, first, end)) (cases_lt (m + c) (length xs))

beyond_end : (xs : List ℕ) (i c : ℕ) → sum_below (λ k. times (take k xs) i) (length xs + c) ≡ sum_below (λ k. times (take k xs) i) (length xs) + c * times xs i
beyond_end xs i zero = let e : length xs + 0 ≡ length xs = omega arith in rw e (omega arith)
beyond_end xs i (suc c) =
    let next : length xs + suc c ≡ suc (length xs + c) = omega arith in
    let whole : times (take (length xs + c) xs) i ≡ times xs i = ap (λ zs. times zs i) (take_all (length xs + c) xs (omega arith)) in
    rw next (omega (arith, beyond_end xs i c, whole))

-- the windows of c members, one from each place, contain a number c times as often as the list
pub all_windows : (xs : List ℕ) (i c : ℕ) → c ≤ length xs → sum_below (λ j. times (turned j c xs) i) (length xs) ≡ c * times xs i
all_windows xs i c few =
    let all = windows_below xs i c (length xs) few (omega arith) in
    let e : length xs + c - length xs ≡ c = omega arith in
    let all' : sum_below (λ j. times (turned j c xs) i) (length xs) + sum_below (λ k. times (take k xs) i) (length xs) + sum_below (λ k. times (take k xs) i) c ≡ sum_below (λ k. times (take k xs) i) (length xs + c) + sum_below (λ k. times (take k xs) i) c = all ∙ ap (λ z. sum_below (λ k. times (take k xs) i) (length xs + c) + sum_below (λ k. times (take k xs) i) z) e in
    omega (arith, all', beyond_end xs i c)

-- a window contains a number at most as often as the list
pub times-turned-le : (j c : ℕ) (xs : List ℕ) (i : ℕ) → times (turned j c xs) i ≤ times xs i
times-turned-le j c xs i =
    let whole = ap (λ zs. times zs i) (take-append-drop c (drop j xs ++ take j xs)) in
    let halves = ap (λ zs. times zs i) (take-append-drop j xs) in
    omega (arith, whole, halves, times-append (take c (drop j xs ++ take j xs)) (drop c (drop j xs ++ take j xs)) i, times-append (drop j xs) (take j xs) i, times-append (take j xs) (drop j xs) i)

-- ---- windows that begin at different places

-- the first p + 1 members contain the member of place p once more than the first p
one_more : (xs : List ℕ) (p : ℕ) → p < length xs → times (take (suc p) xs) (get_or xs p 0) ≡ 1 + times (take p xs) (get_or xs p 0)
one_more [] p l = absurd (omega arith)
one_more (x ∷ xs) zero l = let e : eqb x x ≡ true = eq-eqb x x refl in rw e refl
one_more (x ∷ xs) (suc p) l = omega (arith, one_more xs p (omega arith))

take_less : (k l : ℕ) (xs : List ℕ) (i : ℕ) → k ≤ l → times (take k xs) i ≤ times (take l xs) i
take_less zero l xs i h = omega arith
take_less (suc k) zero xs i h = absurd (omega arith)
take_less (suc k) (suc l) [] i h = omega arith
take_less (suc k) (suc l) (x ∷ xs) i h = omega (arith, take_less k l xs i (omega arith))

within_all : (k : ℕ) (xs : List ℕ) (i : ℕ) → times (take k xs) i ≤ times xs i
within_all k xs i = let whole = ap (λ zs. times zs i) (take-append-drop k xs) in omega (arith, whole, times-append (take k xs) (drop k xs) i)

-- if no number is in the list twice, the first k members contain the member of place p once if p is below k, else never
at_place : (xs : List ℕ) (p k : ℕ) → ((i : ℕ) → times xs i ≤ 1) → p < length xs → times (take k xs) (get_or xs p 0) ≡ one_if (ltb p k)
at_place xs p k once inside =
    let i = get_or xs p 0 in
    let more = one_more xs p inside in
    ⊎_elim
    (λ (l : p < k). let e = lt-ltb p k l in rw e (omega (arith, more, take_less (suc p) k xs i (omega arith), within_all k xs i, once i)))
    (λ (l : k ≤ p). let e = le-ltb p k l in rw e (omega (arith, more, take_less k p xs i l, within_all (suc p) xs i, once i))) (cases_lt p k)

-- if no number is in the list twice, the window of c members from place j contains the member of place p once if p is in `j..j + c` or
-- below `j + c - length xs`, else never
in_window : (xs : List ℕ) (p j c : ℕ) → ((i : ℕ) → times xs i ≤ 1) → p < length xs → j ≤ length xs → c ≤ length xs →
    times (turned j c xs) (get_or xs p 0) + one_if (ltb p j) ≡ one_if (ltb p (j + c)) + one_if (ltb p (j + c - length xs))
in_window xs p j c once inside within few =
    omega (arith, times-turned j c xs (get_or xs p 0) within few, at_place xs p j once inside, at_place xs p (j + c) once inside, at_place xs p (j + c - length xs) once inside)

yes : (p k : ℕ) → p < k → one_if (ltb p k) ≡ 1
yes p k l = ap one_if (lt-ltb p k l)

no : (p k : ℕ) → k ≤ p → one_if (ltb p k) ≡ 0
no p k l = ap one_if (le-ltb p k l)

-- if no number is in the list twice, and c is above 0 and below its length, two windows of c members that begin at different places are
-- different
pub windows_apart : (xs : List ℕ) (a j c : ℕ) → ((i : ℕ) → times xs i ≤ 1) → a < j → j < length xs → 0 < c → c < length xs →
    ((i : ℕ) → times (turned a c xs) i ≡ times (turned j c xs) i) → ⊥
windows_apart xs a j c once less inside some few same = ⊎_elim turns stays (cases_lt (length xs + a) (j + c))
  where
    stays : j + c ≤ length xs + a → ⊥
    stays l =
        let first = in_window xs a a c once (omega arith) (omega arith) (omega arith) in
        let other = in_window xs a j c once (omega arith) (omega arith) (omega arith) in
        omega (arith, first, other, same (get_or xs a 0), no a a (omega arith), yes a (a + c) (omega arith), no a (j + c - length xs) (omega arith), yes a j less, yes a (j + c) (omega arith))

    turns : length xs + a < j + c → ⊥
    turns l =
        let p : ℕ = j + c - length xs in
        let first = in_window xs p a c once (omega arith) (omega arith) (omega arith) in
        let other = in_window xs p j c once (omega arith) (omega arith) (omega arith) in
        omega (arith, first, other, same (get_or xs p 0), no p a (omega arith), yes p (a + c) (omega arith), no p p (omega arith), yes p j (omega arith), yes p (j + c) (omega arith))
