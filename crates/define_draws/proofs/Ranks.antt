-- Which rows come first when tickets that are left are given out: those with a remainder above a line, then those with a remainder on the
-- line, the earlier ones first.
use Rattle.std.proofs.Common.{◌≡◌, ℕ, zero, suc, ◌+◌, ◌-◌, ◌<◌, ◌≤◌, min, Bool, true, false, cond, eqb, leb, ltb, List, [], ◌∷◌, drop, get_or, length, take, refl, sym, ap, ap₂, ◌∙◌, arith, inl, inr, ◌⊎◌, ⊎_elim}
use Rattle.std.specs.Prelude.{count_by}
use Rattle.std.proofs.lemmas.Bool.{cases_lt, cases_order, eq-eqb, eqb-true, le-leb, le-ltb, leb-true, lt-leb, lt-ltb, ltb-true, ne_eqb}
use Rattle.std.proofs.lemmas.List.{take-take, take_all}
use Rattle.std.proofs.lemmas.List.Sums.{sum_by-cons, sum_by-drop_more, sum_by-le-sum_by, sum_by-take-drop, sum_by-take-le, sum_by_more}
use Rattle.define_pools.proofs.Sums.{one_if}
use Rattle.define_draws.specs.Short.{is_among_first, rows_before}
use Rattle.define_draws.proofs.ByPlace.{below}

-- ---- how many numbers are above a line, and how many on it

abbrev pub at_least : ℕ → List ℕ → ℕ
at_least line xs = count_by (λ x. leb line x) xs

abbrev pub above : ℕ → List ℕ → ℕ
above line xs = count_by (λ x. ltb line x) xs

abbrev pub on : ℕ → List ℕ → ℕ
on line xs = count_by (λ x. eqb x line) xs

one_le : (a b : Bool) → (a ≡ true → b ≡ true) → one_if a ≤ one_if b
one_le true b h = rw (h refl) (omega arith)
one_le false b h = omega arith

pub count_le : (p q : ℕ → Bool) (xs : List ℕ) → ((x : ℕ) → p x ≡ true → q x ≡ true) → count_by p xs ≤ count_by q xs
count_le p q xs h = sum_by-le-sum_by (λ x. one_if (p x)) (λ x. one_if (q x)) xs (λ x. one_le (p x) (q x) (h x))

pub count_split : (p : ℕ → Bool) (xs : List ℕ) (k : ℕ) → k < length xs → count_by p xs ≡ count_by p (take k xs) + one_if (p (get_or xs k 0)) + count_by p (drop (k + 1) xs)
count_split p xs k l = omega (arith, sum_by-take-drop (λ x. one_if (p x)) xs k, sum_by-drop_more (λ x. one_if (p x)) xs k 0 l)

pub count_more : (p : ℕ → Bool) (xs : List ℕ) (k : ℕ) → k < length xs → count_by p (take (suc k) xs) ≡ count_by p (take k xs) + one_if (p (get_or xs k 0))
count_more p xs k l = let e : suc k ≡ k + 1 = omega arith in ap (λ n. count_by p (take n xs)) e ∙ sum_by_more (λ x. one_if (p x)) xs k 0 l

at_least_one : (line x : ℕ) → one_if (leb line x) ≡ one_if (ltb line x) + one_if (eqb x line)
at_least_one line x = by (cases_order line x)
  where
    by : (line ≡ x) ⊎ ((line < x) ⊎ (x < line)) → one_if (leb line x) ≡ one_if (ltb line x) + one_if (eqb x line)
    by (inl e) = rw (le-leb line x (omega arith), le-ltb line x (omega arith), eq-eqb x line (sym e)) refl
    by (inr (inl l)) = rw (le-leb line x (omega arith), lt-ltb line x l, ne_eqb x line (λ e. omega arith)) refl
    by (inr (inr l)) = rw (lt-leb line x l, le-ltb line x (omega arith), ne_eqb x line (λ e. omega arith)) refl

-- the numbers that are at least `line` are those above it and those on it
pub at_least-split : (line : ℕ) (xs : List ℕ) → at_least line xs ≡ above line xs + on line xs
at_least-split line [] = refl
at_least-split line (x ∷ xs) =
    omega (
      arith,
      sum_by-cons (λ x. one_if (leb line x)) x xs,
      sum_by-cons (λ x. one_if (ltb line x)) x xs,
      sum_by-cons (λ x. one_if (eqb x line)) x xs,
      at_least_one line x,
      at_least-split line xs,
    )

-- ---- there is a line for the tickets that are left

-- at most `left` remainders are above the line, and at least `left` are on it or above
pub record IsLine (left : ℕ) (remainders : List ℕ) (line : ℕ) : Type 0 where
  pub few : above line remainders ≤ left
  pub enough : left ≤ at_least line remainders

at_least-zero : (xs : List ℕ) → at_least 0 xs ≡ length xs
at_least-zero [] = refl
at_least-zero (x ∷ xs) = omega (arith, sum_by-cons (λ x. one_if (leb 0 x)) x xs, at_least-zero xs, ap one_if (le-leb 0 x (omega arith)))

pub find_line : (left : ℕ) (remainders : List ℕ) (most : ℕ) → left ≤ length remainders → above most remainders ≤ left → (line : ℕ) × ((line ≤ most) × IsLine left remainders line)
find_line left remainders zero within few = (0, (omega arith, record { few = few; enough = omega (arith, at_least-zero remainders) }))
find_line left remainders (suc most) within few =
    by (cases_lt (at_least (suc most) remainders) left)
    (λ less.
    let le = count_le (λ x. ltb most x) (λ x. leb (suc most) x) remainders (λ x e. le-leb (suc most) x (let l = ltb-true most x e in omega arith)) in
    find_line left remainders most within (omega arith))
  where
    by : (at_least (suc most) remainders < left) ⊎ (left ≤ at_least (suc most) remainders) →
        (at_least (suc most) remainders < left → (line : ℕ) × ((line ≤ most) × IsLine left remainders line)) → (line : ℕ) × ((line ≤ suc most) × IsLine left remainders line)
    by (inl less) rest = let found = rest less in (found.0, (omega (arith, found.1.0), found.1.1))
    by (inr enough) rest = (suc most, (omega arith, record { few = few; enough = enough }))

-- ---- which rows come first

-- a row whose remainder is below `line` comes after all rows whose remainder is at least `line`
pub before_if_below : (remainders : List ℕ) (place line : ℕ) → place < length remainders → get_or remainders place 0 < line → at_least line remainders ≤ rows_before remainders place
before_if_below remainders place line inside l =
    let own = get_or remainders place 0 in
    let before = count_le (λ x. leb line x) (λ x. leb own x) (take place remainders) (λ x e. le-leb own x (let m = leb-true line x e in omega arith)) in
    let behind = count_le (λ x. leb line x) (λ x. ltb own x) (drop (place + 1) remainders) (λ x e. lt-ltb own x (let m = leb-true line x e in omega arith)) in
    omega (arith, before, behind, count_split (λ x. leb line x) remainders place inside, ap one_if (lt-leb line own l))

-- a row whose remainder is on the line comes after all rows above the line, and after the earlier rows on it
pub on_line : (remainders : List ℕ) (place line : ℕ) → place < length remainders → get_or remainders place 0 ≡ line → rows_before remainders place ≡ above line remainders + on line (take place remainders)
on_line remainders place line inside e =
    let own = get_or remainders place 0 in
    let before : at_least own (take place remainders) ≡ at_least line (take place remainders) = ap (λ n. at_least n (take place remainders)) e in
    let behind : above own (drop (place + 1) remainders) ≡ above line (drop (place + 1) remainders) = ap (λ n. above n (drop (place + 1) remainders)) e in
    omega (arith, before, behind, at_least-split line (take place remainders), count_split (λ x. ltb line x) remainders place inside, ap one_if (le-ltb line own (omega arith)))

pub on_earlier : (line : ℕ) (xs : List ℕ) (m n : ℕ) → m ≤ n → on line (take m xs) ≤ on line (take n xs)
on_earlier line xs m n l =
    let inside : on line (take m (take n xs)) ≤ on line (take n xs) = sum_by-take-le (λ x. one_if (eqb x line)) (take n xs) m in
    omega (arith, inside, ap (on line) (take-take m n xs l))

module _ (left : ℕ) (remainders : List ℕ) (line : ℕ) (is : IsLine left remainders line) (place : ℕ) (inside : place < length remainders) where
  abbrev own : ℕ
  own = get_or remainders place 0

  pub above_is_first : line < own → rows_before remainders place < left
  above_is_first l =
      let before = count_le (λ x. leb own x) (λ x. ltb line x) (take place remainders) (λ x e. lt-ltb line x (let m = leb-true own x e in omega arith)) in
      let behind = count_le (λ x. ltb own x) (λ x. ltb line x) (drop (place + 1) remainders) (λ x e. lt-ltb line x (let m = ltb-true own x e in omega arith)) in
      omega (arith, before, behind, count_split (λ x. ltb line x) remainders place inside, ap one_if (lt-ltb line own l), is.few)

  pub below_is_not : own < line → left ≤ rows_before remainders place
  below_is_not l = omega (arith, before_if_below remainders place line inside l, is.enough)

  -- a row gets one of the tickets that are left exactly if its remainder is above the line, or if it is on the line and one of the first
  -- `left - above line remainders` rows there
  pub given_by_line : one_if (is_among_first left remainders place)
      ≡ one_if (ltb line own) + (one_if (eqb own line) - (one_if (leb (left - above line remainders) (on line (take place remainders)))))
  given_by_line = by (cases_order line own)
    where
      by : (line ≡ own) ⊎ ((line < own) ⊎ (own < line)) → one_if (is_among_first left remainders place)
          ≡ one_if (ltb line own) + (one_if (eqb own line) - (one_if (leb (left - above line remainders) (on line (take place remainders)))))
      by (inl e) = rw (le-ltb line own (omega arith), eq-eqb own line (sym e)) (tied (cases_lt (on line (take place remainders)) (left - above line remainders)))
        where
          tied : (on line (take place remainders) < left - above line remainders) ⊎ (left - above line remainders ≤ on line (take place remainders)) →
              one_if (is_among_first left remainders place) ≡ 0 + (1 - one_if (leb (left - above line remainders) (on line (take place remainders))))
          tied (inl less) = rw (lt-ltb (rows_before remainders place) left (omega (arith, on_line remainders place line inside (sym e))), lt-leb (left - above line remainders) (on line (take place remainders)) less) refl
          tied (inr more) = rw (le-ltb (rows_before remainders place) left (omega (arith, on_line remainders place line inside (sym e), is.few)), le-leb (left - above line remainders) (on line (take place remainders)) more) refl
      by (inr (inl l)) = rw (lt-ltb line own l, ne_eqb own line (λ e. omega arith), lt-ltb (rows_before remainders place) left (above_is_first l)) (omega arith)
      by (inr (inr l)) = rw (le-ltb line own (omega arith), ne_eqb own line (λ e. omega arith), le-ltb (rows_before remainders place) left (below_is_not l)) (omega arith)

-- how many of the tickets that are left go to the first `n` rows
pub given_before : (left : ℕ) (remainders : List ℕ) (line : ℕ) → IsLine left remainders line → (n : ℕ) → n ≤ length remainders →
    below (λ place. one_if (is_among_first left remainders place)) n ≡ above line (take n remainders) + min (left - above line remainders) (on line (take n remainders))
given_before left remainders line is zero l = omega arith
given_before left remainders line is (suc n) l =
    let inside : n < length remainders = omega arith in
    let own = get_or remainders n 0 in
    omega (
      arith,
      given_before left remainders line is n (omega arith),
      given_by_line left remainders line is n inside,
      count_more (λ x. ltb line x) remainders n inside,
      count_more (λ x. eqb x line) remainders n inside,
      tested (left - above line remainders) (on line (take n remainders)),
      bit (eqb own line),
    )
  where
    bit : (b : Bool) → one_if b ≤ 1
    bit true = omega arith
    bit false = omega arith

    tested : (a b : ℕ) → ((b < a) × (one_if (leb a b) ≡ 0)) ⊎ ((a ≤ b) × (one_if (leb a b) ≡ 1))
    tested a b = ⊎_elim (λ (l : b < a). inl (l, ap one_if (lt-leb a b l))) (λ (l : a ≤ b). inr (l, ap one_if (le-leb a b l))) (cases_lt b a)

-- exactly `left` rows are among the first `left`, so all tickets that are left are given out
pub given_all : (left : ℕ) (remainders : List ℕ) (line : ℕ) → IsLine left remainders line → below (λ place. one_if (is_among_first left remainders place)) (length remainders) ≡ left
given_all left remainders line is =
    let all = take_all (length remainders) remainders (omega arith) in
    omega (arith, given_before left remainders line is (length remainders) (omega arith), ap (above line) all, ap (on line) all, is.few, is.enough, at_least-split line remainders)

-- if `first` is among the first `left` rows and `second` isn't, `first` has a greater remainder, or the same remainder and an earlier place
pub first_by_remainder : (left : ℕ) (remainders : List ℕ) (first second : ℕ) → first < length remainders → second < length remainders →
    rows_before remainders first < left → left ≤ rows_before remainders second →
    (get_or remainders second 0 < get_or remainders first 0) ⊎ ((get_or remainders second 0 ≡ get_or remainders first 0) × (first < second))
first_by_remainder left remainders first second in_first in_second comes stays = by (cases_order (get_or remainders second 0) (get_or remainders first 0))
  where
    by : (get_or remainders second 0 ≡ get_or remainders first 0) ⊎ ((get_or remainders second 0 < get_or remainders first 0) ⊎ (get_or remainders first 0 < get_or remainders second 0)) →
        (get_or remainders second 0 < get_or remainders first 0) ⊎ ((get_or remainders second 0 ≡ get_or remainders first 0) × (first < second))
    by (inl e) =
        let line = get_or remainders first 0 in
        let one = on_line remainders first line in_first refl in
        let other = on_line remainders second line in_second e in
        ⊎_elim
        (λ (l : first < second). inr (e, l))
        (λ (l : second ≤ first). let more = on_earlier line remainders second first l in absurd (omega (arith, one, other, more)))
        (cases_lt first second)
    by (inr (inl l)) = inl l
    by (inr (inr l)) =
        let line = get_or remainders second 0 in
        let after = before_if_below remainders first line in_first l in
        let other = on_line remainders second line in_second refl in
        let some = on_within line remainders second in
        absurd (omega (arith, after, other, some, at_least-split line remainders))
      where
        on_within : (line : ℕ) (xs : List ℕ) (n : ℕ) → on line (take n xs) ≤ on line xs
        on_within line xs n = sum_by-take-le (λ x. one_if (eqb x line)) xs n
