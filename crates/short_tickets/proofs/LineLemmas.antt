-- The `Line` is found by sorting the remainders, and decides which rows get one of the tickets that are left.
use Rattle.std.proofs.Common.{◌≡◌, ℕ, zero, suc, ◌+◌, ◌-◌, ◌<◌, ◌≤◌, max, Bool, true, false, ◌&&◌, ◌||◌, eqb, leb, ltb, List, [], ◌∷◌, drop, get_or, length, take, refl, sym, ap, ◌∙◌, arith, inl, inr, ◌⊎◌}
use Rattle.std.specs.Prelude.{count_by}
use Rattle.std.specs.List.Sorted.{IsNonDecreasingBy, IsPermutation}
use Rattle.std.proofs.lemmas.Bool.{cases_eq, cases_lt, eq-eqb, le-leb, le-ltb, lt-leb, lt-ltb, ne_eqb}
use Rattle.std.proofs.lemmas.List.{get_or-drop, get_or-take, get_or_default, length-drop, length-take-le}
use Rattle.std.proofs.lemmas.List.Sorted.{length_permutation, sum_by-IsPermutation}
use Rattle.std.proofs.lemmas.List.Sums.{count_by-le-length, sum_by-cons, sum_by-take-drop}
use Rattle.define_pools.proofs.Sums.{one_if}
use Rattle.define_draws.specs.Short.{is_among_first}
use Rattle.define_draws.proofs.Ranks.{IsLine, above, at_least, at_least-split, given_by_line, on}
use Rattle.short_tickets.specs.declared.lines.Line.{Line}
use Rattle.short_tickets.specs.Parts.{IsLineFor}

none_counted : (p : ℕ → Bool) (xs : List ℕ) → ((k : ℕ) → k < length xs → p (get_or xs k 0) ≡ false) → count_by p xs ≡ 0
none_counted p [] h = refl
none_counted p (x ∷ xs) h =
    omega (arith, sum_by-cons (λ x. one_if (p x)) x xs, ap one_if (h 0 (omega arith)), none_counted p xs (λ k l. h (suc k) (omega arith)))

all_counted : (p : ℕ → Bool) (xs : List ℕ) → ((k : ℕ) → k < length xs → p (get_or xs k 0) ≡ true) → count_by p xs ≡ length xs
all_counted p [] h = refl
all_counted p (x ∷ xs) h =
    omega (arith, sum_by-cons (λ x. one_if (p x)) x xs, ap one_if (h 0 (omega arith)), all_counted p xs (λ k l. h (suc k) (omega arith)))

-- in a rising list, only numbers after place `k` can be above the number at place `k`, and all of these are at least as great
module _ (xs : List ℕ) (k : ℕ) (rise : IsNonDecreasingBy (λ (x : ℕ). x) xs) (inside : k < length xs) where
  few_above : above (get_or xs k 0) xs ≤ length xs - (k + 1)
  few_above =
      let size : length (take (k + 1) xs) ≡ k + 1 = length-take-le (k + 1) xs (omega arith) in
      let none = none_counted (λ x. ltb (get_or xs k 0) x) (take (k + 1) xs)
      (λ j l. let e = get_or-take (k + 1) xs j 0 (omega arith) in let le = rise j k 0 (omega arith) inside in
      ap (ltb (get_or xs k 0)) e ∙ le-ltb (get_or xs k 0) (get_or xs j 0) (omega (arith, le))) in
      omega (arith, none, sum_by-take-drop (λ x. one_if (ltb (get_or xs k 0) x)) xs (k + 1), count_by-le-length (λ x. ltb (get_or xs k 0) x) (drop (k + 1) xs), length-drop (k + 1) xs)

  many_at_least : length xs - k ≤ at_least (get_or xs k 0) xs
  many_at_least =
      let size = length-drop k xs in
      let all = all_counted (λ x. leb (get_or xs k 0) x) (drop k xs)
      (λ j l. let e = get_or-drop k xs j 0 in let le = rise k (k + j) 0 (omega arith) (omega (arith, size)) in
      ap (leb (get_or xs k 0)) e ∙ le-leb (get_or xs k 0) (get_or xs (k + j) 0) (omega (arith, le))) in
      omega (arith, all, sum_by-take-drop (λ x. one_if (leb (get_or xs k 0) x)) xs k, size)

pub line_in_order : (remainders sorted : List ℕ) (left place line : ℕ) → IsPermutation remainders sorted → IsNonDecreasingBy (λ (x : ℕ). x) sorted →
    1 ≤ length remainders → left ≤ length remainders → place ≡ length sorted - max left 1 → line ≡ get_or sorted place 0 → IsLine left remainders line
line_in_order remainders sorted left place line moved rise some within at is =
    let size = length_permutation remainders sorted moved in
    let inside : place < length sorted = omega (arith, size) in
    let few = few_above sorted place rise inside in
    let many = many_at_least sorted place rise inside in
    let same_above : above line sorted ≡ above line remainders = sum_by-IsPermutation (λ x. one_if (ltb line x)) remainders sorted moved in
    let same_at_least : at_least line sorted ≡ at_least line remainders = sum_by-IsPermutation (λ x. one_if (leb line x)) remainders sorted moved in
    record {
      few = omega (arith, few, same_above, size, ap (λ n. above n sorted) is);
      enough = omega (arith, many, same_at_least, size, ap (λ n. at_least n sorted) is);
    }

pub is_line_for : (left : ℕ) (remainders : List ℕ) (line : Line) → IsLine left remainders line.remainder → line.ties ≡ left - above line.remainder remainders → IsLineFor left remainders line
is_line_for left remainders line is ties =
    record { all = omega (arith, ties, is.few); ties = omega (arith, ties, is.enough, at_least-split line.remainder remainders) }

pub line_is : (left : ℕ) (remainders : List ℕ) (line : Line) → IsLineFor left remainders line → IsLine left remainders line.remainder
line_is left remainders line is = record { few = omega (arith, is.all); enough = omega (arith, is.all, is.ties, at_least-split line.remainder remainders) }

-- if `ties` are the ties that rows before `place` left, the line gives the row at `place` a ticket exactly if the definition does
pub gives_is : (left : ℕ) (remainders : List ℕ) (line : Line) → IsLineFor left remainders line → (place own ties : ℕ) → place < length remainders →
    own ≡ get_or remainders place 0 → ties ≡ line.ties - on line.remainder (take place remainders) →
    (ltb line.remainder own || (eqb own line.remainder && ltb 0 ties)) ≡ is_among_first left remainders place
gives_is left remainders line is place own ties inside at counted =
    same_bit (ltb line.remainder own || (eqb own line.remainder && ltb 0 ties)) (is_among_first left remainders place)
    (by (cases_eq own line.remainder) ∙ sym (moved (get_or remainders place 0) own (sym at) (given_by_line left remainders line.remainder (line_is left remainders line is) place inside)))
  where
    moved : (x y : ℕ) → x ≡ y →
        one_if (is_among_first left remainders place)
        ≡ one_if (ltb line.remainder x) + (one_if (eqb x line.remainder) - one_if (leb (left - above line.remainder remainders) (on line.remainder (take place remainders)))) →
        one_if (is_among_first left remainders place)
        ≡ one_if (ltb line.remainder y) + (one_if (eqb y line.remainder) - one_if (leb (left - above line.remainder remainders) (on line.remainder (take place remainders))))
    moved x y e h =
        h ∙ ap (λ z. one_if (ltb line.remainder z) + (one_if (eqb z line.remainder) - one_if (leb (left - above line.remainder remainders) (on line.remainder (take place remainders))))) e

    same_bit : (a b : Bool) → one_if a ≡ one_if b → a ≡ b
    same_bit true true e = refl
    same_bit true false e = absurd (omega arith)
    same_bit false true e = absurd (omega arith)
    same_bit false false e = refl

    or_nothing : (b : Bool) → one_if (b || false) ≡ one_if b + 0
    or_nothing true = refl
    or_nothing false = refl

    by : (own ≡ line.remainder) ⊎ (own ≡ line.remainder → ⊥) →
        one_if (ltb line.remainder own || (eqb own line.remainder && ltb 0 ties))
        ≡ one_if (ltb line.remainder own) + (one_if (eqb own line.remainder) - one_if (leb (left - above line.remainder remainders) (on line.remainder (take place remainders))))
    by (inl e) =
        rw (le-ltb line.remainder own (omega arith), eq-eqb own line.remainder e) (tied (cases_lt 0 ties))
      where
        tied : (0 < ties) ⊎ (ties ≤ 0) → one_if (ltb 0 ties) ≡ 0 + (1 - one_if (leb (left - above line.remainder remainders) (on line.remainder (take place remainders))))
        tied (inl l) = rw (lt-ltb 0 ties l, lt-leb (left - above line.remainder remainders) (on line.remainder (take place remainders)) (omega (arith, counted, is.all))) refl
        tied (inr l) = rw (le-ltb 0 ties l, le-leb (left - above line.remainder remainders) (on line.remainder (take place remainders)) (omega (arith, counted, is.all))) refl
    by (inr apart) = rw (ne_eqb own line.remainder apart) (or_nothing (ltb line.remainder own) ∙ (let e : one_if (ltb line.remainder own) + 0 ≡ one_if (ltb line.remainder own) + (0 - one_if (leb (left - above line.remainder remainders) (on line.remainder (take place remainders)))) = omega arith in e))
