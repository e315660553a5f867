-- Where the window of a class begins, and which members the classes give.
use Rattle.std.proofs.Common.{◌≡◌, ◌⊎◌, inl, inr, ℕ, zero, suc, ◌+◌, ◌*◌, ◌/◌, ◌≤◌, ◌<◌, Bool, true, false, ◌&&◌, ◌||◌, ltb, List, [], ◌∷◌, ◌++◌, map, filter, take, drop, length, get_or, slice_index_or, replicate, refl, sym, ap, ◌∙◌, ⊎_elim, arith, subst, length-append, length-drop, mul-le-mul_right}
use Rattle.std.specs.Int.{◌∣◌}
use Rattle.std.specs.List.{range_with_len}
use Rattle.std.proofs.lemmas.Bool.{and_parts, and_from, cases_lt, lt-ltb, ltb-true, false≢true}
use Rattle.std.proofs.lemmas.List.{length-take, length-replicate, take-append-drop, take_all, get_or_default}
use Rattle.std.proofs.lemmas.List.FromFn.{length-map-range_with_len}
use Rattle.std.proofs.Math.Nat.{div-le_of_le-mul, dvd-mul_left}
use Rattle.std.proofs.Math.Bool.{or_assoc}
use Rattle.define_pools.proofs.Lists.{slice_get-at, filter_range_same}
use Rattle.define_pools.specs.Lists.{includes}
use Rattle.define_searches.specs.Classes.{Class, Classes}
use Rattle.define_runs.specs.Spreading.{dial, is_partly_taken, partly_taken, turned}
use Rattle.define_runs.proofs.Dials.{Divided, divided_dial, each_included, includes-partly}
use Rattle.define_runs.specs.Spreading.{is_given}
use Rattle.alike.specs.Steps.{AreMarked}
use Rattle.define_runs.proofs.Cuts.{includes-append}
use Rattle.alike.proofs.Parts.{given-more, given-whole}

pub some_size : (class : Class) (count : ℕ) → is_partly_taken class count ≡ true → 0 < length class.members
some_size class count e =
    let parts = and_parts (ltb 0 count) (ltb count (length class.members)) e in
    let more = ltb-true count (length class.members) parts.1 in omega arith

pub start_within : (size places at : ℕ) → at < places → at * size / places ≤ size
start_within size places at below = div-le_of_le-mul places (omega (arith, mul-le-mul_right {m = at} {n = places} size (omega arith)))

-- if all members are taken, or none, every start gives the same members
pub any_start : (class : Class) (count j i : ℕ) → is_partly_taken class count ≡ false → j ≤ length class.members → includes (turned 0 count class.members) i ≡ includes (turned j count class.members) i
any_start class count j i e within = by (whole_or_none count (length class.members) e)
  where
    whole_or_none : (count size : ℕ) → (ltb 0 count && ltb count size) ≡ false → (count ≡ 0) ⊎ (size ≤ count)
    whole_or_none count size e = ⊎_elim
        (λ (l : 0 < count). ⊎_elim
        (λ (m : count < size). absurd (false≢true (sym e ∙ and_from (ltb 0 count) (ltb count size) (lt-ltb 0 count l) (lt-ltb count size m))))
        (λ (m : size ≤ count). inr m) (cases_lt count size))
        (λ (l : count ≤ 0). inl (omega arith)) (cases_lt 0 count)

    swap : (a b : Bool) → (a || b) ≡ (b || a)
    swap true true = refl
    swap true false = refl
    swap false true = refl
    swap false false = refl

    all_of : (j count : ℕ) (xs : List ℕ) → j ≤ length xs → length xs ≤ count → includes (turned j count xs) i ≡ includes xs i
    all_of j count xs within l =
        let whole : take count (drop j xs ++ take j xs) ≡ drop j xs ++ take j xs = take_all count (drop j xs ++ take j xs) (omega (arith, length-append (drop j xs) (take j xs), length-drop j xs, length-take j xs)) in
        ap (λ zs. includes zs i) whole ∙ includes-append (drop j xs) (take j xs) i ∙ swap (includes (drop j xs) i) (includes (take j xs) i)
        ∙ sym (includes-append (take j xs) (drop j xs) i) ∙ ap (λ zs. includes zs i) (take-append-drop j xs)

    by : (count ≡ 0) ⊎ (length class.members ≤ count) → includes (turned 0 count class.members) i ≡ includes (turned j count class.members) i
    by (inl none) = rw none refl
    by (inr all) = all_of 0 count class.members (omega arith) all ∙ sym (all_of j count class.members within all)

-- ---- classes at places of a list

-- the dial is a multiple of the size of a class that is taken in part
pub size_divides : (all : Classes) (counts : List ℕ) (k : ℕ) (class : Class) (count : ℕ) → k < length all.classes → k < length counts → class ≡ get_or all.classes k class → count ≡ get_or counts k count →
    is_partly_taken class count ≡ true → length class.members ∣ dial all counts
size_divides all counts k class count l m e f taken =
    let same : count ≡ get_or counts k 0 = f ∙ get_or_default counts k count 0 m in
    let there = includes-partly all.classes counts k class (slice_get-at all.classes k class class l e) m (ap (λ n. is_partly_taken class n) (sym same) ∙ taken) in
    let d : Divided (length class.members) (dial all counts) = each_included (λ size. Divided size (dial all counts)) (partly_taken all.classes counts) (length class.members) (divided_dial all counts) there in
    subst (λ n. length class.members ∣ n) d.is (dvd-mul_left (length class.members) d.step)

-- if the marks are those of the first `k` classes, then after marking the window of class `k` they are those of the first `k + 1` classes
pub given_more : (len at : ℕ) (classes : List Class) (counts : List ℕ) (k n : ℕ) (class : Class) (count start : ℕ) (before mid after : List Bool) → k < length classes → k < length counts →
    class ≡ get_or classes k class → count ≡ get_or counts k count → n ≡ suc k →
    ((i : ℕ) → includes (turned start count class.members) i ≡ includes (turned (at * length class.members / len) count class.members) i) →
    AreMarked before mid (is_given len at (take k classes) (take k counts)) → AreMarked mid after (includes (turned start count class.members)) →
    AreMarked before after (is_given len at (take n classes) (take n counts))
given_more len at classes counts k n class count start before mid after l m e f next same one two = record {
  long = two.long ∙ one.long;
  marked = λ i within.
      let long = one.long in
      two.marked i (omega arith) ∙ ap (λ b. b || includes (turned start count class.members) i) (one.marked i within)
      ∙ or_assoc (slice_index_or before i false) (is_given len at (take k classes) (take k counts) i) (includes (turned start count class.members) i)
      ∙ ap (λ b. slice_index_or before i false || (is_given len at (take k classes) (take k counts) i || b)) (same i)
      ∙ ap (λ b. slice_index_or before i false || b) (sym (given-more len at classes counts k class count i l m e f))
      ∙ ap (λ n. slice_index_or before i false || is_given len at (take n classes) (take n counts) i) (sym next);
}

-- after the last class, the marks are those of all classes
pub given_all : (len at : ℕ) (classes : List Class) (counts : List ℕ) (k : ℕ) (before after : List Bool) → (length classes ≤ k) ⊎ (length counts ≤ k) →
    AreMarked before after (is_given len at (take k classes) (take k counts)) → AreMarked before after (is_given len at classes counts)
given_all len at classes counts k before after l marked = record {
  long = marked.long;
  marked = λ i within. marked.marked i within ∙ ap (λ b. slice_index_or before i false || b) (given-whole len at classes counts k i l);
}

-- ---- lists of truth values

-- if a list of truth values has at each place `i` the value of `p` at `first + i`, it is the list of these values
pub told_by_places : (p : ℕ → Bool) (first : ℕ) (xs : List Bool) → ((i : ℕ) → i < length xs → get_or xs i false ≡ p (first + i)) → xs ≡ map p (range_with_len first (length xs))
told_by_places p first [] h = refl
told_by_places p first (x ∷ xs) h =
    let zero_more : first + 0 ≡ first = omega arith in
    let here : x ≡ p first = h 0 (omega arith) ∙ ap p zero_more in
    let rest = told_by_places p (first + 1) xs (λ i l. let e : first + suc i ≡ first + 1 + i = omega arith in h (suc i) (omega arith) ∙ ap p e) in
    ap (λ b. b ∷ xs) here ∙ ap (λ zs. p first ∷ zs) rest

-- if the places that pass `p` are marked in a list without marks, the marks are the values of `p`
pub first_marks : (p : ℕ → Bool) (n : ℕ) (before after : List Bool) → before ≡ replicate n false → AreMarked before after p → after ≡ map p (range_with_len 0 n)
first_marks p n before after e marked =
    let none : length before ≡ n = ap (λ (xs : List Bool). length xs) e ∙ length-replicate n false in
    let long : length after ≡ n = marked.long ∙ none in
    told_by_places p 0 after (λ i l.
    let within : i < length before = (let m = marked.long in omega arith) in
    let zero_more : i ≡ 0 + i = omega arith in
    marked.marked i within ∙ ap (λ (xs : List Bool). get_or xs i false || p i) e ∙ ap (λ b. b || p i) (unmarked n i) ∙ ap p zero_more)
    ∙ ap (λ k. map p (range_with_len 0 k)) long
  where
    unmarked : (n i : ℕ) → get_or (replicate n false) i false ≡ false
    unmarked zero i = refl
    unmarked (suc n) zero = refl
    unmarked (suc n) (suc i) = unmarked n i

at_place : (p : ℕ → Bool) (first n i : ℕ) → i < n → get_or (map p (range_with_len first n)) i false ≡ p (first + i)
at_place p first zero i l = absurd (omega arith)
at_place p first (suc n) zero l = let e : first ≡ first + 0 = omega arith in ap p e
at_place p first (suc n) (suc i) l = let e : first + 1 + i ≡ first + suc i = omega arith in at_place p (first + 1) n i (omega arith) ∙ ap p e

-- if the marks are the values of `p`, the marked numbers are those that pass `p`
pub passing_numbers : (p : ℕ → Bool) (n : ℕ) (given : List Bool) (numbers : List ℕ) → given ≡ map p (range_with_len 0 n) → numbers ≡ filter (λ i. slice_index_or given i false) (range_with_len 0 (length given)) →
    numbers ≡ filter p (range_with_len 0 n)
passing_numbers p n given numbers e f =
    let long : length given ≡ n = ap (λ (xs : List Bool). length xs) e ∙ length-map-range_with_len p 0 n in
    f ∙ ap (λ k. filter (λ i. slice_index_or given i false) (range_with_len 0 k)) long
    ∙ filter_range_same (λ i. slice_index_or given i false) p 0 n
    (λ i l. ap (λ (xs : List Bool). get_or xs i false) e ∙ at_place p 0 n i (omega arith) ∙ (let z : 0 + i ≡ i = omega arith in ap p z))
