-- The greatest sums of units: with one more unit, with the units of one more class, and bounds on their absolute values.
use Rattle.std.proofs.Common.{◌≡◌, ℕ, zero, suc, ◌+◌, ◌*◌, ◌^◌, ◌≤◌, ◌<◌, true, false, cond, eqb, ltb, List, [], ◌∷◌, ◌++◌, length, take, drop, set, map, fold, replicate, ℤ, pos, ◌+ℤ◌, refl, sym, ap, ◌∙◌, arith, mul-le-mul_right, subst, length-append}
use Rattle.std.specs.Prelude.{int_le, unsigned_abs}
use Rattle.std.specs.Int.{int_max}
use Rattle.std.specs.List.{AllByRecursion}
use Rattle.std.proofs.lemmas.Bool.{ltb-true, ltb-false, eqb-true, eqb-false}
use Rattle.std.proofs.lemmas.List.{drop_more, length-set, get_or-set_other, get_or-append-add}
use Rattle.std.proofs.Math.ListN.{get_or-append}
use Rattle.std.proofs.lemmas.Nat.{mul-add-lt}
use Rattle.std.proofs.lemmas.Grind.{get_or-set_at}
use Rattle.std.proofs.lemmas.Int.{ints, clamps}
use Rattle.std.proofs.lemmas.List.Elements.{recursion_from_All}
use borrow.Author.Differences.{le-true, le-false}
use Rattle.define_pools.proofs.Each.{each_map}
use Rattle.define_pools.proofs.Sums.{total}
use Rattle.define_rows.specs.Row.{sum_of_sizes}
use Rattle.define_rows.proofs.SumLaws.{abs_sum_le}
use Rattle.define_searches.specs.Classes.{Class, Classes, KeepsLimits}
use Rattle.define_searches.specs.Fronts.{most_given, put_falling, falling, units, sum_of, greatest_sum}
use Rattle.define_searches.proofs.GreatestSum.{AtMost, Falls, falling_falls, length-falling, length-replicate}
use Rattle.define_searches.specs.Front.{Stands}
use Rattle.define_searches.specs.Weights.{cell_of, HoldsSums, IsGreater, HasUnit, AreGreatest, AreNarrow, at, units_from}
use Rattle.define_searches.proofs.Tracking.{comes_next, most_more, most_small}

-- ---- the sum of a list with one more number

fold_from : (s : ℤ) (xs : List ℤ) → fold (λ total x. total +ℤ x) s xs ≡ s +ℤ sum_of xs
fold_from s [] = omega (arith, ints)
fold_from s (x ∷ xs) = omega (arith, ints, fold_from (s +ℤ x) xs, fold_from (pos 0 +ℤ x) xs)

pub sum_more : (x : ℤ) (xs : List ℤ) → sum_of (x ∷ xs) ≡ x +ℤ sum_of xs
sum_more x xs = omega (arith, ints, fold_from (pos 0 +ℤ x) xs)

-- ---- one more unit

-- the sum of the first n numbers of a list
abbrev first : ℕ → List ℤ → ℤ
first n xs = sum_of (take n xs)

next_within : (x : ℤ) (xs : List ℤ) (n : ℕ) → AllByRecursion (λ z. AtMost z x) xs → n < length xs → AtMost (first (suc n) xs) (first n xs +ℤ x)
next_within x [] n each l = absurd (omega arith)
next_within x (y ∷ ys) zero each l = let here = each.0 in omega (arith, ints, sum_more y [])
next_within x (y ∷ ys) (suc n) each l =
    let rest = next_within x ys n each.1 (omega arith) in omega (arith, ints, sum_more y (take (suc n) ys), sum_more y (take n ys))

put_first : (x y : ℤ) (ys : List ℤ) (n : ℕ) → Falls (y ∷ ys) → AtMost y x → IsGreater (length (y ∷ ys)) (suc n) (first (suc n) (y ∷ ys)) (first n (y ∷ ys) +ℤ x) (sum_of (x ∷ take n (y ∷ ys)))
put_first x y ys n falls l = record {
  all_taken = λ h. omega (arith, ints, sum_more x (take n (y ∷ ys)));
  some_left = λ h.
      let each = each_map (λ z. AtMost z y) (λ z. AtMost z x) (λ z k. omega arith) ys falls.0 in
      let next = next_within x (y ∷ ys) n (l, each) (omega arith) in
      omega (arith, ints, clamps, sum_more x (take n (y ∷ ys)));
}

put_later : (x y : ℤ) (ys : List ℤ) (n : ℕ) (r : ℤ) → IsGreater (length ys) (suc n) (first (suc n) ys) (first n ys +ℤ x) r →
    IsGreater (length (y ∷ ys)) (suc (suc n)) (first (suc (suc n)) (y ∷ ys)) (first (suc n) (y ∷ ys) +ℤ x) (y +ℤ r)
put_later x y ys n r h = record {
  all_taken = λ l. let e = h.all_taken (omega arith) in omega (arith, ints, sum_more y (take n ys));
  some_left = λ l. let e = h.some_left (omega arith) in omega (arith, ints, clamps, sum_more y (take n ys), sum_more y (take (suc n) ys));
}

greater_same : (many count : ℕ) (p q r s : ℤ) → r ≡ s → IsGreater many count p q r → IsGreater many count p q s
greater_same many count p q r s e h = record { all_taken = λ l. sym e ∙ h.all_taken l; some_left = λ l. sym e ∙ h.some_left l }

put_sum : (x : ℤ) (xs : List ℤ) (n : ℕ) → Falls xs → IsGreater (length xs) (suc n) (first (suc n) xs) (first n xs +ℤ x) (first (suc n) (put_falling x xs))
put_sum x [] zero falls = record { all_taken = λ l. omega (arith, ints); some_left = λ l. absurd (omega arith) }
put_sum x [] (suc n) falls = record { all_taken = λ l. omega (arith, ints); some_left = λ l. absurd (omega arith) }
put_sum x (y ∷ ys) zero falls =
    (elim (int_le y x) as (λ b. int_le y x ≡ b → IsGreater (length (y ∷ ys)) 1 (first 1 (y ∷ ys)) (first 0 (y ∷ ys) +ℤ x) (first 1 (cond b (x ∷ (y ∷ ys)) (y ∷ put_falling x ys)))) [
      | true ↦ λ e. put_first x y ys 0 falls (le-true y x e)
      | false ↦ λ e. let h = le-false y x e in record { all_taken = λ l. absurd (omega arith); some_left = λ l. omega (arith, ints, clamps) }
    ]) refl
put_sum x (y ∷ ys) (suc n) falls =
    let rest = put_sum x ys n falls.1 in
    (elim (int_le y x) as (λ b. int_le y x ≡ b → IsGreater (length (y ∷ ys)) (suc (suc n)) (first (suc (suc n)) (y ∷ ys)) (first (suc n) (y ∷ ys) +ℤ x) (first (suc (suc n)) (cond b (x ∷ (y ∷ ys)) (y ∷ put_falling x ys)))) [
      | true ↦ λ e. put_first x y ys (suc n) falls (le-true y x e)
      | false ↦ λ e. greater_same _ _ _ _ _ _ (sym (sum_more y (take (suc n) (put_falling x ys)))) (put_later x y ys n _ rest)
    ]) refl

greater_is : (some many count : ℕ) (p q r p' q' r' : ℤ) → some ≡ many → p ≡ p' → q ≡ q' → IsGreater some count p q r → IsGreater many count p' q' r' → r ≡ r'
greater_is some many count p q r p' q' r' d e f h k =
    (elim (ltb some count) as (λ b. ltb some count ≡ b → r ≡ r') [
      | true ↦ λ t. let l = ltb-true some count t in h.all_taken l ∙ f ∙ sym (k.all_taken (omega arith))
      | false ↦ λ t. let l = ltb-false some count t in h.some_left l ∙ ap (λ x. int_max x q) e ∙ ap (int_max p') f ∙ sym (k.some_left (omega arith))
    ]) refl

-- If `before` has the greatest sums of the units `us`, `after` has those of `us` and one more unit of weight `weight`.
pub greatest_more : (us : List ℤ) (weight : ℤ) (many : ℕ) (before after : List ℤ) → many ≡ length us → AreGreatest us before → HasUnit many weight before after → AreGreatest (weight ∷ us) after
greatest_more us weight many before after e greatest has zero l = has.none ∙ greatest 0 (omega (arith, has.same))
greatest_more us weight many before after e greatest has (suc n) l =
    let has_next : IsGreater many (suc n) (at before (suc n)) (at before n +ℤ weight) (at after (suc n)) =
    let e : n + 1 ≡ suc n = omega arith in subst (λ (k : ℕ). IsGreater many k (at before k) (at before n +ℤ weight) (at after k)) e (has.some n (omega (arith, has.same))) in
    greater_is many (length (falling us)) (suc n) _ _ _ _ _ _ (omega (arith, length-falling us)) (greatest (suc n) (omega (arith, has.same))) (ap (λ z. z +ℤ weight) (greatest n (omega (arith, has.same)))) has_next
    (put_sum weight (falling us) n (falling_falls us))

-- The sums while they are replaced in place, from the greatest count down: the last `done` sums have the new unit already.
pub record PutFrom (many : ℕ) (weight : ℤ) (before : List ℤ) (done : ℕ) (sums : List ℤ) : Type 0 where
  pub same : length sums ≡ length before
  pub low : (n : ℕ) → n + done ≤ length before → at sums n ≡ at before n
  pub high : (n : ℕ) → length before < n + 1 + done → n + 1 < length before → IsGreater many (n + 1) (at before (n + 1)) (at before n +ℤ weight) (at sums (n + 1))

greater_move : (many count count' : ℕ) (p q r p' q' r' : ℤ) → count ≡ count' → p ≡ p' → q ≡ q' → r ≡ r' → IsGreater many count p q r → IsGreater many count' p' q' r'
greater_move many count count' p q r p' q' r' d e f g h = record {
  all_taken = λ l. sym g ∙ h.all_taken (omega arith) ∙ f;
  some_left = λ l. sym g ∙ h.some_left (omega arith) ∙ ap (λ x. int_max x q) e ∙ ap (int_max p') f;
}

pub put_next : (many count : ℕ) (weight : ℤ) (before : List ℤ) (done : ℕ) (sums : List ℤ) (without with_it r : ℤ) → PutFrom many weight before done sums → 1 ≤ done → count + 1 + done ≡ length before →
    without ≡ at sums (count + 1) → with_it ≡ at sums count +ℤ weight → IsGreater many (count + 1) without with_it r → PutFrom many weight before (done + 1) (set sums (count + 1) r)
put_next many count weight before done sums without with_it r from some e f g h = record {
  same = length-set sums (count + 1) r ∙ from.same;
  low = λ n l. get_or-set_other sums (count + 1) n r (pos 0) (λ x. absurd (omega arith)) ∙ from.low n (omega arith);
  high = λ n l m.
      (elim (eqb n count) as (λ b. eqb n count ≡ b → IsGreater many (n + 1) (at before (n + 1)) (at before n +ℤ weight) (at (set sums (count + 1) r) (n + 1))) [
        | true ↦ λ t. let here = eqb-true n count t in
            greater_move many (count + 1) (n + 1) _ _ _ _ _ _ (omega arith)
            (f ∙ from.low (count + 1) (omega arith) ∙ ap (λ k. at before (k + 1)) (sym here))
            (g ∙ ap (λ z. z +ℤ weight) (from.low count (omega arith) ∙ ap (at before) (sym here)))
            (sym (get_or-set_at sums (count + 1) (n + 1) r (pos 0) (omega arith) (omega (arith, from.same)))) h
        | false ↦ λ t.
            let other = eqb-false n count t in
            greater_move many (n + 1) (n + 1) _ _ _ _ _ _ refl refl refl (sym (get_or-set_other sums (count + 1) (n + 1) r (pos 0) (λ x. absurd (other (omega arith))))) (from.high n (high_enough n other l) m)
      ]) refl;
}
  where
    high_enough : (n : ℕ) → (n ≡ count → ⊥) → length before < n + 1 + (done + 1) → length before < n + 1 + done
    high_enough n other l = omega arith

nothing_at : (xs : List ℤ) → length xs ≡ 0 → at xs 0 ≡ pos 0
nothing_at [] e = refl
nothing_at (x ∷ xs) e = absurd (omega arith)

pub put_all : (many : ℕ) (weight : ℤ) (before : List ℤ) (done : ℕ) (sums : List ℤ) → PutFrom many weight before done sums → length before ≤ done → (1 ≤ length before → done ≤ length before) → HasUnit many weight before sums
put_all many weight [] done sums from l m = record { same = from.same; none = nothing_at sums from.same; some = λ n k. absurd (omega arith) }
put_all many weight (x ∷ before) done sums from l m = record { same = from.same; none = from.low 0 (omega (arith, m (omega arith))); some = λ n k. from.high n (omega arith) k }

-- ---- bounds on absolute values

-- the sum of the absolute values of a list
abbrev pub width : List ℤ → ℕ
width xs = total unsigned_abs xs

sum_width : (xs : List ℤ) → unsigned_abs (sum_of xs) ≤ width xs
sum_width [] = omega arith
sum_width (x ∷ xs) = omega (arith, ap unsigned_abs (sum_more x xs), abs_sum_le x (sum_of xs) (unsigned_abs x) (width xs) (omega arith) (sum_width xs))

take_width : (n : ℕ) (xs : List ℤ) → width (take n xs) ≤ width xs
take_width zero xs = omega arith
take_width (suc n) [] = omega arith
take_width (suc n) (x ∷ xs) = omega (arith, take_width n xs)

put_width : (x : ℤ) (xs : List ℤ) → width (put_falling x xs) ≡ unsigned_abs x + width xs
put_width x [] = refl
put_width x (y ∷ ys) =
    let rest = put_width x ys in
    elim (int_le y x) as (λ b. width (cond b (x ∷ (y ∷ ys)) (y ∷ put_falling x ys)) ≡ unsigned_abs x + width (y ∷ ys)) [
      | true ↦ refl
      | false ↦ omega arith
    ]

falling_width : (xs : List ℤ) → width (falling xs) ≡ width xs
falling_width [] = refl
falling_width (x ∷ xs) = omega (arith, put_width x (falling xs), falling_width xs)

-- the absolute value of a greatest sum is at most the sum of all units' absolute values
pub greatest_width : (n : ℕ) (us : List ℤ) → unsigned_abs (sum_of (take n (falling us))) ≤ width us
greatest_width n us = omega (arith, sum_width (take n (falling us)), take_width n (falling us), falling_width us)

pub same_units_width : (m : ℕ) (x : ℤ) (us : List ℤ) → width (replicate m x ++ us) ≡ m * unsigned_abs x + width us
same_units_width zero x us = omega arith
same_units_width (suc m) x us = omega (arith, same_units_width m x us)

-- if no class gives more than its members, the absolute values of all units sum to at most the sum of sizes times absolute entries
pub units_width : (classes : List Class) (entries : List ℤ) → AllByRecursion (λ class. class.most ≤ length class.members) classes → width (units classes entries) ≤ sum_of_sizes (map (λ class. length class.members) classes) entries
units_width [] entries h = omega arith
units_width (class ∷ classes) [] h = omega arith
units_width (class ∷ classes) (x ∷ entries) h =
    let here = mul-le-mul_right (unsigned_abs x) h.0 in
    omega (arith, here, same_units_width class.most x (units classes entries), units_width classes entries h.1)

-- ---- the units of the classes from a place on

-- The units from a place on are the units of the class in this place, and then those of the classes after it.
pub units_next : (all : Classes) (entries : List ℤ) (place : ℕ) (class : Class) → Stands all place class → length entries ≡ length all.classes →
    units_from all entries place ≡ replicate class.most (at entries place) ++ units_from all entries (place + 1)
units_next all entries place class stands e =
    let classes = comes_next all place class stands in
    let below = stands.below in
    let rest = drop_more entries place (pos 0) (omega arith) in
    ap (λ cs. units cs (drop place entries)) classes ∙ ap (units (class ∷ drop (place + 1) all.classes)) rest

drop_units : (i : ℕ) (classes : List Class) (entries : List ℤ) → width (units (drop i classes) (drop i entries)) ≤ width (units classes entries)
drop_units zero classes entries = omega arith
drop_units (suc i) [] entries = omega arith
drop_units (suc i) (class ∷ classes) [] = omega (arith, no_units (drop i classes))
  where
    no_units : (classes : List Class) → width (units classes []) ≡ 0
    no_units [] = refl
    no_units (class ∷ classes) = refl
drop_units (suc i) (class ∷ classes) (x ∷ entries) = omega (arith, drop_units i classes entries, same_units_width class.most x (units classes entries))

-- the absolute values of the units from a place on sum to below 2 ^ 127
pub units_narrow : (all : Classes) (entries : List ℤ) (place : ℕ) → KeepsLimits all → AreNarrow all entries → width (units_from all entries place) < 2 ^ 127
units_narrow all entries place limits narrow =
    omega (arith, drop_units place all.classes entries, units_width all.classes entries (recursion_from_All (λ (class : Class). class.most ≤ length class.members) all.classes limits.most), narrow.narrow)

-- One more unit of a class can be added within 128 bits to a greatest sum of the `done` units of the class so far and all units of the
-- later classes.
pub unit_fits : (all : Classes) (entries : List ℤ) (place : ℕ) (class : Class) (done n : ℕ) → KeepsLimits all → AreNarrow all entries → Stands all place class → done < class.most →
    unsigned_abs (sum_of (take n (falling (replicate done (at entries place) ++ units_from all entries (place + 1))))) + unsigned_abs (at entries place) < 2 ^ 127
unit_fits all entries place class done n limits narrow stands below =
    let x = at entries place in let us = units_from all entries (place + 1) in
    let more : suc done * unsigned_abs x ≤ class.most * unsigned_abs x = mul-le-mul_right (unsigned_abs x) below in
    omega (arith, more, greatest_width n (replicate done x ++ us), same_units_width done x us, ap width (units_next all entries place class stands narrow.one_each), same_units_width class.most x us, units_narrow all entries place limits narrow)

pub units_more : (all : Classes) (entries : List ℤ) (place : ℕ) (class : Class) → AreNarrow all entries → Stands all place class →
    length (units_from all entries place) ≡ length (units_from all entries (place + 1)) + class.most
units_more all entries place class narrow stands =
    omega (arith, ap length (units_next all entries place class stands narrow.one_each), length-replicate class.most (at entries place) (units_from all entries (place + 1)))

units_count : (classes : List Class) (entries : List ℤ) → length (units classes entries) ≤ most_given (λ class. true) classes
units_count [] entries = omega arith
units_count (class ∷ classes) [] = omega arith
units_count (class ∷ classes) (x ∷ entries) =
    omega (arith, length-replicate class.most x (units classes entries), units_count classes entries, most_more (λ class. true) class classes)

pub units_few : (all : Classes) (entries : List ℤ) (place : ℕ) → KeepsLimits all → length (units_from all entries place) ≤ 4000
units_few all entries place limits = omega (arith, units_count (drop place all.classes) (drop place entries), most_small all place (λ class. true) limits)

-- ---- the table of greatest sums

pub greatest_same : (all : Classes) (entries : List ℤ) (p q : ℕ) (before after : List ℤ) → p ≡ q → after ≡ before → AreGreatest (units_from all entries p) before → AreGreatest (units_from all entries q) after
greatest_same all entries p q before after e f greatest =
    subst (λ q. AreGreatest (units_from all entries q) after) e (subst (AreGreatest (units_from all entries p)) (sym f) greatest)

-- A table with the sums of one more class appended has one line more.
pub table_more : (all : Classes) (entries : List ℤ) (lines place : ℕ) (table sums : List ℤ) → lines + place ≡ length all.classes → HoldsSums all entries lines table → length sums ≡ all.size + 1 →
    AreGreatest (units_from all entries place) sums → HoldsSums all entries (lines + 1) (table ++ sums)
table_more all entries lines place table sums e holds long greatest = record {
  room = omega (arith, length-append table sums, holds.room, long);
  each = λ later at_place count below f few.
      (elim (eqb later lines) as (λ b. eqb later lines ≡ b → at (table ++ sums) (cell_of all later count) ≡ greatest_sum count (drop at_place all.classes) (drop at_place entries)) [
        | true ↦ λ t. let same = eqb-true later lines t in
            last_line later at_place count same f few
        | false ↦ λ t. let other = eqb-false later lines t in earlier_line later at_place count (still_below later other below) f few
      ]) refl;
}
  where
    still_below : (later : ℕ) → (later ≡ lines → ⊥) → later < lines + 1 → later < lines
    still_below later other below = omega arith

    earlier_line : (later at_place count : ℕ) → later < lines → later + at_place ≡ length all.classes → count ≤ all.size → at (table ++ sums) (cell_of all later count) ≡ greatest_sum count (drop at_place all.classes) (drop at_place entries)
    earlier_line later at_place count below f few =
        get_or-append table sums (pos 0) (cell_of all later count) (omega (arith, holds.room, mul-add-lt later (all.size + 1) count lines below (omega arith))) ∙ holds.each later at_place count below f few

    last_line : (later at_place count : ℕ) → later ≡ lines → later + at_place ≡ length all.classes → count ≤ all.size → at (table ++ sums) (cell_of all later count) ≡ greatest_sum count (drop at_place all.classes) (drop at_place entries)
    last_line later at_place count same f few =
        let cell : cell_of all later count ≡ length table + count = omega (arith, holds.room, ap (λ n. n * (all.size + 1)) same) in
        let here : place ≡ at_place = omega arith in
        ap (at (table ++ sums)) cell ∙ get_or-append-add table sums count (pos 0) ∙ greatest count (omega arith) ∙ ap (λ p. sum_of (take count (falling (units_from all entries p)))) here
