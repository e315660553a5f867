-- The volunteers of a made pool: their ids are different names, and each has a value of each of the three categories.
use Rattle.std.proofs.Common.{◌≡◌, ℕ, zero, suc, ◌+◌, ◌*◌, ◌%◌, ◌<◌, ◌≤◌, Bool, true, false, not, ◌&&◌, ltb, leb, eqb, List, [], ◌∷◌, map, length, cond, get_or, refl, sym, ◌∙◌, ap, ap₂, arith, None}
use Rattle.std.specs.Prelude.{bytes_eq, count_by}
use Rattle.std.specs.Fmt.{decimal}
use Rattle.std.specs.List.{enumerate_from, list_all, range_with_len}
use Rattle.std.specs.Str.{is_utf8}
use Rattle.std.specs.Str.Parse.{AllDigits}
use Rattle.std.proofs.lemmas.Bool.{and_from, false_from_ne_true, or_from, le-leb, lt-ltb, ne_eqb, not_from_false}
use Rattle.std.proofs.lemmas.Fmt.{decimal_injective, decimal_is_IsNumeral, length-decimal-le, IsAscii-decimal}
use Rattle.std.proofs.lemmas.Str.Ascii.{IsAscii-cons}
use Rattle.std.proofs.lemmas.List.FromFn.{get_or-map-range_with_len}
use Rattle.std.proofs.lemmas.List.Sums.{sum_by-cons}
use Rattle.std.proofs.lemmas.List.Folds.{list_all-map}
use Rattle.std.proofs.lemmas.Slice.Eq.{bytes_eq-Decides}
use Rattle.std.proofs.lemmas.Str.{IsUtf8-from_ascii, is_utf8-from_IsUtf8}
use Rattle.std.proofs.lemmas.Str.Parse.{digit_from_value}
use Rattle.define_pools.proofs.Each.{each_everywhere, each_range, list_all_from_each}
use Rattle.define_pools.proofs.Lists.{map-map}
use Rattle.define_pools.proofs.Sums.{sum_by-is-total, total-zero}
use Rattle.define_pools.specs.Building.{ids}
use Rattle.define_pools.specs.Lists.{all_different, includes, includes_list}
use Rattle.define_pools.specs.Pool.{Volunteer, allows, is_name, keeps_name_limits, has_values, keeps_households, members_with, share_household, volunteer}
use Rattle.define_made_pools.specs.Generator.{number}
use Rattle.define_made_pools.specs.MadePools.{made_categories, made_id, made_values, made_volunteer, made_volunteers}

-- ---- ids

digits_pass : (ds : List ℕ) → AllDigits 10 ds → list_all (λ byte. leb 32 byte && not (eqb byte 127)) ds ≡ true
digits_pass [] h = refl
digits_pass (c ∷ cs) h =
    let range = digit_from_value c h.0 in
    and_from (leb 32 c && not (eqb c 127)) (list_all (λ byte. leb 32 byte && not (eqb byte 127)) cs)
    (and_from (leb 32 c) (not (eqb c 127)) (le-leb 32 c (omega (arith, range))) (not_from_false (eqb c 127) (ne_eqb c 127 (λ e. omega (arith, range)))))
    (digits_pass cs h.1)

pub id_keeps_limits : (i : ℕ) → i < 400 → keeps_name_limits (made_id i) ≡ true
id_keeps_limits i small =
    let digits = (decimal_is_IsNumeral (i + 1) (omega arith)).0 in
    let few = length-decimal-le 3 (i + 1) (omega arith) (omega arith) (omega arith) in
    let some : leb 1 (suc (length (decimal (i + 1)))) ≡ true = le-leb 1 (suc (length (decimal (i + 1)))) (omega arith) in
    let short : leb (suc (length (decimal (i + 1)))) 200 ≡ true = le-leb (suc (length (decimal (i + 1)))) 200 (omega arith) in
    and_from (leb 1 (suc (length (decimal (i + 1)))) && leb (suc (length (decimal (i + 1)))) 200) (list_all (λ byte. leb 32 byte && not (eqb byte 127)) (made_id i))
    (and_from (leb 1 (suc (length (decimal (i + 1))))) (leb (suc (length (decimal (i + 1)))) 200) some short) (digits_pass (decimal (i + 1)) digits.1)

pub id_is_name : (i : ℕ) → i < 400 → is_name (made_id i) ≡ true
id_is_name i small =
    let ascii = IsAscii-cons 118 (decimal (i + 1)) (omega arith) (IsAscii-decimal (i + 1) (omega arith)) in
    and_from (keeps_name_limits (made_id i)) (is_utf8 (made_id i)) (id_keeps_limits i small) (is_utf8-from_IsUtf8 (made_id i) (IsUtf8-from_ascii (made_id i) ascii))

same_id : (i j : ℕ) → i < 400 → j < 400 → made_id i ≡ made_id j → i ≡ j
same_id i j small less e =
    let digits : decimal (i + 1) ≡ decimal (j + 1) = cc in
    let more = decimal_injective (i + 1) (j + 1) (omega arith) (omega arith) digits in omega arith

-- if `f` maps no number of a range to `name`, `name` isn't among the names that `f` maps the range to
absent : (f : ℕ → List ℕ) (name : List ℕ) (first count : ℕ) → ((j : ℕ) → first ≤ j → j < first + count → name ≡ f j → ⊥) → includes_list (map f (range_with_len first count)) name ≡ false
absent f name first zero h = refl
absent f name first (suc count) h =
    or_from (bytes_eq name (f first)) (includes_list (map f (range_with_len (first + 1) count)) name)
    (false_from_ne_true (bytes_eq name (f first)) (λ e. h first (omega arith) (omega arith) ((bytes_eq-Decides name (f first)).0 e)))
    (absent f name (first + 1) count (λ j low high e. h j (omega arith) (omega arith) e))

-- if `f` maps no two numbers of a range to the same name, the names are all different
different : (f : ℕ → List ℕ) (first count : ℕ) → ((i j : ℕ) → i < j → j < first + count → f i ≡ f j → ⊥) → all_different (map f (range_with_len first count)) ≡ true
different f first zero h = refl
different f first (suc count) h =
    let rest = map f (range_with_len (first + 1) count) in
    and_from (not (includes_list rest (f first))) (all_different rest)
    (not_from_false (includes_list rest (f first)) (absent f (f first) (first + 1) count (λ j low high e. h first j (omega arith) (omega arith) e)))
    (different f (first + 1) count (λ i j less high e. h i j less (omega arith) e))

made_ids : (seed n : ℕ) → ids (made_volunteers seed n) ≡ map made_id (range_with_len 0 n)
made_ids seed n = map-map (λ (v : Volunteer). v.id) (made_volunteer seed) (range_with_len 0 n)

-- the id of volunteer i is not among the ids of the volunteers before
pub next_id_is_new : (seed i : ℕ) → i < 400 → includes_list (ids (made_volunteers seed i)) (made_id i) ≡ false
next_id_is_new seed i small =
    rw (made_ids seed i) (absent made_id (made_id i) 0 i (λ j low high e. let same = same_id i j small (omega arith) e in omega arith))

pub ids_are_different : (seed n : ℕ) → n ≤ 400 → all_different (ids (made_volunteers seed n)) ≡ true
ids_are_different seed n few =
    rw (made_ids seed n) (different made_id 0 n (λ i j less high e. let same = same_id i j (omega arith) (omega arith) e in omega arith))

-- if each made volunteer with a number below n passes a test, all n of them do
pub each_volunteer : (test : Volunteer → Bool) (seed n : ℕ) → ((i : ℕ) → i < n → test (made_volunteer seed i) ≡ true) → list_all test (made_volunteers seed n) ≡ true
each_volunteer test seed n passes =
    list_all-map test (made_volunteer seed) (range_with_len 0 n)
    ∙ list_all_from_each (λ i. test (made_volunteer seed i)) (range_with_len 0 n)
    (each_range (λ i. test (made_volunteer seed i) ≡ true) 0 n (λ i low high. passes i (omega arith)))

-- ---- values

remainder : (x k : ℕ) → 0 < k → ltb (x % k) k ≡ true
remainder x k some = lt-ltb (x % k) k (omega arith)

pub values_are_places : (volunteers : List Volunteer) (size seed i : ℕ) → has_values (made_categories volunteers size) (made_values seed i) ≡ true
values_are_places volunteers size seed i =
    let gender = number seed (3 * i) in let age = number seed (3 * i + 1) in let area = number seed (3 * i + 2) in
    and_from (ltb (gender % 2) 2) (ltb (age % 3) 3 && (ltb (area % 2) 2 && true)) (remainder gender 2 (omega arith))
    (and_from (ltb (age % 3) 3) (ltb (area % 2) 2 && true) (remainder age 3 (omega arith)) (and_from (ltb (area % 2) 2) true (remainder area 2 (omega arith)) refl))

-- ---- standings and households

pub standings_are_kept : (panel : List ℕ) (seed place first count : ℕ) →
    list_all (λ (i, volunteer). allows volunteer.standing (includes panel i)) (enumerate_from place (map (made_volunteer seed) (range_with_len first count))) ≡ true
standings_are_kept panel seed place first zero = refl
standings_are_kept panel seed place first (suc count) = standings_are_kept panel seed (place + 1) (first + 1) count

pub nobody_is_housed : (seed first count i : ℕ) → (volunteer (map (made_volunteer seed) (range_with_len first count)) i).household ≡ None
nobody_is_housed seed first zero i = refl
nobody_is_housed seed first (suc count) zero = refl
nobody_is_housed seed first (suc count) (suc i) = nobody_is_housed seed (first + 1) count i

none_counted : {X : Type 0} (test : X → Bool) (xs : List X) → ((x : X) → test x ≡ false) → count_by test xs ≡ 0
none_counted test xs none = sum_by-is-total (λ x. cond (test x) 1 0) xs ∙ total-zero (λ x. cond (test x) 1 0) (λ x. rw (none x) refl) xs

pub households_are_kept : (seed n : ℕ) (panel : List ℕ) → keeps_households (made_volunteers seed n) panel ≡ true
households_are_kept seed n panel =
    list_all_from_each (λ i. leb (count_by (share_household (made_volunteers seed n) i) panel) 1) panel
    (each_everywhere (λ i. leb (count_by (share_household (made_volunteers seed n) i) panel) 1 ≡ true) (λ i. at_most_one i) panel)
  where
    alone : (i j : ℕ) → share_household (made_volunteers seed n) i j ≡ false
    alone i j = rw (nobody_is_housed seed 0 n i) refl

    at_most_one : (i : ℕ) → leb (count_by (share_household (made_volunteers seed n) i) panel) 1 ≡ true
    at_most_one i = rw (none_counted (share_household (made_volunteers seed n) i) panel (alone i)) refl

-- ---- how many volunteers have a value

same_counts : (p : ℕ → Bool) (q : List ℕ → Bool) (f : ℕ → List ℕ) (first count : ℕ) → ((i : ℕ) → first ≤ i → i < first + count → p i ≡ q (f i)) →
    count_by p (range_with_len first count) ≡ count_by q (map f (range_with_len first count))
same_counts p q f first zero same = refl
same_counts p q f first (suc count) same =
    sum_by-cons (λ i. cond (p i) 1 0) first (range_with_len (first + 1) count)
    ∙ ap₂ (λ one more. one + more) (ap (λ b. cond b 1 0) (same first (omega arith) (omega arith)))
    (same_counts p q f (first + 1) count (λ i low high. same i (omega arith) (omega arith)))
    ∙ sym (sum_by-cons (λ (values : List ℕ). cond (q values) 1 0) (f first) (map f (range_with_len (first + 1) count)))

-- how many of the first `size` volunteers have the value at `value_place` of the category at `place`: as many as there are lists among
-- their lists of values that have `value_place` at `place`
pub members_are_counted : (seed n size place value_place : ℕ) → size ≤ n →
    members_with (made_volunteers seed n) (range_with_len 0 size) place value_place
    ≡ count_by (λ values. eqb (get_or values place 0) value_place) (map (made_values seed) (range_with_len 0 size))
members_are_counted seed n size place value_place few =
    same_counts (λ i. eqb (get_or (volunteer (made_volunteers seed n) i).values place 0) value_place) (λ values. eqb (get_or values place 0) value_place) (made_values seed) 0 size
    (λ i low high. ap (λ (v : Volunteer). eqb (get_or v.values place 0) value_place) (found i (omega arith)))
  where
    found : (i : ℕ) → i < n → volunteer (made_volunteers seed n) i ≡ made_volunteer seed i
    found i less = get_or-map-range_with_len (made_volunteer seed) 0 n i i _ less (omega arith)
