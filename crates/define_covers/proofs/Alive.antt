-- A front to which no cause applies is live.
use Rattle.std.proofs.Common.{◌≡◌, ℕ, ◌+◌, ◌≤◌, ◌<◌, Bool, true, false, not, ◌&&◌, ◌||◌, eqb, ℤ, List, [], ◌∷◌, ◌++◌, map, length, None, refl, sym, ap, ◌∙◌, arith}
use Rattle.std.specs.Prelude.{int_le, int_lt, reverse}
use Rattle.std.specs.List.{AllByRecursion, enumerate_from, flat_map, list_all, list_any, range_with_len}
use Rattle.std.proofs.lemmas.Bool.{and_from, and_parts, eq-eqb, false≢true}
use Rattle.std.proofs.lemmas.Grind.{reverse_onto}
use Rattle.std.proofs.lemmas.List.{length-reverse}
use Rattle.std.proofs.lemmas.List.Folds.{list_all-append}
use borrow.Author.Differences.{le-false, lt-false, true_is_le, true_is_lt}
use Rattle.define_pools.proofs.Each.{each_left, each_map, each_of_map, each_right, list_all_from_each, range_each}
use Rattle.define_pools.proofs.Found.{find-none}
use Rattle.define_rows.specs.Row.{Row}
use Rattle.define_searches.specs.Classes.{Classes}
use Rattle.define_searches.specs.Compositions.{takes_one_a_household}
use Rattle.define_searches.specs.Fronts.{is_live_above, is_reachable, optimistic, size_reachable, value_reachable, values_reachable}
use Rattle.define_covers.specs.Causes.{all_values, applies, closed_fails, value_fails}
use Rattle.define_covers.specs.Covers.{ByCap, ByClosed, ByHousehold, BySize, ByValue, Cause}
use Rattle.define_covers.specs.FirstCause.{causes, first_cause}

not_false : (b : Bool) → not b ≡ false → b ≡ true
not_false true e = refl
not_false false e = absurd (false≢true (sym e))

or_false : (a b : Bool) → (a || b) ≡ false → (a ≡ false) × (b ≡ false)
or_false true b e = absurd (false≢true (sym e))
or_false false b e = (refl, e)

-- if no element with a number fails a test, for each number, all elements pass it
all_pass : {X : Type 0} (fails : X → Bool) (n : ℕ) (xs : List X) → ((number : ℕ) → n ≤ number → number < n + length xs → list_any (λ (v, x). eqb v number && fails x) (enumerate_from n xs) ≡ false) →
    AllByRecursion (λ x. fails x ≡ false) xs
all_pass fails n [] h = tt
all_pass fails n (x ∷ xs) h =
    let first = (or_false (eqb n n && fails x) (list_any (λ (v, x). eqb v n && fails x) (enumerate_from (n + 1) xs)) (h n (omega arith) (omega arith))).0 in
    let same : eqb n n ≡ true = eq-eqb n n refl in (
      rw same at first,
      all_pass fails (n + 1) xs
          (λ number l m. (or_false (eqb n number && fails x) (list_any (λ (v, x). eqb v number && fails x) (enumerate_from (n + 1) xs)) (h number (omega arith) (omega arith))).1),
    )

pub each_of_flat_map : {X Y : Type 0} (P : Y → Type 0) (f : X → List Y) (xs : List X) → AllByRecursion P (flat_map f xs) → AllByRecursion (λ x. AllByRecursion P (f x)) xs
each_of_flat_map P f [] h = tt
each_of_flat_map P f (x ∷ xs) h = (each_left P (f x) (flat_map f xs) h, each_of_flat_map P f xs (each_right P (f x) (flat_map f xs) h))

all_turned_back : {X : Type 0} (p : X → Bool) (xs : List X) → list_all p (reverse xs) ≡ true → list_all p xs ≡ true
all_turned_back p [] h = refl
all_turned_back p (x ∷ xs) h =
    let parts = and_parts (list_all p (reverse xs)) (list_all p (x ∷ [])) (sym (list_all-append p (reverse xs) (x ∷ [])) ∙ ap (list_all p) (sym (reverse_onto xs x [])) ∙ h) in
    and_from (p x) (list_all p xs) (and_parts (p x) true parts.1).0 (all_turned_back p xs parts.0)

at_least : (x b : ℤ) → int_lt x b ≡ false → int_le b x ≡ true
at_least x b e = sym (true_is_le b x (omega (arith, lt-false x b e)))

above : (x b : ℤ) → int_le x b ≡ false → int_lt b x ≡ true
above x b e = sym (true_is_lt b x (omega (arith, le-false x b e)))

module _ (all : Classes) (closed : List Row) (row : Row) (front : List ℕ) where
  -- none of the causes with a number in its range applies
  record NoCause : Type 0 where
    size : not (size_reachable all front) ≡ false
    values : (number : ℕ) → 1 ≤ number → number < 1 + length (all_values all) → value_fails all front number ≡ false
    households : not (takes_one_a_household all.classes front) ≡ false
    closed_rows : (number : ℕ) → 1 ≤ number → number < 1 + length closed → (size_reachable all front && closed_fails all closed front number) ≡ false
    cap : (size_reachable all front && int_le (optimistic all row front) row.b) ≡ false

  values_reach : ((number : ℕ) → 1 ≤ number → number < 1 + length (all_values all) → value_fails all front number ≡ false) → values_reachable all front ≡ true
  values_reach none =
      let each = all_pass (λ value. not (value_reachable all front value.0 value.1)) 1 (all_values all) none in
      let by_category = each_of_flat_map (λ value. not (value_reachable all front value.0 value.1) ≡ false) (λ (c, values). map (λ value. (c, value)) (enumerate_from 0 values)) (enumerate_from 0 all.bounds) each in
      list_all_from_each (λ (c, values). list_all (value_reachable all front c) (enumerate_from 0 values)) (enumerate_from 0 all.bounds)
      (each_map (λ (c, values). AllByRecursion (λ value. not (value_reachable all front value.0 value.1) ≡ false) (map (λ value. (c, value)) (enumerate_from 0 values)))
      (λ (c, values). list_all (value_reachable all front c) (enumerate_from 0 values) ≡ true)
      (λ (c, values) h. list_all_from_each (value_reachable all front c) (enumerate_from 0 values)
      (each_map (λ value. not (value_reachable all front c value) ≡ false) (λ value. value_reachable all front c value ≡ true) (λ value e. not_false (value_reachable all front c value) e) (enumerate_from 0 values)
      (each_of_map (λ value. not (value_reachable all front value.0 value.1) ≡ false) (λ value. (c, value)) (enumerate_from 0 values) h)))
      (enumerate_from 0 all.bounds) by_category)

  closed_attain : size_reachable all front ≡ true → ((number : ℕ) → 1 ≤ number → number < 1 + length closed → (size_reachable all front && closed_fails all closed front number) ≡ false) →
      list_all (λ r. int_le r.b (optimistic all r front)) closed ≡ true
  closed_attain size none =
      let each = all_pass (λ r. int_lt (optimistic all r front) r.b) 1 (reverse closed)
      (λ number l m. sym (ap (λ b. b && closed_fails all closed front number) size) ∙ none number l (omega (arith, length-reverse closed))) in
      all_turned_back (λ r. int_le r.b (optimistic all r front)) closed
      (list_all_from_each (λ r. int_le r.b (optimistic all r front)) (reverse closed)
      (each_map (λ r. int_lt (optimistic all r front) r.b ≡ false) (λ r. int_le r.b (optimistic all r front) ≡ true) (λ r e. at_least (optimistic all r front) r.b e) (reverse closed) each))

  live : NoCause → is_live_above all closed row row.b front ≡ true
  live none =
      let size = not_false (size_reachable all front) none.size in
      let cap : int_le (optimistic all row front) row.b ≡ false = sym (ap (λ b. b && int_le (optimistic all row front) row.b) size) ∙ none.cap in
      and_from (is_reachable all front && list_all (λ r. int_le r.b (optimistic all r front)) closed) (int_lt row.b (optimistic all row front))
      (and_from (is_reachable all front) (list_all (λ r. int_le r.b (optimistic all r front)) closed)
      (and_from (size_reachable all front && values_reachable all front) (takes_one_a_household all.classes front)
      (and_from (size_reachable all front) (values_reachable all front) size (values_reach none.values)) (not_false (takes_one_a_household all.classes front) none.households))
      (closed_attain size none.closed_rows))
      (above (optimistic all row front) row.b cap)

  pub live_where_no_cause : ((cause : Cause) → applies all closed row front cause ≡ false) → is_live_above all closed row row.b front ≡ true
  live_where_no_cause none = live (record {
    size = none BySize;
    values = λ number l m. none (ByValue number);
    households = none ByHousehold;
    closed_rows = λ number l m. none (ByClosed number);
    cap = none ByCap;
  })

  pub live_where_none_first : first_cause all closed row front ≡ None → is_live_above all closed row row.b front ≡ true
  live_where_none_first e =
      let P : Cause → Type 0 = λ cause. applies all closed row front cause ≡ false in
      let values = map (λ number. ByValue number) (range_with_len 1 (length (all_values all))) in
      let rows = map (λ number. ByClosed number) (range_with_len 1 (length closed)) in
      let each = find-none (applies all closed row front) (causes all closed) e in
      let of_values = each_left P values (ByHousehold ∷ (rows ++ (ByCap ∷ []))) each.1 in
      let behind = each_right P values (ByHousehold ∷ (rows ++ (ByCap ∷ []))) each.1 in
      let of_rows = each_left P rows (ByCap ∷ []) behind.1 in
      let last = each_right P rows (ByCap ∷ []) behind.1 in
      live (record {
        size = each.0;
        values = λ number l m. range_each (λ number. P (ByValue number)) 1 (length (all_values all)) number (each_of_map P (λ number. ByValue number) (range_with_len 1 (length (all_values all))) of_values) l m;
        households = behind.0;
        closed_rows = λ number l m. range_each (λ number. P (ByClosed number)) 1 (length closed) number (each_of_map P (λ number. ByClosed number) (range_with_len 1 (length closed)) of_rows) l m;
        cap = last.0;
      })
