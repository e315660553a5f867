-- A front to which a cause applies isn't live, so no composition that a check seeks begins with it.
use Rattle.std.proofs.Common.{◌≡◌, ℕ, ◌+◌, Bool, true, false, not, ◌&&◌, ◌||◌, eqb, ℤ, List, [], ◌∷◌, map, refl, sym, ap, ◌∙◌, arith}
use Rattle.std.specs.Prelude.{int_le, int_lt, reverse}
use Rattle.std.specs.List.{AllByRecursion, enumerate_from, list_all, list_any}
use Rattle.std.proofs.lemmas.Bool.{and_parts, false≢true, false_from_ne_true}
use Rattle.std.proofs.lemmas.Grind.{reverse_onto}
use Rattle.std.proofs.Math.Bool.{and-false}
use borrow.Author.Differences.{le-true, lt-true}
use Rattle.define_pools.proofs.Each.{each_flat_map, each_from_list_all, each_map, each_mapped, list_all-push}
use Rattle.define_rows.specs.Row.{Row}
use Rattle.define_searches.specs.Classes.{Classes}
use Rattle.define_searches.specs.Compositions.{takes_one_a_household}
use Rattle.define_searches.specs.Fronts.{is_live_above, is_reachable, optimistic, size_reachable, value_reachable, values_reachable}
use Rattle.define_covers.specs.Causes.{all_values, applies}
use Rattle.define_covers.specs.Covers.{ByCap, ByClosed, ByHousehold, BySize, ByValue, Cause}

-- if an element with a number fails a test, not all elements pass it
none_fails : {X : Type 0} (p : X → Bool) (number n : ℕ) (xs : List X) → AllByRecursion (λ x. p x ≡ true) xs → list_any (λ (v, x). eqb v number && not (p x)) (enumerate_from n xs) ≡ false
none_fails p number n [] h = refl
none_fails p number n (x ∷ xs) h =
    let here = h.0 in let rest = none_fails p number (n + 1) xs h.1 in
    rw (here, rest, and-false) refl

-- a number is at least another exactly if it isn't below it
not_lower : (x b : ℤ) → int_le b x ≡ true → int_lt x b ≡ false
not_lower x b e = false_from_ne_true (int_lt x b) (λ l. absurd (omega (arith, le-true b x e, lt-true x b l)))

all_turned : {X : Type 0} (p : X → Bool) (xs : List X) → list_all p xs ≡ true → list_all p (reverse xs) ≡ true
all_turned p [] h = refl
all_turned p (x ∷ xs) h =
    let parts = and_parts (p x) (list_all p xs) h in
    ap (list_all p) (reverse_onto xs x []) ∙ list_all-push p (reverse xs) x (all_turned p xs parts.1) parts.0

module _ (all : Classes) (closed : List Row) (row : Row) (front : List ℕ) where
  -- the front is live, part by part
  record Alive : Type 0 where
    size : size_reachable all front ≡ true
    values : values_reachable all front ≡ true
    households : takes_one_a_household all.classes front ≡ true
    attains : list_all (λ r. int_le r.b (optimistic all r front)) closed ≡ true
    above : int_lt row.b (optimistic all row front) ≡ true

  alive : is_live_above all closed row row.b front ≡ true → Alive
  alive live =
      let parts = and_parts (is_reachable all front && list_all (λ r. int_le r.b (optimistic all r front)) closed) (int_lt row.b (optimistic all row front)) live in
      let first = and_parts (is_reachable all front) (list_all (λ r. int_le r.b (optimistic all r front)) closed) parts.0 in
      let reach = and_parts (size_reachable all front && values_reachable all front) (takes_one_a_household all.classes front) first.0 in
      let both = and_parts (size_reachable all front) (values_reachable all front) reach.0 in
      record { size = both.0; values = both.1; households = reach.1; attains = first.1; above = parts.1 }

  each_value : values_reachable all front ≡ true → AllByRecursion (λ value. value_reachable all front value.0 value.1 ≡ true) (all_values all)
  each_value reach =
      each_flat_map (λ value. value_reachable all front value.0 value.1 ≡ true) (λ (c, values). map (λ value. (c, value)) (enumerate_from 0 values)) (enumerate_from 0 all.bounds)
      (each_map (λ (c, values). list_all (value_reachable all front c) (enumerate_from 0 values) ≡ true)
      (λ (c, values). AllByRecursion (λ value. value_reachable all front value.0 value.1 ≡ true) (map (λ value. (c, value)) (enumerate_from 0 values)))
      (λ (c, values) h. each_mapped (λ value. value_reachable all front value.0 value.1 ≡ true) (λ value. (c, value)) (enumerate_from 0 values)
      (each_from_list_all (value_reachable all front c) (enumerate_from 0 values) h))
      (enumerate_from 0 all.bounds)
      (each_from_list_all (λ (c, values). list_all (value_reachable all front c) (enumerate_from 0 values)) (enumerate_from 0 all.bounds) reach))

  each_closed : list_all (λ r. int_le r.b (optimistic all r front)) closed ≡ true → AllByRecursion (λ r. not (int_lt (optimistic all r front) r.b) ≡ true) (reverse closed)
  each_closed attains =
      each_map (λ r. int_le r.b (optimistic all r front) ≡ true) (λ r. not (int_lt (optimistic all r front) r.b) ≡ true)
      (λ r e. ap not (not_lower (optimistic all r front) r.b e)) (reverse closed)
      (each_from_list_all (λ r. int_le r.b (optimistic all r front)) (reverse closed) (all_turned (λ r. int_le r.b (optimistic all r front)) closed attains))

  none_closed : (number n : ℕ) (rows : List Row) → AllByRecursion (λ r. not (int_lt (optimistic all r front) r.b) ≡ true) rows →
      list_any (λ (r, row). eqb r number && int_lt (optimistic all row front) row.b) (enumerate_from n rows) ≡ false
  none_closed number n [] h = refl
  none_closed number n (r ∷ rows) h =
      let rest = none_closed number (n + 1) rows h.1 in
      (elim (int_lt (optimistic all r front) r.b) as (λ b. not b ≡ true → ((eqb n number && b) || list_any (λ (r, row). eqb r number && int_lt (optimistic all row front) row.b) (enumerate_from (n + 1) rows)) ≡ false) [
        | true ↦ λ e. absurd (false≢true e)
        | false ↦ λ e. rw (and-false, rest) refl
      ]) h.0

  conflict : (cause : Cause) → Alive → applies all closed row front cause ≡ true → ⊥
  conflict BySize a e = let s = a.size in false≢true (rw s at e)
  conflict (ByValue number) a e = false≢true (sym (none_fails (λ value. value_reachable all front value.0 value.1) number 1 (all_values all) (each_value a.values)) ∙ e)
  conflict ByHousehold a e = let s = a.households in false≢true (rw s at e)
  conflict (ByClosed number) a e =
      false≢true (sym (none_closed number 1 (reverse closed) (each_closed a.attains)) ∙ (and_parts (size_reachable all front) _ e).1)
  conflict ByCap a e =
      let parts = and_parts (size_reachable all front) (int_le (optimistic all row front) row.b) e in
      let above = a.above in
      omega (arith, le-true (optimistic all row front) row.b parts.1, lt-true row.b (optimistic all row front) above)

  pub not_live_where_applies : (cause : Cause) → applies all closed row front cause ≡ true → is_live_above all closed row row.b front ≡ false
  not_live_where_applies cause e = false_from_ne_true (is_live_above all closed row row.b front) (λ live. conflict cause (alive live) e)

  pub no_cause_where_live : is_live_above all closed row row.b front ≡ true → (cause : Cause) → applies all closed row front cause ≡ false
  no_cause_where_live live cause = false_from_ne_true (applies all closed row front cause) (λ e. false≢true (sym (not_live_where_applies cause e) ∙ live))
