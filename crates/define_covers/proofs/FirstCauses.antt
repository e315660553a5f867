-- The first cause of a front, as it is found: group by group.
use Rattle.std.proofs.Common.{◌≡◌, ℕ, Bool, true, false, cond, List, [], ◌∷◌, ◌++◌, map, length, Option, Some, None, refl, ap, ◌∙◌}
use Rattle.std.specs.List.{find, range_with_len}
use Rattle.define_rows.specs.Row.{Row}
use Rattle.define_searches.specs.Classes.{Classes}
use Rattle.define_covers.specs.Causes.{all_values, applies}
use Rattle.define_covers.specs.Covers.{ByCap, ByClosed, ByHousehold, BySize, ByValue, Cause}
use Rattle.define_covers.specs.FirstCause.{first_cause}

-- what is found by a number, or else `later`
named : (ℕ → Cause) → Option ℕ → Option Cause → Option Cause
named f (Some number) later = Some (f number)
named f None later = later

find_named : (p : Cause → Bool) (f : ℕ → Cause) (numbers : List ℕ) (later : List Cause) → find p (map f numbers ++ later) ≡ named f (find (λ number. p (f number)) numbers) (find p later)
unfolding named
find_named p f [] later = refl
find_named p f (number ∷ numbers) later =
    elim (p (f number)) as (λ b. cond b (Some (f number)) (find p (map f numbers ++ later)) ≡ named f (cond b (Some number) (find (λ number. p (f number)) numbers)) (find p later)) [
      | true ↦ refl
      | false ↦ find_named p f numbers later
    ]

module _ (all : Classes) (closed : List Row) (row : Row) (front : List ℕ) where
  abbrev p : Cause → Bool
  p = applies all closed row front

  abbrev pub first_value : Option ℕ
  first_value = find (λ number. p (ByValue number)) (range_with_len 1 (length (all_values all)))

  abbrev pub first_closed : Option ℕ
  first_closed = find (λ number. p (ByClosed number)) (range_with_len 1 (length closed))

  abbrev last : List Cause
  last = ByCap ∷ []

  abbrev behind_values : List Cause
  behind_values = ByHousehold ∷ (map (λ number. ByClosed number) (range_with_len 1 (length closed)) ++ last)

  pub by_size : p BySize ≡ true → first_cause all closed row front ≡ Some BySize
  by_size e = ap (λ b. cond b (Some BySize) (find p (map (λ number. ByValue number) (range_with_len 1 (length (all_values all))) ++ behind_values))) e

  module _ (size : p BySize ≡ false) where
    from_values : first_cause all closed row front ≡ named (λ number. ByValue number) first_value (find p behind_values)
    from_values =
        ap (λ b. cond b (Some BySize) (find p (map (λ number. ByValue number) (range_with_len 1 (length (all_values all))) ++ behind_values))) size
        ∙ find_named p (λ number. ByValue number) (range_with_len 1 (length (all_values all))) behind_values

    pub by_value : (number : ℕ) → first_value ≡ Some number → first_cause all closed row front ≡ Some (ByValue number)
    unfolding named
    by_value number e = from_values ∙ ap (λ found. named (λ number. ByValue number) found (find p behind_values)) e

    module _ (values : first_value ≡ None) where
      from_household : first_cause all closed row front ≡ find p behind_values
      unfolding named
      from_household = from_values ∙ ap (λ found. named (λ number. ByValue number) found (find p behind_values)) values

      pub by_household : p ByHousehold ≡ true → first_cause all closed row front ≡ Some ByHousehold
      by_household e = from_household ∙ ap (λ b. cond b (Some ByHousehold) (find p (map (λ number. ByClosed number) (range_with_len 1 (length closed)) ++ last))) e

      module _ (households : p ByHousehold ≡ false) where
        from_closed : first_cause all closed row front ≡ named (λ number. ByClosed number) first_closed (find p last)
        from_closed =
            from_household ∙ ap (λ b. cond b (Some ByHousehold) (find p (map (λ number. ByClosed number) (range_with_len 1 (length closed)) ++ last))) households
            ∙ find_named p (λ number. ByClosed number) (range_with_len 1 (length closed)) last

        pub by_closed : (number : ℕ) → first_closed ≡ Some number → first_cause all closed row front ≡ Some (ByClosed number)
        unfolding named
        by_closed number e = from_closed ∙ ap (λ found. named (λ number. ByClosed number) found (find p last)) e

        module _ (rows : first_closed ≡ None) where
          from_cap : first_cause all closed row front ≡ find p last
          unfolding named
          from_cap = from_closed ∙ ap (λ found. named (λ number. ByClosed number) found (find p last)) rows

          pub by_cap : p ByCap ≡ true → first_cause all closed row front ≡ Some ByCap
          by_cap e = from_cap ∙ ap (λ b. cond b (Some ByCap) None) e

          pub by_none : p ByCap ≡ false → first_cause all closed row front ≡ None
          by_none e = from_cap ∙ ap (λ b. cond b (Some ByCap) None) e
