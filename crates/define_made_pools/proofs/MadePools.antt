-- A made pool is a pool, and its first volunteers are a quota panel.
use Rattle.std.proofs.Common.{◌≡◌, ℕ, zero, suc, ◌+◌, ◌-◌, ◌≤◌, true, eqb, ltb, leb, get_or, List, length, refl, arith}
use Rattle.std.specs.List.{list_all, range_with_len}
use Rattle.std.specs.Str.{is_utf8, chars}
use Rattle.std.proofs.lemmas.Bool.{and_from, le-leb, lt-ltb}
use Rattle.std.proofs.lemmas.List.FromFn.{length-map-range_with_len, length-range_with_len}
use Rattle.std.proofs.lemmas.List.Sums.{count_by-le-length}
use Rattle.define_pools.proofs.Each.{each_range, list_all_from_each}
use Rattle.define_pools.specs.Lists.{is_increasing}
use Rattle.define_pools.specs.declared.Limits.TheVariants.{Large}
use Rattle.define_pools.specs.Pool.{Volunteer, IsPool, most_members, most_volunteers, is_category, is_household, is_name, is_quota_panel, has_values, members_with, meets_quotas, volunteer}
use Rattle.define_pools.proofs.AllPanels.{quota_from}
use Rattle.define_made_pools.specs.MadePools.{made_categories, made_pool, made_size, made_volunteer, made_volunteers}
use Rattle.define_made_pools.proofs.Volunteers.{each_volunteer, households_are_kept, id_is_name, ids_are_different, standings_are_kept, values_are_places}
use lib.Utf8.{encode}

pub size_fits : (n : ℕ) → 1 ≤ n → n ≤ 400 → (1 ≤ made_size n) × (made_size n ≤ 40) × (made_size n ≤ n)
size_fits n some few = (omega arith, omega arith, omega arith)

-- at most `size` of the first `size` volunteers have the value at `value_place` of the category at `place`
pub members_fit : (volunteers : List Volunteer) (size place value_place : ℕ) → members_with volunteers (range_with_len 0 size) place value_place ≤ size
members_fit volunteers size place value_place =
    omega (arith, count_by-le-length (λ i. eqb (get_or (volunteer volunteers i).values place 0) value_place) (range_with_len 0 size), length-range_with_len 0 size)

pub categories_fit : (volunteers : List Volunteer) (size : ℕ) → size ≤ 40 → list_all is_category (made_categories volunteers size) ≡ true
unfolding is_utf8 chars encode
categories_fit volunteers size few =
    let ordered : (place value_place : ℕ) → leb (members_with volunteers (range_with_len 0 size) place value_place - 1) (members_with volunteers (range_with_len 0 size) place value_place + 1) ≡ true =
    λ place value_place. le-leb _ _ (omega arith) in
    let small : (place value_place : ℕ) → leb (members_with volunteers (range_with_len 0 size) place value_place + 1) 999 ≡ true =
    λ place value_place. le-leb _ _ (omega (arith, members_fit volunteers size place value_place)) in
    simp (ordered, small)

pub is_pool : (seed n : ℕ) → 1 ≤ n → n ≤ 400 → IsPool (made_pool seed n)
is_pool seed n some few =
    let fits = size_fits n some few in
    let size = made_size n in
    record {
      size = and_from (leb 1 size) (leb size (most_members Large)) (le-leb 1 size fits.0) (le-leb size (most_members Large) (omega (arith, fits.1)));
      few_categories = refl;
      categories = categories_fit (made_volunteers seed n) size fits.1;
      different_categories = refl;
      few_volunteers = le-leb (length (made_volunteers seed n)) (most_volunteers Large) (omega (arith, length-map-range_with_len (made_volunteer seed) 0 n));
      ids = each_volunteer (λ v. is_name v.id) seed n (λ i less. id_is_name i (omega arith));
      different_ids = ids_are_different seed n few;
      values = each_volunteer (λ v. has_values (made_categories (made_volunteers seed n) size) v.values) seed n
          (λ i less. values_are_places (made_volunteers seed n) size seed i);
      households = each_volunteer (λ v. is_household v.household) seed n (λ i less. refl);
    }

range_is_increasing : (first count : ℕ) → is_increasing (range_with_len first count) ≡ true
range_is_increasing first zero = refl
range_is_increasing first (suc count) =
    and_from (list_all (λ y. ltb first y) (range_with_len (first + 1) count)) (is_increasing (range_with_len (first + 1) count))
    (list_all_from_each (λ y. ltb first y) (range_with_len (first + 1) count)
    (each_range (λ y. ltb first y ≡ true) (first + 1) count (λ y low high. lt-ltb first y (omega arith))))
    (range_is_increasing (first + 1) count)

quotas_are_met : (volunteers : List Volunteer) (size : ℕ) → meets_quotas (made_categories volunteers size) volunteers (range_with_len 0 size) ≡ true
quotas_are_met volunteers size =
    let lower : (members : ℕ) → leb (members - 1) members ≡ true = λ members. le-leb _ _ (omega arith) in
    let upper : (members : ℕ) → leb members (members + 1) ≡ true = λ members. le-leb _ _ (omega arith) in
    simp (lower, upper)

pub first_are_panel : (seed n : ℕ) → 1 ≤ n → n ≤ 400 → is_quota_panel (made_pool seed n) (range_with_len 0 (made_size n)) ≡ true
first_are_panel seed n some few =
    let fits = size_fits n some few in
    let size = made_size n in
    quota_from (made_pool seed n) (range_with_len 0 size) (record {
      size = length-range_with_len 0 size;
      up = range_is_increasing 0 size;
      below = list_all_from_each (λ i. ltb i (length (made_volunteers seed n))) (range_with_len 0 size)
          (each_range (λ i. ltb i (length (made_volunteers seed n)) ≡ true) 0 size
          (λ i low high. lt-ltb i (length (made_volunteers seed n)) (omega (arith, fits.2, length-map-range_with_len (made_volunteer seed) 0 n))));
      standings = standings_are_kept (range_with_len 0 size) seed 0 0 n;
      quotas = quotas_are_met (made_volunteers seed n) size;
      households = households_are_kept seed n (range_with_len 0 size);
    })
