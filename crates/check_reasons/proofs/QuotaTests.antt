-- The parts of the test of a quota panel, put together.
use Rattle.std.proofs.Common.{◌≡◌, ℕ, Bool, true, false, ◌&&◌, eqb, ltb, List, length, map, get_or, refl, sym, ap, ap₂, ◌∙◌}
use Rattle.std.specs.List.{list_all}
use Rattle.std.proofs.lemmas.Bool.{and_parts}
use Rattle.define_pools.specs.Lists.{is_increasing}
use Rattle.define_pools.specs.Pool.{Category, Pool, Volunteer, is_of_size, is_quota_panel, keeps_households, keeps_standings, meets_quotas}
use Rattle.check_reasons.specs.Households.{household_numbers, none_twice}
use Rattle.check_reasons.proofs.HouseholdNumbers.{kept_numbers_differ, many_numbers}

module _ (pool : Pool) (panel : List ℕ) (size : is_of_size pool panel ≡ true) where
  abbrev first : Bool
  first = eqb (length panel) pool.size && is_increasing panel

  pub increases : is_increasing panel ≡ true
  increases =
      let parts = and_parts first (list_all (λ i. ltb i (length pool.volunteers)) panel) size in
      (and_parts (eqb (length panel) pool.size) (is_increasing panel) parts.0).1

  pub all_below : list_all (λ i. ltb i (length pool.volunteers)) panel ≡ true
  all_below = (and_parts first (list_all (λ i. ltb i (length pool.volunteers)) panel) size).1

  pub members_known : (members households : List ℕ) → members ≡ panel → households ≡ household_numbers pool.volunteers → list_all (λ i. ltb i (length households)) members ≡ true
  members_known members households e f =
      ap (λ xs. list_all (λ i. ltb i (length households)) xs) e ∙ ap (λ n. list_all (λ i. ltb i n) panel) (many_numbers pool.volunteers households f) ∙ all_below

  pub quota_panel_is : (members households : List ℕ) (volunteers : List Volunteer) (categories : List Category) (stands meets differs : Bool) → members ≡ panel → households ≡ household_numbers pool.volunteers →
      volunteers ≡ pool.volunteers → categories ≡ pool.categories → stands ≡ true → meets ≡ true → stands ≡ keeps_standings volunteers members →
      meets ≡ meets_quotas categories volunteers members → differs ≡ none_twice (map (λ i. get_or households i 0) members) → differs ≡ is_quota_panel pool panel
  quota_panel_is members households volunteers categories stands meets differs e f g h s m standings quotas differ =
      let standing : keeps_standings pool.volunteers panel ≡ true = sym (ap₂ keeps_standings g e) ∙ sym standings ∙ s in
      let quota : meets_quotas pool.categories pool.volunteers panel ≡ true =
      sym (ap₂ (λ (cs : List Category) (vs : List Volunteer). meets_quotas cs vs panel) h g) ∙ sym (ap (meets_quotas categories volunteers) e) ∙ sym quotas ∙ m in
      let household : differs ≡ keeps_households pool.volunteers panel =
      differ ∙ ap (λ xs. none_twice (map (λ i. get_or households i 0) xs)) e ∙ kept_numbers_differ pool.volunteers households panel f increases all_below in
      household ∙ last (is_of_size pool panel) (keeps_standings pool.volunteers panel) (meets_quotas pool.categories pool.volunteers panel) (keeps_households pool.volunteers panel) size standing quota
    where
      last : (a b c d : Bool) → a ≡ true → b ≡ true → c ≡ true → d ≡ (a && b && c && d)
      last a b c d e f g = rw (e, f, g) refl

  pub no_quota_panel : (members : List ℕ) (volunteers : List Volunteer) (categories : List Category) (stands meets : Bool) → members ≡ panel →
      volunteers ≡ pool.volunteers → categories ≡ pool.categories → stands ≡ keeps_standings volunteers members →
      meets ≡ meets_quotas categories volunteers members → (stands && meets) ≡ false → false ≡ is_quota_panel pool panel
  no_quota_panel members volunteers categories stands meets e g h standings quotas either =
      let standing : stands ≡ keeps_standings pool.volunteers panel = standings ∙ ap₂ keeps_standings g e in
      let quota : meets ≡ meets_quotas pool.categories pool.volunteers panel =
      quotas ∙ ap (meets_quotas categories volunteers) e ∙ ap₂ (λ (cs : List Category) (vs : List Volunteer). meets_quotas cs vs panel) h g in
      fails (is_of_size pool panel) (keeps_standings pool.volunteers panel) (meets_quotas pool.categories pool.volunteers panel) (keeps_households pool.volunteers panel) size
      (sym (ap₂ (λ a b. a && b) standing quota) ∙ either)
    where
      fails : (a b c d : Bool) → a ≡ true → (b && c) ≡ false → false ≡ (a && b && c && d)
      fails a true c d e f = rw (e, f) refl
      fails a false c d e f = rw e refl
