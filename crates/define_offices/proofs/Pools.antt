-- The pool of a round satisfies `IsPool`, and has the register's ids.
use Rattle.std.proofs.Common.{◌≡◌, ℕ, zero, suc, ◌+◌, Bool, true, ltb, leb, ◌&&◌, eqb, List, [], ◌∷◌, map, length, Option, Some, None, Ok, unwrap_or, refl, sym, ap, ◌∙◌, arith, subst}
use Rattle.std.specs.List.{list_all}
use Rattle.std.proofs.lemmas.Bool.{and_from, and_parts, eqb-true, le-leb, leb-true, lt-ltb}
use Rattle.define_pools.specs.declared.Limits.TheVariants.{Large}
use Rattle.define_pools.specs.declared.Standing.{Standing}
use Rattle.define_pools.specs.Building.{are_known, ids, place_of, places_of, value_names}
use Rattle.define_pools.specs.Lists.{includes_list}
use Rattle.define_pools.specs.Pool.{Category, IsPool, Pool, Volunteer, has_values, is_household, is_name, is_size, limits_for, most_volunteers}
use Rattle.define_pools.proofs.BuildingLemmas.{is_size_of_pool, place_at}
use Rattle.define_offices.specs.Tables.{Charter, Entry, Round, Open, Solved, Sealed, Drawn, Tables, round_at}
use Rattle.define_offices.specs.Deciding.{fits_rules}
use Rattle.define_offices.specs.Facts.{IsTables, entry_ids, is_charter, is_entry, is_most}
use Rattle.define_offices.specs.Pools.{after_withdrawals, drawn_of, first_pool, next_pool, next_standing, numbers_of, open_pool, pool_after, pool_by, pool_if, pool_of, restood, restood_pool, round_pool, volunteer_of, with_bounds}
use Rattle.define_offices.proofs.Rounds.{drawn_before}
use Rattle.define_offices.proofs.Shapes.{IsPool-bounds, volunteers-bounds}

-- ---- if volunteers get other standings, nothing else of the pool changes

pub map-restood : {X : Type 0} (f : Volunteer → X) → ((v : Volunteer) (standing : Standing) → f (record v { standing = standing }) ≡ f v) →
    (other : ℕ → Standing → Standing) (i : ℕ) (volunteers : List Volunteer) → map f (restood other i volunteers) ≡ map f volunteers
map-restood f same other i [] = refl
map-restood f same other i (v ∷ volunteers) = rw (same v (other i v.standing), map-restood f same other (i + 1) volunteers) refl

pub list_all-restood : (p : Volunteer → Bool) → ((v : Volunteer) (standing : Standing) → p (record v { standing = standing }) ≡ p v) →
    (other : ℕ → Standing → Standing) (i : ℕ) (volunteers : List Volunteer) → list_all p (restood other i volunteers) ≡ list_all p volunteers
list_all-restood p same other i [] = refl
list_all-restood p same other i (v ∷ volunteers) = rw (same v (other i v.standing), list_all-restood p same other (i + 1) volunteers) refl

pub length-restood : (other : ℕ → Standing → Standing) (i : ℕ) (volunteers : List Volunteer) → length (restood other i volunteers) ≡ length volunteers
length-restood other i [] = refl
length-restood other i (v ∷ volunteers) = ap suc (length-restood other (i + 1) volunteers)

pub ids-restood : (other : ℕ → Standing → Standing) (pool : Pool) → ids (restood_pool other pool).volunteers ≡ ids pool.volunteers
ids-restood other pool = map-restood (λ v. v.id) (λ v standing. refl) other 0 pool.volunteers

pub IsPool-restood : (other : ℕ → Standing → Standing) (pool : Pool) → IsPool pool → IsPool (restood_pool other pool)
IsPool-restood other pool p = record {
  size = p.size;
  few_categories = p.few_categories;
  categories = p.categories;
  different_categories = p.different_categories;
  few_volunteers = rw (length-restood other 0 pool.volunteers) p.few_volunteers;
  ids = rw (list_all-restood (λ v. is_name v.id) (λ v standing. refl) other 0 pool.volunteers) p.ids;
  different_ids = rw (map-restood (λ v. v.id) (λ v standing. refl) other 0 pool.volunteers) p.different_ids;
  values = rw (list_all-restood (λ v. has_values pool.categories v.values) (λ v standing. refl) other 0 pool.volunteers) p.values;
  households = rw (list_all-restood (λ v. is_household v.household) (λ v standing. refl) other 0 pool.volunteers) p.households;
}

-- ---- the register's rows as volunteers

-- if there is one name for each category, and it is known there, the names' places are values of the categories
has_values_places : (categories : List Category) (names : List (List ℕ)) → are_known categories names ≡ true → length names ≡ length categories → has_values categories (places_of categories names) ≡ true
has_values_places [] names h k = refl
has_values_places (category ∷ categories) [] h k = absurd (omega arith)
has_values_places (category ∷ categories) (name ∷ names) h k =
    let parts = and_parts (includes_list (value_names category.values) name) (are_known categories names) h in
    let found = place_at category.values name parts.0 in
    let here : ltb (unwrap_or (place_of category.values name) 0) (length category.values) ≡ true = rw found.1 (lt-ltb found.0 (length category.values) found.2) in
    and_from (ltb (unwrap_or (place_of category.values name) 0) (length category.values)) (has_values categories (places_of categories names)) here (has_values_places categories names parts.1 (omega arith))

module _ (categories : List Category) where
  pub ids-rows : (register : List Entry) → ids (map (volunteer_of categories) register) ≡ entry_ids register
  ids-rows [] = refl
  ids-rows (entry ∷ register) = ap (λ rest. entry.id ∷ rest) (ids-rows register)

  length-rows : (register : List Entry) → length (map (volunteer_of categories) register) ≡ length register
  length-rows [] = refl
  length-rows (entry ∷ register) = ap suc (length-rows register)

  names-rows : (register : List Entry) → list_all is_entry register ≡ true → list_all (λ (v : Volunteer). is_name v.id) (map (volunteer_of categories) register) ≡ true
  names-rows [] h = refl
  names-rows (entry ∷ register) h =
      let parts = and_parts (is_entry entry) (list_all is_entry register) h in
      and_from (is_name entry.id) (list_all (λ (v : Volunteer). is_name v.id) (map (volunteer_of categories) register)) (and_parts (is_name entry.id) (is_household entry.household) parts.0).0 (names-rows register parts.1)

  households-rows : (register : List Entry) → list_all is_entry register ≡ true → list_all (λ (v : Volunteer). is_household v.household) (map (volunteer_of categories) register) ≡ true
  households-rows [] h = refl
  households-rows (entry ∷ register) h =
      let parts = and_parts (is_entry entry) (list_all is_entry register) h in
      and_from (is_household entry.household) (list_all (λ (v : Volunteer). is_household v.household) (map (volunteer_of categories) register)) (and_parts (is_name entry.id) (is_household entry.household) parts.0).1 (households-rows register parts.1)

  values-rows : (register : List Entry) → list_all (λ (entry : Entry). fits_rules categories entry.values) register ≡ true →
      list_all (λ (v : Volunteer). has_values categories v.values) (map (volunteer_of categories) register) ≡ true
  values-rows [] h = refl
  values-rows (entry ∷ register) h =
      let parts = and_parts (fits_rules categories entry.values) (list_all (λ (e : Entry). fits_rules categories e.values) register) h in
      let fits = and_parts (eqb (length entry.values) (length categories)) (are_known categories entry.values) parts.0 in
      and_from (has_values categories (places_of categories entry.values)) (list_all (λ (v : Volunteer). has_values categories v.values) (map (volunteer_of categories) register))
      (has_values_places categories entry.values fits.1 (eqb-true (length entry.values) (length categories) fits.0)) (values-rows register parts.1)

-- ---- the pool of an open round

-- the parts of what is true of a charter
pub record CharterIs (charter : Charter) : Type 0 where
  pub title : is_name charter.title ≡ true
  pub most : leb charter.volunteers (most_volunteers Large) ≡ true
  pub size : is_size (limits_for charter.volunteers) charter.size ≡ true

pub charter_is : (charter : Charter) → is_charter charter ≡ true → CharterIs charter
charter_is charter h =
    let parts = and_parts (is_name charter.title && is_most charter.volunteers) (is_size (limits_for charter.volunteers) charter.size) h in
    let first = and_parts (is_name charter.title) (is_most charter.volunteers) parts.0 in
    record { title = first.0; most = (and_parts (leb 1 charter.volunteers) (leb charter.volunteers (most_volunteers Large)) first.1).1; size = parts.1 }

pub record IsRoundPool (tables : Tables) (pool : Pool) : Type 0 where
  pub is_pool : IsPool pool
  pub same_ids : ids pool.volunteers ≡ entry_ids tables.register

module _ (tables : Tables) (keeps : IsTables tables) (charter : Charter) (categories : List Category) (has_charter : tables.charter ≡ Some charter) (has_rules : tables.rules ≡ Some categories) where
  first_is_pool : IsRoundPool tables (first_pool charter categories tables.register)
  first_is_pool =
      let rules = keeps.rules categories has_rules in
      let register = tables.register in
      let its = charter_is charter (keeps.charter charter has_charter) in
      let few : leb (length register) charter.volunteers ≡ true = rw has_charter at keeps.few_rows in
      let fit : list_all (λ (entry : Entry). fits_rules categories entry.values) register ≡ true = rw has_rules at keeps.fit in
      record {
        is_pool = record {
          size = is_size_of_pool (limits_for charter.volunteers) charter.size its.size;
          few_categories = rules.few;
          categories = rules.each;
          different_categories = rules.different;
          few_volunteers = le-leb (length (map (volunteer_of categories) register)) (most_volunteers Large) (let below = leb-true (length register) charter.volunteers few in let most = leb-true charter.volunteers (most_volunteers Large) its.most in omega (arith, below, most, length-rows categories register));
          ids = names-rows categories register keeps.rows;
          different_ids = rw (ids-rows categories register) keeps.different_ids;
          values = values-rows categories register fit;
          households = households-rows categories register keeps.rows;
        };
        same_ids = ids-rows categories register;
      }

  pub open_is_pool : (place : ℕ) (round : Round) → round_at tables.rounds place ≡ Some round → IsRoundPool tables (open_pool charter categories tables place)
  open_is_pool zero round at = first_is_pool
  open_is_pool (suc before) round at =
      let drawn = drawn_before tables.rounds before round keeps.closed at in
      let kept = (keeps.rounds before (Drawn drawn.bundle drawn.tickets drawn.digits drawn.dropped) drawn.there).0 in
      let next = next_pool drawn.bundle.pool (drawn_of drawn.bundle drawn.tickets drawn.digits).panel (numbers_of drawn.bundle.pool drawn.dropped) in
      let standings = next_standing (drawn_of drawn.bundle drawn.tickets drawn.digits).panel (numbers_of drawn.bundle.pool drawn.dropped) in
      let pool = pool_after tables.register (Some (Drawn drawn.bundle drawn.tickets drawn.digits drawn.dropped)) in
      let is : IsRoundPool tables (with_bounds tables.bounds pool) = record {
        is_pool = IsPool-bounds pool tables.bounds (IsPool-restood (after_withdrawals tables.register) next (IsPool-restood standings drawn.bundle.pool kept.is_bundle.is_pool)) keeps.bounds;
        same_ids = ap ids (volunteers-bounds pool tables.bounds) ∙ (ids-restood (after_withdrawals tables.register) next ∙ (ids-restood standings drawn.bundle.pool ∙ kept.same_ids));
      } in
      subst (λ found. IsRoundPool tables (with_bounds tables.bounds (pool_after tables.register found))) (sym drawn.there) is

  pub round_is_pool : (place : ℕ) (round : Round) → round_at tables.rounds place ≡ Some round → IsRoundPool tables (round_pool charter categories tables place round)
  round_is_pool place Open at = open_is_pool place Open at
  round_is_pool place (Solved bundle) at = let kept = keeps.rounds place (Solved bundle) at in record { is_pool = kept.is_bundle.is_pool; same_ids = kept.same_ids }
  round_is_pool place (Sealed bundle tickets) at = let kept = (keeps.rounds place (Sealed bundle tickets) at).0 in record { is_pool = kept.is_bundle.is_pool; same_ids = kept.same_ids }
  round_is_pool place (Drawn bundle tickets digits dropped) at =
      let kept = (keeps.rounds place (Drawn bundle tickets digits dropped) at).0 in record { is_pool = kept.is_bundle.is_pool; same_ids = kept.same_ids }

-- the pool satisfies `IsPool` and has the register's ids, and there are a charter and rules
pub record HasPool (tables : Tables) (pool : Pool) : Type 0 where
  pub is : IsRoundPool tables pool
  pub charter : Charter
  pub categories : List Category
  pub has_charter : tables.charter ≡ Some charter
  pub has_rules : tables.rules ≡ Some categories

pool_by_has : (tables : Tables) → IsTables tables → (place : ℕ) (round : Round) → round_at tables.rounds place ≡ Some round → (charter : Option Charter) (rules : Option (List Category)) →
    tables.charter ≡ charter → tables.rules ≡ rules → (pool : Pool) → pool_by charter rules tables place round ≡ Ok pool → HasPool tables pool
pool_by_has tables keeps place round at None rules c r pool h = absurd (cc)
pool_by_has tables keeps place round at (Some charter) None c r pool h = absurd (cc)
pool_by_has tables keeps place round at (Some charter) (Some categories) c r pool h =
    let same : round_pool charter categories tables place round ≡ pool = cc in
    record {
      is = subst (IsRoundPool tables) same (round_is_pool tables keeps charter categories c r place round at);
      charter = charter;
      categories = categories;
      has_charter = c;
      has_rules = r;
    }

pool_if_has : (tables : Tables) → IsTables tables → (place : ℕ) (found : Option Round) → round_at tables.rounds place ≡ found → (pool : Pool) → pool_if tables place found ≡ Ok pool → HasPool tables pool
pool_if_has tables keeps place None at pool h = absurd (cc)
pool_if_has tables keeps place (Some round) at pool h = pool_by_has tables keeps place round at tables.charter tables.rules refl refl pool h

pub pool_of_has : (tables : Tables) → IsTables tables → (number : ℕ) (pool : Pool) → pool_of tables number ≡ Ok pool → HasPool tables pool
pool_of_has tables keeps zero pool h = absurd (cc)
pool_of_has tables keeps (suc place) pool h = pool_if_has tables keeps place (round_at tables.rounds place) refl pool h
