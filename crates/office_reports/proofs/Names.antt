-- The names of a made volunteer's values are among those of the categories, at the places of the values.
use Rattle.std.proofs.Common.{◌≡◌, ℕ, zero, suc, ◌+◌, ◌<◌, Bool, true, false, cond, ◌&&◌, List, [], ◌∷◌, Option, Some, None, option_map, get_or, length, eqb, leb, ◌++◌, refl, sym, ◌∙◌, ap, ap₂, subst, arith}
use Rattle.std.specs.Prelude.{OnOk, Result, bytes_eq, unwrap_or}
use Rattle.std.specs.declared.alloc.AllocError.{AllocError}
use Rattle.std.proofs.lemmas.Bool.{and_from, eq-eqb, lt-leb}
use Rattle.std.proofs.lemmas.List.{length-map}
use Rattle.define_pools.specs.Lists.{includes_list}
use Rattle.define_pools.specs.Pool.{BoundedValue, Category, Pool}
use Rattle.define_pools.specs.Building.{are_known, ids, place_of, places_of, value_names, volunteer_added, volunteer_kind}
use Rattle.define_pools.specs.declared.Limits.TheVariants.{Large}
use Rattle.define_made_pools.specs.MadePools.{ages, areas, genders, made_id}
use Rattle.define_made_pools.proofs.Volunteers.{id_keeps_limits}
use Rattle.office_reports.specs.Making.{ArePlaces, made_names, names_of_values, with_values}

-- the place of a name among the names of a category's values, by the names alone: adding a volunteer reads nothing else of the categories
abbrev place_in : List (List ℕ) → List ℕ → Option ℕ
place_in [] name = None
place_in (one ∷ names) name = cond (bytes_eq name one) (Some 0) (option_map (λ place. place + 1) (place_in names name))

abbrev places_in : List (List (List ℕ)) → List (List ℕ) → List ℕ
places_in [] names = []
places_in (category ∷ categories) [] = []
places_in (category ∷ categories) (name ∷ names) = unwrap_or (place_in category name) 0 ∷ places_in categories names

abbrev known_in : List (List (List ℕ)) → List (List ℕ) → Bool
known_in [] names = true
known_in (category ∷ categories) [] = true
known_in (category ∷ categories) (name ∷ names) = includes_list category name && known_in categories names

place_by_names : (values : List BoundedValue) (name : List ℕ) → place_of values name ≡ place_in (value_names values) name
place_by_names [] name = refl
place_by_names (value ∷ values) name = ap (λ rest. cond (bytes_eq name value.name) (Some 0) (option_map (λ place. place + 1) rest)) (place_by_names values name)

places_by_names : (categories : List Category) (names : List (List ℕ)) → places_of categories names ≡ places_in (names_of_values categories) names
places_by_names [] names = refl
places_by_names (category ∷ categories) [] = refl
places_by_names (category ∷ categories) (name ∷ names) =
    ap₂ (λ place places. unwrap_or place 0 ∷ places) (place_by_names category.values name) (places_by_names categories names)

known_by_names : (categories : List Category) (names : List (List ℕ)) → are_known categories names ≡ known_in (names_of_values categories) names
known_by_names [] names = refl
known_by_names (category ∷ categories) [] = refl
known_by_names (category ∷ categories) (name ∷ names) = ap (λ rest. includes_list (value_names category.values) name && rest) (known_by_names categories names)

-- the names of the values at three places
abbrev pub names_at : ℕ → ℕ → ℕ → List (List ℕ)
names_at gender age area = get_or genders gender [] ∷ get_or ages age [] ∷ get_or areas area [] ∷ []

known_here : (gender age area : ℕ) → gender < 2 → age < 3 → area < 2 → known_in made_names (names_at gender age area) ≡ true
known_here gender age area a b c = and_from (includes_list genders (get_or genders gender [])) (known_in (ages ∷ areas ∷ []) (get_or ages age [] ∷ get_or areas area [] ∷ [])) (gender_known gender a)
    (and_from (includes_list ages (get_or ages age [])) (known_in (areas ∷ []) (get_or areas area [] ∷ [])) (age_known age b)
    (and_from (includes_list areas (get_or areas area [])) true (area_known area c) refl))
  where
    gender_known : (k : ℕ) → k < 2 → includes_list genders (get_or genders k []) ≡ true
    gender_known zero h = refl
    gender_known (suc zero) h = refl
    gender_known (suc (suc k)) h = absurd (omega arith)

    age_known : (k : ℕ) → k < 3 → includes_list ages (get_or ages k []) ≡ true
    age_known zero h = refl
    age_known (suc zero) h = refl
    age_known (suc (suc zero)) h = refl
    age_known (suc (suc (suc k))) h = absurd (omega arith)

    area_known : (k : ℕ) → k < 2 → includes_list areas (get_or areas k []) ≡ true
    area_known zero h = refl
    area_known (suc zero) h = refl
    area_known (suc (suc k)) h = absurd (omega arith)

gender_place : (k : ℕ) → k < 2 → place_in genders (get_or genders k []) ≡ Some k
gender_place zero h = refl
gender_place (suc zero) h = refl
gender_place (suc (suc k)) h = absurd (omega arith)

age_place : (k : ℕ) → k < 3 → place_in ages (get_or ages k []) ≡ Some k
age_place zero h = refl
age_place (suc zero) h = refl
age_place (suc (suc zero)) h = refl
age_place (suc (suc (suc k))) h = absurd (omega arith)

area_place : (k : ℕ) → k < 2 → place_in areas (get_or areas k []) ≡ Some k
area_place zero h = refl
area_place (suc zero) h = refl
area_place (suc (suc k)) h = absurd (omega arith)

pub names_are_known : (categories : List Category) (gender age area : ℕ) → names_of_values categories ≡ made_names → gender < 2 → age < 3 → area < 2 →
    are_known categories (names_at gender age area) ≡ true
names_are_known categories gender age area e a b c =
    known_by_names categories (names_at gender age area) ∙ ap (λ names. known_in names (names_at gender age area)) e ∙ known_here gender age area a b c

pub names_have_places : (categories : List Category) (gender age area : ℕ) → names_of_values categories ≡ made_names → gender < 2 → age < 3 → area < 2 →
    places_of categories (names_at gender age area) ≡ gender ∷ age ∷ area ∷ []
names_have_places categories gender age area e a b c =
    places_by_names categories (names_at gender age area) ∙ ap (λ names. places_in names (names_at gender age area)) e
    ∙ places_here
  where
    places_here : places_in made_names (names_at gender age area) ≡ gender ∷ age ∷ area ∷ []
    places_here = rw (gender_place gender a, age_place age b, area_place area c) refl

-- a made volunteer with a new id has no kind of fault, if there are fewer than 400 volunteers
pub made_volunteer_fits : (pool : Pool) (id : List ℕ) (number gender age area : ℕ) (g a r : List ℕ) →
    names_of_values pool.categories ≡ made_names → gender < 2 → age < 3 → area < 2 → g ≡ get_or genders gender [] → a ≡ get_or ages age [] → r ≡ get_or areas area [] →
    id ≡ made_id number → includes_list (ids pool.volunteers) (made_id number) ≡ false → number < 400 → length pool.volunteers < 400 →
    volunteer_kind Large pool id (g ∷ a ∷ r ∷ []) ≡ None
made_volunteer_fits pool id number gender age area g a r names ga aa ra ge ae re ide new few room =
    let known = names_are_known pool.categories gender age area names ga aa ra in
    let three : eqb 3 (length pool.categories) ≡ true = eq-eqb 3 (length pool.categories) (sym (ap length names) ∙ length-map pool.categories (λ (c : Category). value_names c.values)) in
    let limits = id_keeps_limits number few in
    let free : leb 4000 (length pool.volunteers) ≡ false = lt-leb 4000 (length pool.volunteers) (omega (arith, room)) in
    rw (ge, ae, re, ide, known, three, new, limits, free) refl

pub made_volunteer_added : (pool : Pool) (id : List ℕ) (number : ℕ) (g a r values : List ℕ) → names_of_values pool.categories ≡ made_names → ArePlaces values →
    g ≡ get_or genders (get_or values 0 0) [] → a ≡ get_or ages (get_or values 1 0) [] → r ≡ get_or areas (get_or values 2 0) [] → id ≡ made_id number →
    volunteer_added pool id (g ∷ a ∷ r ∷ []) ≡ record pool { volunteers = pool.volunteers ++ with_values number values ∷ [] }
made_volunteer_added pool id number g a r values names are ge ae re ide =
    let places = names_have_places pool.categories (get_or values 0 0) (get_or values 1 0) (get_or values 2 0) names are.0 are.1 are.2 in
    rw (ge, ae, re, ide, places) refl

-- if a volunteer is added by the names of these values, the pool has the volunteer with these values
pub made_volunteer_is_added : (result : Result (Unit {0}) AllocError) (pool new : Pool) (id : List ℕ) (number : ℕ) (g a r values : List ℕ) → names_of_values pool.categories ≡ made_names → ArePlaces values →
    g ≡ get_or genders (get_or values 0 0) [] → a ≡ get_or ages (get_or values 1 0) [] → r ≡ get_or areas (get_or values 2 0) [] → id ≡ made_id number →
    OnOk result (new ≡ volunteer_added pool id (g ∷ a ∷ r ∷ [])) → OnOk result (new ≡ record pool { volunteers = pool.volunteers ++ with_values number values ∷ [] })
made_volunteer_is_added result pool new id number g a r values names are ge ae re ide added =
    subst (λ (p : Pool). OnOk result (new ≡ p)) (made_volunteer_added pool id number g a r values names are ge ae re ide) added
