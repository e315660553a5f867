-- Whether the volunteer of a row is seated in the pool of an open round, by what is published of the round before and by whether this
-- volunteer dropped out of it.
use Rattle.std.proofs.Common.{◌≡◌, ℕ, zero, suc, ◌+◌, ◌<◌, ◌≤◌, Bool, true, false, cond, eqb, not, List, [], ◌∷◌, length, get_or, map, filter, Option, Some, None, refl, sym, ap, ◌∙◌, arith}
use Rattle.std.specs.List.{range_with_len}
use Rattle.std.specs.Prelude.{IsTrue, is_some}
use Rattle.std.specs.Str.{bytes_eq}
use Rattle.std.proofs.Math.ListN.{get_or-map}
use Rattle.std.proofs.lemmas.Bool.{eqb-true, eqb-false, eq-eqb, ne_eqb, false≢true, and_parts, not-true, or_left, or_right}
use Rattle.std.proofs.lemmas.Slice.Eq.{bytes_eq-Decides}
use Rattle.define_pools.specs.declared.Standing.{Standing}
use Rattle.define_pools.specs.declared.Standing.TheVariants as standing
use Rattle.define_pools.specs.Building.{ids}
use Rattle.define_pools.specs.Lists.{all_different, includes, includes_list}
use Rattle.define_pools.specs.Pool.{Category, Volunteer, volunteer}
use Rattle.define_bundles.specs.BundleText.{Bundle}
use Rattle.define_offices.specs.Deciding.{is_seated, is_seated_in, place_of_hash}
use Rattle.define_offices.specs.Facts.{IsTables, entry_ids}
use Rattle.define_offices.specs.Pools.{after_withdrawals, drawn_of, has_withdrawn, next_standing, numbers_of, pool_after, pool_by, pool_if, pool_of, restood, standing_of, volunteer_of}
use Rattle.define_offices.specs.Tables.{Charter, Entry, Round, Open, Drawn, Tables, round_at}
use Rattle.define_offices.proofs.Pools.{length-restood}
use Rattle.define_offices.proofs.Shapes.{volunteers-bounds}

-- ---- the elements of lists and of filtered ranges

-- a list includes the element at each of its places; if its elements are all different, each is at one place alone
pub includes_at : (xs : List (List ℕ)) (j : ℕ) (x : List ℕ) → j < length xs → x ≡ get_or xs j [] → includes_list xs x ≡ true
includes_at [] j x h e = absurd (omega arith)
includes_at (y ∷ ys) zero x h e = or_left (bytes_eq x y) (includes_list ys x) ((bytes_eq-Decides x y).1 e)
includes_at (y ∷ ys) (suc j) x h e = or_right (bytes_eq x y) (includes_list ys x) (includes_at ys j x (omega arith) e)

pub same_place : (xs : List (List ℕ)) (i j : ℕ) → all_different xs ≡ true → i < length xs → j < length xs → get_or xs i [] ≡ get_or xs j [] → i ≡ j
same_place [] i j d hi hj e = absurd (omega arith)
same_place (x ∷ xs) zero zero d hi hj e = refl
same_place (x ∷ xs) zero (suc j) d hi hj e =
    let parts = and_parts (not (includes_list xs x)) (all_different xs) d in
    absurd (false≢true (sym (not-true (includes_list xs x) parts.0) ∙ includes_at xs j x (omega arith) e))
same_place (x ∷ xs) (suc i) zero d hi hj e =
    let parts = and_parts (not (includes_list xs x)) (all_different xs) d in
    absurd (false≢true (sym (not-true (includes_list xs x) parts.0) ∙ includes_at xs i x (omega arith) (sym e)))
same_place (x ∷ xs) (suc i) (suc j) d hi hj e =
    let parts = and_parts (not (includes_list xs x)) (all_different xs) d in
    ap suc (same_place xs i j parts.1 (omega arith) (omega arith) e)

passing_later : (first n : ℕ) (rest : List ℕ) (b passes : Bool) → eqb first n ≡ false → includes rest n ≡ passes → includes (cond b (first ∷ rest) rest) n ≡ passes
passing_later first n rest true passes apart later = rw apart later
passing_later first n rest false passes apart later = later

none_above : (p : ℕ → Bool) (first count n : ℕ) → n < first → includes (filter p (range_with_len first count)) n ≡ false
none_above p first zero n h = refl
none_above p first (suc count) n h =
    let apart : eqb first n ≡ false = ne_eqb first n (λ e. omega arith) in
    passing_later first n (filter p (range_with_len (first + 1) count)) (p first) false apart (none_above p (first + 1) count n (omega arith))

passing_here : (first n : ℕ) (rest : List ℕ) (b : Bool) → first ≡ n → includes rest n ≡ false → includes (cond b (first ∷ rest) rest) n ≡ b
passing_here first n rest true e none = or_left (eqb first n) (includes rest n) (eq-eqb first n e)
passing_here first n rest false e none = none

next_number : (a b : ℕ) → a ≤ b → (a ≡ b → ⊥) → a + 1 ≤ b
next_number a b low other = omega (arith, other)

-- if the range of numbers that is filtered contains `n`, the filtered numbers include `n` exactly if `n` passes the test
pub passes_in_range : (p : ℕ → Bool) (first count n : ℕ) → first ≤ n → n < first + count → includes (filter p (range_with_len first count)) n ≡ p n
passes_in_range p first zero n low high = absurd (omega arith)
passes_in_range p first (suc count) n low high = at (eqb first n) refl (λ less. passes_in_range p (first + 1) count n less (omega arith))
  where
    at : (b : Bool) → eqb first n ≡ b → (first + 1 ≤ n → includes (filter p (range_with_len (first + 1) count)) n ≡ p n) → includes (cond (p first) (first ∷ filter p (range_with_len (first + 1) count)) (filter p (range_with_len (first + 1) count))) n ≡ p n
    at true e later =
        let same : first ≡ n = eqb-true first n e in
        passing_here first n (filter p (range_with_len (first + 1) count)) (p first) same (none_above p (first + 1) count n (omega arith)) ∙ ap p same
    at false e later =
        let less : first + 1 ≤ n = next_number first n low (eqb-false first n e) in
        passing_later first n (filter p (range_with_len (first + 1) count)) (p first) (p n) e (later less)

-- ---- the row with the digest of a key

pub record IsRow (register : List Entry) (start place : ℕ) (entry : Entry) : Type 0 where
  pub index : ℕ
  pub is : place ≡ start + index
  pub inside : index < length register
  pub read : get_or (entry_ids register) index [] ≡ entry.id

pub row_of : (register : List Entry) (hash : List ℕ) (start place : ℕ) (entry : Entry) → place_of_hash register hash start ≡ Some (place, entry) → IsRow register start place entry
row_of [] hash start place entry h = absurd (cc)
row_of (e ∷ register) hash start place entry h = by (bytes_eq hash e.hash) h (row_of register hash (start + 1) place entry)
  where
    by : (b : Bool) → cond b (Some (start, e)) (place_of_hash register hash (start + 1)) ≡ Some (place, entry) →
        (place_of_hash register hash (start + 1) ≡ Some (place, entry) → IsRow register (start + 1) place entry) → IsRow (e ∷ register) start place entry
    by true k later =
        let pair : (start, e) ≡ (place, entry) = cc in
        let first : start ≡ place = ap (λ (p : ℕ × Entry). p.0) pair in
        record { index = 0; is = omega arith; inside = omega arith; read = ap (λ (p : ℕ × Entry). p.1.id) pair }
    by false k later =
        let row = later k in
        let is = row.is in
        let inside = row.inside in
        record { index = suc row.index; is = omega arith; inside = omega arith; read = row.read }

-- ---- standings

standing_restood : (other : ℕ → Standing → Standing) (i : ℕ) (volunteers : List Volunteer) (p : ℕ) → p < length volunteers →
    (volunteer (restood other i volunteers) p).standing ≡ other (i + p) (volunteer volunteers p).standing
standing_restood other i [] p h = absurd (omega arith)
standing_restood other i (v ∷ volunteers) zero h = let e : i ≡ i + 0 = omega arith in ap (λ n. other n v.standing) e
standing_restood other i (v ∷ volunteers) (suc p) h =
    let e : i + 1 + p ≡ i + suc p = omega arith in
    standing_restood other (i + 1) volunteers p (omega arith) ∙ ap (λ n. other n (volunteer volunteers p).standing) e

seated_though_withdrawn : (register : List Entry) (i : ℕ) (s : Standing) → is_seated (after_withdrawals register i s) ≡ is_seated s
seated_though_withdrawn register i standing.Seated = refl
seated_though_withdrawn register i standing.Gone = refl
seated_though_withdrawn register i standing.Open = by (has_withdrawn register i)
  where
    by : (b : Bool) → is_seated (standing_of b) ≡ false
    by true = refl
    by false = refl

-- the standing after a draw, by whether the volunteer dropped out and was chosen
abbrev pub standing_by : Bool → Bool → Standing → Standing
standing_by dropped chosen standing.Gone = standing.Gone
standing_by dropped chosen standing.Open = cond dropped standing.Gone (cond chosen standing.Seated standing.Open)
standing_by dropped chosen standing.Seated = cond dropped standing.Gone (cond chosen standing.Seated standing.Open)

next_is : (panel drops : List ℕ) (i : ℕ) (s : Standing) → next_standing panel drops i s ≡ standing_by (includes drops i) (includes panel i) s
next_is panel drops i standing.Gone = refl
next_is panel drops i standing.Open = refl
next_is panel drops i standing.Seated = refl

-- whether the volunteer `place` of the bundle is seated after the digits drew a panel, by whether the volunteer dropped out
abbrev pub seat_by : Bundle → Option ℕ → List ℕ → ℕ → Bool → Bool
seat_by bundle tickets digits place dropped = is_seated (standing_by dropped (includes (drawn_of bundle tickets digits).panel place) (volunteer bundle.pool.volunteers place).standing)

-- ---- the pool of an open round

-- nobody is seated in the first round
not_seated_first : (categories : List Category) (register : List Entry) (place : ℕ) → is_seated (volunteer (map (volunteer_of categories) register) place).standing ≡ false
not_seated_first categories [] place = refl
not_seated_first categories (entry ∷ register) zero = by entry.withdrawn
  where
    by : (b : Bool) → is_seated (standing_of b) ≡ false
    by true = refl
    by false = refl
not_seated_first categories (entry ∷ register) (suc place) = not_seated_first categories register place

first_by : (charter : Option Charter) (rules : Option (List Category)) (tables : Tables) (place : ℕ) → is_seated_in (pool_by charter rules tables 0 Open) place ≡ false
first_by None rules tables place = refl
first_by (Some charter) None tables place = refl
first_by (Some charter) (Some categories) tables place = not_seated_first categories tables.register place

pub seat_first : (tables : Tables) (place : ℕ) → round_at tables.rounds 0 ≡ Some Open → is_seated_in (pool_of tables 1) place ≡ false
seat_first tables place e = ap (λ found. is_seated_in (pool_if tables 0 found) place) e ∙ first_by tables.charter tables.rules tables place

later_by : (charter : Option Charter) (rules : Option (List Category)) (tables : Tables) (k place : ℕ) (found : Option Round) → round_at tables.rounds k ≡ found → (charter ≡ None → ⊥) → (rules ≡ None → ⊥) →
    is_seated_in (pool_by charter rules tables (suc k) Open) place ≡ is_seated (volunteer (pool_after tables.register found).volunteers place).standing
later_by None rules tables k place found e c r = absurd (c refl)
later_by (Some charter) None tables k place found e c r = absurd (r refl)
later_by (Some charter) (Some categories) tables k place found e c r =
    ap (λ (all : List Volunteer). is_seated (volunteer all place).standing) (volunteers-bounds (pool_after tables.register (round_at tables.rounds k)) tables.bounds)
    ∙ ap (λ (before : Option Round). is_seated (volunteer (pool_after tables.register before).volunteers place).standing) e

after_draw : (register : List Entry) (bundle : Bundle) (tickets : Option ℕ) (digits : List ℕ) (dropped : List (List ℕ)) (place : ℕ) (id : List ℕ) → place < length bundle.pool.volunteers → (volunteer bundle.pool.volunteers place).id ≡ id →
    is_seated (volunteer (pool_after register (Some (Drawn bundle tickets digits dropped))).volunteers place).standing ≡ seat_by bundle tickets digits place (includes_list dropped id)
after_draw register bundle tickets digits dropped place id inside own =
    let pool = bundle.pool in
    let panel = (drawn_of bundle tickets digits).panel in
    let drops = numbers_of pool dropped in
    let next = next_standing panel drops in
    let none : 0 + place ≡ place = omega arith in
    let many : length (restood next 0 pool.volunteers) ≡ length pool.volunteers = length-restood next 0 pool.volunteers in
    let within : place < length (restood next 0 pool.volunteers) = rw many inside in
    let outer = standing_restood (after_withdrawals register) 0 (restood next 0 pool.volunteers) place within in
    let inner = standing_restood next 0 pool.volunteers place inside in
    let s = (volunteer pool.volunteers place).standing in
    let gone : includes drops place ≡ includes_list dropped id =
    passes_in_range (λ i. includes_list dropped (volunteer pool.volunteers i).id) 0 (length pool.volunteers) place (omega arith) (omega arith) ∙ ap (includes_list dropped) own in
    ap is_seated outer ∙ (seated_though_withdrawn register (0 + place) (volunteer (restood next 0 pool.volunteers) place).standing
    ∙ (ap is_seated inner ∙ (ap (λ n. is_seated (next n s)) none ∙ (ap is_seated (next_is panel drops place s) ∙ ap (λ b. is_seated (standing_by b (includes panel place) s)) gone))))

length_ids : (volunteers : List Volunteer) → length (ids volunteers) ≡ length volunteers
length_ids [] = refl
length_ids (v ∷ volunteers) = ap suc (length_ids volunteers)

length_entries : (register : List Entry) → length (entry_ids register) ≡ length register
length_entries [] = refl
length_entries (entry ∷ register) = ap suc (length_entries register)

as_many : (volunteers : List Volunteer) (register : List Entry) (place : ℕ) → ids volunteers ≡ entry_ids register → place < length register → place < length volunteers
as_many volunteers register place e h =
    let one = length_ids volunteers in
    let other = length_entries register in
    let same : length (ids volunteers) ≡ length (entry_ids register) = ap length e in omega arith

own_id : (volunteers : List Volunteer) (register : List Entry) (place : ℕ) → ids volunteers ≡ entry_ids register → (volunteer volunteers place).id ≡ get_or (entry_ids register) place []
own_id volunteers register place e =
    sym (get_or-map (λ (v : Volunteer). v.id) volunteers place (record { id = []; values = []; standing = standing.Gone; household = None }))
    ∙ ap (λ (all : List (List ℕ)). get_or all place []) e

is_there : {X : Type 0} (found : Option X) → IsTrue (is_some found) → found ≡ None → ⊥
is_there None there e = false≢true there
is_there (Some x) there e = cc

pub seat_later : (tables : Tables) → IsTables tables → (k place : ℕ) (bundle : Bundle) (tickets : Option ℕ) (digits : List ℕ) (dropped : List (List ℕ)) (id : List ℕ) →
    round_at tables.rounds k ≡ Some (Drawn bundle tickets digits dropped) → round_at tables.rounds (suc k) ≡ Some Open → place < length tables.register → get_or (entry_ids tables.register) place [] ≡ id →
    is_seated_in (pool_of tables (suc (suc k))) place ≡ seat_by bundle tickets digits place (includes_list dropped id)
seat_later tables keeps k place bundle tickets digits dropped id drawn opened inside read =
    let kept = (keeps.rounds k (Drawn bundle tickets digits dropped) drawn).0 in
    let within = as_many bundle.pool.volunteers tables.register place kept.same_ids inside in
    let own = own_id bundle.pool.volunteers tables.register place kept.same_ids ∙ read in
    ap (λ found. is_seated_in (pool_if tables (suc k) found) place) opened
    ∙ (later_by tables.charter tables.rules tables k place (Some (Drawn bundle tickets digits dropped)) drawn (is_there tables.charter kept.charter) (is_there tables.rules kept.rules)
    ∙ after_draw tables.register bundle tickets digits dropped place id within own)
