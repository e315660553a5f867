-- The standings in the pool of an open round: who withdrew is gone, and a member of the panel drawn before who didn't drop out is seated.
use Rattle.std.proofs.Common.{◌≡◌, ℕ, zero, suc, ◌+◌, Bool, true, false, cond, List, [], ◌∷◌, map, get_or, Option, Some, None, Ok, refl, sym, ap, ◌∙◌, arith, subst}
use Rattle.std.specs.Prelude.{IsTrue, is_some}
use Rattle.std.proofs.Math.ListN.{get_or-map}
use Rattle.std.proofs.lemmas.Bool.{false≢true}
use Rattle.define_pools.specs.declared.Standing.{Standing}
use Rattle.define_pools.specs.declared.Standing.TheVariants as standing
use Rattle.define_pools.specs.Building.{ids}
use Rattle.define_pools.specs.Lists.{includes}
use Rattle.define_pools.specs.Pool.{Category, Pool, Volunteer, volunteer}
use Rattle.define_bundles.specs.BundleText.{Bundle}
use Rattle.define_offices.specs.Deciding.{is_seated, is_seated_in}
use Rattle.define_offices.specs.Facts.{IsTables, entry_ids}
use Rattle.define_offices.specs.Pools.{after_withdrawals, drawn_of, has_withdrawn, next_standing, numbers_of, open_pool, pool_after, pool_by, pool_if, pool_of, restood, standing_of, volunteer_of, with_bounds}
use Rattle.define_offices.specs.Tables.{Charter, Entry, Round, Open, Drawn, Tables, named_round, round_at}
use Rattle.define_offices.proofs.Rounds.{drawn_before}
use Rattle.define_offices.proofs.Shapes.{volunteers-bounds}
use Rattle.laws_of_offices.proofs.SeatRounds.{AreGone, MembersStay, SeatsKept}

-- ---- standings after a draw and withdrawals

-- the standing of a volunteer after all got other standings, if who is gone stays gone
standing_restood : (other : ℕ → Standing → Standing) → ((n : ℕ) → other n standing.Gone ≡ standing.Gone) → (first : ℕ) (volunteers : List Volunteer) (i : ℕ) →
    (volunteer (restood other first volunteers) i).standing ≡ other (first + i) (volunteer volunteers i).standing
standing_restood other gone first [] i = sym (gone (first + i))
standing_restood other gone first (v ∷ volunteers) zero = let e : first ≡ first + 0 = omega arith in ap (λ n. other n v.standing) e
standing_restood other gone first (v ∷ volunteers) (suc i) =
    let e : first + 1 + i ≡ first + suc i = omega arith in
    standing_restood other gone (first + 1) volunteers i ∙ ap (λ n. other n (volunteer volunteers i).standing) e

-- the standing after a draw, by whether the volunteer dropped out and was chosen
abbrev standing_by : Bool → Bool → Standing → Standing
standing_by dropped chosen standing.Gone = standing.Gone
standing_by dropped chosen standing.Open = cond dropped standing.Gone (cond chosen standing.Seated standing.Open)
standing_by dropped chosen standing.Seated = cond dropped standing.Gone (cond chosen standing.Seated standing.Open)

next_is : (panel drops : List ℕ) (i : ℕ) (s : Standing) → next_standing panel drops i s ≡ standing_by (includes drops i) (includes panel i) s
next_is panel drops i standing.Gone = refl
next_is panel drops i standing.Open = refl
next_is panel drops i standing.Seated = refl

-- who is seated after a draw was chosen and didn't drop out
seated_by : (dropped chosen : Bool) (s : Standing) → standing_by dropped chosen s ≡ standing.Seated → (chosen ≡ true) × (dropped ≡ false)
seated_by dropped chosen standing.Gone h = absurd (cc)
seated_by true chosen standing.Open h = absurd (cc)
seated_by false true standing.Open h = (refl, refl)
seated_by false false standing.Open h = absurd (cc)
seated_by true chosen standing.Seated h = absurd (cc)
seated_by false true standing.Seated h = (refl, refl)
seated_by false false standing.Seated h = absurd (cc)

-- who was chosen, didn't drop out, and wasn't gone is seated after the draw
chosen_is_seated : (s : Standing) → (s ≡ standing.Gone → ⊥) → standing_by false true s ≡ standing.Seated
chosen_is_seated standing.Gone here = absurd (here refl)
chosen_is_seated standing.Open here = refl
chosen_is_seated standing.Seated here = refl

gone_unless_seated : (register : List Entry) (i : ℕ) (s : Standing) → has_withdrawn register i ≡ true → (s ≡ standing.Seated → ⊥) → after_withdrawals register i s ≡ standing.Gone
gone_unless_seated register i standing.Open withdrew free = ap standing_of withdrew
gone_unless_seated register i standing.Seated withdrew free = absurd (free refl)
gone_unless_seated register i standing.Gone withdrew free = refl

module _ (register : List Entry) (bundle : Bundle) (tickets : Option ℕ) (digits : List ℕ) (dropped : List (List ℕ)) where
  abbrev next : ℕ → Standing → Standing
  next = next_standing (drawn_of bundle tickets digits).panel (numbers_of bundle.pool dropped)

  abbrev following : Pool
  following = pool_after register (Some (Drawn bundle tickets digits dropped))

  -- the standing of volunteer `i` in the pool of the round that follows
  standing_after : (i : ℕ) → (volunteer following.volunteers i).standing ≡ after_withdrawals register i (next i (volunteer bundle.pool.volunteers i).standing)
  standing_after i =
      let here : 0 + i ≡ i = omega arith in
      standing_restood (after_withdrawals register) (λ n. refl) 0 (restood next 0 bundle.pool.volunteers) i
      ∙ (ap (after_withdrawals register (0 + i)) (standing_restood next (λ n. refl) 0 bundle.pool.volunteers i)
      ∙ ap (λ n. after_withdrawals register n (next n (volunteer bundle.pool.volunteers i).standing)) here)

  -- if no member has withdrawn, unless the member dropped out, who withdrew is gone in the pool of the round that follows
  following_gone : MembersStay register bundle tickets digits dropped → AreGone register following
  following_gone stay = λ i withdrew.
      standing_after i
      ∙ gone_unless_seated register i (next i (volunteer bundle.pool.volunteers i).standing) withdrew
      (λ seated.
      let parts = seated_by (includes (numbers_of bundle.pool dropped) i) (includes (drawn_of bundle tickets digits).panel i) (volunteer bundle.pool.volunteers i).standing
      (sym (next_is (drawn_of bundle tickets digits).panel (numbers_of bundle.pool dropped) i (volunteer bundle.pool.volunteers i).standing) ∙ seated) in
      false≢true (sym (stay i parts.0 parts.1) ∙ withdrew))

  -- a member who wasn't gone, and didn't drop out, is seated in the pool of the round that follows
  member_is_seated : (i : ℕ) → includes (drawn_of bundle tickets digits).panel i ≡ true → includes (numbers_of bundle.pool dropped) i ≡ false →
      ((volunteer bundle.pool.volunteers i).standing ≡ standing.Gone → ⊥) → is_seated (volunteer following.volunteers i).standing ≡ true
  member_is_seated i member stayed here =
      let s = (volunteer bundle.pool.volunteers i).standing in
      let seated : next i s ≡ standing.Seated =
      next_is (drawn_of bundle tickets digits).panel (numbers_of bundle.pool dropped) i s
      ∙ (ap (λ b. standing_by b (includes (drawn_of bundle tickets digits).panel i) s) stayed ∙ (ap (λ b. standing_by false b s) member ∙ chosen_is_seated s here)) in
      ap is_seated (standing_after i ∙ ap (after_withdrawals register i) seated)

-- ---- the pool of an open round

-- who withdrew is gone in the first pool
first_gone : (categories : List Category) (register : List Entry) (i : ℕ) → has_withdrawn register i ≡ true → (volunteer (map (volunteer_of categories) register) i).standing ≡ standing.Gone
first_gone categories [] i withdrew = refl
first_gone categories (entry ∷ register) zero withdrew = ap standing_of withdrew
first_gone categories (entry ∷ register) (suc i) withdrew = first_gone categories register i withdrew

-- other bounds change no standing
bounded_gone : (register : List Entry) (pool : Pool) (bounds : Option (List Category)) → AreGone register pool → AreGone register (with_bounds bounds pool)
bounded_gone register pool bounds gone =
    subst (λ (all : List Volunteer). (i : ℕ) → has_withdrawn register i ≡ true → (volunteer all i).standing ≡ standing.Gone) (sym (volunteers-bounds pool bounds)) gone

module _ (tables : Tables) (keeps : IsTables tables) where
  open_pool_gone : (charter : Charter) (categories : List Category) → SeatsKept tables.register tables.rounds → (place : ℕ) → round_at tables.rounds place ≡ Some Open →
      AreGone tables.register (open_pool charter categories tables place)
  open_pool_gone charter categories kept zero at = first_gone categories tables.register
  open_pool_gone charter categories kept (suc before) at =
      let drawn = drawn_before tables.rounds before Open keeps.closed at in
      let round = Drawn drawn.bundle drawn.tickets drawn.digits drawn.dropped in
      let stay = kept before round drawn.there (rw at refl) in
      let gone = following_gone tables.register drawn.bundle drawn.tickets drawn.digits drawn.dropped stay in
      bounded_gone tables.register (pool_after tables.register (round_at tables.rounds before)) tables.bounds
      (subst (λ found. AreGone tables.register (pool_after tables.register found)) (sym drawn.there) gone)

  by_parts : SeatsKept tables.register tables.rounds → (place : ℕ) → round_at tables.rounds place ≡ Some Open → (charter : Option Charter) (rules : Option (List Category)) (pool : Pool) →
      pool_by charter rules tables place Open ≡ Ok pool → AreGone tables.register pool
  by_parts kept place at None rules pool h = absurd (cc)
  by_parts kept place at (Some charter) None pool h = absurd (cc)
  by_parts kept place at (Some charter) (Some categories) pool h =
      let same : open_pool charter categories tables place ≡ pool = cc in
      subst (AreGone tables.register) same (open_pool_gone charter categories kept place at)

  -- who withdrew is gone in the pool of an open round
  pub open_gone : SeatsKept tables.register tables.rounds → (number : ℕ) (pool : Pool) → named_round tables.rounds number ≡ Some Open → pool_of tables number ≡ Ok pool → AreGone tables.register pool
  open_gone kept zero pool at of = absurd (cc)
  open_gone kept (suc place) pool at of =
      by_parts kept place at tables.charter tables.rules pool (subst (λ found. pool_if tables place found ≡ Ok pool) at of)

  is_there : {X : Type 0} (found : Option X) → IsTrue (is_some found) → found ≡ None → ⊥
  is_there None there e = false≢true there
  is_there (Some x) there e = cc

  seated_by_parts : (charter : Option Charter) (rules : Option (List Category)) (k i : ℕ) (found : Option Round) → round_at tables.rounds k ≡ found → (charter ≡ None → ⊥) → (rules ≡ None → ⊥) →
      is_seated_in (pool_by charter rules tables (suc k) Open) i ≡ is_seated (volunteer (pool_after tables.register found).volunteers i).standing
  seated_by_parts None rules k i found e c r = absurd (c refl)
  seated_by_parts (Some charter) None k i found e c r = absurd (r refl)
  seated_by_parts (Some charter) (Some categories) k i found e c r =
      ap (λ (all : List Volunteer). is_seated (volunteer all i).standing) (volunteers-bounds (pool_after tables.register (round_at tables.rounds k)) tables.bounds)
      ∙ ap (λ (before : Option Round). is_seated (volunteer (pool_after tables.register before).volunteers i).standing) e

  -- a member of the drawn panel who wasn't gone, and didn't drop out, is seated in the pool of the open round that follows
  pub member_seated : (k i : ℕ) (bundle : Bundle) (tickets : Option ℕ) (digits : List ℕ) (dropped : List (List ℕ)) → round_at tables.rounds k ≡ Some (Drawn bundle tickets digits dropped) →
      round_at tables.rounds (suc k) ≡ Some Open → includes (drawn_of bundle tickets digits).panel i ≡ true → includes (numbers_of bundle.pool dropped) i ≡ false →
      ((volunteer bundle.pool.volunteers i).standing ≡ standing.Gone → ⊥) → is_seated_in (pool_of tables (suc (suc k))) i ≡ true
  member_seated k i bundle tickets digits dropped drawn opened member stayed here =
      let kept = (keeps.rounds k (Drawn bundle tickets digits dropped) drawn).0 in
      ap (λ found. is_seated_in (pool_if tables (suc k) found) i) opened
      ∙ (seated_by_parts tables.charter tables.rules k i (Some (Drawn bundle tickets digits dropped)) drawn (is_there tables.charter kept.charter) (is_there tables.rules kept.rules)
      ∙ member_is_seated tables.register bundle tickets digits dropped i member stayed here)

-- a volunteer of a pool with the ids of a register has the id of the row
pub own_id : (volunteers : List Volunteer) (register : List Entry) (i : ℕ) → ids volunteers ≡ entry_ids register → get_or (entry_ids register) i [] ≡ (volunteer volunteers i).id
own_id volunteers register i same =
    sym (ap (λ (all : List (List ℕ)). get_or all i []) same) ∙ get_or-map (λ (v : Volunteer). v.id) volunteers i (record { id = []; values = []; standing = standing.Gone; household = None })
