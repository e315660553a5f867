-- Standings that are set one by one, from the first volunteer on.
use Rattle.std.proofs.Common.{◌≡◌, ℕ, zero, suc, ◌+◌, ◌<◌, ◌≤◌, Bool, false, List, [], ◌∷◌, map, length, get_or, refl, ap, ◌∙◌, arith, add-zero}
use Rattle.define_pools.specs.declared.Standing.{Standing}
use Rattle.define_pools.specs.declared.Standing.TheVariants as standing
use Rattle.define_pools.specs.Building.{standing_set, with_standing}
use Rattle.define_pools.specs.Pool.{Pool, Volunteer}
use Rattle.define_offices.specs.Tables.{Entry}
use Rattle.define_offices.specs.Pools.{after_withdrawals, has_withdrawn, restood, restood_pool, standing_of}
use Rattle.rounds.specs.Next.{standing_marked}

-- volunteers, numbered from `i`, of whom the first `count` have the standing that `other` returns for their number and old standing
abbrev pub restood_to : (ℕ → Standing → Standing) → ℕ → ℕ → List Volunteer → List Volunteer
restood_to other i zero volunteers = volunteers
restood_to other i (suc count) [] = []
restood_to other i (suc count) (volunteer ∷ volunteers) = record volunteer { standing = other i volunteer.standing } ∷ restood_to other (i + 1) count volunteers

abbrev pub restood_pool_to : (ℕ → Standing → Standing) → ℕ → Pool → Pool
restood_pool_to other count pool = record pool { volunteers = restood_to other 0 count pool.volunteers }

module _ (other : ℕ → Standing → Standing) where
  restood_to-all : (i count : ℕ) (volunteers : List Volunteer) → length volunteers ≤ count → restood_to other i count volunteers ≡ restood other i volunteers
  restood_to-all i zero [] h = refl
  restood_to-all i zero (v ∷ volunteers) h = absurd (omega arith)
  restood_to-all i (suc count) [] h = refl
  restood_to-all i (suc count) (v ∷ volunteers) h = ap (λ rest. record v { standing = other i v.standing } ∷ rest) (restood_to-all (i + 1) count volunteers (omega arith))

  pub length-restood_to : (i count : ℕ) (volunteers : List Volunteer) → length (restood_to other i count volunteers) ≡ length volunteers
  length-restood_to i zero volunteers = refl
  length-restood_to i (suc count) [] = refl
  length-restood_to i (suc count) (v ∷ volunteers) = ap suc (length-restood_to (i + 1) count volunteers)

  -- after `count` standings are set, the next volunteer still has the standing from before
  pub restood_to-next : (i count : ℕ) (volunteers : List Volunteer) (d : Volunteer) → get_or (restood_to other i count volunteers) count d ≡ get_or volunteers count d
  restood_to-next i zero volunteers d = refl
  restood_to-next i (suc count) [] d = refl
  restood_to-next i (suc count) (v ∷ volunteers) d = restood_to-next (i + 1) count volunteers d

  restood_to-suc : (i count : ℕ) (volunteers : List Volunteer) (d : Volunteer) → count < length volunteers →
      with_standing (restood_to other i count volunteers) count (other (i + count) (get_or volunteers count d).standing) ≡ restood_to other i (suc count) volunteers
  restood_to-suc i zero [] d h = absurd (omega arith)
  restood_to-suc i zero (v ∷ volunteers) d h = rw (add-zero i) refl
  restood_to-suc i (suc count) [] d h = absurd (omega arith)
  restood_to-suc i (suc count) (v ∷ volunteers) d h =
      let same : i + suc count ≡ (i + 1) + count = omega arith in
      rw same (ap (λ rest. record v { standing = other i v.standing } ∷ rest) (restood_to-suc (i + 1) count volunteers d (omega arith)))

  pub restood_pool_to-all : (count : ℕ) (pool : Pool) → length pool.volunteers ≤ count → restood_pool_to other count pool ≡ restood_pool other pool
  restood_pool_to-all count pool h = ap (λ volunteers. record pool { volunteers = volunteers }) (restood_to-all 0 count pool.volunteers h)

  -- setting the standing of volunteer `count` yields the pool with `count + 1` standings set
  pub restood_pool_to-more : (count : ℕ) (pool : Pool) (d : Volunteer) → count < length pool.volunteers →
      record pool { volunteers = with_standing (restood_to other 0 count pool.volunteers) count (other count (get_or pool.volunteers count d).standing) } ≡ restood_pool_to other (count + 1) pool
  restood_pool_to-more count pool d h =
      let zero_on : 0 + count ≡ count = omega arith in
      let more : suc count ≡ count + 1 = omega arith in
      ap (λ volunteers. record pool { volunteers = volunteers }) (rw zero_on at (rw more at (restood_to-suc 0 count pool.volunteers d h)))

  pub length-next : (count : ℕ) (pool next : Pool) → next ≡ restood_pool_to other count pool → length next.volunteers ≡ length pool.volunteers
  length-next count pool next h = ap (λ (p : Pool). length p.volunteers) h ∙ length-restood_to 0 count pool.volunteers

  -- if `count` standings of a pool are set, and that of volunteer `count` is set next, `count + 1` are set
  pub next-more : (count : ℕ) (pool next later : Pool) (d : Volunteer) (s : Standing) → next ≡ restood_pool_to other count pool → count < length pool.volunteers →
      s ≡ other count (get_or pool.volunteers count d).standing → later ≡ standing_set next count s → later ≡ restood_pool_to other (count + 1) pool
  next-more count pool next later d s h k e set =
      set ∙ (ap (λ (p : Pool). standing_set p count s) h ∙ (ap (λ (t : Standing). standing_set (restood_pool_to other count pool) count t) e ∙ restood_pool_to-more count pool d k))

  -- volunteer `count`, whom the loop has not yet passed, has the standing from before
  pub next-same : (count : ℕ) (pool next : Pool) (d : Volunteer) → next ≡ restood_pool_to other count pool → get_or next.volunteers count d ≡ get_or pool.volunteers count d
  next-same count pool next d h = ap (λ (p : Pool). get_or p.volunteers count d) h ∙ restood_to-next 0 count pool.volunteers d

-- ---- withdrawals by marks

has_withdrawn-marks : (register : List Entry) (i : ℕ) → get_or (map (λ (entry : Entry). entry.withdrawn) register) i false ≡ has_withdrawn register i
has_withdrawn-marks [] i = refl
has_withdrawn-marks (entry ∷ register) zero = refl
has_withdrawn-marks (entry ∷ register) (suc i) = has_withdrawn-marks register i

same_standing : (register : List Entry) (i : ℕ) (s : Standing) → standing_marked (map (λ (entry : Entry). entry.withdrawn) register) i s ≡ after_withdrawals register i s
same_standing register i standing.Open = ap standing_of (has_withdrawn-marks register i)
same_standing register i standing.Seated = refl
same_standing register i standing.Gone = refl

restood-same : (one other : ℕ → Standing → Standing) → ((i : ℕ) (s : Standing) → one i s ≡ other i s) → (i : ℕ) (volunteers : List Volunteer) → restood one i volunteers ≡ restood other i volunteers
restood-same one other same i [] = refl
restood-same one other same i (v ∷ volunteers) = rw (same i v.standing, restood-same one other same (i + 1) volunteers) refl

-- if the marks equal a register's withdrawals, they set the same standings as the register
pub withdrawn_by_marks : (register : List Entry) (marks : List Bool) (pool : Pool) → map (λ (entry : Entry). entry.withdrawn) register ≡ marks →
    restood_pool (standing_marked marks) pool ≡ restood_pool (after_withdrawals register) pool
withdrawn_by_marks register marks pool h =
    rw (← h) (ap (λ volunteers. record pool { volunteers = volunteers }) (restood-same (standing_marked (map (λ (entry : Entry). entry.withdrawn) register)) (after_withdrawals register) (same_standing register) 0 pool.volunteers))
