-- Closed stages hold if each volunteer's chance is the sum of the levels of the stages at which the volunteer was unsettled.
use Rattle.std.proofs.Common.{◌≡◌, ℕ, ◌+◌, ◌*◌, ◌≤◌, ◌<◌, Bool, true, false, ◌||◌, List, [], ◌∷◌, length, map, refl, sym, ◌∙◌, subst, arith, mul-le-mul_left, le_of_mul-le-mul_right}
use Rattle.std.proofs.lemmas.Bool.{false≢true}
use Rattle.define_pools.specs.Pool.{Pool}
use Rattle.define_pools.specs.Lottery.{Lottery, count}
use Rattle.define_pools.specs.Certificate.{Stage, is_positive, is_settled, StageHolds, StagesHold}
use Rattle.define_pools.proofs.OneStage.{cancel}
use Rattle.laws_of_runs.specs.Levels.{Closed, CountsAreLevels, StageStands, StagesStand, levels_to_come}
use Rattle.laws_of_runs.proofs.StageFacts.{holds_from_facts}

-- if a volunteer is settled, the levels of later stages add nothing for this volunteer
no_more_levels : (earlier : List Stage) (later : List Closed) (i : ℕ) → is_settled earlier i ≡ true → levels_to_come earlier later i ≡ 0
no_more_levels earlier [] i s = refl
no_more_levels earlier (closed ∷ later) i s =
    let still : is_settled (closed.stage ∷ earlier) i ≡ true = after (is_positive closed.stage i) in
    let rest = no_more_levels (closed.stage ∷ earlier) later i still in rw s (omega (arith, rest))
  where
    after : (b : Bool) → (b || is_settled earlier i) ≡ true
    after true = refl
    after false = s

before : (a b : Bool) → (a || b) ≡ false → b ≡ false
before true b h = absurd (false≢true (sym h))
before false b h = h

module _ (pool : Pool) (lottery : Lottery) (scale : ℕ) (some : 0 < scale) where
  -- each unsettled volunteer's count, times the scale, is the total times a sum: Z, which is the sum of the levels so far, plus the levels
  -- of later stages
  Rest : List Stage → List Closed → ℕ → Type 0
  Rest earlier later Z = (i : ℕ) → i < length pool.volunteers → is_settled earlier i ≡ false → count lottery i * scale ≡ lottery.total * (Z + levels_to_come earlier later i)

  next : (earlier : List Stage) (closed : Closed) (later : List Closed) (Z : ℕ) → Rest earlier (closed ∷ later) Z → Rest (closed.stage ∷ earlier) later (Z + closed.level)
  unfolding Rest
  next earlier closed later Z rest i l u =
      let was : is_settled earlier i ≡ false = before (is_positive closed.stage i) (is_settled earlier i) u in
      let here : count lottery i * scale ≡ lottery.total * (Z + (closed.level + levels_to_come (closed.stage ∷ earlier) later i)) = rw was at (rest i l was) in
      omega (arith, here)

  stage_holds : (earlier : List Stage) (closed : Closed) (later : List Closed) (Z : ℕ) → StageStands pool lottery earlier closed.stage → Rest earlier (closed ∷ later) Z → StageHolds pool lottery earlier closed.stage
  unfolding Rest
  stage_holds earlier closed later Z facts rest = holds_from_facts pool lottery earlier closed.stage (count lottery facts.somebody) (record {
    one_each = facts.one_each;
    none_negative = facts.none_negative;
    somebody = facts.somebody;
    in_pool = facts.in_pool;
    not_settled = facts.not_settled;
    positive = facts.positive;
    same_count = λ i l u p. cancel (count lottery i) (count lottery facts.somebody) scale some (settles i l u p ∙ sym (settles facts.somebody facts.in_pool facts.not_settled facts.positive));
    least_count = λ i l u. le_of_mul-le-mul_right (subst (λ z. z ≤ count lottery i * scale) (sym (settles facts.somebody facts.in_pool facts.not_settled facts.positive)) (at_least i l u)) some;
    capped = facts.capped;
    reached = facts.reached;
  })
    where
      settles : (i : ℕ) → i < length pool.volunteers → is_settled earlier i ≡ false → is_positive closed.stage i ≡ true → count lottery i * scale ≡ lottery.total * (Z + closed.level)
      settles i l u p =
          let here : count lottery i * scale ≡ lottery.total * (Z + (closed.level + levels_to_come (closed.stage ∷ earlier) later i)) = rw u at (rest i l u) in
          let now : is_settled (closed.stage ∷ earlier) i ≡ true = rw p refl in
          let none = no_more_levels (closed.stage ∷ earlier) later i now in
          let short : count lottery i * scale ≡ lottery.total * (Z + (closed.level + 0)) = rw none at here in omega (arith, short)

      at_least : (i : ℕ) → i < length pool.volunteers → is_settled earlier i ≡ false → lottery.total * (Z + closed.level) ≤ count lottery i * scale
      at_least i l u =
          let here : count lottery i * scale ≡ lottery.total * (Z + (closed.level + levels_to_come (closed.stage ∷ earlier) later i)) = rw u at (rest i l u) in
          let more : Z + closed.level ≤ Z + (closed.level + levels_to_come (closed.stage ∷ earlier) later i) = omega arith in
          rw here (mul-le-mul_left lottery.total more)

  stages_hold : (earlier : List Stage) (later : List Closed) (Z : ℕ) → StagesStand pool lottery earlier later → Rest earlier later Z → StagesHold pool lottery earlier (map (λ closed. closed.stage) later)
  stages_hold earlier [] Z hold rest = hold
  stages_hold earlier (closed ∷ later) Z hold rest =
      (stage_holds earlier closed later Z hold.0 rest, stages_hold (closed.stage ∷ earlier) later (Z + closed.level) hold.1 (next earlier closed later Z rest))

  -- closed stages hold of a lottery if `StagesStand` and `CountsAreLevels` hold of them
  pub holds_from_levels : (closed : List Closed) → StagesStand pool lottery [] closed → CountsAreLevels pool lottery scale closed → StagesHold pool lottery [] (map (λ closed. closed.stage) closed)
  unfolding Rest
  holds_from_levels closed hold levels = stages_hold [] closed 0 hold (λ i l u. let e = levels i l in omega (arith, e))
