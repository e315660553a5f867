-- Stages, and when they certify a lottery. Builds on Lottery and Pool. The definitions of searches, runs, checks, bundles, proofs, offices
-- and commands use it.
use Rattle.std.specs.Prelude.{◌≡◌, ℕ, nat_lt, nat_le, ◌==◌, Bool, not, ◌||◌, IsTrue, List, [], ◌∷◌, length, filter, fold, ℤ, pos, ◌+ℤ◌, int_lt, int_le, slice_index_or}
use Rattle.std.specs.Ordering.{int_eq}
use Rattle.std.specs.List.{list_all, list_any}
use Rattle.define_pools.specs.Pool.{Pool, everybody, panels}
use Rattle.define_pools.specs.Lottery.{Lottery, IsLottery, count}

-- a weight for each volunteer, which may be negative, and a cap on a panel's weight
pub record Stage : Type 0 where
  pub weights : List ℤ
  pub cap : ℤ

-- the weight of volunteer `i`
abbrev pub weight_of : Stage → ℕ → ℤ
weight_of stage i = slice_index_or stage.weights i (pos 0)

-- the weight of volunteer `i` is above 0
abbrev pub is_positive : Stage → ℕ → Bool
is_positive stage i = int_lt (pos 0) (weight_of stage i)

-- a panel's weight: the sum of its members' weights
abbrev pub panel_weight : Stage → List ℕ → ℤ
panel_weight stage panel = fold (λ sum i. sum +ℤ weight_of stage i) (pos 0) panel

-- volunteer `i` has a weight above 0 in one of the stages
abbrev pub is_settled : List Stage → ℕ → Bool
is_settled stages i = list_any (λ stage. is_positive stage i) stages

-- a panel's weight in each stage is at least that stage's cap
abbrev pub attains : List Stage → List ℕ → Bool
attains stages panel = list_all (λ stage. int_le stage.cap (panel_weight stage panel)) stages

-- the volunteers whom the stages leave unsettled
abbrev pub unsettled : Pool → List Stage → List ℕ
unsettled pool earlier = filter (λ i. not (is_settled earlier i)) (everybody pool)

-- the volunteers whom a stage settles
abbrev pub settling : Pool → List Stage → Stage → List ℕ
settling pool earlier stage = filter (is_positive stage) (unsettled pool earlier)

-- no quota panel that attains the earlier caps weighs more than the cap
abbrev pub is_capped : Pool → List Stage → Stage → Bool
is_capped pool earlier stage = list_all (λ panel. not (attains earlier panel) || int_le (panel_weight stage panel) stage.cap) (panels pool)

-- what a stage must meet, after earlier stages
pub record StageHolds (pool : Pool) (lottery : Lottery) (earlier : List Stage) (stage : Stage) : Type 0 where
  -- there is a weight for each volunteer
  pub one_each : length stage.weights ≡ length pool.volunteers
  -- nobody who is unsettled has a weight below 0
  pub none_negative : IsTrue (list_all (λ i. int_le (pos 0) (weight_of stage i)) (unsettled pool earlier))
  -- somebody who is unsettled has a weight above 0
  pub some_positive : IsTrue (nat_lt 0 (length (settling pool earlier stage)))
  -- all whom the stage settles have one count
  pub common_count : ℕ
  pub same_count : IsTrue (list_all (λ i. count lottery i == common_count) (settling pool earlier stage))
  -- nobody who is unsettled has a lower count
  pub least_count : IsTrue (list_all (λ i. nat_le common_count (count lottery i)) (unsettled pool earlier))
  -- no quota panel that attains the earlier caps weighs more than the cap
  pub capped : IsTrue (is_capped pool earlier stage)
  -- each panel of the lottery weighs the cap
  pub reached : IsTrue (list_all (λ row. int_eq (panel_weight stage row.panel) stage.cap) lottery.rows)

-- each of the later stages holds after `earlier` and the later stages before it, and at the end everybody is settled
abbrev pub StagesHold : Pool → Lottery → List Stage → List Stage → Type 0
StagesHold pool lottery earlier [] = IsTrue (list_all (is_settled earlier) (everybody pool))
StagesHold pool lottery earlier (stage ∷ later) =
    StageHolds pool lottery earlier stage × StagesHold pool lottery (stage ∷ earlier) later

-- the lottery is one over the quota panels of the pool, and its stages hold. So it is leximin greatest (`certified_is_greatest`)
pub record Certifies (pool : Pool) (lottery : Lottery) (stages : List Stage) : Type 0 where
  pub is_lottery : IsLottery pool lottery
  pub stages_hold : StagesHold pool lottery [] stages

-- a lottery, and the stages that are to certify it
pub record Answer : Type 0 where
  pub lottery : Lottery
  pub stages : List Stage
