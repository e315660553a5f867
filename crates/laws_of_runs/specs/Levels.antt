-- Closed stages with their levels. If each chance is a sum of levels, the stages hold.
use Rattle.std.specs.Prelude.{◌≡◌, ℕ, ◌+◌, ◌*◌, ◌<◌, if◌then◌else◌, true, false, IsTrue, List, [], ◌∷◌, length, map, pos, int_le}
use Rattle.std.specs.List.{AllByRecursion, list_all}
use Rattle.define_pools.specs.Certificate.{Stage, StagesHold, is_capped, is_positive, is_settled, panel_weight, weight_of}
use Rattle.define_pools.specs.Lottery.{Lottery, count}
use Rattle.define_pools.specs.Pool.{Pool, everybody}

-- a closed stage and its level times a scale that all stages share
pub record Closed : Type 0 where
  pub stage : Stage
  pub level : ℕ

-- the sum of the levels of the later stages at which volunteer i is unsettled
abbrev pub levels_to_come : List Stage → List Closed → ℕ → ℕ
levels_to_come earlier [] i = 0
levels_to_come earlier (closed ∷ later) i = (if is_settled earlier i then 0 else closed.level) + levels_to_come (closed.stage ∷ earlier) later i

-- `stage` satisfies each condition on a stage after the stages `earlier`, except those on counts
pub record StageStands (pool : Pool) (lottery : Lottery) (earlier : List Stage) (stage : Stage) : Type 0 where
  -- there is a weight for each volunteer
  pub one_each : length stage.weights ≡ length pool.volunteers
  -- nobody who is unsettled has a weight below 0
  pub none_negative : (i : ℕ) → i < length pool.volunteers → is_settled earlier i ≡ false → int_le (pos 0) (weight_of stage i) ≡ true
  -- somebody who is unsettled has a weight above 0
  pub somebody : ℕ
  pub in_pool : somebody < length pool.volunteers
  pub not_settled : is_settled earlier somebody ≡ false
  pub positive : is_positive stage somebody ≡ true
  -- no quota panel that attains the earlier caps weighs more than the cap
  pub capped : IsTrue (is_capped pool earlier stage)
  -- each panel of the lottery weighs the cap
  pub reached : AllByRecursion (λ row. panel_weight stage row.panel ≡ stage.cap) lottery.rows

-- each stage satisfies `StageStands` after the stages before it, and at the end everybody is settled
abbrev pub StagesStand : Pool → Lottery → List Stage → List Closed → Type 0
StagesStand pool lottery earlier [] = IsTrue (list_all (is_settled earlier) (everybody pool))
StagesStand pool lottery earlier (closed ∷ later) = StageStands pool lottery earlier closed.stage × StagesStand pool lottery (closed.stage ∷ earlier) later

-- each volunteer's count, times `scale`, is the total times the sum of the levels of the stages at which the volunteer is unsettled
abbrev pub CountsAreLevels : Pool → Lottery → ℕ → List Closed → Type 0
CountsAreLevels pool lottery scale closed = (i : ℕ) → i < length pool.volunteers → count lottery i * scale ≡ lottery.total * levels_to_come [] closed i

-- if `StagesStand` and `CountsAreLevels` hold of closed stages, with a scale above 0, the stages hold of the lottery
abbrev pub LevelsMakeStages : Type 0
LevelsMakeStages = (pool : Pool) (lottery : Lottery) (scale : ℕ) (closed : List Closed) → 0 < scale → StagesStand pool lottery [] closed → CountsAreLevels pool lottery scale closed →
    StagesHold pool lottery [] (map (λ closed. closed.stage) closed)
