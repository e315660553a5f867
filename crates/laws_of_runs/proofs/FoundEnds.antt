-- A run that finds an answer reaches a table with no stage open and all classes settled. The answer spreads this table's columns.
use Rattle.std.proofs.Common.{◌≡◌, ℕ, ◌≤◌, Bool, true, false, length, map, Result, Ok, Err, refl, sym, ap, ◌∙◌, subst, inl, inr, ◌⊎◌}
use Rattle.std.proofs.lemmas.Bool.{false≢true}
use Rattle.define_pools.specs.Certificate.{Answer}
use Rattle.define_pools.specs.Lottery.{Lottery, IsLottery}
use Rattle.define_pools.specs.Pool.{Pool, IsPool}
use Rattle.define_rows.specs.InOrder.{settled_count}
use Rattle.define_rows.specs.Table.{Table}
use Rattle.define_searches.specs.Classes.{Classes, MakesClasses, classes_by}
use Rattle.define_searches.proofs.Limits.{limits_kept}
use Rattle.define_runs.specs.Spreading.{AreParts, TotalPass, greatest_total, spread}
use Rattle.define_runs.proofs.Lotteries.{is_spread, pool_lottery}
use Rattle.define_runs.specs.Keeps.{AreRunLimits, IsReached, KeepsRun}
use Rattle.define_runs.specs.Run.{Ends, RunLimits, Ended, Found, NoPanel, answered, closed_rows, opening, parts_of, stage_of}
use Rattle.define_runs.proofs.Kept.{reached_kept}
use Rattle.define_runs.proofs.Parts.{parts_are}
use Rattle.laws_of_runs.proofs.Endings.{EndsAt, FindsNone, IsAnswered, ends_at, is_refused, opening_tells, step_tells}

-- `last` is the last table of a run that finds `answer`
pub record EndsFound (all : Classes) (limits : RunLimits) (last : Table) (answer : Answer) : Type 0 where
  pub reached : IsReached all limits last
  pub shut : last.in_stage ≡ false
  pub settled : length last.sizes ≤ settled_count last
  pub lottery_is : spread all (parts_of last) ≡ Ok answer.lottery
  pub stages_are : map (stage_of all) (closed_rows last) ≡ answer.stages

module _ (all : Classes) (limits : RunLimits) (last : Table) (answer : Answer) where
  not_none : Found last answer ≡ NoPanel → ⊥
  not_none e = cc

  of_answer : (table : Table) → IsReached all limits table → IsAnswered all limits table (Found last answer) → EndsFound all limits last answer
  of_answer table reached told = by (spread all (parts_of table)) refl told.is
    where
      by : (found : Result Lottery TotalPass) → spread all (parts_of table) ≡ found → Found last answer ≡ answered all table found → EndsFound all limits last answer
      by (Ok lottery) e f =
          let here : table ≡ last = cc in
          let same : ◌≡◌ {A = Answer} answer (record { lottery = lottery; stages = map (stage_of all) (closed_rows table) }) = cc in
          subst (λ table. EndsFound all limits table answer) here (record {
            reached = reached;
            shut = told.shut;
            settled = told.settled;
            lottery_is = e ∙ ap (λ (answer : Answer). Ok answer.lottery) (sym same);
            stages_are = ap (λ (answer : Answer). answer.stages) (sym same);
          })
      by (Err pass) e f = absurd cc

  of_opening : FindsNone all limits (Found last answer) ⊎ (is_refused (Found last answer) ≡ true) → ⊥
  of_opening (inl found) = not_none found.is
  of_opening (inr refused) = false≢true refused

  of_step : (table : Table) → IsReached all limits table → IsAnswered all limits table (Found last answer) ⊎ (is_refused (Found last answer) ≡ true) → EndsFound all limits last answer
  of_step table reached (inl told) = of_answer table reached told
  of_step table reached (inr refused) = absurd (false≢true refused)

  pub ends_found : Ends all limits (Found last answer) → EndsFound all limits last answer
  ends_found ends = by (ends_at all limits ends.steps (Found last answer) ends.there)
    where
      by : (opening all limits ≡ Ended (Found last answer)) ⊎ EndsAt all limits (Found last answer) → EndsFound all limits last answer
      by (inl now) = absurd (of_opening (opening_tells all limits (Found last answer) now))
      by (inr at) = of_step at.last at.reached (step_tells all limits at.last (Found last answer) at.step_is)

-- ---- a run over the classes of a pool

module _ (pool : Pool) (alike : ℕ → ℕ → Bool) (makes : MakesClasses pool alike) (limits : RunLimits) (last : Table) (answer : Answer) (is_pool : IsPool pool) (ranges : AreRunLimits limits)
    (ends : Ends (classes_by alike pool) limits (Found last answer)) where
  abbrev all : Classes
  all = classes_by alike pool

  pub found : EndsFound all limits last answer
  found = ends_found all limits last answer ends

  pub keeps : KeepsRun all limits last
  keeps = reached_kept all limits (limits_kept pool alike is_pool makes) ranges last found.reached

  pub parts : AreParts all (parts_of last)
  parts = parts_are all limits last keeps

  pub lottery : IsLottery pool answer.lottery
  lottery = pool_lottery pool alike makes (parts_of last) answer.lottery parts found.lottery_is

  pub within : answer.lottery.total ≤ greatest_total
  within = (is_spread all (parts_of last) answer.lottery parts found.lottery_is).common.within
