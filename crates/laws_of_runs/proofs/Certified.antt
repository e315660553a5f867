-- The stages that a run finds certify its lottery.
use Rattle.std.proofs.Common.{◌≡◌, ℕ, zero, suc, ◌+◌, ◌*◌, ◌<◌, Bool, false, true, not, List, [], map, length, ℤ, pos, ◌<ℤ◌, ◌≤ℤ◌, refl, sym, ap, ◌∙◌, subst, arith}
use Rattle.std.specs.Prelude.{int_le}
use Rattle.std.specs.List.{list_all, range_with_len}
use Rattle.std.proofs.lemmas.Int.{ints}
use Rattle.std.proofs.lemmas.List.Sums.{count_by-le-length}
use Rattle.define_pools.proofs.Lists.{map-map}
use Rattle.define_pools.specs.Certificate.{Answer, Certifies, StagesHold, is_settled}
use Rattle.define_pools.specs.Pool.{IsPool, Pool, everybody}
use Rattle.define_rows.specs.Levels.{HasLevels}
use Rattle.define_rows.specs.Settled.{KeepsStages, closed_entry, was_unsettled}
use Rattle.define_rows.specs.Table.{Table}
use Rattle.define_rows.proofs.Levels.{settled-levels}
use Rattle.define_searches.specs.Classes.{Classes, MakesClasses, class_number, classes_by, leaders}
use Rattle.define_searches.proofs.ClassNumbers.{class_count, leader_at, leader_below, leader_number}
use Rattle.define_searches.proofs.Limits.{limits_kept}
use Rattle.define_runs.specs.Keeps.{AreRunLimits, KeepsRun}
use Rattle.define_runs.specs.Run.{Ends, Found, RunLimits, stage_of}
use Rattle.laws_of_runs.specs.Levels.{Closed, CountsAreLevels, StageStands, StagesStand}
use Rattle.laws_of_runs.proofs.ClosedStages.{capped, closed_row, closed_rows_are, earlier, stage_at}
use Rattle.laws_of_runs.proofs.FoundEnds.{EndsFound, found, keeps, lottery}
use Rattle.laws_of_runs.proofs.Levels.{holds_from_levels}
use Rattle.laws_of_runs.proofs.LotteryCounts.{caps_reached, closed_at, counts_are, levels_are}
use Rattle.laws_of_runs.proofs.Marks.{all_settled, marked, positive_at, was_left, within}
use Rattle.laws_of_runs.proofs.StageRows.{one_weight_each, weight_is_entry}
use Rattle.laws_of_runs.proofs.StagesKept.{reached_stages}

module _ (pool : Pool) (alike : ℕ → ℕ → Bool) (makes : MakesClasses pool alike) (limits : RunLimits) (last : Table) (answer : Answer) (is_pool : IsPool pool) (ranges : AreRunLimits limits)
    (ends : Ends (classes_by alike pool) limits (Found last answer)) where
  abbrev all : Classes
  all = classes_by alike pool

  abbrev closed_count : ℕ
  closed_count = length last.closed

  abbrev class_at : ℕ → ℕ
  class_at i = class_number all.classes i

  is_found : EndsFound all limits last answer
  is_found = found pool alike makes limits last answer is_pool ranges ends

  kept : KeepsRun all limits last
  kept = keeps pool alike makes limits last answer is_pool ranges ends

  stages : KeepsStages last
  stages = reached_stages all limits (limits_kept pool alike is_pool makes) ranges last is_found.reached

  shut : last.in_stage ≡ false
  shut = is_found.shut

  -- ---- one stage

  module _ (k : ℕ) (l : k < closed_count) where
    -- a class that stage k settles
    abbrev settling : ℕ
    settling = (stages.some_above k l).0

    inside : settling < length (leaders alike (length pool.volunteers))
    inside = omega (arith, within pool alike makes limits last kept stages shut k settling l (stages.some_above k l).1.unsettled, class_count pool alike makes)

    -- the first member of class `settling`
    abbrev one : ℕ
    one = leader_at pool alike makes settling

    below : one < length pool.volunteers
    below = leader_below pool alike makes settling inside

    number : class_at one ≡ settling
    number = leader_number pool alike makes settling inside

    at_least : (z : ℤ) → pos 0 ≤ℤ z → int_le (pos 0) z ≡ true
    at_least z low = by (int_le (pos 0) z) refl
      where
        by : (b : Bool) → int_le (pos 0) z ≡ b → b ≡ true
        by true t = refl
        by false t = absurd (omega (arith, ints, low, t))

    stands_at : StageStands pool answer.lottery (earlier all last k) (stage_at all last k)
    stands_at = record {
      one_each = one_weight_each pool alike makes (closed_row last k);
      none_negative = λ i m s.
          ap (int_le (pos 0)) (weight_is_entry pool alike makes (closed_row last k) i m)
          ∙ at_least (closed_entry last k (class_at i)) (stages.none_below k (class_at i) l (was_left pool alike makes limits last kept stages shut k i l m s));
      somebody = one;
      in_pool = below;
      not_settled = marked pool alike makes limits last kept stages shut k one l below ∙ ap (λ t. not (was_unsettled last k t)) number ∙ ap not (stages.some_above k l).1.unsettled;
      positive = positive_at pool alike makes limits last kept stages shut k one below (subst (λ t. pos 0 <ℤ closed_entry last k t) (sym number) (stages.some_above k l).1.above);
      capped = capped pool alike makes limits last kept k l;
      reached = caps_reached pool alike makes limits last kept answer.lottery is_found.lottery_is k l;
    }

  -- ---- all stages

  levels : HasLevels last
  levels = settled-levels last (record {
    in_order = kept.in_order;
    stages = stages;
    shut = shut;
    settled = omega (arith, count_by-le-length (λ (s : Bool). s) last.settled, kept.in_order.settled_each, is_found.settled);
  })

  abbrev closed : List Closed
  closed = map (closed_at all last levels.level) (range_with_len 0 closed_count)

  stand_from : (more k : ℕ) → k + more ≡ closed_count → StagesStand pool answer.lottery (earlier all last k) (map (closed_at all last levels.level) (range_with_len k more))
  stand_from zero k e =
      let same : closed_count ≡ k = omega arith in
      subst (λ k. list_all (is_settled (earlier all last k)) (everybody pool) ≡ true) same (all_settled pool alike makes limits last kept stages shut is_found.settled)
  stand_from (suc more) k e =
      let next : k + 1 ≡ suc k = omega arith in (
        stands_at k (omega arith),
        subst (λ n. StagesStand pool answer.lottery (earlier all last n) (map (closed_at all last levels.level) (range_with_len (k + 1) more))) next (stand_from more (k + 1) (omega arith)),
      )

  counts_levels : CountsAreLevels pool answer.lottery levels.scale closed
  counts_levels i l =
      counts_are pool alike makes limits last kept answer.lottery is_found.lottery_is levels i l
      ∙ ap (λ n. answer.lottery.total * n) (sym (levels_are pool alike makes limits last kept stages shut levels.level i l))

  stages_are : map (λ closed. closed.stage) closed ≡ answer.stages
  stages_are =
      map-map (λ (closed : Closed). closed.stage) (closed_at all last levels.level) (range_with_len 0 closed_count)
      ∙ sym (map-map (stage_of all) (closed_row last) (range_with_len 0 closed_count))
      ∙ ap (map (stage_of all)) (closed_rows_are last)
      ∙ is_found.stages_are

  pub found_certified : Certifies pool answer.lottery answer.stages
  found_certified = record {
    is_lottery = lottery pool alike makes limits last answer is_pool ranges ends;
    stages_hold = subst (StagesHold pool answer.lottery []) stages_are
        (holds_from_levels pool answer.lottery levels.scale levels.some_scale closed (stand_from closed_count 0 (omega arith)) counts_levels);
  }
