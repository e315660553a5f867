use Rattle.std.proofs.Common.{◌≡◌, ◌++◌, List, Option, ℕ, length, map, filter, get_or, None, ap, ◌∙◌}
use Rattle.std.specs.List.{range_with_len}
use Rattle.std.proofs.lemmas.List.{take_all}
use Rattle.define_searches.specs.Classes.{shared_household}
use Rattle.define_searches.specs.Compositions.{is_of_household}
use Rattle.define_pools.specs.Pool.{Volunteer, everybody}
use Rattle.check_proofs.specs.Kept.{household_row}
use Rattle.check_proofs.proofs.Rows.{rows_are}
use Rattle.check_proofs.proofs.constraints.push_households.Goals as goal

pub returns : goal.returns
returns c =
    let pool = c.args.pool.now in
    let households = c.args.households.now in
    let items = c.deref-number-items.result.now in
    let before = c.args.rows.now.items in
    let numbers : items ≡ filter (λ i. is_of_household i (get_or households i None)) (range_with_len 0 (length households)) =
    c.deref-number-items.ensures.value ∙ c.in_ok-first_members.ensures in
    c.loop-number.invariant
    ∙ ap (λ those. before ++ map (household_row households) those) (take_all c.loop-number.number-index items c.loop-number-test.false)
    ∙ ap (λ those. before ++ those) (rows_are pool households c.requires items numbers)
