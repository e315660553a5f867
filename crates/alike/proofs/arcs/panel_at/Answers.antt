use Rattle.std.proofs.Common.{◌≡◌, true, filter, ap, ◌∙◌}
use Rattle.std.specs.List.{range_with_len}
use Rattle.define_pools.specs.Lists.{is_increasing}
use Rattle.define_searches.specs.Classes.{volunteer_count}
use Rattle.define_searches.proofs.FirstPanel.{filter_increases}
use Rattle.define_runs.specs.Spreading.{is_given, panel_at, dial}
use Rattle.alike.proofs.Starts.{passing_numbers}
use Rattle.alike.proofs.arcs.panel_at.Goals as goal
use Rattle.alike.proofs.arcs.panel_at.Goals.{After-new}

-- the marked numbers, in rising order, are the panel
module _ (c : After-new) where
  members : c.in_ok-numbers.field-0.items ≡ panel_at c.args.classes.now c.args.counts.now c.args.at
  members =
      let all = c.args.classes.now in let counts = c.args.counts.now in
      passing_numbers (is_given c.args.places c.args.at all.classes counts) (volunteer_count all) c.deref.result.now c.in_ok-numbers.field-0.items (c.deref.ensures.value ∙ c.in_ok-given.ensures) c.in_ok-numbers.ensures
      ∙ ap (λ len. filter (is_given len c.args.at all.classes counts) (range_with_len 0 (volunteer_count all))) c.requires.places

  rises : is_increasing c.in_ok-numbers.field-0.items ≡ true
  rises =
      let all = c.args.classes.now in let counts = c.args.counts.now in
      ap is_increasing members ∙ filter_increases (is_given (dial all counts) c.args.at all.classes counts) 0 (volunteer_count all)

pub unreachable-requires : goal.unreachable-requires
unreachable-requires c =
    let increases : is_increasing c.in_ok-numbers.field-0.items ≡ true = rises (goal.at.unreachable-requires c).After-new in
    let some = rw increases at c.new.ensures in
    let none = c.in-None.is in
    cc

pub returns : goal.returns
returns c =
    let same = members (goal.at.returns c).After-new in
    let increases : is_increasing c.in_ok-numbers.field-0.items ≡ true = rises (goal.at.returns c).After-new in
    let some = rw increases at c.new.ensures in
    let is = c.in-Some.is in
    cc
