use Rattle.std.proofs.Common.{◌≡◌, ◌+◌, ◌++◌, drop, map}
use Rattle.serde_json.specs.View.{view}
use Rattle.define_desk.specs.Views.{dropped_from}
use Rattle.office_desk.specs.Bodies.{number_data}
use Rattle.office_desk.proofs.seat_page.dropped_rounds.Given as goal

-- the numbers so far, and those from this round on, are all
abbrev pub invariant-loop-place : goal.invariant-loop-place
invariant-loop-place l = map view l.numbers.items ++ map number_data (dropped_from l.id (drop l.place l.rounds) (l.place + 1)) ≡ map number_data (dropped_from l.id l.rounds 1)
