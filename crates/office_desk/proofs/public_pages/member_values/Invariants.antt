use Rattle.std.proofs.Common.{◌≡◌, map, take}
use Rattle.serde_json.specs.Data.{string}
use Rattle.serde_json.specs.View.{view}
use Rattle.define_draws.specs.Lines.{member_ids}
use Rattle.office_desk.proofs.public_pages.member_values.Given as goal

-- the ids of the members so far
abbrev pub invariant-loop-number : goal.invariant-loop-number
invariant-loop-number l = map view l.values.items ≡ map string (member_ids l.pool (take l.number-index l.number-items))
