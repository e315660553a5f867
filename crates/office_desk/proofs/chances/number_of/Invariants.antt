use Rattle.std.proofs.Common.{◌≡◌, drop}
use Rattle.define_desk.specs.Desk.{number_of}
use Rattle.office_desk.proofs.chances.number_of.Given as goal

-- none of the volunteers whom the loop has passed has the id, so the search from here on finds the same number as the whole search
abbrev pub invariant-loop-number : goal.invariant-loop-number
invariant-loop-number l = number_of l.id l.volunteers 0 ≡ number_of l.id (drop l.number l.volunteers) l.number
