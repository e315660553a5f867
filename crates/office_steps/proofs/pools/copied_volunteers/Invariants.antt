use Rattle.std.proofs.Common.{◌≡◌, take}
use Rattle.office_steps.proofs.pools.copied_volunteers.Given as goal

abbrev pub invariant-loop-volunteer : goal.invariant-loop-volunteer
invariant-loop-volunteer l = l.copies.items ≡ take l.volunteer-index l.volunteers
