-- The course of a keeper that tells where it is attached, but not its calls; and which of its calls failed.
use Rattle.std.specs.Prelude.{ℕ, Bool, true, false, List, Option, Some, None, Result, Ok, Err}
use Rattle.office_core.specs.declared.keeper.KeeperStop.{KeeperStop}
use Rattle.office_core.specs.declared.keeper.KeeperStop.TheVariants.{Failed, OutOfMemory}
use Rattle.office_core.specs.Keeping.{At, Course, Nowhere, Place}

abbrev pub place_of : Option (List ℕ) → Place
place_of None = Nowhere
place_of (Some path) = At path

abbrev pub course_of : Option (List ℕ) → Course
course_of path = record { place = place_of path; calls = None }

-- true if the call failed with a fault; running out of memory is no fault
abbrev pub has_failed : {T : Type 0} → Result T KeeperStop → Bool
has_failed (Ok value) = false
has_failed (Err Failed) = true
has_failed (Err OutOfMemory) = false
