use Rattle.std.proofs.Common.{◌≡◌, ℕ, ◌<◌, true, Some}
use Rattle.std.specs.Prelude.{slice_get}
use Rattle.define_searches.specs.Classes.{Class}
use Rattle.define_searches.specs.Compositions.{takes_one_of}
use Rattle.quota_loosen.proofs.tally.Tally.homes_alive.Given as goal

abbrev pub invariant-loop-class : goal.invariant-loop-class
invariant-loop-class l = (i : ℕ) (class : Class) → i < l.class-index → slice_get l.classes.classes i ≡ Some class → takes_one_of l.classes.classes l.front class.household ≡ true
