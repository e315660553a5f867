-- The caps of a list of stages hold, each after the stages before it. Builds on Certificate of `define_pools`. The laws on trees use it.
use Rattle.std.specs.Prelude.{IsTrue, List, [], ◌∷◌}
use Rattle.define_pools.specs.Certificate.{Stage, is_capped}
use Rattle.define_pools.specs.Pool.{Pool}

-- each stage's cap holds after the stages before it; the list has the latest stage first
abbrev pub EarlierCapsHold : Pool → List Stage → Type 0
EarlierCapsHold pool [] = Unit {0}
EarlierCapsHold pool (stage ∷ earlier) = IsTrue (is_capped pool earlier stage) × EarlierCapsHold pool earlier

-- each stage of the second list has a cap that holds after `earlier` and the stages before it in that list; `earlier` has the latest first
abbrev pub CapsHold : Pool → List Stage → List Stage → Type 0
CapsHold pool earlier [] = Unit {0}
CapsHold pool earlier (stage ∷ later) = IsTrue (is_capped pool earlier stage) × CapsHold pool (stage ∷ earlier) later
