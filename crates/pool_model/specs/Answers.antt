-- The results that a step of building a pool may have. The builder's contracts cite it.
use Rattle.std.specs.Prelude.{◌≡◌, ℕ, Option, Some, None, Result, Ok, Err}
use Rattle.pool_model.specs.declared.building.BuildStop.{BuildStop}
use Rattle.pool_model.specs.declared.building.BuildStop.TheVariants.{Kind, OutOfMemory}

-- `kind` is the lowest kind of fault that applies, or None if none does. The step succeeds or runs out of memory only if `kind` is None,
-- and stops with a kind only if that is `kind`
abbrev pub Answers : {T : Type 0} → Option ℕ → Result T BuildStop → Type 0
Answers kind (Ok done) = kind ≡ None
Answers kind (Err (Kind told)) = kind ≡ Some told
Answers kind (Err OutOfMemory) = kind ≡ None
