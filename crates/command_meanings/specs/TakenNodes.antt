-- Evidence that all nodes of a budget were taken. `evidence_of_taken_nodes` (src/taking.rt) gives it for a budget of which no node is left, and
-- nothing else does: this file is private to the specs of its crate, and the field is private to this file, so no text of another crate can make
-- such evidence. As a statement about numbers it says nothing. What it is worth is who can prove it: a body that has such a budget in hand. A new
-- budget has all its nodes, and only `take_node` takes any, one at a call.
use Rattle.std.specs.Prelude.{ℕ, ⊤, refl}
use Rattle.std.specs.Coded.{Coded, prop_coded}

pub record NodesAreTaken (nodes : ℕ) : Type 0 where
  by_a_budget : ⊤

-- the evidence for each number, as `Witness` of src/taking.rt has it
abbrev pub Each : Type 0
Each = (nodes : ℕ) → NodesAreTaken nodes

pub each : Each
each nodes = record { by_a_budget = tt }

pub each_once : IsProp Each
each_once = λ a b. refl

abbrev pub each_code : Coded Each
each_code = prop_coded each_once
