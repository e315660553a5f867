-- A path of decisions in a tree, and the standings after its decisions.
use Rattle.std.specs.Prelude.{◌≡◌, Bool, true, ◌&&◌, IsTrue, List, [], ◌∷◌, Option, Some, None}
use Rattle.define_pools.specs.declared.Standing.{Standing}
use Rattle.define_pools.specs.Pool.{Pool}
use Rattle.define_proofs.specs.Leaves.{standings}
use Rattle.define_proofs.specs.TreeLines.{Decision, standings_at}
use Rattle.define_proofs.specs.Trees.{is_undecided}

-- decisions over a pool, the latest first
pub record Path : Type 0 where
  pub pool : Pool
  pub decisions : List Decision

-- the pool's standings after the path's decisions
abbrev pub reached : Path → List Standing
reached path = standings_at (standings path.pool) path.decisions

-- each decision is on a volunteer who is undecided at the path before it
abbrev pub each_undecided : List Standing → List Decision → Bool
each_undecided standings [] = true
each_undecided standings (decision ∷ path) = is_undecided (standings_at standings path) decision.volunteer && each_undecided standings path

-- `kept` are the standings after the path's decisions, each of which is on a volunteer who was undecided before it
pub record KeepsStandings (path : Path) (kept : List Standing) : Type 0 where
  pub same : kept ≡ reached path
  pub undecided : IsTrue (each_undecided (standings path.pool) path.decisions)

-- a path with one more decision
abbrev pub with_decision : Path → Decision → Path
with_decision path decision = record path { decisions = decision ∷ path.decisions }

-- undoing returns the latest decision and removes it from the path, which leaves its volunteer undecided. Without a decision it returns
-- None
abbrev pub Undoes : Option Decision → Path → Path → Type 0
Undoes None old new = (old.decisions ≡ []) × (new ≡ old)
Undoes (Some decision) old new = (old ≡ with_decision new decision) × IsTrue (is_undecided (reached new) decision.volunteer)
