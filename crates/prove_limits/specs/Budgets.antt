-- The budget of a run: how much it may spend, and what of that is left. Most crates of the engine, and those above it, cite `SpendsOn`.
use Rattle.std.specs.Prelude.{◌≡◌, ℕ, ◌≤◌}

-- how many pivots and nodes are left, and how many the whole run may spend
pub record Left : Type 0 where
  pub pivots : ℕ
  pub nodes : ℕ
  pub most_pivots : ℕ
  pub most_nodes : ℕ

-- an unspent budget: all is left
abbrev pub unspent : ℕ → ℕ → Left
unspent pivots nodes = record { pivots = pivots; nodes = nodes; most_pivots = pivots; most_nodes = nodes }

-- what is left is at most what the whole run may spend
pub record IsWithinMost (left : Left) : Type 0 where
  pub pivots : left.pivots ≤ left.most_pivots
  pub nodes : left.nodes ≤ left.most_nodes

-- the most that the whole run may spend is unchanged, and nothing that was spent is given back
pub record SpendsOn (old new : Left) : Type 0 where
  pub most_pivots : new.most_pivots ≡ old.most_pivots
  pub most_nodes : new.most_nodes ≡ old.most_nodes
  pub pivots : new.pivots ≤ old.pivots
  pub nodes : new.nodes ≤ old.nodes
