-- The sizes of a table, what its calls spend, and which stops they return. The crates above that run tables cite `SameSizes` and `Spends`.
use Rattle.std.specs.Prelude.{◌≡◌, ℕ, ◌^◌, ◌<◌, ◌≤◌, ℤ}
use Rattle.prove_limits.specs.Budgets.{Left}
use Rattle.prove_limits.specs.declared.stops.Limit.TheVariants.{Pivots, Nodes, Lottery}
use Rattle.prove_limits.specs.declared.stops.ProveStop.{ProveStop}
use Rattle.prove_limits.specs.declared.stops.ProveStop.TheVariants.{Wide, BeyondWidth, Spent, Lost, OutOfMemory}

-- a table as contracts see it: how many rows and columns it has, the width of its entries, and the denominator of its points
pub record TableSizes : Type 0 where
  pub rows : ℕ
  pub columns : ℕ
  pub width : ℕ
  pub denominator : ℤ

-- the rows, the columns and the width are the same
pub record SameSizes (old new : TableSizes) : Type 0 where
  pub rows : new.rows ≡ old.rows
  pub columns : new.columns ≡ old.columns
  pub width : new.width ≡ old.width

-- the most that the whole run may spend is unchanged, and only pivots are spent
pub record Spends (old new : Left) : Type 0 where
  pub most_pivots : new.most_pivots ≡ old.most_pivots
  pub most_nodes : new.most_nodes ≡ old.most_nodes
  pub pivots : new.pivots ≤ old.pivots
  pub nodes : new.nodes ≡ old.nodes

-- the stops of a change of basis: an operation passes 2^62, or an entry passes a width below 2^62
abbrev pub ChangeStops : ℕ → ProveStop → Type 0
ChangeStops width (Wide pass) = Unit {0}
ChangeStops width BeyondWidth = width < 2 ^ 62
ChangeStops width (Spent spent) = ⊥
ChangeStops width Lost = ⊥
ChangeStops width OutOfMemory = ⊥

-- the stops of a run: an operation passes 2^62, an entry passes a width below 2^62, no pivot is left, or memory runs out
abbrev pub RunStops : TableSizes → Left → ProveStop → Type 0
RunStops table left (Wide pass) = Unit {0}
RunStops table left BeyondWidth = table.width < 2 ^ 62
RunStops table left (Spent Pivots) = left.pivots ≡ 0
RunStops table left (Spent Nodes) = ⊥
RunStops table left (Spent Lottery) = ⊥
RunStops table left Lost = ⊥
RunStops table left OutOfMemory = Unit {0}

-- the stops of dropping a row: those of a run, or the row was not found
abbrev pub DropStops : TableSizes → Left → ProveStop → Type 0
DropStops table left (Wide pass) = Unit {0}
DropStops table left BeyondWidth = table.width < 2 ^ 62
DropStops table left (Spent Pivots) = left.pivots ≡ 0
DropStops table left (Spent Nodes) = ⊥
DropStops table left (Spent Lottery) = ⊥
DropStops table left Lost = Unit {0}
DropStops table left OutOfMemory = Unit {0}
