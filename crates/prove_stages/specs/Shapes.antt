-- How many columns and rows a `Finder` and a `CompositionMix` have. The contracts of `finders`, `mixes` and `columned` cite it.
use Rattle.std.specs.Prelude.{◌≡◌, ◌+◌, ℕ, length}
use Rattle.prove_stages.specs.declared.finders.Finder.{Finder}
use Rattle.prove_stages.specs.declared.mixes.CompositionMix.{CompositionMix}

-- the program and the table of a finder have `columns` columns, and the finder has a span for each row of the table
pub record IsFinder (columns : ℕ) (finder : Finder) : Type 0 where
  pub of_program : length finder.program.now.firsts ≡ columns
  pub of_table : finder.table.columns ≡ columns
  pub rows : length finder.rows.items ≡ finder.table.rows

-- the table of a mix has a column for each known composition, a row for each of `columns` columns of the program, and one for the total
pub record IsCompositionMix (columns : ℕ) (mix : CompositionMix) : Type 0 where
  pub compositions : length mix.known.items ≡ mix.table.columns
  pub rows : mix.table.rows ≡ columns + 1
