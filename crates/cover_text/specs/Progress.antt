-- What contracts see of the progress of a reading and of a line in a tree: the values of `define_covers`.
use Rattle.bundle_text.specs.Progress as bundles
use Rattle.define_covers.specs.CoverReading as words
use Rattle.define_covers.specs.CoverText.{IsCover}
use Rattle.cover_text.specs.declared.lines.LineInTree.{LineInTree}
use Rattle.cover_text.specs.declared.lines.LineInTree.TheVariants.{Front, NextTree, Close, Unknown}
use Rattle.cover_text.specs.declared.progress.Progress.{Progress}
use Rattle.cover_text.specs.declared.progress.Progress.TheVariants.{Begun, InBundle, InTrees, Closed}

-- a line in a tree as contracts see it
abbrev pub said : LineInTree → words.LineInTree
said (Front line) = words.OfFront line
said NextTree = words.NextTree
said Close = words.TheClose
said Unknown = words.Unknown

-- the progress of a reading as contracts see it
abbrev pub seen : Progress → words.Progress
seen Begun = words.Begun
seen (InBundle progress) = words.InBundle (bundles.seen progress)
seen (InTrees pool answer whole lines) = words.InTrees (record { pool = pool; answer = answer }) whole.items lines
seen (Closed pool answer trees) = words.Closed (record { bundle = record { pool = pool; answer = answer }; trees = trees.items })

-- if the progress is closed, it holds a cover within its limits
abbrev pub IsClosedRight : words.Progress → Type 0
IsClosedRight words.Begun = Unit {0}
IsClosedRight (words.InBundle progress) = Unit {0}
IsClosedRight (words.InTrees bundle whole lines) = Unit {0}
IsClosedRight (words.Closed cover) = IsCover cover
