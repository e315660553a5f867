-- The code's progress and lines in the form of the definitions. The contracts of the readers of bundles and of proofs cite it.
use Rattle.define_bundles.specs.Ranges.{IsInRanges}
use Rattle.define_bundles.specs.BundleReading as words
use Rattle.pool_text.specs.Progress as pools
use Rattle.bundle_text.specs.declared.lines.AnswerLine.{AnswerLine}
use Rattle.bundle_text.specs.declared.lines.AnswerLine.TheVariants.{Row, Stage, FaultyStage, Done as TheDone, Unknown}
use Rattle.bundle_text.specs.declared.progress.Progress.{Progress}
use Rattle.bundle_text.specs.declared.progress.Progress.TheVariants.{Begun, InPool, InRows, InStages, Done}

abbrev pub said : AnswerLine → words.AnswerLine
said (Row row) = words.OfRow row
said (Stage stage) = words.OfStage stage
said FaultyStage = words.FaultyStage
said TheDone = words.TheDone
said Unknown = words.Unknown

abbrev pub seen : Progress → words.Progress
seen Begun = words.Begun
seen (InPool version progress) = words.InPool version (pools.seen progress)
seen (InRows pool lottery) = words.InRows pool lottery
seen (InStages pool lottery stages) = words.InStages pool (record { lottery = lottery; stages = stages })
seen (Done pool answer) = words.Done (record { pool = pool; answer = answer })

-- if the progress is `Done`, the numbers of its answer are in the ranges of a bundle
abbrev pub IsDoneRight : words.Progress → Type 0
IsDoneRight words.Begun = Unit {0}
IsDoneRight (words.InPool version progress) = Unit {0}
IsDoneRight (words.InRows pool lottery) = Unit {0}
IsDoneRight (words.InStages pool answer) = Unit {0}
IsDoneRight (words.Done bundle) = IsInRanges bundle.pool bundle.answer
