use Rattle.std.proofs.Common.{◌∙◌, ap, sym}
use Rattle.csv.specs.Reading.{default_config, strip_bom}
use Rattle.csv.specs.declared.parser.State.TheVariants as state
use Rattle.define_imports.specs.Rules.{rules_of}
use Rattle.define_imports.specs.Registers.{rows_of}
use Rattle.define_imports.proofs.OneReading.{one_list}
use Rattle.define_imports.proofs.one_reading.Goals as goal

pub returns-clause-records : goal.returns-clause-records
returns-clause-records c bytes first second f g = one_list default_config state.StartRecord (strip_bom bytes) first second f g

pub returns-clause-rules : goal.returns-clause-rules
returns-clause-rules c bytes first second f g =
    sym f.gives ∙ (ap rules_of (one_list default_config state.StartRecord (strip_bom bytes) f.records g.records f.are_records g.are_records) ∙ g.gives)

pub returns-clause-rows : goal.returns-clause-rows
returns-clause-rows c rules bytes first second f g =
    sym f.gives ∙ (ap (rows_of rules) (one_list default_config state.StartRecord (strip_bom bytes) f.records g.records f.are_records g.are_records) ∙ g.gives)
