use Rattle.std.proofs.Common.{ap, ◌∙◌}
use Rattle.std.proofs.lemmas.List.{take_rest}
use Rattle.define_bundles.specs.PoolReading.{number_of}
use Rattle.pool_text.proofs.NumberAhead.{some_behind, none_found}
use Rattle.pool_text.proofs.entries.number_ahead.Goals as goal

pub returns-in-Some-clause-value : goal.returns-in-Some-clause-value
returns-in-Some-clause-value c =
    let volunteers = c.args.volunteers.now in let id = c.args.id.now in
    let found = c.in-Some.ensures.value ∙ ap (λ rest. number_of rest id) (take_rest volunteers c.args.passed) in
    some_behind c.args.passed volunteers id c.in-Some.number c.requires c.if-volunteers-passed.false found

pub returns-in-None-clause-value : goal.returns-in-None-clause-value
returns-in-None-clause-value c =
    let volunteers = c.args.volunteers.now in let id = c.args.id.now in
    let found = c.in-None.ensures.value ∙ ap (λ rest. number_of rest id) (take_rest volunteers c.args.passed) in
    none_found c.args.passed volunteers id c.requires c.if-volunteers-passed.false found
