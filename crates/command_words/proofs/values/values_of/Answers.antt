use Rattle.std.proofs.Common.{◌∙◌, ◌+◌, List, ap, drop, map, sym}
use Rattle.clap.specs.Words.{found_of, rows_of}
use Rattle.command_words.specs.Given.{named}
use Rattle.command_words.specs.Table.{option_entry}
use Rattle.command_words.specs.Words.{option_values}
use Rattle.command_words.specs.declared.given.OptionValue.{OptionValue}
use Rattle.command_words.proofs.ValueLemmas.{behind, no_more_value, one_more_value}
use Rattle.command_words.proofs.values.values_of.Goals as goal

pub loop-option-preserved : goal.loop-option-preserved
loop-option-preserved c =
    let rows = rows_of (found_of c.args.matches.now) in
    let options = c.args.options.now in
    let at = c.loop-option in
    ap (λ (values : List OptionValue). behind (map named values) (option_values rows (map option_entry (drop (at.option-index + 1) options)))) c.in_ok-push.ensures.items
    ∙ one_more_value rows options at.option-index _ at.values.items c.in-Some.value c.loop-option-test.true (sym c.if-is_absent.ensures) c.in-Some.ensures
    ∙ at.invariant

pub loop-option-preserved-then-is_absent : goal.loop-option-preserved-then-is_absent
loop-option-preserved-then-is_absent c =
    let at = c.loop-option in
    no_more_value (rows_of (found_of c.args.matches.now)) c.args.options.now at.option-index _ at.values.items c.loop-option-test.true (sym c.if-is_absent.ensures)
    ∙ at.invariant
