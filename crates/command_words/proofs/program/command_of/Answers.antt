use Rattle.std.proofs.Common.{◌∙◌, ap₂, refl}
use Rattle.clap.specs.Words.{with_rule}
use Rattle.command_words.proofs.ProgramLemmas.{one_more_option}
use Rattle.command_words.proofs.program.command_of.Goals as goal

pub loop-option-preserved : goal.loop-option-preserved
loop-option-preserved c =
    let so_far = c.loop-option.invariant in
    let option = c.option_of.ensures in
    let adds = c.in_ok-command.ensures in
    let words = c.args.words.now in (
      adds.shape option.local ∙ ap₂ with_rule so_far.0 option.rule
          ∙ one_more_option words.name.now words.options.now c.loop-option.option-index _ c.loop-option-test.true,
      adds.globals ∙ rw (so_far.1, option.local) refl,
    )
