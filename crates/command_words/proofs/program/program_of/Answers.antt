use Rattle.std.proofs.Common.{◌∙◌, ap₂}
use Rattle.clap.specs.Words.{App, with_subcommand}
use Rattle.command_words.proofs.ProgramLemmas.{one_more_command}
use Rattle.command_words.proofs.program.program_of.Goals as goal

pub loop-words-preserved : goal.loop-words-preserved
loop-words-preserved c =
    let command = c.in_ok-command_of.ensures in
    c.in_ok-program-2.ensures.shape command.1 ∙ ap₂ (λ (program sub : App). with_subcommand program sub.top) c.loop-words.invariant command.0
    ∙ one_more_command c.args.commands.now c.loop-words.words-index _ c.loop-words-test.true
