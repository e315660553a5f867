use Rattle.std.proofs.Common.{◌∙◌, ap, option_map}
use Rattle.command_words.proofs.ValueLemmas.{value_is}
use Rattle.command_words.specs.declared.given.OptionValue.{OptionValue}
use Rattle.command_words.proofs.given.value_named.Goals as goal

pub returns-in-Some : goal.returns-in-Some
returns-in-Some c = ap (option_map (λ (option : OptionValue). option.value)) c.in-Some.ensures ∙ value_is c.args.name.now c.args.values.now

pub returns-in-None : goal.returns-in-None
returns-in-None c = ap (option_map (λ (option : OptionValue). option.value)) c.in-None.ensures ∙ value_is c.args.name.now c.args.values.now
