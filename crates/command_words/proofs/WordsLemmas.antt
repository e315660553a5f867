-- How the result of a parse by `clap` decides what the words give.
use Rattle.std.proofs.Common.{◌≡◌, ◌≢◌, ◌∙◌, refl, ap, sym, subst, inl, inr, List, [], ◌∷◌, Option, None, Err}
use Rattle.clap.specs.Words.{App, HasKind, IsAmong, Kinds, Row, Text, fault_of, kind_of, subcommand_of}
use Rattle.clap.specs.declared.error.Error.{Error}
use Rattle.clap.specs.declared.error.kind.ErrorKind.{ErrorKind}
use Rattle.clap.specs.declared.error.kind.ErrorKind.TheVariants as kind
use Rattle.command_words.specs.Given.{Given}
use Rattle.command_words.specs.Program.{program_app}
use Rattle.command_words.specs.Words.{MatchesSay, StopSays, given_by, given_of, unless_any}
use Rattle.command_words.specs.declared.reading.WordsStop.{WordsStop}
use Rattle.command_words.specs.declared.reading.WordsStop.TheVariants.{Usage, OutOfMemory}
use Rattle.command_words.specs.Table.{CommandEntry}

module _ (commands : List CommandEntry) (a : App) (words : List Text) (app : a ≡ program_app commands) where
  -- if `clap` finds no fault in the words, they give what the subcommand's values give
  pub given_taken : (met : Option (Text × List Row)) → fault_of a words ≡ [] → met ≡ subcommand_of a words → given_by commands words ≡ given_of commands met
  given_taken met none rows =
      let clear : fault_of (program_app commands) words ≡ [] = ap (λ b. fault_of b words) (sym app) ∙ none in
      let same : met ≡ subcommand_of (program_app commands) words = rows ∙ ap (λ b. subcommand_of b words) app in
      ap (λ kinds. unless_any kinds (given_of commands (subcommand_of (program_app commands) words))) clear ∙ ap (given_of commands) (sym same)

  some_kind : (k : ErrorKind) (kinds : Kinds) (o : Option Given) → IsAmong k kinds → unless_any kinds o ≡ None
  some_kind k [] o h = absurd h
  some_kind k (x ∷ xs) o h = refl

  -- if `clap` finds a fault in the words, they give nothing
  pub given_refused : (e : Error) → HasKind (fault_of a words) e → kind_of e ≢ kind.OutOfMemory → given_by commands words ≡ None
  given_refused e has other = elim has [
    | inl memory ↦ absurd (other memory)
    | inr some ↦ some_kind (kind_of e) (fault_of (program_app commands) words) (given_of commands (subcommand_of (program_app commands) words))
        (subst (λ (b : App). IsAmong (kind_of e) (fault_of b words)) app some)
  ]

  -- if `clap` returns an error, for a fault in the words or want of memory, the stop that is made of this error is right
  pub stop_is_right : (e : Error) (stop : WordsStop) → HasKind (fault_of a words) e → StopSays e stop → MatchesSay commands words (Err stop)
  stop_is_right e (Usage text) has says = given_refused e has says
  stop_is_right e OutOfMemory has says = tt
