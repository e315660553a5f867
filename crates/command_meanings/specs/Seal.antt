-- What `seal` answers: the seal of a bundle's text.
use Rattle.std.specs.Prelude.{◌≡◌, ℕ, List, [], ◌∷◌}
use Rattle.define_lines.specs.Lines.{text_of}
use Rattle.define_bundles.specs.BundleText.{Bundle}
use Rattle.define_draws.specs.Lines.{seal_line as line_of_seal}
use Rattle.command_shell.specs.Answers.{RightAnswers, no_answer}

-- the line of the seal, with its LF
abbrev pub seal_line : Bundle → List ℕ
seal_line bundle = text_of (line_of_seal bundle ∷ [])

abbrev pub SealMeans : Bundle → RightAnswers
SealMeans bundle = record no_answer {
  -- status 0
  done = λ text. text ≡ seal_line bundle;
}
