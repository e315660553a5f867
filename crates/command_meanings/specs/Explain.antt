-- What `explain` answers: status 0 exactly if the bytes are a right text, else status 3, with the line of their first fault and words after
-- it. Nothing is said about what the words are.
use Rattle.std.specs.Prelude.{◌≡◌, ℕ, List, Option, Some, None}
use Rattle.std.specs.Io.{StartsWith}
use Rattle.define_lines.specs.Lines.{Fault}
use Rattle.command_shell.specs.Answers.{IsRight, RightAnswers, Saying, no_answer}
use Rattle.command_shell.specs.Lines.{input_line}

-- the lines begin with the line `input` of the first fault, as it is printed by every command that reads texts of this form
abbrev pub BeginsWithFault : Option Fault → List ℕ → Type 0
BeginsWithFault None lines = ⊥
BeginsWithFault (Some fault) lines = StartsWith lines (input_line fault)

-- what is right to answer about bytes with this first fault, or with none
abbrev pub ExplainMeans : Option Fault → RightAnswers
ExplainMeans fault = record no_answer {
  -- status 0
  done = λ words. fault ≡ None;
  -- status 3
  input = BeginsWithFault fault;
}

-- the answer is right about bytes with this first fault, or with none
abbrev pub Explains : Option Fault → Saying → Type 0
Explains fault = IsRight (ExplainMeans fault)
