-- What `check-cover` answers: the verdict on a cover.
use Rattle.std.specs.Prelude.{◌≡◌, ℕ, List}
use Rattle.define_checks.specs.Reasons.{Refusal, Refused, Valid}
use Rattle.define_covers.specs.Covers.{Cover}
use Rattle.define_covers.specs.CoverVerdict.{verdict}
use Rattle.command_meanings.specs.Check.{IsGreatest, refused_line, valid_line}
use Rattle.command_shell.specs.Answers.{RightAnswers, no_answer}

-- the cover is valid, so the certificate of its bundle holds, and the text is the line that says so
pub record PrintsCovered (cover : Cover) (text : List ℕ) : Type 0 where
  pub valid : verdict cover ≡ Valid
  pub greatest : IsGreatest cover.bundle
  pub line : text ≡ valid_line

-- the cover is refused for the first reason that applies. The reasons 11 and 12 are about the fronts alone, and the last number of the line
-- is then that of a line of the cover's text
pub record PrintsCoverRefusal (cover : Cover) (text : List ℕ) : Type 0 where
  pub refusal : Refusal
  pub refuses : verdict cover ≡ Refused refusal
  pub line : text ≡ refused_line refusal

abbrev pub CheckCoverMeans : Cover → RightAnswers
CheckCoverMeans cover = record no_answer {
  -- status 0
  done = PrintsCovered cover;
  -- status 11
  refused = PrintsCoverRefusal cover;
}
