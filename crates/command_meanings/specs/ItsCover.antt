-- What `cover` answers about a bundle: a cover of it if its certificate holds, and else what `check` answers.
use Rattle.std.specs.Prelude.{◌≡◌, ℕ, List, Ok}
use Rattle.define_bundles.specs.BundleText.{Bundle}
use Rattle.define_checks.specs.Reasons.{Valid}
use Rattle.define_checks.specs.Visits.{check_answer}
use Rattle.define_covers.specs.CoverText.{IsCover, cover_spelling}
use Rattle.define_covers.specs.Covers.{Cover}
use Rattle.define_covers.specs.CoverVerdict as covers
use Rattle.define_covers.specs.Made.{IsMadeOf}
use Rattle.command_meanings.specs.Check.{CheckMeans, IsGreatest}
use Rattle.command_shell.specs.Answers.{RightAnswers}

-- a check with this budget finds the certificate valid, and the text is that of the cover with the lines of its searches, which is valid
pub record PrintsCover (nodes : ℕ) (bundle : Bundle) (text : List ℕ) : Type 0 where
  pub verdict : check_answer bundle.pool bundle.answer nodes ≡ Ok Valid
  pub greatest : IsGreatest bundle
  pub cover : Cover
  pub is_cover : IsCover cover
  pub made : IsMadeOf bundle cover
  pub accepted : covers.verdict cover ≡ Valid
  pub tells : text ≡ cover_spelling cover

-- at the other statuses `cover` answers as `check`
abbrev pub CoverMeans : ℕ → Bundle → RightAnswers
CoverMeans nodes bundle = record (CheckMeans nodes bundle) {
  -- status 0
  done = PrintsCover nodes bundle;
}
