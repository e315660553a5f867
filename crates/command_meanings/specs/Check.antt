-- What `check` answers about a bundle: the verdict on its certificate, found by searches of at most `nodes` visits for each stage.
use Rattle.std.specs.Prelude.{◌≡◌, ℕ, List, [], ◌∷◌, map, codes, Ok, Err}
use Rattle.std.specs.Fmt.{decimal}
use Rattle.define_pools.specs.Certificate.{Certifies}
use Rattle.define_pools.specs.Lottery.{LeximinGreatest}
use Rattle.define_bundles.specs.BundleText.{Bundle}
use Rattle.define_checks.specs.Reasons.{Refusal, Refused, Valid}
use Rattle.define_checks.specs.Visits.{check_answer}
use Rattle.command_shell.specs.Answers.{RightAnswers, no_answer}
use Rattle.command_shell.specs.Lines.{line}

abbrev pub valid_line : List ℕ
valid_line = line (codes "valid" ∷ [])

-- the line of a refusal: the stage, the reason, and the numbers of the volunteers who show it
abbrev pub refused_line : Refusal → List ℕ
refused_line refusal = line (codes "refused" ∷ decimal refusal.stage ∷ decimal refusal.reason ∷ map decimal refusal.who)

-- the line of a spent budget: `nodes`, the stage whose search needs more visits, and 0 columns and 0 pivots, since a check has none
abbrev pub visits_spent_line : ℕ → ℕ → List ℕ
visits_spent_line nodes stage = line (codes "spent" ∷ codes "nodes" ∷ decimal nodes ∷ decimal stage ∷ codes "0" ∷ codes "0" ∷ [])

-- the certificate holds, so no lottery over the pool's quota panels is above the lottery of the bundle
pub record IsGreatest (bundle : Bundle) : Type 0 where
  pub certified : Certifies bundle.pool bundle.answer.lottery bundle.answer.stages
  pub greatest : LeximinGreatest bundle.pool bundle.answer.lottery

-- the certificate holds, and the text is the line that says so
pub record PrintsValid (nodes : ℕ) (bundle : Bundle) (text : List ℕ) : Type 0 where
  pub verdict : check_answer bundle.pool bundle.answer nodes ≡ Ok Valid
  pub greatest : IsGreatest bundle
  pub line : text ≡ valid_line

-- the search for a stage needs more than `nodes` visits; the text is the line with this stage
pub record SpendsStage (nodes : ℕ) (bundle : Bundle) (text : List ℕ) : Type 0 where
  pub stage : ℕ
  pub verdict : check_answer bundle.pool bundle.answer nodes ≡ Err stage
  pub line : text ≡ visits_spent_line nodes stage

-- the certificate doesn't hold; the text is the line of the first reason that applies
pub record PrintsRefusal (nodes : ℕ) (bundle : Bundle) (text : List ℕ) : Type 0 where
  pub refusal : Refusal
  pub verdict : check_answer bundle.pool bundle.answer nodes ≡ Ok (Refused refusal)
  pub fails : Certifies bundle.pool bundle.answer.lottery bundle.answer.stages → ⊥
  pub line : text ≡ refused_line refusal

abbrev pub CheckMeans : ℕ → Bundle → RightAnswers
CheckMeans nodes bundle = record no_answer {
  -- status 0
  done = PrintsValid nodes bundle;
  -- status 5
  spent = SpendsStage nodes bundle;
  -- status 11
  refused = PrintsRefusal nodes bundle;
}
