-- What `bundle` answers: the bundle of a proof's lottery. Nothing is verified.
use Rattle.std.specs.Prelude.{◌≡◌, ℕ, List, [], ◌∷◌, codes}
use Rattle.define_bundles.specs.BundleText.{bundle_spelling}
use Rattle.define_proofs.specs.ProofVerdict.{OfLottery, OfNoPanel, Proof}
use Rattle.command_shell.specs.Answers.{RightAnswers, no_answer}
use Rattle.command_shell.specs.Lines.{line}

-- the line for a proof that there is no quota panel, which has no lottery
abbrev pub no_lottery_line : List ℕ
no_lottery_line = line (codes "rule" ∷ codes "NoLottery" ∷ [])

abbrev pub BundleMeans : Proof → RightAnswers
BundleMeans (OfLottery pool its trees) = record no_answer {
  -- status 0: the text of the bundle
  done = λ text. text ≡ bundle_spelling (record { pool = pool; answer = its });
}
BundleMeans (OfNoPanel pool lines) = record no_answer {
  -- status 6: it is a proof that there is no quota panel, which has no bundle
  rule = λ text. text ≡ no_lottery_line;
}
