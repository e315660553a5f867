-- If a proof is valid, its lottery is leximin greatest, or its pool has no quota panel.
use Rattle.std.proofs.Common.{◌≡◌, List, [], Result, Ok, Err, sym, ap, ◌∙◌, subst}
use Rattle.std.specs.Prelude.{IfOk}
use Rattle.std.specs.declared.alloc.AllocError.{AllocError}
use Rattle.define_checks.specs.Reasons.{Valid, Verdict}
use Rattle.define_pools.specs.Certificate.{Answer, Certifies}
use Rattle.define_pools.specs.Lottery.{LeximinGreatest}
use Rattle.define_pools.specs.Pool.{Pool, panels}
use Rattle.define_pools.proofs.Greatest.{greatest_from_Certifies}
use Rattle.define_proofs.specs.ProofVerdict.{OfLottery, OfNoPanel, Proof, verdict}
use Rattle.define_proofs.specs.TreeLines.{TreeLine}
use Rattle.define_proofs.proofs.Verdicts.{certified_where_valid, no_panel_where_valid}
use Rattle.define_proofs.specs.ProofText.{IsProof}

module _ (proof same : Proof) (e : same ≡ proof) (is : IsProof proof) where
  pub greatest : (result : Result Verdict AllocError) → IfOk result (λ said. said ≡ verdict same) →
      IfOk result (λ said. said ≡ Valid → (pool : Pool) (answer : Answer) (trees : List (List TreeLine)) → proof ≡ OfLottery pool answer trees →
      LeximinGreatest pool answer.lottery × Certifies pool answer.lottery answer.stages)
  greatest (Err error) h = tt
  greatest (Ok said) h = λ valid pool answer trees f.
      let own = subst IsProof f is in
      let certified = (certified_where_valid pool answer trees own.is_bundle.in_ranges (ap verdict (sym f) ∙ ap verdict (sym e) ∙ sym h ∙ valid)).0 in
      (greatest_from_Certifies pool answer.lottery answer.stages certified, certified)

  pub no_panel : (result : Result Verdict AllocError) → IfOk result (λ said. said ≡ verdict same) →
      IfOk result (λ said. said ≡ Valid → (pool : Pool) (lines : List TreeLine) → proof ≡ OfNoPanel pool lines → panels pool ≡ [])
  no_panel (Err error) h = tt
  no_panel (Ok said) h = λ valid pool lines f. no_panel_where_valid pool lines (ap verdict (sym f) ∙ ap verdict (sym e) ∙ sym h ∙ valid)
