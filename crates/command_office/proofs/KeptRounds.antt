-- The outcomes of keeping a proof, by the round and the verdict.
use Rattle.std.specs.Prelude.{⊤}
use Rattle.std.proofs.Common.{◌≡◌, ◌∙◌, ℕ, Bool, true, false, cond, List, [], Option, Some, None, Result, Ok, Err, refl, sym, ap, subst}
use Rattle.std.proofs.lemmas.Slice.Eq.{bytes_eq-Decides}
use Rattle.define_proofs.specs.ProofVerdict.{OfLottery, OfNoPanel, Proof, verdict}
use Rattle.define_proofs.proofs.Verdicts.{certified_where_valid, no_panel_where_valid}
use Rattle.define_bundles.specs.BundleText.{Bundle}
use Rattle.define_checks.specs.Reasons as reasons
use Rattle.define_checks.specs.Reasons.{Refused, Valid, Verdict}
use Rattle.define_pools.specs.Pool.{IsPool, Pool, panels}
use Rattle.define_pools.specs.Certificate.{Answer, Certifies}
use Rattle.define_pools.proofs.Greatest.{greatest_from_Certifies}
use Rattle.define_bundles.specs.PoolText.{spelling}
use Rattle.define_proofs.specs.ProofText.{IsProof}
use Rattle.define_offices.specs.Commands.{Change, Keep, Lines, NoPanel, OtherPool, Outcome, Refusal, Refuses, Replies, Unproved}
use Rattle.define_offices.specs.Deciding.{Answered, Finds, FindsNone, IsDecided, answered, is_same_pool, keep_in, kept_by, kept_over, proof_pool, shown, tells}
use Rattle.define_offices.specs.Facts.{IsTables}
use Rattle.define_offices.specs.Lines.{solved_line}
use Rattle.define_offices.specs.Pools.{pool_of}
use Rattle.define_offices.specs.Steps.{AtOnce, ByRun, Comes}
use Rattle.define_offices.specs.Tables.{Drawn, Open, Round, Sealed, Solved, Tables, bundle_of, named_round}
use Rattle.define_offices.proofs.Pools.{pool_of_has}
use Rattle.define_offices.proofs.Steps.{same_pools}
use Rattle.command_meanings.specs.ProvedRounds.{IsOpenWith}
use Rattle.define_pools.proofs.LeximinParts.{leximin}
use Rattle.command_office.proofs.SolvedRounds.{HadBundle, Opened, SettlesRound}

module _ (tables : Tables) (number : ℕ) (proof : Proof) where
  -- the outcomes that keeping a proof may have
  pub data KeepComes (outcome : Outcome) : Type 0 where
    -- the proof is valid and of the round's pool
    Kept : (pool : Pool) → IsOpenWith tables number pool → verdict proof ≡ Valid → is_same_pool (proof_pool proof) pool ≡ true → outcome ≡ answered number pool (shown proof) → KeepComes outcome
    NotValid : (refusal : reasons.Refusal) → verdict proof ≡ Refused refusal → outcome ≡ Unproved refusal → KeepComes outcome
    Had : (round : Round) (bundle : Bundle) → named_round tables.rounds number ≡ Some round → bundle_of round ≡ Some bundle → outcome ≡ tells (solved_line number bundle) → KeepComes outcome
    Denied : (refusal : Refusal) → outcome ≡ Refuses refusal → KeepComes outcome

  if_same : (pool : Pool) (outcome : Outcome) → IsOpenWith tables number pool → verdict proof ≡ Valid → (same : Bool) → is_same_pool (proof_pool proof) pool ≡ same →
      cond same (answered number pool (shown proof)) (Refuses (OtherPool number)) ≡ outcome → KeepComes outcome
  if_same pool outcome is valid true same h = Kept pool is valid same (sym h)
  if_same pool outcome is valid false same h = Denied (OtherPool number) (sym h)

  by_verdict : (pool : Pool) (outcome : Outcome) → IsOpenWith tables number pool → (said : Verdict) → verdict proof ≡ said → kept_by said number pool proof ≡ outcome → KeepComes outcome
  by_verdict pool outcome is (Refused refusal) says h = NotValid refusal says (sym h)
  by_verdict pool outcome is Valid says h = if_same pool outcome is says (is_same_pool (proof_pool proof) pool) refl h

  over_pool : (outcome : Outcome) → named_round tables.rounds number ≡ Some Open → (result : Result Pool Refusal) → pool_of tables number ≡ result → kept_over number proof result ≡ outcome → KeepComes outcome
  over_pool outcome at (Err refusal) of h = Denied refusal (sym h)
  over_pool outcome at (Ok pool) of h = by_verdict pool outcome (record { open_now = at; is = of }) (verdict proof) refl h

  by_round : (outcome : Outcome) (found : Option Round) → named_round tables.rounds number ≡ found → keep_in tables number proof found ≡ outcome → KeepComes outcome
  by_round outcome None at h = Denied _ (sym h)
  by_round outcome (Some Open) at h = over_pool outcome at (pool_of tables number) refl h
  by_round outcome (Some (Solved bundle)) at h = Had (Solved bundle) bundle at refl (sym h)
  by_round outcome (Some (Sealed bundle tickets)) at h = Had (Sealed bundle tickets) bundle at refl (sym h)
  by_round outcome (Some (Drawn bundle tickets digits dropped)) at h = Had (Drawn bundle tickets digits dropped) bundle at refl (sym h)

  decided_so : (own outcome : Outcome) → IsDecided own ≡ IsDecided outcome → own ≡ outcome
  decided_so own outcome h = cc

  pub keep_comes : (outcome : Outcome) → Comes tables (Keep number proof) outcome → KeepComes outcome
  keep_comes outcome (AtOnce h) = by_round outcome (named_round tables.rounds number) refl (decided_so _ outcome h)
  keep_comes outcome (ByRun n l pool ending same needs ends comes) = absurd (cc)

  same_pool : (pool : Pool) → proof_pool proof ≡ pool → is_same_pool (proof_pool proof) pool ≡ true
  same_pool pool same = (bytes_eq-Decides (spelling (proof_pool proof)) (spelling pool)).1 (ap spelling same)

  -- If the proof is valid and of the pool of an open round, the round is answered by it.
  pub valid_comes : (pool : Pool) (outcome : Outcome) → IsOpenWith tables number pool → proof_pool proof ≡ pool → verdict proof ≡ Valid → Comes tables (Keep number proof) outcome →
      outcome ≡ answered number pool (shown proof)
  valid_comes pool outcome is same valid (AtOnce h) =
      let keeps_so : keep_in tables number proof (named_round tables.rounds number) ≡ answered number pool (shown proof) = rw (is.open_now, is.is, valid, same_pool pool same) refl in
      sym (decided_so _ outcome h) ∙ keeps_so
  valid_comes pool outcome is same valid (ByRun n l p ending also needs ends comes) = absurd (cc)

-- ---- what a proof that is kept shows

module _ (tables : Tables) (number : ℕ) where
  none_of : (pool : Pool) (found : Answered) (change : Option Change) → Replies change NoPanel ≡ answered number pool found → (found ≡ FindsNone) × (change ≡ None)
  none_of pool (Finds answer) change h = absurd (cc)
  none_of pool FindsNone change h = (refl, cc)

  -- If keeping a proof replies that there is no panel, it changes nothing.
  pub keep_none_stays : (proof : Proof) (change : Option Change) → KeepComes tables number proof (Replies change NoPanel) → change ≡ None
  keep_none_stays proof change (Kept pool is valid same e) = (none_of pool (shown proof) change e).1
  keep_none_stays proof change (NotValid refusal says e) = absurd (cc (e))
  keep_none_stays proof change (Had round bundle there has e) = absurd (cc (e))
  keep_none_stays proof change (Denied refusal e) = absurd (cc (e))

  -- the outcome of a round that is answered is no refusal
  pub answered_not_refused : (pool : Pool) (found : Answered) (refusal : Refusal) → Refuses refusal ≡ answered number pool found → ⊥
  answered_not_refused pool (Finds answer) refusal h = cc
  answered_not_refused pool FindsNone refusal h = cc

  -- If keeping a proof ends with a refusal of the proof, the verdict on the proof is this refusal.
  pub keep_unproved : (proof : Proof) (refusal : reasons.Refusal) → KeepComes tables number proof (Unproved refusal) → verdict proof ≡ Refused refusal
  keep_unproved proof refusal (Kept pool is valid same e) = absurd (no_verdict pool (shown proof) e)
    where
      no_verdict : (pool : Pool) (found : Answered) → Unproved refusal ≡ answered number pool found → ⊥
      no_verdict pool (Finds answer) h = cc
      no_verdict pool FindsNone h = cc
  keep_unproved proof refusal (NotValid own says e) = let same : own ≡ refusal = cc (e) in says ∙ ap Refused same
  keep_unproved proof refusal (Had round bundle there has e) = absurd (cc (e))
  keep_unproved proof refusal (Denied own e) = absurd (cc (e))

  module _ (keeps : IsTables tables) where
    -- a lottery that is certified over the proof's own pool is certified over the round's pool, which is the same
    lottery_kept : (pool own : Pool) (answer : Answer) → IsPool own → IsPool pool → is_same_pool own pool ≡ true → Certifies own answer.lottery answer.stages → Certifies pool answer.lottery answer.stages
    lottery_kept pool own answer is also same certified = subst (λ (p : Pool). Certifies p answer.lottery answer.stages) (same_pools own pool is also same) certified

    is_pool : (proof : Proof) (pool : Pool) → IsOpenWith tables number pool → IsPool pool
    is_pool proof pool is = (pool_of_has tables keeps number pool is.is).is.is_pool

    -- If keeping a proof replies with a text, an open round got a bundle whose lottery is leximin greatest, or the round had its bundle.
    pub keep_done : (proof : Proof) → IsProof proof → (change : Option Change) (text : List ℕ) → KeepComes tables number proof (Replies change (Lines text)) → SettlesRound number tables change (λ pool answer. ⊤)
    keep_done (OfLottery own answer trees) fits change text (Kept pool is valid same e) =
        let certified = lottery_kept pool own answer fits.is_bundle.is_pool (is_pool (OfLottery own answer trees) pool is) same (certified_where_valid own answer trees fits.is_bundle.in_ranges valid).0 in
        Opened pool answer is.open_now is.is (leximin pool answer.lottery (greatest_from_Certifies pool answer.lottery answer.stages certified)) tt (cc (e))
    keep_done (OfNoPanel own lines) fits change text (Kept pool is valid same e) = absurd (cc (e))
    keep_done proof fits change text (NotValid refusal says e) = absurd (cc (e))
    keep_done proof fits change text (Had round bundle there has e) = HadBundle round bundle there has (cc (e))
    keep_done proof fits change text (Denied refusal e) = absurd (cc (e))

    -- If keeping a proof replies that there is no panel, the round is open and its pool has no quota panel.
    pub keep_none : (proof : Proof) → IsProof proof → (change : Option Change) → KeepComes tables number proof (Replies change NoPanel) → (pool : Pool) × IsOpenWith tables number pool × (panels pool ≡ [])
    keep_none (OfLottery own answer trees) fits change (Kept pool is valid same e) = absurd (cc (e))
    keep_none (OfNoPanel own lines) fits change (Kept pool is valid same e) =
        (pool, is, subst (λ (p : Pool). panels p ≡ []) (same_pools own pool fits.is_pool (is_pool (OfNoPanel own lines) pool is) same) (no_panel_where_valid own lines valid))
    keep_none proof fits change (NotValid refusal says e) = absurd (cc (e))
    keep_none proof fits change (Had round bundle there has e) = absurd (cc (e))
    keep_none proof fits change (Denied refusal e) = absurd (cc (e))
