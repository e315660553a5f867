-- If a cover is valid, its certificate holds, and its lottery is leximin greatest. A cover that is made of a bundle whose certificate holds is
-- valid.
use Rattle.std.proofs.Common.{◌≡◌, [], Result, Ok, Err, sym, ◌∙◌, subst}
use Rattle.std.specs.Prelude.{IfOk}
use Rattle.std.specs.declared.alloc.AllocError.{AllocError}
use Rattle.define_bundles.specs.Ranges.{IsInRanges}
use Rattle.define_bundles.specs.BundleText.{Bundle}
use Rattle.define_checks.specs.Reasons as check
use Rattle.define_checks.specs.Reasons.{Valid, Verdict}
use Rattle.define_checks.proofs.ReasonsStand.{valid_where_certified}
use Rattle.define_pools.specs.Certificate.{Certifies}
use Rattle.define_pools.specs.Lottery.{LeximinGreatest}
use Rattle.define_covers.specs.Covers.{Cover}
use Rattle.define_covers.specs.CoverVerdict.{verdict}
use Rattle.define_covers.specs.CoversHold.{TreesCover}
use Rattle.define_proofs.specs.CapsHold.{CapsHold}
use Rattle.define_covers.proofs.Made.{trees_cover_where_searched}
use Rattle.define_covers.proofs.Verdicts.{caps_are_left, certified_where_valid, greatest_where_valid, valid_where_checked}
use Rattle.define_covers.specs.Made.{IsMadeOf}

module _ (cover : Cover) (ranges : IsInRanges cover.bundle.pool cover.bundle.answer) where
  pub certified : (result : Result Verdict AllocError) → IfOk result (λ said. said ≡ verdict cover) → IfOk result (λ said. said ≡ Valid → Certifies cover.bundle.pool cover.bundle.answer.lottery cover.bundle.answer.stages)
  certified (Err error) h = tt
  certified (Ok said) h = λ valid. certified_where_valid cover ranges (sym h ∙ valid)

  pub greatest : (result : Result Verdict AllocError) → IfOk result (λ said. said ≡ verdict cover) → IfOk result (λ said. said ≡ Valid → LeximinGreatest cover.bundle.pool cover.bundle.answer.lottery)
  greatest (Err error) h = tt
  greatest (Ok said) h = λ valid. greatest_where_valid cover ranges (sym h ∙ valid)

module _ (bundle : Bundle) (certifies : Certifies bundle.pool bundle.answer.lottery bundle.answer.stages) where
  pub caps_hold : CapsHold bundle.pool [] bundle.answer.stages
  caps_hold = ((caps_are_left bundle.pool bundle.answer.lottery bundle.answer.stages).0 certifies).1

  pub accepted : (cover : Cover) → IsMadeOf bundle cover → verdict cover ≡ Valid
  accepted cover made =
      let P : Bundle → Type 0 = λ it. (check.verdict it.pool it.answer ≡ Valid) × TreesCover it.pool [] it.answer.stages cover.trees in
      let both : P cover.bundle =
      subst P (sym made.same) (valid_where_certified bundle.pool bundle.answer certifies, trees_cover_where_searched bundle.pool [] bundle.answer.stages cover.trees made.searched) in
      valid_where_checked cover both.0 both.1
