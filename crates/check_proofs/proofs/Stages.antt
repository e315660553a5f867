-- How a check of a proof goes from one stage to the next.
use Rattle.std.proofs.Common.{◌≡◌, ℕ, ◌+◌, ◌<◌, Bool, true, false, leb, List, [], ◌∷◌, length, get_or, drop, Option, refl, sym, ap, ap₂, ◌∙◌}
use Rattle.std.proofs.lemmas.Bool.{false≢true}
use Rattle.std.proofs.lemmas.List.{drop_more}
use Rattle.define_pools.specs.Certificate.{Stage}
use Rattle.define_pools.specs.Lottery.{Lottery}
use Rattle.define_pools.specs.Pool.{Pool}
use Rattle.define_bundles.specs.Ranges.{reach}
use Rattle.define_checks.specs.Reasons.{Refused, Valid, Verdict, first_reason, nobody_unless, reason, reasons_before_cap}
use Rattle.check_reasons.specs.Sayings.{holds}
use Rattle.define_proofs.specs.LeafSums.{is_stage_in_reach}
use Rattle.define_proofs.specs.Leaves.{stage_problem, standings}
use Rattle.define_proofs.specs.ProofSteps.{or_next, verdict_from}
use Rattle.define_proofs.specs.ProofVerdict.{first_tree, later_trees, line_reason, listed_reasons, tree_reasons}
use Rattle.define_proofs.specs.TreeLines.{TreeFault, TreeLine, tree_fault}
use Rattle.define_proofs.specs.TreeRanges.{number_limit}
use Rattle.define_proofs.proofs.StepByStep.{goes_on_by_stages}

pub is_valid : (verdict : Verdict) → holds verdict ≡ true → verdict ≡ Valid
is_valid Valid e = refl
is_valid (Refused refusal) e = absurd (false≢true e)

-- a refusal is the verdict, whatever comes next
pub stops : (verdict next : Verdict) → holds verdict ≡ false → or_next verdict next ≡ verdict
stops Valid next e = absurd (false≢true (sym e))
stops (Refused refusal) next e = refl

-- ---- the verdict on one stage

module _ (pool : Pool) (lottery : Lottery) (earlier : List Stage) (stage : Stage) (line : ℕ) where
  abbrev pub before : Verdict
  before = first_reason (reasons_before_cap pool lottery earlier stage)

  abbrev pub listed : Verdict
  listed = first_reason (listed_reasons lottery earlier stage)

  abbrev pub of_tree : List TreeLine → Verdict
  of_tree lines = first_reason (tree_reasons pool earlier stage line lines)

  abbrev pub of_stage : List TreeLine → Verdict
  of_stage lines = or_next before (or_next (of_tree lines) listed)

  abbrev of_lines : Bool → Option TreeFault → Verdict
  of_lines within fault = first_reason (reason (length earlier + 1) 13 (nobody_unless within) ∷ line_reason (length earlier + 1) fault ∷ [])

  too_far : (within : Bool) (fault : Option TreeFault) → within ≡ false → of_lines within fault ≡ Refused (record { stage = length earlier + 1; reason = 13; who = [] })
  too_far true fault e = absurd (false≢true (sym e))
  too_far false fault e = refl

  -- if no reason before the cap applies, a stage that is not within reach is refused for reason 13
  pub refused_far : (lines : List TreeLine) → holds before ≡ true → is_stage_in_reach stage ≡ false → of_stage lines ≡ Refused (record { stage = length earlier + 1; reason = 13; who = [] })
  refused_far lines valid far =
      ap₂ (λ first second. or_next first (or_next second listed)) (is_valid before valid)
      (too_far (leb (reach stage) number_limit) (tree_fault (stage_problem pool earlier stage) (standings pool) line lines) far)

  -- if no reason before the cap applies, and a stage is within reach, a fault of its lines refuses it; without a fault, the verdict is that
  -- on the listed panels
  pub of_fault : (lines : List TreeLine) (fault : Option TreeFault) → holds before ≡ true → is_stage_in_reach stage ≡ true →
      fault ≡ tree_fault (stage_problem pool earlier stage) (standings pool) line lines →
      of_stage lines ≡ or_next (first_reason (line_reason (length earlier + 1) fault ∷ [])) listed
  of_fault lines fault valid within e =
      ap (λ first. or_next first (or_next (of_tree lines) listed)) (is_valid before valid)
      ∙ ap₂ (λ within fault. or_next (of_lines within fault) listed) within (sym e)

  -- a stage that isn't refused is within reach
  pub reaches_so_far : (lines : List TreeLine) → holds (of_stage lines) ≡ true → is_stage_in_reach stage ≡ true
  reaches_so_far lines valid = by before (leb (reach stage) number_limit) refl refl valid
    where
      fault : Option TreeFault
      fault = tree_fault (stage_problem pool earlier stage) (standings pool) line lines

      by : (first : Verdict) (within : Bool) → before ≡ first → leb (reach stage) number_limit ≡ within → holds (or_next first (or_next (of_lines within fault) listed)) ≡ true → leb (reach stage) number_limit ≡ true
      by (Refused refusal) within e f h = absurd (false≢true h)
      by Valid true e f h = f
      by Valid false e f h = absurd (false≢true h)

-- ---- from stage to stage

module _ (pool : Pool) (lottery : Lottery) (earlier later : List Stage) (stage : Stage) (line : ℕ) (trees : List (List TreeLine)) where
  abbrev rest : Verdict
  rest = verdict_from pool lottery (stage ∷ earlier) later (line + length (first_tree trees) + 1) (later_trees trees)

  by_first : verdict_from pool lottery earlier (stage ∷ later) line trees ≡ or_next (of_stage pool lottery earlier stage line (first_tree trees)) rest
  by_first = goes_on_by_stages pool lottery earlier later stage line trees
      ∙ joined (before pool lottery earlier stage line) (of_tree pool lottery earlier stage line (first_tree trees)) (listed pool lottery earlier stage line)
    where
      joined : (first second third : Verdict) → or_next first (or_next second (or_next third rest)) ≡ or_next (or_next first (or_next second third)) rest
      joined Valid Valid third = refl
      joined Valid (Refused refusal) third = refl
      joined (Refused refusal) second third = refl

  pub refused_at : (verdict : Verdict) → verdict ≡ of_stage pool lottery earlier stage line (first_tree trees) → holds verdict ≡ false → verdict ≡ verdict_from pool lottery earlier (stage ∷ later) line trees
  refused_at verdict e h = sym (by_first ∙ ap (λ said. or_next said rest) (sym e) ∙ stops verdict rest h)

  pub goes_on_after : (verdict : Verdict) → verdict ≡ of_stage pool lottery earlier stage line (first_tree trees) → holds verdict ≡ true → verdict_from pool lottery earlier (stage ∷ later) line trees ≡ rest
  goes_on_after verdict e h = by_first ∙ ap (λ said. or_next said rest) (sym e ∙ is_valid verdict h)

module _ (pool : Pool) (lottery : Lottery) (stages : List Stage) (trees : List (List TreeLine)) (j : ℕ) (earlier : List Stage) (stage : Stage) (lines : List TreeLine) (number : ℕ)
    (within : j < length stages) (is_stage : stage ≡ get_or stages j stage) (has_tree : j < length trees) (is_tree : lines ≡ get_or trees j lines)
    (whole : Verdict) (same : whole ≡ verdict_from pool lottery earlier (drop j stages) number (drop j trees)) where
  abbrev next_stages : List Stage
  next_stages = drop (j + 1) stages

  abbrev next_trees : List (List TreeLine)
  next_trees = drop (j + 1) trees

  pub stages_from : drop j stages ≡ stage ∷ next_stages
  stages_from = drop_more stages j stage within ∙ ap (λ it. it ∷ next_stages) (sym is_stage)

  from_here : whole ≡ verdict_from pool lottery earlier (stage ∷ next_stages) number (lines ∷ next_trees)
  from_here = same ∙ ap₂ (λ those trees. verdict_from pool lottery earlier those number trees) stages_from (drop_more trees j lines has_tree ∙ ap (λ it. it ∷ next_trees) (sym is_tree))

  pub refusing : (verdict : Verdict) → verdict ≡ of_stage pool lottery earlier stage number lines → holds verdict ≡ false → verdict ≡ whole
  refusing verdict e h = refused_at pool lottery earlier next_stages stage number (lines ∷ next_trees) verdict e h ∙ sym from_here

  pub going_on : (verdict : Verdict) (next : ℕ) → verdict ≡ of_stage pool lottery earlier stage number lines → holds verdict ≡ true → next ≡ number + length lines + 1 →
      whole ≡ verdict_from pool lottery (stage ∷ earlier) next_stages next next_trees
  going_on verdict next e h f =
      from_here ∙ goes_on_after pool lottery earlier next_stages stage number (lines ∷ next_trees) verdict e h
      ∙ ap (λ n. verdict_from pool lottery (stage ∷ earlier) next_stages n next_trees) (sym f)
