-- How a check of a cover goes from one stage to the next.
use Rattle.std.proofs.Common.{◌≡◌, ℕ, ◌+◌, ◌≤◌, ◌<◌, Bool, true, false, ◌&&◌, List, [], ◌∷◌, length, get_or, drop, take, sum_by, map, Option, Some, refl, sym, ap, ap₂, ◌∙◌, arith}
use Rattle.std.specs.Prelude.{reverse}
use Rattle.std.specs.List.{list_all}
use Rattle.std.proofs.lemmas.Bool.{false≢true}
use Rattle.std.proofs.lemmas.List.{drop_more, reverse-append}
use Rattle.std.proofs.lemmas.List.Folds.{list_all-append}
use Rattle.std.proofs.lemmas.List.Sums.{sum_by_more, sum_by_more_le}
use Rattle.define_checks.specs.Caps.{classes_at, stage_row}
use Rattle.define_checks.specs.Reasons.{Refused, Valid, Verdict, first_reason, reasons_before_cap}
use Rattle.define_pools.specs.Certificate.{Stage}
use Rattle.define_pools.specs.Lottery.{Lottery}
use Rattle.define_pools.specs.Pool.{Pool}
use Rattle.define_proofs.specs.ProofSteps.{or_next}
use Rattle.define_proofs.specs.ProofVerdict.{line_reason, listed_reasons}
use Rattle.define_proofs.specs.TreeLines.{TreeFault}
use Rattle.define_covers.specs.Covers.{FrontLine}
use Rattle.define_covers.specs.CoverVerdict.{fault_from, tree_fault, tree_reasons}
use Rattle.check_reasons.specs.Sayings.{holds}
use Rattle.check_search.specs.Terms.{AreOfStage}
use Rattle.check_search.specs.declared.terms.Terms.{Terms}
use Rattle.define_covers.specs.CoverSteps.{stage_verdict, verdict_from}
use Rattle.define_covers.proofs.StepByStep.{goes_on_by_stages}

pub list_all-reverse : {X : Type 0} (p : X → Bool) (xs : List X) → list_all p (reverse xs) ≡ list_all p xs
list_all-reverse {X} p [] = refl
list_all-reverse {X} p (x ∷ xs) =
    ap (list_all p) (reverse-append (x ∷ []) xs) ∙ list_all-append p (reverse xs) (x ∷ []) ∙ ap (λ b. b && (p x && true)) (list_all-reverse p xs) ∙ turned (p x) (list_all p xs)
  where
    turned : (a b : Bool) → (b && (a && true)) ≡ (a && b)
    turned true true = refl
    turned true false = refl
    turned false true = refl
    turned false false = refl

pub is_valid : (verdict : Verdict) → holds verdict ≡ true → verdict ≡ Valid
is_valid Valid e = refl
is_valid (Refused refusal) e = absurd (false≢true e)

-- a refusal is the verdict, whatever comes next
pub stops : (verdict next : Verdict) → holds verdict ≡ false → or_next verdict next ≡ verdict
stops Valid next e = absurd (false≢true (sym e))
stops (Refused refusal) next e = refl

-- ---- the verdict on one stage

-- the first fault over the terms of a stage is the fault of the stage's tree
pub fault_of_terms : (pool : Pool) (earlier : List Stage) (stage : Stage) (terms : Terms) (number : ℕ) (lines : List FrontLine) → AreOfStage pool earlier stage terms →
    fault_from terms.classes terms.closed.items terms.row number (Some []) lines ≡ tree_fault pool earlier stage number lines
fault_of_terms pool earlier stage terms number lines made =
    ap (λ all. fault_from all terms.closed.items terms.row number (Some []) lines) made.classes
    ∙ ap (λ closed. fault_from (classes_at pool (stage ∷ earlier)) closed terms.row number (Some []) lines) made.closed
    ∙ ap (λ row. fault_from (classes_at pool (stage ∷ earlier)) (map (stage_row pool (stage ∷ earlier)) earlier) row number (Some []) lines) made.row

module _ (pool : Pool) (lottery : Lottery) (earlier : List Stage) (stage : Stage) (line : ℕ) (lines : List FrontLine) where
  abbrev pub before : Verdict
  before = first_reason (reasons_before_cap pool lottery earlier stage)

  abbrev pub listed : Verdict
  listed = first_reason (listed_reasons lottery earlier stage)

  pub refused_before : (verdict : Verdict) → verdict ≡ before → holds verdict ≡ false → verdict ≡ stage_verdict pool lottery earlier stage line lines
  refused_before verdict e h = sym (ap (λ it. or_next it (or_next (first_reason (tree_reasons pool earlier stage line lines)) listed)) (sym e) ∙ stops verdict _ h)

  -- if no reason before the cap applies, a fault of the lines refuses the stage; without a fault, the verdict is that on the listed panels
  pub of_fault : (first : Verdict) (fault : Option TreeFault) → first ≡ before → holds first ≡ true → fault ≡ tree_fault pool earlier stage line lines →
      stage_verdict pool lottery earlier stage line lines ≡ or_next (first_reason (line_reason (length earlier + 1) fault ∷ [])) listed
  of_fault first fault e valid f =
      ap (λ it. or_next it (or_next (first_reason (tree_reasons pool earlier stage line lines)) listed)) (sym e ∙ is_valid first valid)
      ∙ ap (λ it. or_next (first_reason (line_reason (length earlier + 1) it ∷ [])) listed) (sym f)

-- ---- from stage to stage

module _ (pool : Pool) (lottery : Lottery) (stages : List Stage) (trees : List (List FrontLine)) (j : ℕ) (earlier : List Stage) (stage : Stage) (lines : List FrontLine) (number : ℕ)
    (within : j < length stages) (is_stage : stage ≡ get_or stages j stage) (has_tree : j < length trees) (is_tree : lines ≡ get_or trees j lines)
    (whole : Verdict) (same : whole ≡ verdict_from pool lottery earlier (drop j stages) number (drop j trees)) where
  abbrev next_stages : List Stage
  next_stages = drop (j + 1) stages

  abbrev next_trees : List (List FrontLine)
  next_trees = drop (j + 1) trees

  abbrev rest : Verdict
  rest = verdict_from pool lottery (stage ∷ earlier) next_stages (number + length lines + 1) next_trees

  pub stages_from : drop j stages ≡ stage ∷ next_stages
  stages_from = drop_more stages j stage within ∙ ap (λ it. it ∷ next_stages) (sym is_stage)

  from_here : whole ≡ or_next (stage_verdict pool lottery earlier stage number lines) rest
  from_here =
      same ∙ ap₂ (λ those trees. verdict_from pool lottery earlier those number trees) stages_from (drop_more trees j lines has_tree ∙ ap (λ it. it ∷ next_trees) (sym is_tree))
      ∙ goes_on_by_stages pool lottery earlier next_stages stage number (lines ∷ next_trees)

  pub refusing : (verdict : Verdict) → verdict ≡ stage_verdict pool lottery earlier stage number lines → holds verdict ≡ false → verdict ≡ whole
  refusing verdict e h = sym (from_here ∙ ap (λ said. or_next said rest) (sym e) ∙ stops verdict rest h)

  pub going_on : (verdict : Verdict) (next : ℕ) → verdict ≡ stage_verdict pool lottery earlier stage number lines → holds verdict ≡ true → next ≡ number + length lines + 1 →
      whole ≡ verdict_from pool lottery (stage ∷ earlier) next_stages next next_trees
  going_on verdict next e h f =
      from_here ∙ ap (λ said. or_next said rest) (sym e ∙ is_valid verdict h) ∙ ap (λ n. verdict_from pool lottery (stage ∷ earlier) next_stages n next_trees) (sym f)

-- ---- how many steps

module _ (trees : List (List FrontLine)) (k : ℕ) (lines : List FrontLine) (below : k < length trees) (is : lines ≡ get_or trees k lines) where
  abbrev size : List FrontLine → ℕ
  size lines = length lines

  pub lines_more : sum_by size (take (k + 1) trees) ≡ sum_by size (take k trees) + length lines
  lines_more = sum_by_more size trees k lines below ∙ ap (λ it. sum_by size (take k trees) + length it) (sym is)

  pub lines_within : sum_by size (take k trees) + length lines ≤ sum_by size trees
  lines_within = omega (arith, sum_by_more_le size trees k lines below, ap size is)
