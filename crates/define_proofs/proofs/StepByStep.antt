-- A check of a proof goes on from stage to stage, and in a tree from line to line.
use Rattle.std.proofs.Common.{◌≡◌, ℕ, zero, suc, ◌+◌, ◌≤◌, Bool, true, false, cond, List, [], ◌∷◌, ◌++◌, set, length, Option, Some, None, refl, sym, ap, ◌∙◌, ◌⊎◌, inl, inr, arith}
use Rattle.std.proofs.lemmas.Bool.{false≢true}
use Rattle.define_checks.specs.Reasons.{Refusal, Refused, Valid, Verdict, first_reason, lottery_reasons, reasons_before_cap}
use Rattle.define_pools.specs.declared.Standing.{Standing}
use Rattle.define_pools.specs.declared.Standing.TheVariants.{Open, Seated, Gone}
use Rattle.define_proofs.specs.Leaves.{Problem, leaf_shows}
use Rattle.define_proofs.specs.ProofSteps.{BeginsWithLottery, GoesOnByStages, or_next}
use Rattle.define_proofs.specs.ProofVerdict.{OfLottery, first_tree, later_trees, lines_before_tree, listed_reasons, reasons_from, tree_reasons}
use Rattle.define_proofs.specs.Trees.{is_undecided}
use Rattle.define_proofs.specs.TreeLines.{Decision, OfLeaf, OfSplit, TreeFault, TreeLine, fault, fault_from, path_behind, standings_at}

-- ---- from stage to stage

first_joined : (xs ys : List (Option Refusal)) → first_reason (xs ++ ys) ≡ or_next (first_reason xs) (first_reason ys)
first_joined [] ys = refl
first_joined (None ∷ xs) ys = first_joined xs ys
first_joined (Some refusal ∷ xs) ys = refl

next_assoc : (first second third : Verdict) → or_next (or_next first second) third ≡ or_next first (or_next second third)
next_assoc Valid second third = refl
next_assoc (Refused refusal) second third = refl

pub begins_with_lottery : BeginsWithLottery
begins_with_lottery pool answer trees =
    first_joined (lottery_reasons pool answer.lottery) (reasons_from pool answer.lottery [] answer.stages (lines_before_tree (OfLottery pool answer trees) + 1) trees)

pub goes_on_by_stages : GoesOnByStages
goes_on_by_stages pool lottery earlier later stage line trees =
    let lines = first_tree trees in
    let before = reasons_before_cap pool lottery earlier stage in
    let of_tree = tree_reasons pool earlier stage line lines in
    let of_listed = listed_reasons lottery earlier stage in
    let rest = reasons_from pool lottery (stage ∷ earlier) later (line + length lines + 1) (later_trees trees) in
    first_joined ((before ++ of_tree) ++ of_listed) rest
    ∙ ap (λ first. or_next first (first_reason rest)) (first_joined (before ++ of_tree) of_listed ∙ ap (λ first. or_next first (first_reason of_listed)) (first_joined before of_tree))
    ∙ next_assoc (or_next (first_reason before) (first_reason of_tree)) (first_reason of_listed) (first_reason rest)
    ∙ next_assoc (first_reason before) (first_reason of_tree) (or_next (first_reason of_listed) (first_reason rest))

-- ---- a decision that is undone

-- if an undecided volunteer's standing is set, and then set to open again, nothing has changed
pub undone : (all : List Standing) (i : ℕ) (standing : Standing) → is_undecided all i ≡ true → set (set all i standing) i Open ≡ all
undone [] i standing h = refl
undone (Open ∷ all) zero standing h = refl
undone (Seated ∷ all) zero standing h = absurd (false≢true h)
undone (Gone ∷ all) zero standing h = absurd (false≢true h)
undone (one ∷ all) (suc i) standing h = ap (λ rest. one ∷ rest) (undone all i standing h)

-- ---- from line to line in a tree

-- a fault is in one of `count` lines from `number` on, or just after them, and its reason is 11 or 12
pub record IsWithin (number count : ℕ) (fault : TreeFault) : Type 0 where
  pub from : number ≤ fault.line
  pub to : fault.line ≤ number + count
  pub reason : (fault.reason ≡ 11) ⊎ (fault.reason ≡ 12)

module _ (problem : Problem) (standings : List Standing) where
  here_11 : (number count : ℕ) (found : TreeFault) → fault number 11 ≡ Some found → IsWithin number count found
  here_11 number count found e =
      let made : TreeFault = record { line = number; reason = 11 } in
      let same : made ≡ found = cc in
      let line = ap (λ (f : TreeFault). f.line) same in let reason = ap (λ (f : TreeFault). f.reason) same in
      record { from = omega (arith, line); to = omega (arith, line); reason = inl (sym reason) }

  here_12 : (number count : ℕ) (found : TreeFault) → fault number 12 ≡ Some found → IsWithin number count found
  here_12 number count found e =
      let made : TreeFault = record { line = number; reason = 12 } in
      let same : made ≡ found = cc in
      let line = ap (λ (f : TreeFault). f.line) same in let reason = ap (λ (f : TreeFault). f.reason) same in
      record { from = omega (arith, line); to = omega (arith, line); reason = inr (sym reason) }

  later_fault : (number count : ℕ) (found : TreeFault) → IsWithin (number + 1) count found → IsWithin number (suc count) found
  later_fault number count found h = let l = h.from in let m = h.to in record { from = omega arith; to = omega arith; reason = h.reason }

  pub fault_within : (number : ℕ) (path : Option (List Decision)) (lines : List TreeLine) (found : TreeFault) → fault_from problem standings number path lines ≡ Some found → IsWithin number (length lines) found
  fault_within number None [] found e = absurd cc
  fault_within number None (line ∷ later) found e = here_11 number (length (line ∷ later)) found e
  fault_within number (Some path) [] found e = here_11 number 0 found e
  fault_within number (Some path) (OfSplit i ∷ later) found e = by (is_undecided (standings_at standings path) i) e (fault_within (number + 1) (Some (record { volunteer = i; is_in = false } ∷ path)) later found)
    where
      by : (b : Bool) → cond b (fault_from problem standings (number + 1) (Some (record { volunteer = i; is_in = false } ∷ path)) later) (fault number 11) ≡ Some found →
          (fault_from problem standings (number + 1) (Some (record { volunteer = i; is_in = false } ∷ path)) later ≡ Some found → IsWithin (number + 1) (length later) found) →
          IsWithin number (suc (length later)) found
      by true f rest = later_fault number (length later) found (rest f)
      by false f rest = here_11 number (suc (length later)) found f
  fault_within number (Some path) (OfLeaf leaf ∷ later) found e = by (leaf_shows problem (standings_at standings path) leaf) e (fault_within (number + 1) (path_behind path) later found)
    where
      by : (b : Bool) → cond b (fault_from problem standings (number + 1) (path_behind path) later) (fault number 12) ≡ Some found →
          (fault_from problem standings (number + 1) (path_behind path) later ≡ Some found → IsWithin (number + 1) (length later) found) →
          IsWithin number (suc (length later)) found
      by true f rest = later_fault number (length later) found (rest f)
      by false f rest = here_12 number (suc (length later)) found f
