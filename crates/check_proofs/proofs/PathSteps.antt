-- Decisions that are added to a path and undone, and the first fault of a tree's lines, line after line.
use Rattle.std.proofs.Common.{◌≡◌, ℕ, zero, suc, ◌+◌, ◌<◌, Bool, true, false, cond, List, [], ◌∷◌, ◌++◌, length, set, get_or, drop, reverse, Option, Some, None, Result, Ok, Err, refl, sym, ap, ◌∙◌, subst, arith}
use Rattle.std.proofs.lemmas.Bool.{and_from, and_parts, false≢true}
use Rattle.std.proofs.lemmas.List.{drop_more, length-set, reverse-append}
use Rattle.define_pools.specs.declared.Standing.{Standing}
use Rattle.define_pools.specs.declared.Standing.TheVariants.{Open}
use Rattle.define_pools.specs.Pool.{Pool}
use Rattle.define_proofs.specs.Leaves.{Problem, leaf_shows, standings}
use Rattle.define_proofs.specs.TreeLines.{Decision, OfLeaf, OfSplit, TreeFault, TreeLine, decided_standing, fault, fault_from, path_behind, standings_at}
use Rattle.define_proofs.specs.Trees.{is_undecided}
use Rattle.define_proofs.proofs.StepByStep.{undone}
use Rattle.check_proofs.specs.Paths.{KeepsStandings, Path, each_undecided, reached}
use Rattle.check_proofs.specs.Steps.{next}

-- an undecided volunteer is one of the volunteers
pub undecided_below : (all : List Standing) (i : ℕ) → is_undecided all i ≡ true → i < length all
undecided_below [] i h = absurd (false≢true h)
undecided_below (one ∷ all) zero h = omega arith
undecided_below (one ∷ all) (suc i) h = let rest = undecided_below all i h in omega arith

pub reverse_push : {X : Type 0} (xs : List X) (x : X) → reverse (xs ++ x ∷ []) ≡ x ∷ reverse xs
reverse_push xs x = reverse-append xs (x ∷ [])

-- ---- decisions

module _ (pool : Pool) (decisions : List Decision) (kept : List Standing) where
  abbrev path : Path
  path = record { pool = pool; decisions = reverse decisions }

  -- if `KeepsStandings` holds and a volunteer is undecided, it still holds after a decision on this volunteer is added and the kept
  -- standing set
  pub keeps_more : (i : ℕ) (is_in : Bool) (one : Decision) (all : List Decision) → KeepsStandings path kept → is_undecided (reached path) i ≡ true → one ≡ record { volunteer = i; is_in = is_in } → all ≡ decisions ++ one ∷ [] →
      KeepsStandings (record { pool = pool; decisions = reverse all }) (set kept i (decided_standing is_in))
  keeps_more i is_in one all keeps free is e =
      let new : Decision = record { volunteer = i; is_in = is_in } in
      let turned : reverse all ≡ new ∷ reverse decisions = ap reverse e ∙ (reverse_push decisions one ∙ ap (λ d. d ∷ reverse decisions) is) in
      subst (λ ds. KeepsStandings (record { pool = pool; decisions = ds }) (set kept i (decided_standing is_in))) (sym turned)
      (record {
        same = ap (λ all. set all i (decided_standing is_in)) keeps.same;
        undecided = and_from (is_undecided (reached path) i) (each_undecided (standings pool) (reverse decisions)) free keeps.undecided;
      })

-- if `KeepsStandings` holds, it still holds after the latest decision is undone
module _ (pool : Pool) (decisions rest : List Decision) (one : Decision) (kept : List Standing) (e : decisions ≡ rest ++ one ∷ [])
    (keeps : KeepsStandings (record { pool = pool; decisions = reverse decisions }) kept) where
  abbrev before : Path
  before = record { pool = pool; decisions = reverse rest }

  pub latest_first : reverse decisions ≡ one ∷ reverse rest
  latest_first = ap reverse e ∙ reverse_push rest one

  with_latest : KeepsStandings (record { pool = pool; decisions = one ∷ reverse rest }) kept
  with_latest = subst (λ ds. KeepsStandings (record { pool = pool; decisions = ds }) kept) latest_first keeps

  pub was_undecided : is_undecided (reached before) one.volunteer ≡ true
  was_undecided = (and_parts (is_undecided (reached before) one.volunteer) (each_undecided (standings pool) (reverse rest)) with_latest.undecided).0

  pub latest_below : one.volunteer < length kept
  latest_below =
      let inside = undecided_below (reached before) one.volunteer was_undecided in
      let many = ap (λ (all : List Standing). length all) with_latest.same in
      let same = length-set (reached before) one.volunteer (decided_standing one.is_in) in omega (arith, inside, many, same)

  pub keeps_less : KeepsStandings before (set kept one.volunteer Open)
  keeps_less = record {
    same = ap (λ all. set all one.volunteer Open) with_latest.same ∙ undone (reached before) one.volunteer (decided_standing one.is_in) was_undecided;
    undecided = (and_parts (is_undecided (reached before) one.volunteer) (each_undecided (standings pool) (reverse rest)) with_latest.undecided).1;
  }

-- ---- lines

module _ (problem : Problem) (all : List Standing) (number : ℕ) where
  abbrev along : Result (Option (List Decision)) ℕ → List TreeLine → Option TreeFault
  along (Ok place) later = fault_from problem all (number + 1) place later
  along (Err reason) later = fault number reason

  -- the first fault from `line` on is the fault of `line`, or else the first fault of the later lines at the next path
  by_step : (place : Option (List Decision)) (line : TreeLine) (later : List TreeLine) → fault_from problem all number place (line ∷ later) ≡ along (next problem all place line) later
  by_step None line later = refl
  by_step (Some path) (OfSplit i) later =
      elim (is_undecided (standings_at all path) i) as (λ b. cond b (fault_from problem all (number + 1) (Some (record { volunteer = i; is_in = false } ∷ path)) later) (fault number 11)
      ≡ along (cond b (Ok (Some (record { volunteer = i; is_in = false } ∷ path))) (Err 11)) later) [
        | true ↦ refl
        | false ↦ refl
      ]
  by_step (Some path) (OfLeaf leaf) later =
      elim (leaf_shows problem (standings_at all path) leaf) as (λ b. cond b (fault_from problem all (number + 1) (path_behind path) later) (fault number 12)
      ≡ along (cond b (Ok (path_behind path)) (Err 12)) later) [
        | true ↦ refl
        | false ↦ refl
      ]

  pub goes_on : (place to : Option (List Decision)) (line : TreeLine) (later : List TreeLine) → next problem all place line ≡ Ok to → fault_from problem all number place (line ∷ later) ≡ fault_from problem all (number + 1) to later
  goes_on place to line later e = by_step place line later ∙ ap (λ step. along step later) e

  pub refused_here : (place : Option (List Decision)) (reason : ℕ) (line : TreeLine) (later : List TreeLine) → next problem all place line ≡ Err reason → fault_from problem all number place (line ∷ later) ≡ fault number reason
  refused_here place reason line later e = by_step place line later ∙ ap (λ step. along step later) e

-- if line `k` is passed, and `whole` was the first fault from line `k` on, it is the first fault of the lines after line `k`
pub line_passed : (problem : Problem) (pool at : Pool) (number k : ℕ) (lines : List TreeLine) (line : TreeLine) (here there : Option (List Decision)) (whole : Option TreeFault) → at ≡ pool → k < length lines →
    line ≡ get_or lines k line → next problem (standings at) here line ≡ Ok there → whole ≡ fault_from problem (standings pool) (number + k) here (drop k lines) →
    whole ≡ fault_from problem (standings pool) (number + (k + 1)) there (drop (k + 1) lines)
line_passed problem pool at number k lines line here there whole same below is step e =
    let all = standings pool in
    let later = drop (k + 1) lines in
    let counted : number + k + 1 ≡ number + (k + 1) = omega arith in
    e ∙ ap (fault_from problem all (number + k) here) (drop_more lines k line below ∙ ap (λ one. one ∷ later) (sym is))
    ∙ goes_on problem all (number + k) here there line later (subst (λ (at : Pool). next problem (standings at) here line ≡ Ok there) same step)
    ∙ ap (λ n. fault_from problem all n there later) counted
