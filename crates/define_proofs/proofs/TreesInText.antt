-- Where the lines of a proof's trees are in its text.
use Rattle.std.proofs.Common.{◌≡◌, ℕ, zero, suc, ◌+◌, ◌-◌, ◌≤◌, ◌<◌, List, [], ◌∷◌, ◌++◌, get_or, length, map, take, drop, reverse, Some, refl, sym, ap, ◌∙◌, ◌⊎◌, arith, length-append}
use Rattle.std.proofs.lemmas.List.{append_assoc, length-map, length-reverse}
use Rattle.define_checks.specs.Reasons.{Refusal, Refused}
use Rattle.define_pools.specs.declared.Standing.{Standing}
use Rattle.define_pools.specs.Certificate.{Answer}
use Rattle.define_pools.specs.Pool.{Pool}
use Rattle.define_bundles.specs.BundleText.{done_line, lines_before_done, pool_lines}
use Rattle.define_proofs.specs.Leaves.{Problem, no_panel_problem, stage_problem, standings}
use Rattle.define_proofs.specs.ProofVerdict.{OfLottery, OfNoPanel, Proof, lines_before_tree, verdict}
use Rattle.define_proofs.specs.Refusals.{lines_before, lines_of_trees, tree_of}
use Rattle.define_proofs.specs.TreeLines.{TreeLine, fault, tree_fault}
use Rattle.define_proofs.proofs.Refused.{names_line}
use Rattle.define_proofs.proofs.StepByStep.{fault_within}
use Rattle.define_proofs.specs.LinesInText.{HasTree, NamesTextLine, lines_behind, proof_lines}
use Rattle.define_proofs.specs.ProofText.{IsProof, bundle_lines, close_line, lines_before_close, node_line, none_line, proof_line, tree_line, tree_lines, trees_from}

-- dropping `length xs + many` lines of `xs ++ ys` leaves `ys` without its first `many`
drop_behind : (xs ys : List (List ℕ)) (many : ℕ) → drop (length xs + many) (xs ++ ys) ≡ drop many ys
drop_behind [] ys many = let e : 0 + many ≡ many = omega arith in ap (λ k. drop k ys) e
drop_behind (x ∷ xs) ys many = let e : length (x ∷ xs) + many ≡ suc (length xs + many) = omega arith in ap (λ k. drop k (x ∷ (xs ++ ys))) e ∙ drop_behind xs ys many

-- dropping `place` lines of a tree's nodes leaves the lines of the nodes from `place` on
drop_nodes : (lines : List TreeLine) (rest : List (List ℕ)) (place : ℕ) → place ≤ length lines → drop place (map node_line lines ++ rest) ≡ map node_line (drop place lines) ++ rest
drop_nodes lines rest zero l = refl
drop_nodes [] rest (suc place) l = absurd (omega arith)
drop_nodes (line ∷ lines) rest (suc place) l = drop_nodes lines rest place (omega arith)

-- dropping all lines before place `place` of tree `k` leaves the rest of this tree, the later trees and the lines after them
drop_trees : (trees : List (List TreeLine)) (rest : List (List ℕ)) (number k place : ℕ) → k < length trees → place ≤ length (get_or trees k []) →
    drop (suc (lines_of_trees (take k trees) + place)) (trees_from number trees ++ rest) ≡ map node_line (drop place (get_or trees k [])) ++ (trees_from (number + k + 1) (drop (suc k) trees) ++ rest)
drop_trees [] rest number k place l m = absurd (omega arith)
drop_trees (lines ∷ later) rest number zero place l m =
    let many : 0 + place ≡ place = omega arith in
    let next : number + 1 ≡ number + 0 + 1 = omega arith in
    ap (λ n. drop n ((map node_line lines ++ trees_from (number + 1) later) ++ rest)) many
    ∙ ap (drop place) (append_assoc (map node_line lines) (trees_from (number + 1) later) rest)
    ∙ drop_nodes lines (trees_from (number + 1) later ++ rest) place m
    ∙ ap (λ n. map node_line (drop place lines) ++ (trees_from n later ++ rest)) next
drop_trees (lines ∷ later) rest number (suc k) place l m =
    let nodes = map node_line lines in
    let many : length lines + 1 + lines_of_trees (take k later) + place ≡ length nodes + suc (lines_of_trees (take k later) + place) = omega (arith, length-map lines node_line) in
    let next : number + 1 + k + 1 ≡ number + suc k + 1 = omega arith in
    ap (λ n. drop n ((nodes ++ trees_from (number + 1) later) ++ rest)) many
    ∙ ap (drop (length nodes + suc (lines_of_trees (take k later) + place))) (append_assoc nodes (trees_from (number + 1) later) rest)
    ∙ drop_behind nodes (trees_from (number + 1) later ++ rest) (suc (lines_of_trees (take k later) + place))
    ∙ drop_trees later rest (number + 1) k place (omega arith) m
    ∙ ap (λ n. map node_line (drop place (get_or later k [])) ++ (trees_from n (drop (suc k) later) ++ rest)) next

module _ (pool : Pool) (answer : Answer) (trees : List (List TreeLine)) where
  abbrev whole : Proof
  whole = OfLottery pool answer trees

  lottery_lines : (k place : ℕ) → k < length trees → place ≤ length (get_or trees k []) →
      drop (lines_before_tree whole + lines_of_trees (take k trees) + place) (proof_lines whole) ≡ map node_line (drop place (get_or trees k [])) ++ lines_behind whole (suc k)
  lottery_lines k place l m =
      let bundle = bundle_lines pool answer in
      let close = close_line ∷ [] in
      let inside = lines_of_trees (take k trees) + place in
      let many : lines_before_tree whole + lines_of_trees (take k trees) + place ≡ suc (length bundle + suc inside) = omega (arith, length-append (lines_before_done pool answer) (done_line ∷ [])) in
      let next : 1 + k + 1 ≡ suc k + 1 = omega arith in
      ap (λ n. drop n (proof_lines whole)) many
      ∙ ap (drop (length bundle + suc inside)) (append_assoc bundle (trees_from 1 trees) close)
      ∙ drop_behind bundle (trees_from 1 trees ++ close) (suc inside)
      ∙ drop_trees trees close 1 k place l m
      ∙ ap (λ n. map node_line (drop place (get_or trees k [])) ++ (trees_from n (drop (suc k) trees) ++ close)) next

  of_stage : (stage place : ℕ) → 1 ≤ stage → stage ≤ length trees → place ≤ length (tree_of whole stage) →
      drop (lines_before whole stage + place) (proof_lines whole) ≡ map node_line (drop place (tree_of whole stage)) ++ lines_behind whole stage
  of_stage zero place some few m = absurd (omega arith)
  of_stage (suc k) place some few m =
      let back : suc k - 1 ≡ k = omega arith in
      let same = ap (λ n. length (get_or trees n [])) back in
      ap (λ n. drop (lines_before_tree whole + lines_of_trees (take n trees) + place) (proof_lines whole)) back
      ∙ lottery_lines k place (omega arith) (omega (arith, same))
      ∙ ap (λ n. map node_line (drop place (get_or trees n [])) ++ lines_behind whole (suc k)) (sym back)

of_none : (pool : Pool) (lines : List TreeLine) (place : ℕ) → place ≤ length lines →
    drop (lines_before_tree (OfNoPanel pool lines) + place) (proof_lines (OfNoPanel pool lines)) ≡ map node_line (drop place lines) ++ close_line ∷ []
of_none pool lines place m =
    let close = close_line ∷ [] in
    let rest = none_line ∷ tree_lines 0 lines in
    let many : lines_before_tree (OfNoPanel pool lines) + place ≡ suc (length (pool_lines pool) + suc (suc place)) = omega arith in
    ap (λ n. drop n (proof_lines (OfNoPanel pool lines))) many
    ∙ ap (drop (length (pool_lines pool) + suc (suc place))) (append_assoc (pool_lines pool) rest close)
    ∙ drop_behind (pool_lines pool) (rest ++ close) (suc (suc place))
    ∙ drop_nodes lines close place m

pub tree_lines_stand : (proof : Proof) (stage place : ℕ) → HasTree proof stage → place ≤ length (tree_of proof stage) →
    drop (lines_before proof stage + place) (proof_lines proof) ≡ map node_line (drop place (tree_of proof stage)) ++ lines_behind proof stage
tree_lines_stand (OfLottery pool answer trees) stage place has m = of_stage pool answer trees stage place has.0 has.1 m
tree_lines_stand (OfNoPanel pool lines) stage place has m = of_none pool lines place m

-- ---- the line that a refusal names

-- if a refusal names the line in which the first fault of a proof's tree is, this is a line of the text
in_text : (proof : Proof) (refusal : Refusal) (problem : Problem) (all : List Standing) (line : ℕ) → HasTree proof refusal.stage → refusal.who ≡ line ∷ [] →
    tree_fault problem all (lines_before proof refusal.stage + 1) (tree_of proof refusal.stage) ≡ fault line refusal.reason → NamesTextLine proof refusal
in_text proof refusal problem all line has who first =
    let before = lines_before proof refusal.stage in
    let lines = tree_of proof refusal.stage in
    let found = fault_within problem all (before + 1) (Some []) lines (record { line = line; reason = refusal.reason }) first in
    let from : before + 1 ≤ line = found.from in
    let to : line ≤ before + 1 + length lines = found.to in
    let within : line - (before + 1) ≤ length lines = omega (arith, from, to) in
    let same : line ≡ before + (line - (before + 1)) + 1 = omega (arith, from) in
    record {
      place = line - (before + 1);
      within = within;
      who = who ∙ ap (λ n. n ∷ []) same;
      text = tree_lines_stand proof refusal.stage (line - (before + 1)) has within;
    }

pub line_is_named : (proof : Proof) (refusal : Refusal) → IsProof proof → verdict proof ≡ Refused refusal → (refusal.reason ≡ 11) ⊎ (refusal.reason ≡ 12) → NamesTextLine proof refusal
line_is_named (OfLottery pool answer trees) refusal is refused reason =
    let named = names_line (OfLottery pool answer trees) refusal is.one_each refused reason in
    let number = named.number in
    let long : length answer.stages ≡ length named.earlier + suc (length named.later) =
    ap length named.stages ∙ length-append (reverse named.earlier) (named.stage ∷ named.later) ∙ ap (λ n. n + suc (length named.later)) (length-reverse named.earlier) in
    let one_each = is.one_each in
    let some : 1 ≤ refusal.stage = omega (arith, number) in
    let few : refusal.stage ≤ length trees = omega (arith, number, long, one_each) in
    in_text (OfLottery pool answer trees) refusal (stage_problem pool named.earlier named.stage) (standings pool) named.line (some, few) named.who named.first_fault
line_is_named (OfNoPanel pool lines) refusal is refused reason =
    let named = names_line (OfNoPanel pool lines) refusal tt refused reason in
    in_text (OfNoPanel pool lines) refusal (no_panel_problem pool) (standings pool) named.line named.number named.who named.first_fault
