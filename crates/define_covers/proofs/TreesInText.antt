-- Where the lines of a cover's trees are in its text.
use Rattle.std.proofs.Common.{◌≡◌, ℕ, zero, suc, ◌+◌, ◌-◌, ◌≤◌, ◌<◌, List, [], ◌∷◌, ◌++◌, get_or, length, map, take, drop, reverse, refl, sym, ap, ◌∙◌, arith, length-append}
use Rattle.std.proofs.lemmas.List.{append_assoc, length-map, length-reverse}
use Rattle.define_checks.specs.Reasons.{Refusal, Refused}
use Rattle.define_bundles.specs.BundleText.{done_line, lines_before_done}
use Rattle.define_proofs.specs.ProofText.{bundle_lines, close_line}
use Rattle.define_covers.specs.Covers.{Cover, FrontLine}
use Rattle.define_covers.specs.CoverVerdict.{lines_before_tree, verdict}
use Rattle.define_covers.specs.CoverText.{IsCover, cover_lines, front_line, trees_from}
use Rattle.define_covers.specs.Refusals.{IsOfLine, NamesTextLine, lines_before, lines_behind, lines_of_trees, tree_of}
use Rattle.define_covers.proofs.RefusedCovers.{names_line, tree_within}

-- dropping `length xs + many` lines of `xs ++ ys` leaves `ys` without its first `many`
drop_behind : (xs ys : List (List ℕ)) (many : ℕ) → drop (length xs + many) (xs ++ ys) ≡ drop many ys
drop_behind [] ys many = let e : 0 + many ≡ many = omega arith in ap (λ k. drop k ys) e
drop_behind (x ∷ xs) ys many = let e : length (x ∷ xs) + many ≡ suc (length xs + many) = omega arith in ap (λ k. drop k (x ∷ (xs ++ ys))) e ∙ drop_behind xs ys many

-- dropping `place` lines of a tree's fronts leaves the lines of the fronts from `place` on
drop_fronts : (lines : List FrontLine) (rest : List (List ℕ)) (place : ℕ) → place ≤ length lines → drop place (map front_line lines ++ rest) ≡ map front_line (drop place lines) ++ rest
drop_fronts lines rest zero l = refl
drop_fronts [] rest (suc place) l = absurd (omega arith)
drop_fronts (line ∷ lines) rest (suc place) l = drop_fronts lines rest place (omega arith)

-- dropping all lines before place `place` of tree `k` leaves the rest of this tree, the later trees and the lines after them
drop_trees : (trees : List (List FrontLine)) (rest : List (List ℕ)) (number k place : ℕ) → k < length trees → place ≤ length (get_or trees k []) →
    drop (suc (lines_of_trees (take k trees) + place)) (trees_from number trees ++ rest) ≡ map front_line (drop place (get_or trees k [])) ++ (trees_from (number + k + 1) (drop (suc k) trees) ++ rest)
drop_trees [] rest number k place l m = absurd (omega arith)
drop_trees (lines ∷ later) rest number zero place l m =
    let many : 0 + place ≡ place = omega arith in
    let next : number + 1 ≡ number + 0 + 1 = omega arith in
    ap (λ n. drop n ((map front_line lines ++ trees_from (number + 1) later) ++ rest)) many
    ∙ ap (drop place) (append_assoc (map front_line lines) (trees_from (number + 1) later) rest)
    ∙ drop_fronts lines (trees_from (number + 1) later ++ rest) place m
    ∙ ap (λ n. map front_line (drop place lines) ++ (trees_from n later ++ rest)) next
drop_trees (lines ∷ later) rest number (suc k) place l m =
    let nodes = map front_line lines in
    let many : length lines + 1 + lines_of_trees (take k later) + place ≡ length nodes + suc (lines_of_trees (take k later) + place) = omega (arith, length-map lines front_line) in
    let next : number + 1 + k + 1 ≡ number + suc k + 1 = omega arith in
    ap (λ n. drop n ((nodes ++ trees_from (number + 1) later) ++ rest)) many
    ∙ ap (drop (length nodes + suc (lines_of_trees (take k later) + place))) (append_assoc nodes (trees_from (number + 1) later) rest)
    ∙ drop_behind nodes (trees_from (number + 1) later ++ rest) (suc (lines_of_trees (take k later) + place))
    ∙ drop_trees later rest (number + 1) k place (omega arith) m
    ∙ ap (λ n. map front_line (drop place (get_or later k [])) ++ (trees_from n (drop (suc k) later) ++ rest)) next

cover_lines_from : (cover : Cover) (k place : ℕ) → k < length cover.trees → place ≤ length (get_or cover.trees k []) →
    drop (lines_before_tree cover.bundle + lines_of_trees (take k cover.trees) + place) (cover_lines cover) ≡ map front_line (drop place (get_or cover.trees k [])) ++ lines_behind cover (suc k)
cover_lines_from cover k place l m =
    let bundle = bundle_lines cover.bundle.pool cover.bundle.answer in
    let trees = cover.trees in
    let close = close_line ∷ [] in
    let inside = lines_of_trees (take k trees) + place in
    let many : lines_before_tree cover.bundle + lines_of_trees (take k trees) + place ≡ suc (length bundle + suc inside) = omega (arith, length-append (lines_before_done cover.bundle.pool cover.bundle.answer) (done_line ∷ [])) in
    let next : 1 + k + 1 ≡ suc k + 1 = omega arith in
    ap (λ n. drop n (cover_lines cover)) many
    ∙ ap (drop (length bundle + suc inside)) (append_assoc bundle (trees_from 1 trees) close)
    ∙ drop_behind bundle (trees_from 1 trees ++ close) (suc inside)
    ∙ drop_trees trees close 1 k place l m
    ∙ ap (λ n. map front_line (drop place (get_or trees k [])) ++ (trees_from n (drop (suc k) trees) ++ close)) next

pub tree_lines_stand : (cover : Cover) (stage place : ℕ) → 1 ≤ stage → stage ≤ length cover.trees → place ≤ length (tree_of cover stage) →
    drop (lines_before cover stage + place) (cover_lines cover) ≡ map front_line (drop place (tree_of cover stage)) ++ lines_behind cover stage
tree_lines_stand cover zero place some few m = absurd (omega arith)
tree_lines_stand cover (suc k) place some few m =
    let trees = cover.trees in
    let back : suc k - 1 ≡ k = omega arith in
    let same = ap (λ n. length (get_or trees n [])) back in
    ap (λ n. drop (lines_before_tree cover.bundle + lines_of_trees (take n trees) + place) (cover_lines cover)) back
    ∙ cover_lines_from cover k place (omega arith) (omega (arith, same))
    ∙ ap (λ n. map front_line (drop place (get_or trees n [])) ++ lines_behind cover (suc k)) (sym back)

-- ---- the line that a refusal names

pub line_is_named : (cover : Cover) (refusal : Refusal) → IsCover cover → verdict cover ≡ Refused refusal → IsOfLine refusal → NamesTextLine cover refusal
line_is_named cover refusal is refused reason =
    let named = names_line cover refusal is.one_each refused reason in
    let number = named.number in
    let long : length cover.bundle.answer.stages ≡ length named.earlier + suc (length named.later) =
    ap length named.stages ∙ length-append (reverse named.earlier) (named.stage ∷ named.later) ∙ ap (λ n. n + suc (length named.later)) (length-reverse named.earlier) in
    let one_each = is.one_each in
    let some : 1 ≤ refusal.stage = omega (arith, number) in
    let few : refusal.stage ≤ length cover.trees = omega (arith, number, long, one_each) in
    let before = lines_before cover refusal.stage in
    let lines = tree_of cover refusal.stage in
    let line = named.line in
    let found = tree_within cover.bundle.pool named.earlier named.stage (before + 1) lines (record { line = line; reason = refusal.reason }) named.first_fault in
    let from : before + 1 ≤ line = found.from in
    let to : line ≤ before + 1 + length lines = found.to in
    let within : line - (before + 1) ≤ length lines = omega (arith, from, to) in
    let same : line ≡ before + (line - (before + 1)) + 1 = omega (arith, from) in
    record {
      place = line - (before + 1);
      within = within;
      who = named.who ∙ ap (λ n. n ∷ []) same;
      text = tree_lines_stand cover refusal.stage (line - (before + 1)) some few within;
    }
