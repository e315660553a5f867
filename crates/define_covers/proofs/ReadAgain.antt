-- The text of a cover is read as this cover.
use Rattle.std.proofs.Common.{◌≡◌, ℕ, ◌+◌, ◌≤◌, true, not, ltb, cond, List, [], ◌∷◌, ◌++◌, length, map, refl, sym, ◌∙◌, ap, subst, arith, append_assoc, length-append, Some, None}
use Rattle.std.specs.Prelude.{bytes_eq, codes, Ok}
use Rattle.std.specs.List.{list_all}
use Rattle.std.proofs.lemmas.Bool.{and_parts, leb-true, ltb-true}
use Rattle.std.proofs.lemmas.List.{append-nil}
use Rattle.define_pools.specs.Building.{lowest_kind}
use Rattle.define_lines.specs.Lines.{line_feed, text_of}
use Rattle.define_lines.proofs.LineByLine as reading
use Rattle.define_lines.proofs.LineLemmas.{Lacks}
use Rattle.define_lines.proofs.FieldLemmas.{line_lacks_feed, plain_field}
use Rattle.define_lines.proofs.NumberLemmas.{bytes_same}
use Rattle.define_bundles.specs.BundleReading as bundles
use Rattle.define_bundles.specs.BundleText.{Bundle}
use Rattle.define_bundles.proofs.ReadAgain as bundle_again
use Rattle.define_proofs.specs.ProofText.{bundle_lines, close_line, tree_line}
use Rattle.define_covers.specs.Covers.{Cover, FrontLine}
use Rattle.define_covers.specs.CoverRanges.{is_front_line, value_count}
use Rattle.define_covers.specs.CoverText.{IsCover, cover_line, cover_lines, cover_spelling, front_line, keep_ranges, most_trees, trees_from}
use Rattle.define_covers.specs.CoverReading.{Begun, Closed, InBundle, InTrees, LineInTree, NextTree, OfFront, Progress, TheClose, after_tree, line_in_tree, read_cover, reader, said_in_tree, tree_kinds}
use Rattle.define_covers.proofs.FewValues.{few_values}
use Rattle.define_covers.proofs.FrontLines.{close_again, front_again, front_lacks_feed, next_again, tree_lacks_feed}

-- none of the lines has an LF or a fault, and reading them leads from the first progress to the second
abbrev pub Runs : Progress → List (List ℕ) → Progress → Type 0
Runs = reading.Runs reader

-- ---- the lines of a bundle

-- if lines of a bundle lead to the bundle's end, they lead to it in a cover too
bundle_inside : (progress : bundles.Progress) (lines : List (List ℕ)) (bundle : Bundle) → bundle_again.Runs progress lines (bundles.Done bundle) → Runs (InBundle progress) lines (InBundle (bundles.Done bundle))
bundle_inside progress [] bundle h = ap InBundle h
bundle_inside bundles.Begun (line ∷ lines) bundle h = (h.0, h.1, bundle_inside (bundles.after_line bundles.Begun line) lines bundle h.2)
bundle_inside (bundles.InPool version progress) (line ∷ lines) bundle h = (h.0, h.1, bundle_inside (bundles.after_line (bundles.InPool version progress) line) lines bundle h.2)
bundle_inside (bundles.InRows pool lottery) (line ∷ lines) bundle h = (h.0, h.1, bundle_inside (bundles.after_line (bundles.InRows pool lottery) line) lines bundle h.2)
bundle_inside (bundles.InStages pool answer) (line ∷ lines) bundle h = (h.0, h.1, bundle_inside (bundles.after_line (bundles.InStages pool answer) line) lines bundle h.2)
bundle_inside (bundles.Done other) (line ∷ lines) bundle h = let e = h.1 in cc

-- ---- the lines of trees

-- a line that equals the one that is required has no fault of kind 19
expected : (line : List ℕ) → lowest_kind ((19, not (bytes_eq line line)) ∷ []) ≡ None
expected line = ap (λ b. cond (not b) (Some 19) None) (bytes_same line line refl)

module _ (bundle : Bundle) (few_all : value_count bundle.pool ≤ 1000) where
  -- if `line` has no LF and is read as `said` without a fault, and from the progress after it the later lines lead to `after`, then `line`
  -- and the later lines lead to `after`
  run_tree : (whole : List (List FrontLine)) (lines : List FrontLine) (line : List ℕ) (said : LineInTree) (later : List (List ℕ)) (after : Progress) → Lacks line_feed line → said_in_tree bundle whole line ≡ said →
      lowest_kind (tree_kinds said) ≡ None → Runs (after_tree bundle whole lines said) later after → Runs (InTrees bundle whole lines) (line ∷ later) after
  run_tree whole lines line said later after lacks e none rest =
      (lacks, ap (λ s. lowest_kind (tree_kinds s)) e ∙ none, subst (λ s. Runs (after_tree bundle whole lines s) later after) (sym e) rest)

  fronts_run : (whole : List (List FrontLine)) (done todo : List FrontLine) → length whole + 1 ≤ most_trees → list_all (is_front_line bundle.pool (length whole + 1)) todo ≡ true →
      Runs (InTrees bundle whole done) (map front_line todo) (InTrees bundle whole (done ++ todo))
  fronts_run whole done [] small are = ap (InTrees bundle whole) (sym (append-nil done))
  fronts_run whole done (front ∷ todo) small are =
      let parts = and_parts (is_front_line bundle.pool (length whole + 1) front) (list_all (is_front_line bundle.pool (length whole + 1)) todo) are in
      let rest = fronts_run whole (done ++ front ∷ []) todo small parts.1 in
      run_tree whole done (front_line front) (OfFront front) (map front_line todo) (InTrees bundle whole (done ++ front ∷ todo)) (front_lacks_feed bundle.pool few_all (length whole + 1) small front parts.0)
      (front_again bundle.pool few_all (length whole + 1) small (length bundle.answer.stages) front parts.0) refl
      (subst (λ lines. Runs (InTrees bundle whole (done ++ front ∷ [])) (map front_line todo) (InTrees bundle whole lines)) (append_assoc done (front ∷ []) todo) rest)

  -- let the later trees be in their ranges, and all trees together be as many as the stages and at most `most_trees`. After the lines of
  -- one tree, the lines of the later trees and the last line lead to the text's end
  later_run : (whole : List (List FrontLine)) (lines : List FrontLine) (later : List (List FrontLine)) → (length whole + 1) + length later ≡ length bundle.answer.stages → (length whole + 1) + length later ≤ most_trees →
      keep_ranges bundle.pool (length whole + 1) later ≡ true →
      Runs (InTrees bundle whole lines) (trees_from ((length whole + 1) + 1) later ++ close_line ∷ []) (Closed (record { bundle = bundle; trees = whole ++ lines ∷ later }))
  later_run whole lines [] many few are =
      let last : length whole + 1 ≡ length bundle.answer.stages = omega arith in
      let said : said_in_tree bundle whole close_line ≡ TheClose = ap (λ stages. line_in_tree bundle.pool (length whole + 1) stages close_line) (sym last) ∙ close_again bundle.pool (length whole + 1) in
      run_tree whole lines close_line TheClose [] (Closed (record { bundle = bundle; trees = whole ++ lines ∷ [] })) (plain_field (codes "close") refl).no_feed said refl refl
  later_run whole lines (tree ∷ later) many few are =
      let number = (length whole + 1) + 1 in
      let parts = and_parts (list_all (is_front_line bundle.pool number) tree) (keep_ranges bundle.pool number later) are in
      let more = whole ++ lines ∷ [] in
      let closed : List (List FrontLine) → Progress = λ trees. Closed (record { bundle = bundle; trees = trees }) in
      let size : length more ≡ length whole + 1 = length-append whole (lines ∷ []) in
      let same : (length more + 1) + 1 ≡ number + 1 = omega (arith, size) in
      let here : number ≡ length more + 1 = omega (arith, size) in
      let small : length more + 1 ≤ most_trees = omega (arith, size, few) in
      let rest = later_run more tree later (omega (arith, size, many)) (omega (arith, size, few)) (subst (λ n. keep_ranges bundle.pool n later ≡ true) here parts.1) in
      let numbered = subst (λ k. Runs (InTrees bundle more tree) (trees_from k later ++ close_line ∷ []) (closed (more ++ tree ∷ later))) same rest in
      let fronts = fronts_run more [] tree small (subst (λ n. list_all (is_front_line bundle.pool n) tree ≡ true) here parts.0) in
      let all = reading.Runs-append reader (InTrees bundle more []) (InTrees bundle more tree) (closed (more ++ tree ∷ later))
      (map front_line tree) (trees_from (number + 1) later ++ close_line ∷ []) fronts numbered in
      let regrouped = subst (λ ls. Runs (InTrees bundle more []) ls (closed (more ++ tree ∷ later))) (sym (append_assoc (map front_line tree) (trees_from (number + 1) later) (close_line ∷ []))) all in
      run_tree whole lines (tree_line number) NextTree ((map front_line tree ++ trees_from (number + 1) later) ++ close_line ∷ []) (closed (whole ++ lines ∷ tree ∷ later))
      (tree_lacks_feed number (omega (arith, few))) (next_again bundle.pool (length whole + 1) (length bundle.answer.stages) (omega (arith, many)) (omega (arith, few))) refl
      (subst (λ trees. Runs (InTrees bundle more []) ((map front_line tree ++ trees_from (number + 1) later) ++ close_line ∷ []) (closed trees)) (append_assoc whole (lines ∷ []) (tree ∷ later)) regrouped)

  -- if the trees are in their ranges, as many as the stages, and from 1 to `most_trees`, then after a bundle, the lines of the trees and
  -- the last line lead to the text's end
  trees_run : (trees : List (List FrontLine)) → ltb 0 (length bundle.answer.stages) ≡ true → length trees ≡ length bundle.answer.stages → length trees ≤ most_trees → keep_ranges bundle.pool 0 trees ≡ true →
      Runs (InBundle (bundles.Done bundle)) (trees_from 1 trees ++ close_line ∷ []) (Closed (record { bundle = bundle; trees = trees }))
  trees_run [] some many few are = let l = ltb-true 0 (length bundle.answer.stages) some in absurd (omega arith)
  trees_run (tree ∷ later) some many few are =
      let parts = and_parts (list_all (is_front_line bundle.pool 1) tree) (keep_ranges bundle.pool 1 later) are in
      let closed = Closed (record { bundle = bundle; trees = tree ∷ later }) in
      let rest = later_run [] tree later (omega (arith, many)) (omega (arith, few)) parts.1 in
      let all = reading.Runs-append reader (InTrees bundle [] []) (InTrees bundle [] tree) closed (map front_line tree) (trees_from 2 later ++ close_line ∷ []) (fronts_run [] [] tree (omega arith) parts.0) rest in (
        tree_lacks_feed 1 (omega arith),
        expected (tree_line 1),
        subst (λ ls. Runs (InTrees bundle [] []) ls closed) (sym (append_assoc (map front_line tree) (trees_from 2 later) (close_line ∷ []))) all,
      )

-- ---- the text of a cover

opens : (lines : List (List ℕ)) (after : Progress) → Runs (InBundle bundles.Begun) lines after → Runs Begun (cover_line ∷ lines) after
opens lines after runs = (line_lacks_feed (codes "cover" ∷ codes "1" ∷ []) (plain_field (codes "cover") refl, (plain_field (codes "1") refl, tt)), refl, runs)

-- the spelling of a cover is read as this cover
pub spelled_is_read : (cover : Cover) → IsCover cover → read_cover (cover_spelling cover) ≡ Ok cover
spelled_is_read cover is =
    let bundle = cover.bundle in
    let trees = cover.trees in
    let lines = bundle_lines bundle.pool bundle.answer in
    let few = leb-true (length trees) most_trees is.few_trees in
    let rest = trees_from 1 trees ++ close_line ∷ [] in
    let behind = trees_run bundle (few_values bundle.pool is.is_bundle.is_pool) trees is.is_bundle.in_ranges.some_stage is.one_each few is.in_ranges in
    let within = bundle_inside bundles.Begun lines bundle (bundle_again.runs bundle is.is_bundle) in
    let all = opens (lines ++ rest) (Closed cover) (reading.Runs-append reader (InBundle bundles.Begun) (InBundle (bundles.Done bundle)) (Closed cover) lines rest within behind) in
    let regrouped : cover_line ∷ (lines ++ rest) ≡ cover_lines cover = ap (λ ls. cover_line ∷ ls) (sym (append_assoc lines (trees_from 1 trees) (close_line ∷ []))) in
    ap read_cover (ap text_of (sym regrouped)) ∙ reading.text_is_read reader (Closed cover) cover (λ number. refl) 1 Begun (cover_line ∷ (lines ++ rest)) all
