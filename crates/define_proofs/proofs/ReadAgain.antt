-- The text of a proof is read as this proof.
use Rattle.std.proofs.Common.{◌≡◌, ℕ, ◌+◌, ◌≤◌, Bool, true, false, not, cond, ltb, List, [], ◌∷◌, ◌++◌, length, map, drop, ◌||◌, refl, sym, ◌∙◌, ap, subst, arith, append_assoc, length-append, Some, None}
use Rattle.std.specs.Prelude.{bytes_eq, codes, Ok, is_none}
use Rattle.std.specs.List.{list_all}
use Rattle.std.proofs.lemmas.Bool.{and_parts, leb-true, ltb-true}
use Rattle.std.proofs.lemmas.List.{append-nil}
use Rattle.define_pools.specs.Building.{lowest_kind}
use Rattle.define_pools.specs.Certificate.{Answer}
use Rattle.define_pools.specs.declared.Limits.TheVariants.{Large}
use Rattle.define_pools.specs.Pool.{IsPool, Pool, limits_for, most_volunteers}
use Rattle.define_pools.proofs.BuildingLemmas.{volunteers_are_few}
use Rattle.define_bundles.specs.declared.Version.{Version}
use Rattle.define_bundles.specs.declared.Version.TheVariants.{First, Second, Third}
use Rattle.define_lines.specs.Lines.{line_feed, text_of}
use Rattle.define_lines.proofs.LineByLine as reading
use Rattle.define_lines.proofs.LineLemmas.{Lacks}
use Rattle.define_lines.proofs.FieldLemmas.{line_lacks_feed, plain_field}
use Rattle.define_lines.proofs.NumberLemmas.{bytes_same}
use Rattle.define_bundles.specs.PoolText.{version_line, version_of}
use Rattle.define_bundles.specs.PoolReading as pools
use Rattle.define_bundles.proofs.PoolReadAgain as pool_again
use Rattle.define_bundles.specs.BundleReading as bundles
use Rattle.define_bundles.specs.BundleText.{Bundle, pool_lines}
use Rattle.define_bundles.proofs.ReadAgain as bundle_again
use Rattle.define_proofs.specs.ProofVerdict.{OfLottery, OfNoPanel, Proof}
use Rattle.define_proofs.specs.TreeLines.{TreeLine}
use Rattle.define_proofs.specs.TreeRanges.{is_tree_line}
use Rattle.define_proofs.specs.ProofText.{IsLotteryProof, IsNoPanelProof, IsProof, bundle_lines, close_line, lines_before_close, most_trees, node_line, none_line, proof_line, proof_spelling, tree_line, tree_lines, trees_from}
use Rattle.define_proofs.specs.ProofReading.{Begun, Closed, InBundle, InNoPanel, InPool, InTrees, LineInTree, NextTree, OfNode, Opened, Progress, TheClose, after_line, after_no_panel, after_tree, begins_bundle, begins_pool, line_in_tree, line_kind, read_proof, said_in_no_panel, said_in_trees, tree_kinds, reader}
use Rattle.define_proofs.proofs.NodeLines.{close_again, next_again, node_again, node_lacks_feed, tree_lacks_feed}
use Rattle.define_proofs.proofs.Spelled.{keep_ranges}

-- none of the lines has an LF or a fault, and reading them leads from the first progress to the second
abbrev pub Runs : Progress → List (List ℕ) → Progress → Type 0
Runs = reading.Runs reader

-- ---- the lines of a pool

-- if lines of a pool lead to the pool's end, they lead to it in a proof too
pool_inside : (progress : pools.Progress) (lines : List (List ℕ)) (pool : Pool) → pool_again.Runs progress lines (pools.Ended pool) → Runs (InPool progress) lines (InPool (pools.Ended pool))
pool_inside progress [] pool h = ap InPool h
pool_inside pools.Begun (line ∷ lines) pool h = (h.0, h.1, pool_inside (pools.after_line pools.Begun line) lines pool h.2)
pool_inside (pools.Versioned version) (line ∷ lines) pool h = (h.0, h.1, pool_inside (pools.after_line (pools.Versioned version) line) lines pool h.2)
pool_inside (pools.Inside other passed) (line ∷ lines) pool h = (h.0, h.1, pool_inside (pools.after_line (pools.Inside other passed) line) lines pool h.2)
pool_inside (pools.Ended other) (line ∷ lines) pool h = let e = h.1 in cc

-- after the first line of a proof, a pool's first line has no fault
pool_begins : (version : Version) → line_kind Opened (version_line version) ≡ None
pool_begins First = refl
pool_begins Second = refl
pool_begins Third = refl

-- after the first line of a proof, a pool's first line leads into the pool's lines, and not into a bundle's
pool_goes : (version : Version) → after_line Opened (version_line version) ≡ InPool (pools.after_line pools.Begun (version_line version))
pool_goes First = refl
pool_goes Second = refl
pool_goes Third = refl

pool_runs : (pool : Pool) → IsPool pool → Runs Opened (pool_lines pool) (InPool (pools.Ended pool))
pool_runs pool is =
    let version = version_of pool in
    let runs = pool_inside pools.Begun (pool_lines pool) pool (pool_again.pool_runs pool is) in (
      runs.0,
      pool_begins version,
      subst (λ progress. Runs progress (drop 1 (pool_lines pool)) (InPool (pools.Ended pool))) (sym (pool_goes version)) runs.2,
    )

-- ---- the lines of a bundle

-- if lines of a bundle lead to the bundle's end, they lead to it in a proof too
bundle_inside : (progress : bundles.Progress) (lines : List (List ℕ)) (bundle : Bundle) → bundle_again.Runs progress lines (bundles.Done bundle) → Runs (InBundle progress) lines (InBundle (bundles.Done bundle))
bundle_inside progress [] bundle h = ap InBundle h
bundle_inside bundles.Begun (line ∷ lines) bundle h = (h.0, h.1, bundle_inside (bundles.after_line bundles.Begun line) lines bundle h.2)
bundle_inside (bundles.InPool version progress) (line ∷ lines) bundle h = (h.0, h.1, bundle_inside (bundles.after_line (bundles.InPool version progress) line) lines bundle h.2)
bundle_inside (bundles.InRows pool lottery) (line ∷ lines) bundle h = (h.0, h.1, bundle_inside (bundles.after_line (bundles.InRows pool lottery) line) lines bundle h.2)
bundle_inside (bundles.InStages pool answer) (line ∷ lines) bundle h = (h.0, h.1, bundle_inside (bundles.after_line (bundles.InStages pool answer) line) lines bundle h.2)
bundle_inside (bundles.Done other) (line ∷ lines) bundle h = let e = h.1 in cc

-- if lines of a bundle lead from its beginning to its end, they do so after a proof's first line
bundle_runs : (lines : List (List ℕ)) (bundle : Bundle) → bundle_again.Runs bundles.Begun lines (bundles.Done bundle) → Runs Opened lines (InBundle (bundles.Done bundle))
bundle_runs [] bundle h = cc
bundle_runs (line ∷ lines) bundle h =
    let begins : begins_bundle line ≡ true = ap is_none h.1 in
    let after = bundles.after_line bundles.Begun line in (
      h.0,
      ap (λ b. cond (not (b || begins_pool line)) (Some 22) None) begins,
      subst (λ progress. Runs progress lines (InBundle (bundles.Done bundle))) (sym (ap (λ b. cond b (InBundle after) (InPool (pools.after_line pools.Begun line))) begins))
          (bundle_inside after lines bundle h.2),
    )

-- ---- the lines of trees

-- a line that equals the one that is required has no fault of kind 22
expected : (line : List ℕ) → lowest_kind ((22, not (bytes_eq line line)) ∷ []) ≡ None
expected line = ap (λ b. cond (not b) (Some 22) None) (bytes_same line line refl)

-- a proof has at most 4,000 trees
trees_are_few : (volunteers : ℕ) → most_trees volunteers ≤ 4000
trees_are_few volunteers = volunteers_are_few (limits_for volunteers)

module _ (bundle : Bundle) (small : length bundle.pool.volunteers ≤ 4000) where
  abbrev n : ℕ
  n = length bundle.pool.volunteers

  -- if `line` has no LF and is read as `said` without a fault, and from the progress after it the later lines lead to `after`, then `line`
  -- and the later lines lead to `after`
  run_tree : (whole : List (List TreeLine)) (lines : List TreeLine) (line : List ℕ) (said : LineInTree) (later : List (List ℕ)) (after : Progress) → Lacks line_feed line → said_in_trees bundle whole line ≡ said →
      lowest_kind (tree_kinds said) ≡ None → Runs (after_tree bundle whole lines said) later after → Runs (InTrees bundle whole lines) (line ∷ later) after
  run_tree whole lines line said later after lacks e none rest =
      (lacks, ap (λ s. lowest_kind (tree_kinds s)) e ∙ none, subst (λ s. Runs (after_tree bundle whole lines s) later after) (sym e) rest)

  nodes_run : (whole : List (List TreeLine)) (done todo : List TreeLine) → list_all (is_tree_line n) todo ≡ true → Runs (InTrees bundle whole done) (map node_line todo) (InTrees bundle whole (done ++ todo))
  nodes_run whole done [] are = ap (InTrees bundle whole) (sym (append-nil done))
  nodes_run whole done (node ∷ todo) are =
      let parts = and_parts (is_tree_line n node) (list_all (is_tree_line n) todo) are in
      let rest = nodes_run whole (done ++ node ∷ []) todo parts.1 in
      run_tree whole done (node_line node) (OfNode node) (map node_line todo) (InTrees bundle whole (done ++ node ∷ todo)) (node_lacks_feed n small node parts.0)
      (node_again n small (length whole + 1) (length bundle.answer.stages) node parts.0) refl
      (subst (λ lines. Runs (InTrees bundle whole (done ++ node ∷ [])) (map node_line todo) (InTrees bundle whole lines)) (append_assoc done (node ∷ []) todo) rest)

  -- let the later trees be in their ranges, and all trees together be as many as the stages and at most `most_trees`. After the lines of
  -- one tree, the lines of the later trees and the last line lead to the text's end
  later_run : (whole : List (List TreeLine)) (lines : List TreeLine) (later : List (List TreeLine)) → (length whole + 1) + length later ≡ length bundle.answer.stages → (length whole + 1) + length later ≤ most_trees n →
      keep_ranges n later ≡ true →
      Runs (InTrees bundle whole lines) (trees_from ((length whole + 1) + 1) later ++ close_line ∷ []) (Closed (OfLottery bundle.pool bundle.answer (whole ++ lines ∷ later)))
  later_run whole lines [] many few are =
      let last : length whole + 1 ≡ length bundle.answer.stages = omega arith in
      let said : said_in_trees bundle whole close_line ≡ TheClose = ap (λ stages. line_in_tree n (length whole + 1) stages close_line) (sym last) ∙ close_again n (length whole + 1) in
      run_tree whole lines close_line TheClose [] (Closed (OfLottery bundle.pool bundle.answer (whole ++ lines ∷ []))) (plain_field (codes "close") refl).no_feed said refl refl
  later_run whole lines (tree ∷ later) many few are =
      let parts = and_parts (list_all (is_tree_line n) tree) (keep_ranges n later) are in
      let more = whole ++ lines ∷ [] in
      let size : length more ≡ length whole + 1 = length-append whole (lines ∷ []) in
      let number = (length whole + 1) + 1 in
      let same : (length more + 1) + 1 ≡ number + 1 = omega (arith, size) in
      let rest = later_run more tree later (omega (arith, size, many)) (omega (arith, size, few)) parts.1 in
      let numbered = subst (λ k. Runs (InTrees bundle more tree) (trees_from k later ++ close_line ∷ []) (Closed (OfLottery bundle.pool bundle.answer (more ++ tree ∷ later)))) same rest in
      let all = reading.Runs-append reader (InTrees bundle more []) (InTrees bundle more tree) (Closed (OfLottery bundle.pool bundle.answer (more ++ tree ∷ later)))
      (map node_line tree) (trees_from (number + 1) later ++ close_line ∷ []) (nodes_run more [] tree parts.0) numbered in
      let regrouped = subst (λ ls. Runs (InTrees bundle more []) ls (Closed (OfLottery bundle.pool bundle.answer (more ++ tree ∷ later)))) (sym (append_assoc (map node_line tree) (trees_from (number + 1) later) (close_line ∷ []))) all in
      run_tree whole lines (tree_line number) NextTree ((map node_line tree ++ trees_from (number + 1) later) ++ close_line ∷ []) (Closed (OfLottery bundle.pool bundle.answer (whole ++ lines ∷ tree ∷ later)))
      (tree_lacks_feed number (omega (arith, few, trees_are_few n))) (next_again n (length whole + 1) (length bundle.answer.stages) (omega (arith, many)) (omega (arith, few))) refl
      (subst (λ trees. Runs (InTrees bundle more []) ((map node_line tree ++ trees_from (number + 1) later) ++ close_line ∷ []) (Closed (OfLottery bundle.pool bundle.answer trees))) (append_assoc whole (lines ∷ []) (tree ∷ later)) regrouped)

  -- if the trees are in their ranges, as many as the stages, and from 1 to `most_trees`, then after a bundle, the lines of the trees and
  -- the last line lead to the text's end
  trees_run : (trees : List (List TreeLine)) → ltb 0 (length bundle.answer.stages) ≡ true → length trees ≡ length bundle.answer.stages → length trees ≤ most_trees n → keep_ranges n trees ≡ true →
      Runs (InBundle (bundles.Done bundle)) (trees_from 1 trees ++ close_line ∷ []) (Closed (OfLottery bundle.pool bundle.answer trees))
  trees_run [] some many few are = let l = ltb-true 0 (length bundle.answer.stages) some in absurd (omega arith)
  trees_run (tree ∷ later) some many few are =
      let parts = and_parts (list_all (is_tree_line n) tree) (keep_ranges n later) are in
      let closed = Closed (OfLottery bundle.pool bundle.answer (tree ∷ later)) in
      let rest = later_run [] tree later (omega (arith, many)) (omega (arith, few)) parts.1 in
      let all = reading.Runs-append reader (InTrees bundle [] []) (InTrees bundle [] tree) closed (map node_line tree) (trees_from 2 later ++ close_line ∷ []) (nodes_run [] [] tree parts.0) rest in (
        tree_lacks_feed 1 (omega arith),
        expected (tree_line 1),
        subst (λ ls. Runs (InTrees bundle [] []) ls closed) (sym (append_assoc (map node_line tree) (trees_from 2 later) (close_line ∷ []))) all,
      )

module _ (pool : Pool) (small : length pool.volunteers ≤ 4000) where
  no_panel_nodes : (done todo : List TreeLine) → list_all (is_tree_line (length pool.volunteers)) todo ≡ true → Runs (InNoPanel pool done) (map node_line todo ++ close_line ∷ []) (Closed (OfNoPanel pool (done ++ todo)))
  no_panel_nodes done [] are = (
    (plain_field (codes "close") refl).no_feed,
    ap (λ s. lowest_kind (tree_kinds s)) (close_again (length pool.volunteers) 0),
    ap (after_no_panel pool done) (close_again (length pool.volunteers) 0) ∙ ap (λ lines. Closed (OfNoPanel pool lines)) (sym (append-nil done)),
  )
  no_panel_nodes done (node ∷ todo) are =
      let parts = and_parts (is_tree_line (length pool.volunteers) node) (list_all (is_tree_line (length pool.volunteers)) todo) are in
      let said : said_in_no_panel pool (node_line node) ≡ OfNode node = node_again (length pool.volunteers) small 0 0 node parts.0 in
      let rest = subst (λ lines. Runs (InNoPanel pool (done ++ node ∷ [])) (map node_line todo ++ close_line ∷ []) (Closed (OfNoPanel pool lines))) (append_assoc done (node ∷ []) todo)
      (no_panel_nodes (done ++ node ∷ []) todo parts.1) in (
        node_lacks_feed (length pool.volunteers) small node parts.0,
        ap (λ s. lowest_kind (tree_kinds s)) said,
        subst (λ s. Runs (after_no_panel pool done s) (map node_line todo ++ close_line ∷ []) (Closed (OfNoPanel pool (done ++ node ∷ todo)))) (sym said) rest,
      )

  -- if the tree's lines are in their ranges, then after a pool, the line `none`, the lines of the tree and the last line lead to the text's
  -- end
  no_panel_runs : (lines : List TreeLine) → list_all (is_tree_line (length pool.volunteers)) lines ≡ true → Runs (InPool (pools.Ended pool)) ((none_line ∷ tree_lines 0 lines) ++ close_line ∷ []) (Closed (OfNoPanel pool lines))
  no_panel_runs lines are = (
    (plain_field (codes "none") refl).no_feed,
    refl,
    (tree_lacks_feed 0 (omega arith), expected (tree_line 0), no_panel_nodes [] lines are),
  )

-- ---- the text of a proof

opens : (lines : List (List ℕ)) (after : Progress) → Runs Opened lines after → Runs Begun (proof_line ∷ lines) after
opens lines after runs = (line_lacks_feed (codes "proof" ∷ codes "1" ∷ []) (plain_field (codes "proof") refl, (plain_field (codes "1") refl, tt)), refl, runs)

-- if reading `lines` from the beginning ends in `Closed proof`, and their text is the proof's spelling, that spelling is read as `proof`
runs_are_read : (lines : List (List ℕ)) (proof : Proof) → Runs Begun lines (Closed proof) → text_of lines ≡ proof_spelling proof → read_proof (proof_spelling proof) ≡ Ok proof
runs_are_read lines proof runs same =
    ap read_proof (sym same) ∙ reading.text_is_read reader (Closed proof) proof (λ number. refl) 1 Begun lines runs

lottery_is_read : (pool : Pool) (answer : Answer) (trees : List (List TreeLine)) → IsLotteryProof pool answer trees → read_proof (proof_spelling (OfLottery pool answer trees)) ≡ Ok (OfLottery pool answer trees)
lottery_is_read pool answer trees is =
    let bundle : Bundle = record { pool = pool; answer = answer } in
    let proof = OfLottery pool answer trees in
    let lines = bundle_lines pool answer in
    let small = leb-true (length pool.volunteers) (most_volunteers Large) is.is_bundle.is_pool.few_volunteers in
    let few = leb-true (length trees) (most_trees (length pool.volunteers)) is.few_trees in
    let rest = trees_from 1 trees ++ close_line ∷ [] in
    let behind = trees_run bundle small trees is.is_bundle.in_ranges.some_stage is.one_each few is.in_ranges in
    let all = reading.Runs-append reader Opened (InBundle (bundles.Done bundle)) (Closed proof) lines rest (bundle_runs lines bundle (bundle_again.runs bundle is.is_bundle)) behind in
    let regrouped : proof_line ∷ (lines ++ rest) ≡ lines_before_close proof ++ close_line ∷ [] =
    ap (λ ls. proof_line ∷ ls) (sym (append_assoc lines (trees_from 1 trees) (close_line ∷ []))) in
    runs_are_read (proof_line ∷ (lines ++ rest)) proof (opens (lines ++ rest) (Closed proof) all) (ap text_of regrouped)

no_panel_is_read : (pool : Pool) (lines : List TreeLine) → IsNoPanelProof pool lines → read_proof (proof_spelling (OfNoPanel pool lines)) ≡ Ok (OfNoPanel pool lines)
no_panel_is_read pool lines is =
    let proof = OfNoPanel pool lines in
    let small = leb-true (length pool.volunteers) (most_volunteers Large) is.is_pool.few_volunteers in
    let rest = (none_line ∷ tree_lines 0 lines) ++ close_line ∷ [] in
    let all = reading.Runs-append reader Opened (InPool (pools.Ended pool)) (Closed proof) (pool_lines pool) rest (pool_runs pool is.is_pool) (no_panel_runs pool small lines is.in_ranges) in
    let regrouped : proof_line ∷ (pool_lines pool ++ rest) ≡ lines_before_close proof ++ close_line ∷ [] =
    ap (λ ls. proof_line ∷ ls) (sym (append_assoc (pool_lines pool) (none_line ∷ tree_lines 0 lines) (close_line ∷ []))) in
    runs_are_read (proof_line ∷ (pool_lines pool ++ rest)) proof (opens (pool_lines pool ++ rest) (Closed proof) all) (ap text_of regrouped)

-- the spelling of a proof is read as this proof
pub spelled_is_read : (proof : Proof) → IsProof proof → read_proof (proof_spelling proof) ≡ Ok proof
spelled_is_read (OfLottery pool answer trees) is = lottery_is_read pool answer trees is
spelled_is_read (OfNoPanel pool lines) is = no_panel_is_read pool lines is
