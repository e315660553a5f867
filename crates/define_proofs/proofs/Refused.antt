-- What a refusal of a proof says of the certificate, and which line of the proof's text it names.
use Rattle.std.proofs.Common.{◌≡◌, ℕ, zero, suc, ◌+◌, ◌-◌, ◌<◌, ◌≤◌, List, [], ◌∷◌, ◌++◌, length, reverse, get_or, take, drop, Option, Some, None, refl, sym, ap, ◌∙◌, subst, ◌⊎◌, inl, inr, arith, lit<}
use Rattle.std.specs.List.{AllByRecursion}
use Rattle.std.proofs.lemmas.Grind.{reverse_onto}
use Rattle.std.proofs.lemmas.List.{append_assoc}
use Rattle.define_pools.proofs.Each.{each_append, each_left, each_map, each_right}
use Rattle.define_checks.specs.Reasons as check
use Rattle.define_checks.specs.Reasons.{Refusal, Refused, cap_reasons, first_reason, lottery_reasons, nobody_unless, reason, reasons_before_cap}
use Rattle.define_checks.proofs.ReasonsStand as certificates
use Rattle.define_checks.proofs.ReasonsStand.{NoneStands, none_from_valid}
use Rattle.define_pools.specs.declared.Standing.{Standing}
use Rattle.define_pools.specs.Certificate.{Answer, Certifies, Stage}
use Rattle.define_pools.specs.Lottery.{Lottery}
use Rattle.define_pools.specs.Pool.{Pool}
use Rattle.define_proofs.specs.Leaves.{Problem, no_panel_problem, stage_problem, standings}
use Rattle.define_proofs.specs.ProofVerdict.{OfLottery, OfNoPanel, Proof, first_tree, later_trees, line_reason, lines_before_tree, listed_reasons, reasons, reasons_from, stage_reasons, tree_reasons, verdict}
use Rattle.define_proofs.specs.Refusals.{HasTrees, NamesLine, NamesLineOfNone, NamesLineOfStage, RefusalMeans, lines_before, lines_of_trees, tree_of}
use Rattle.define_proofs.specs.TreeLines.{TreeFault, TreeLine, fault, tree_fault}
use Rattle.define_proofs.proofs.StepByStep.{fault_within}

-- ---- if P holds of each reason, it holds of the first one

abbrev Of : (Refusal → Type 0) → Option Refusal → Type 0
Of P None = Unit {0}
Of P (Some refusal) = P refusal

abbrev EachOf : (Refusal → Type 0) → List (Option Refusal) → Type 0
EachOf P rs = AllByRecursion (Of P) rs

first_of_each : (P : Refusal → Type 0) (rs : List (Option Refusal)) → EachOf P rs → (refusal : Refusal) → first_reason rs ≡ Refused refusal → P refusal
first_of_each P [] h refusal e = absurd cc
first_of_each P (None ∷ later) h refusal e = first_of_each P later h.1 refusal e
first_of_each P (Some first ∷ later) h refusal e = let same : first ≡ refusal = cc in subst P same h.0

of_none : (P : Refusal → Type 0) (r : Option Refusal) → r ≡ None → Of P r
of_none P None e = tt
of_none P (Some refusal) e = absurd cc

each_of_none : (P : Refusal → Type 0) (rs : List (Option Refusal)) → NoneStands rs → EachOf P rs
each_of_none P rs h = each_map (λ r. r ≡ None) (Of P) (of_none P) rs h

-- ---- if a proof is refused for a reason below 11, its certificate doesn't hold

abbrev FromTree : Refusal → Type 0
FromTree refusal = 11 ≤ refusal.reason

at_least_11 : (reason : ℕ) → (reason ≡ 11) ⊎ (reason ≡ 12) → 11 ≤ reason
at_least_11 reason (inl e) = omega arith
at_least_11 reason (inr e) = omega arith

line_from_tree : (stage number : ℕ) (problem : Problem) (all : List Standing) (lines : List TreeLine) → Of FromTree (line_reason stage (tree_fault problem all number lines))
line_from_tree stage number problem all lines = by (tree_fault problem all number lines) refl
  where
    by : (found : Option TreeFault) → tree_fault problem all number lines ≡ found → Of FromTree (line_reason stage found)
    by None e = tt
    by (Some found) e = at_least_11 found.reason (fault_within problem all number (Some []) lines found e).reason

reach_from_tree : (stage : ℕ) (who : Option (List ℕ)) → Of FromTree (reason stage 13 who)
reach_from_tree stage None = tt
reach_from_tree stage (Some who) = omega arith

module _ (pool : Pool) (lottery : Lottery) where
  stage_from_tree : (earlier : List Stage) (stage : Stage) (line : ℕ) (lines : List TreeLine) → NoneStands (check.stage_reasons pool lottery earlier stage) → EachOf FromTree (stage_reasons pool lottery earlier stage line lines)
  stage_from_tree earlier stage line lines none =
      let before = reasons_before_cap pool lottery earlier stage in
      let of_tree = tree_reasons pool earlier stage line lines in
      let of_listed = listed_reasons lottery earlier stage in
      let first = each_left (λ r. r ≡ None) before (cap_reasons pool lottery earlier stage) none in
      let last = each_right (λ r. r ≡ None) before (cap_reasons pool lottery earlier stage) none in
      each_append (Of FromTree) (before ++ of_tree) of_listed
      (each_append (Of FromTree) before of_tree (each_of_none FromTree before first)
      (reach_from_tree (length earlier + 1) _, (line_from_tree (length earlier + 1) line (stage_problem pool earlier stage) (standings pool) lines, tt)))
      (each_of_none FromTree of_listed last.1)

  stages_from_tree : (earlier later : List Stage) (line : ℕ) (trees : List (List TreeLine)) → NoneStands (check.reasons_from pool lottery earlier later) → EachOf FromTree (reasons_from pool lottery earlier later line trees)
  stages_from_tree earlier [] line trees none = each_of_none FromTree (reasons_from pool lottery earlier [] line trees) none
  stages_from_tree earlier (stage ∷ later) line trees none =
      let lines = first_tree trees in
      let next = line + length lines + 1 in
      let here = each_left (λ r. r ≡ None) (check.stage_reasons pool lottery earlier stage) (check.reasons_from pool lottery (stage ∷ earlier) later) none in
      let behind = each_right (λ r. r ≡ None) (check.stage_reasons pool lottery earlier stage) (check.reasons_from pool lottery (stage ∷ earlier) later) none in
      each_append (Of FromTree) (stage_reasons pool lottery earlier stage line lines) (reasons_from pool lottery (stage ∷ earlier) later next (later_trees trees))
      (stage_from_tree earlier stage line lines here) (stages_from_tree (stage ∷ earlier) later next (later_trees trees) behind)

not_both : (n : ℕ) → 11 ≤ n → n < 11 → ⊥
not_both n a b = omega arith

pub refusal_means : (proof : Proof) (refusal : Refusal) → verdict proof ≡ Refused refusal → RefusalMeans proof refusal
refusal_means (OfLottery pool answer trees) refusal refused = λ below certifies.
    let from = check.reasons_from pool answer.lottery [] answer.stages in
    let first_line = lines_before_tree (OfLottery pool answer trees) + 1 in
    let none = none_from_valid (check.reasons pool answer) (certificates.valid_where_certified pool answer certifies) in
    let each = each_append (Of FromTree) (lottery_reasons pool answer.lottery) (reasons_from pool answer.lottery [] answer.stages first_line trees)
    (each_of_none FromTree (lottery_reasons pool answer.lottery) (each_left (λ r. r ≡ None) (lottery_reasons pool answer.lottery) from none))
    (stages_from_tree pool answer.lottery [] answer.stages first_line trees (each_right (λ r. r ≡ None) (lottery_reasons pool answer.lottery) from none)) in
    not_both refusal.reason (first_of_each FromTree (reasons (OfLottery pool answer trees)) each refusal refused) below
refusal_means (OfNoPanel pool lines) refusal refused =
    first_of_each FromTree (reasons (OfNoPanel pool lines)) (line_from_tree 0 (lines_before_tree (OfNoPanel pool lines) + 1) (no_panel_problem pool) (standings pool) lines, tt) refusal refused

-- ---- lines of trees

-- `lines_of_trees` of the first `k + 1` trees is that of the first `k`, plus the lines of tree `k`, plus 1 for the line that begins the
-- next tree
lines_of_one_more : (trees : List (List TreeLine)) (k : ℕ) → k < length trees → lines_of_trees (take (suc k) trees) ≡ lines_of_trees (take k trees) + length (get_or trees k []) + 1
lines_of_one_more [] k l = absurd (omega arith)
lines_of_one_more (lines ∷ trees) zero l = omega arith
lines_of_one_more (lines ∷ trees) (suc k) l =
    let e = lines_of_one_more trees k (omega arith) in
    let more : lines_of_trees (take (suc (suc k)) (lines ∷ trees)) ≡ length lines + 1 + lines_of_trees (take (suc k) trees) = refl in
    let before : lines_of_trees (take (suc k) (lines ∷ trees)) ≡ length lines + 1 + lines_of_trees (take k trees) = refl in
    let its : get_or (lines ∷ trees) (suc k) [] ≡ get_or trees k [] = refl in
    let long : length (get_or (lines ∷ trees) (suc k) []) ≡ length (get_or trees k []) = ap length its in
    omega (arith, e, more, before, long)

first_behind : (trees : List (List TreeLine)) (k : ℕ) → get_or (drop k trees) 0 [] ≡ get_or trees k []
first_behind [] zero = refl
first_behind [] (suc k) = refl
first_behind (lines ∷ trees) zero = refl
first_behind (lines ∷ trees) (suc k) = first_behind trees k

later_behind : (trees : List (List TreeLine)) (k : ℕ) → drop 1 (drop k trees) ≡ drop (suc k) trees
later_behind [] zero = refl
later_behind [] (suc k) = refl
later_behind (lines ∷ trees) zero = refl
later_behind (lines ∷ trees) (suc k) = later_behind trees k

-- ---- a refusal for a reason 11 or 12 names the line of the tree's first fault

abbrev IsOfLine : Refusal → Type 0
IsOfLine refusal = (refusal.reason ≡ 11) ⊎ (refusal.reason ≡ 12)

neither : (n : ℕ) → n < 11 → (n ≡ 11) ⊎ (n ≡ 12) → ⊥
neither n l (inl e) = omega arith
neither n l (inr e) = omega arith

nor_13 : (n : ℕ) → n ≡ 13 → (n ≡ 11) ⊎ (n ≡ 12) → ⊥
nor_13 n l (inl e) = omega arith
nor_13 n l (inr e) = omega arith

module _ (pool : Pool) (answer : Answer) (trees : List (List TreeLine)) where
  abbrev whole : Proof
  whole = OfLottery pool answer trees

  abbrev Names : Refusal → Type 0
  Names refusal = IsOfLine refusal → NamesLineOfStage pool answer trees refusal

  other : (stage number : ℕ) (who : Option (List ℕ)) → number < 11 → Of Names (reason stage number who)
  other stage number None l = tt
  other stage number (Some who) l = λ is. absurd (neither number l is)

  too_far : (stage : ℕ) (who : Option (List ℕ)) → Of Names (reason stage 13 who)
  too_far stage None = tt
  too_far stage (Some who) = λ is. absurd (nor_13 13 refl is)

  named : (earlier later : List Stage) (stage : Stage) (line : ℕ) (lines : List TreeLine) → answer.stages ≡ reverse earlier ++ (stage ∷ later) →
      line ≡ lines_before_tree whole + lines_of_trees (take (length earlier) trees) + 1 → lines ≡ get_or trees (length earlier) [] →
      (found : Option TreeFault) → tree_fault (stage_problem pool earlier stage) (standings pool) line lines ≡ found → Of Names (line_reason (length earlier + 1) found)
  named earlier later stage line lines stages at its None e = tt
  named earlier later stage line lines stages at its (Some found) e =
      let back : length earlier + 1 - 1 ≡ length earlier = omega arith in
      let start : lines_before whole (length earlier + 1) + 1 ≡ line = ap (λ k. lines_before_tree whole + lines_of_trees (take k trees) + 1) back ∙ sym at in
      let tree : tree_of whole (length earlier + 1) ≡ lines = ap (λ k. get_or trees k []) back ∙ sym its in
      let problem = stage_problem pool earlier stage in
      λ is. record {
        earlier = earlier;
        stage = stage;
        later = later;
        stages = stages;
        number = refl;
        line = found.line;
        who = refl;
        first_fault = ap (λ n. tree_fault problem (standings pool) n (tree_of whole (length earlier + 1))) start ∙ ap (tree_fault problem (standings pool) line) tree ∙ e;
      }

  stages_named : (earlier later : List Stage) (line : ℕ) (rest : List (List TreeLine)) → answer.stages ≡ reverse earlier ++ later →
      line ≡ lines_before_tree whole + lines_of_trees (take (length earlier) trees) + 1 → rest ≡ drop (length earlier) trees → length earlier + length later ≤ length trees →
      EachOf Names (reasons_from pool answer.lottery earlier later line rest)
  stages_named earlier [] line rest stages at its few = (other (length earlier) 10 _ (lit< tt), tt)
  stages_named earlier (stage ∷ later) line rest stages at its few =
      let lines = first_tree rest in
      let number = length earlier + 1 in
      let tree : lines ≡ get_or trees (length earlier) [] = ap first_tree its ∙ first_behind trees (length earlier) in
      let more = lines_of_one_more trees (length earlier) (omega arith) in
      let long : length lines ≡ length (get_or trees (length earlier) []) = ap length tree in
      let next : line + length lines + 1 ≡ lines_before_tree whole + lines_of_trees (take (suc (length earlier)) trees) + 1 = omega (arith, at, more, long) in
      let turned : answer.stages ≡ reverse (stage ∷ earlier) ++ later =
      stages ∙ sym (append_assoc (reverse earlier) (stage ∷ []) later) ∙ ap (λ all. all ++ later) (sym (reverse_onto earlier stage [])) in
      let before = reasons_before_cap pool answer.lottery earlier stage in
      let of_tree = tree_reasons pool earlier stage line lines in
      let of_listed = listed_reasons answer.lottery earlier stage in
      each_append (Of Names) (stage_reasons pool answer.lottery earlier stage line lines) (reasons_from pool answer.lottery (stage ∷ earlier) later (line + length lines + 1) (later_trees rest))
      (each_append (Of Names) (before ++ of_tree) of_listed
      (each_append (Of Names) before of_tree
      (other number 4 _ (lit< tt), (other number 5 _ (lit< tt), (other number 6 _ (lit< tt), (other number 7 _ (lit< tt), tt))))
      (too_far number _, (named earlier later stage line lines stages at tree (tree_fault (stage_problem pool earlier stage) (standings pool) line lines) refl, tt)))
      (other number 9 _ (lit< tt), tt))
      (stages_named (stage ∷ earlier) later (line + length lines + 1) (later_trees rest) turned next (ap later_trees its ∙ later_behind trees (length earlier)) (omega arith))

  lottery_named : length trees ≡ length answer.stages → EachOf Names (reasons whole)
  lottery_named one_each =
      each_append (Of Names) (lottery_reasons pool answer.lottery) (reasons_from pool answer.lottery [] answer.stages (lines_before_tree whole + 1) trees)
      (other 0 1 _ (lit< tt), (other 0 2 _ (lit< tt), (other 0 3 _ (lit< tt), tt)))
      (stages_named [] answer.stages (lines_before_tree whole + 1) trees refl (omega arith) refl (omega (arith, one_each)))

module _ (pool : Pool) (lines : List TreeLine) where
  abbrev NamesNone : Refusal → Type 0
  NamesNone refusal = IsOfLine refusal → NamesLineOfNone pool lines refusal

  none_named : (found : Option TreeFault) → tree_fault (no_panel_problem pool) (standings pool) (lines_before_tree (OfNoPanel pool lines) + 1) lines ≡ found → Of NamesNone (line_reason 0 found)
  none_named None e = tt
  none_named (Some found) e = λ is. record { number = refl; line = found.line; who = refl; first_fault = e }

pub names_line : (proof : Proof) (refusal : Refusal) → HasTrees proof → verdict proof ≡ Refused refusal → (refusal.reason ≡ 11) ⊎ (refusal.reason ≡ 12) → NamesLine proof refusal
names_line (OfLottery pool answer trees) refusal one_each refused is =
    first_of_each (Names pool answer trees) (reasons (OfLottery pool answer trees)) (lottery_named pool answer trees one_each) refusal refused is
names_line (OfNoPanel pool lines) refusal one_each refused is =
    first_of_each (NamesNone pool lines) (reasons (OfNoPanel pool lines))
    (none_named pool lines (tree_fault (no_panel_problem pool) (standings pool) (lines_before_tree (OfNoPanel pool lines) + 1) lines) refl, tt) refusal refused is
