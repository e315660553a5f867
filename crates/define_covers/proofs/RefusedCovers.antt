-- What a refusal of a cover says of the certificate, and which line of the cover's text it names.
use Rattle.std.proofs.Common.{◌≡◌, ℕ, zero, suc, ◌+◌, ◌-◌, ◌<◌, ◌≤◌, List, [], ◌∷◌, ◌++◌, length, map, reverse, get_or, take, drop, Option, Some, None, refl, sym, ap, ◌∙◌, subst, cond, ◌⊎◌, inl, inr, arith, lit<}
use Rattle.std.specs.List.{AllByRecursion}
use Rattle.std.proofs.lemmas.Bool.{cond_both}
use Rattle.std.proofs.lemmas.Grind.{reverse_onto}
use Rattle.std.proofs.lemmas.List.{append_assoc}
use Rattle.define_pools.proofs.Each.{each_append, each_left, each_map, each_right}
use Rattle.define_checks.specs.Caps.{classes_at, stage_row}
use Rattle.define_checks.specs.Reasons as check
use Rattle.define_checks.specs.Reasons.{Refusal, Refused, cap_reasons, first_reason, lottery_reasons, reason, reasons_before_cap}
use Rattle.define_checks.proofs.ReasonsStand as certificates
use Rattle.define_checks.proofs.ReasonsStand.{NoneStands, none_from_valid}
use Rattle.define_pools.specs.Certificate.{Certifies, Stage}
use Rattle.define_pools.specs.Lottery.{Lottery}
use Rattle.define_pools.specs.Pool.{Pool}
use Rattle.define_rows.specs.Row.{Row}
use Rattle.define_searches.specs.Classes.{Classes}
use Rattle.define_proofs.specs.ProofVerdict.{line_reason, listed_reasons}
use Rattle.define_proofs.specs.TreeLines.{TreeFault, fault}
use Rattle.define_covers.specs.Causes.{applies}
use Rattle.define_covers.specs.Covers.{Cover, FrontLine}
use Rattle.define_covers.specs.CoverVerdict.{fault_from, first_tree, later_trees, lines_before_tree, reasons, reasons_from, stage_reasons, tree_fault, tree_reasons, verdict}
use Rattle.define_covers.specs.FrontOrder.{continues, turned}
use Rattle.define_covers.specs.Refusals.{IsOfLine, NamesLine, RefusalMeans, lines_before, lines_of_trees, tree_of}

-- ---- the first fault is in one of the lines, or after them

-- the fault is in one of the lines, or after them, and its reason is 11 or 12
pub record IsWithin (number : ℕ) (lines : List FrontLine) (found : TreeFault) : Type 0 where
  pub from : number ≤ found.line
  pub to : found.line ≤ number + length lines
  pub reason : (found.reason ≡ 11) ⊎ (found.reason ≡ 12)

here : (number reason : ℕ) (lines : List FrontLine) (found : TreeFault) → (reason ≡ 11) ⊎ (reason ≡ 12) → fault number reason ≡ Some found → IsWithin number lines found
here number reason lines found is e =
    let made : TreeFault = record { line = number; reason = reason } in
    let same : made ≡ found = cc in
    subst (IsWithin number lines) same (record { from = omega arith; to = omega arith; reason = is })

fault_within : (all : Classes) (closed : List Row) (row : Row) (number : ℕ) (beginning : Option (List ℕ)) (lines : List FrontLine) (found : TreeFault) →
    fault_from all closed row number beginning lines ≡ Some found → IsWithin number lines found
fault_within all closed row number None [] found e = absurd cc
fault_within all closed row number None (line ∷ later) found e = here number 11 (line ∷ later) found (inl refl) e
fault_within all closed row number (Some beginning) [] found e = here number 11 [] found (inl refl) e
fault_within all closed row number (Some beginning) (line ∷ later) found e =
    let next = turned all.classes line.front in
    let rest = fault_from all closed row (number + 1) next later in
    let P : Option TreeFault → Type 0 = λ o. o ≡ Some found → IsWithin number (line ∷ later) found in
    cond_both (continues all.classes beginning line.front) (cond (applies all closed row line.front line.cause) rest (fault number 12)) (fault number 11) P
    (λ _. cond_both (applies all closed row line.front line.cause) rest (fault number 12) P
    (λ _ k. let within = fault_within all closed row (number + 1) next later found k in let from = within.from in let to = within.to in
    record { from = omega (arith, from); to = omega (arith, to); reason = within.reason })
    (λ _ k. here number 12 (line ∷ later) found (inr refl) k))
    (λ _ k. here number 11 (line ∷ later) found (inl refl) k)
    e

pub tree_within : (pool : Pool) (earlier : List Stage) (stage : Stage) (number : ℕ) (lines : List FrontLine) (found : TreeFault) → tree_fault pool earlier stage number lines ≡ Some found → IsWithin number lines found
tree_within pool earlier stage number lines found e =
    fault_within (classes_at pool (stage ∷ earlier)) (map (stage_row pool (stage ∷ earlier)) earlier) (stage_row pool (stage ∷ earlier) stage) number (Some []) lines found e

-- ---- if P holds of each reason, it holds of the first one

abbrev Of : (Refusal → Type 0) → Option Refusal → Type 0
Of P None = Unit {0}
Of P (Some refusal) = P refusal

abbrev EachOf : (Refusal → Type 0) → List (Option Refusal) → Type 0
EachOf P rs = AllByRecursion (Of P) rs

first_of_each : (P : Refusal → Type 0) (rs : List (Option Refusal)) → EachOf P rs → (refusal : Refusal) → first_reason rs ≡ Refused refusal → P refusal
first_of_each P [] h refusal e = absurd cc
first_of_each P (None ∷ later) h refusal e = first_of_each P later h.1 refusal e
first_of_each P (Some first ∷ later) h refusal e = let same : first ≡ refusal = cc in subst P same h.0

of_none : (P : Refusal → Type 0) (r : Option Refusal) → r ≡ None → Of P r
of_none P None e = tt
of_none P (Some refusal) e = absurd cc

each_of_none : (P : Refusal → Type 0) (rs : List (Option Refusal)) → NoneStands rs → EachOf P rs
each_of_none P rs h = each_map (λ r. r ≡ None) (Of P) (of_none P) rs h

-- ---- if a cover is refused for a reason below 11, its certificate doesn't hold

abbrev FromTree : Refusal → Type 0
FromTree refusal = 11 ≤ refusal.reason

at_least_11 : (reason : ℕ) → (reason ≡ 11) ⊎ (reason ≡ 12) → 11 ≤ reason
at_least_11 reason (inl e) = omega arith
at_least_11 reason (inr e) = omega arith

line_from_tree : (pool : Pool) (earlier : List Stage) (stage : Stage) (number : ℕ) (lines : List FrontLine) → Of FromTree (line_reason (length earlier + 1) (tree_fault pool earlier stage number lines))
line_from_tree pool earlier stage number lines = by (tree_fault pool earlier stage number lines) refl
  where
    by : (found : Option TreeFault) → tree_fault pool earlier stage number lines ≡ found → Of FromTree (line_reason (length earlier + 1) found)
    by None e = tt
    by (Some found) e = at_least_11 found.reason (tree_within pool earlier stage number lines found e).reason

module _ (pool : Pool) (lottery : Lottery) where
  stage_from_tree : (earlier : List Stage) (stage : Stage) (line : ℕ) (lines : List FrontLine) → NoneStands (check.stage_reasons pool lottery earlier stage) → EachOf FromTree (stage_reasons pool lottery earlier stage line lines)
  stage_from_tree earlier stage line lines none =
      let before = reasons_before_cap pool lottery earlier stage in
      let of_tree = tree_reasons pool earlier stage line lines in
      let of_listed = listed_reasons lottery earlier stage in
      let first = each_left (λ r. r ≡ None) before (cap_reasons pool lottery earlier stage) none in
      let last = each_right (λ r. r ≡ None) before (cap_reasons pool lottery earlier stage) none in
      each_append (Of FromTree) (before ++ of_tree) of_listed
      (each_append (Of FromTree) before of_tree (each_of_none FromTree before first) (line_from_tree pool earlier stage line lines, tt))
      (each_of_none FromTree of_listed last.1)

  stages_from_tree : (earlier later : List Stage) (line : ℕ) (trees : List (List FrontLine)) → NoneStands (check.reasons_from pool lottery earlier later) → EachOf FromTree (reasons_from pool lottery earlier later line trees)
  stages_from_tree earlier [] line trees none = each_of_none FromTree (check.reasons_from pool lottery earlier []) none
  stages_from_tree earlier (stage ∷ later) line trees none =
      let lines = first_tree trees in
      let next = line + length lines + 1 in
      let here = each_left (λ r. r ≡ None) (check.stage_reasons pool lottery earlier stage) (check.reasons_from pool lottery (stage ∷ earlier) later) none in
      let behind = each_right (λ r. r ≡ None) (check.stage_reasons pool lottery earlier stage) (check.reasons_from pool lottery (stage ∷ earlier) later) none in
      each_append (Of FromTree) (stage_reasons pool lottery earlier stage line lines) (reasons_from pool lottery (stage ∷ earlier) later next (later_trees trees))
      (stage_from_tree earlier stage line lines here) (stages_from_tree (stage ∷ earlier) later next (later_trees trees) behind)

not_both : (n : ℕ) → 11 ≤ n → n < 11 → ⊥
not_both n a b = omega arith

pub refusal_means : (cover : Cover) (refusal : Refusal) → verdict cover ≡ Refused refusal → RefusalMeans cover refusal
refusal_means cover refusal refused = λ below certifies.
    let pool = cover.bundle.pool in
    let answer = cover.bundle.answer in
    let from = check.reasons_from pool answer.lottery [] answer.stages in
    let first_line = lines_before_tree cover.bundle + 1 in
    let none = none_from_valid (check.reasons pool answer) (certificates.valid_where_certified pool answer certifies) in
    let each = each_append (Of FromTree) (lottery_reasons pool answer.lottery) (reasons_from pool answer.lottery [] answer.stages first_line cover.trees)
    (each_of_none FromTree (lottery_reasons pool answer.lottery) (each_left (λ r. r ≡ None) (lottery_reasons pool answer.lottery) from none))
    (stages_from_tree pool answer.lottery [] answer.stages first_line cover.trees (each_right (λ r. r ≡ None) (lottery_reasons pool answer.lottery) from none)) in
    not_both refusal.reason (first_of_each FromTree (reasons cover) each refusal refused) below

-- ---- lines of trees

-- `lines_of_trees` of the first `k + 1` trees is that of the first `k`, plus the lines of tree `k`, plus 1 for the line that begins the
-- next tree
lines_of_one_more : (trees : List (List FrontLine)) (k : ℕ) → k < length trees → lines_of_trees (take (suc k) trees) ≡ lines_of_trees (take k trees) + length (get_or trees k []) + 1
lines_of_one_more [] k l = absurd (omega arith)
lines_of_one_more (lines ∷ trees) zero l = omega arith
lines_of_one_more (lines ∷ trees) (suc k) l =
    let e = lines_of_one_more trees k (omega arith) in
    let more : lines_of_trees (take (suc (suc k)) (lines ∷ trees)) ≡ length lines + 1 + lines_of_trees (take (suc k) trees) = refl in
    let before : lines_of_trees (take (suc k) (lines ∷ trees)) ≡ length lines + 1 + lines_of_trees (take k trees) = refl in
    let its : get_or (lines ∷ trees) (suc k) [] ≡ get_or trees k [] = refl in
    let long : length (get_or (lines ∷ trees) (suc k) []) ≡ length (get_or trees k []) = ap length its in
    omega (arith, e, more, before, long)

first_behind : (trees : List (List FrontLine)) (k : ℕ) → get_or (drop k trees) 0 [] ≡ get_or trees k []
first_behind [] zero = refl
first_behind [] (suc k) = refl
first_behind (lines ∷ trees) zero = refl
first_behind (lines ∷ trees) (suc k) = first_behind trees k

later_behind : (trees : List (List FrontLine)) (k : ℕ) → drop 1 (drop k trees) ≡ drop (suc k) trees
later_behind [] zero = refl
later_behind [] (suc k) = refl
later_behind (lines ∷ trees) zero = refl
later_behind (lines ∷ trees) (suc k) = later_behind trees k

-- ---- a refusal for a reason 11 or 12 names the line of the tree's first fault

neither : (n : ℕ) → n < 11 → (n ≡ 11) ⊎ (n ≡ 12) → ⊥
neither n l (inl e) = omega arith
neither n l (inr e) = omega arith

module _ (cover : Cover) where
  abbrev pool : Pool
  pool = cover.bundle.pool

  abbrev lottery : Lottery
  lottery = cover.bundle.answer.lottery

  abbrev Names : Refusal → Type 0
  Names refusal = IsOfLine refusal → NamesLine cover refusal

  other : (stage number : ℕ) (who : Option (List ℕ)) → number < 11 → Of Names (reason stage number who)
  other stage number None l = tt
  other stage number (Some who) l = λ is. absurd (neither number l is)

  named : (earlier later : List Stage) (stage : Stage) (line : ℕ) (lines : List FrontLine) → cover.bundle.answer.stages ≡ reverse earlier ++ (stage ∷ later) →
      line ≡ lines_before_tree cover.bundle + lines_of_trees (take (length earlier) cover.trees) + 1 → lines ≡ get_or cover.trees (length earlier) [] →
      (found : Option TreeFault) → tree_fault pool earlier stage line lines ≡ found → Of Names (line_reason (length earlier + 1) found)
  named earlier later stage line lines stages at its None e = tt
  named earlier later stage line lines stages at its (Some found) e =
      let back : length earlier + 1 - 1 ≡ length earlier = omega arith in
      let start : lines_before cover (length earlier + 1) + 1 ≡ line = ap (λ k. lines_before_tree cover.bundle + lines_of_trees (take k cover.trees) + 1) back ∙ sym at in
      let tree : tree_of cover (length earlier + 1) ≡ lines = ap (λ k. get_or cover.trees k []) back ∙ sym its in
      λ is. record {
        earlier = earlier;
        stage = stage;
        later = later;
        stages = stages;
        number = refl;
        line = found.line;
        who = refl;
        first_fault = ap (λ n. tree_fault pool earlier stage n (tree_of cover (length earlier + 1))) start ∙ ap (tree_fault pool earlier stage line) tree ∙ e;
      }

  stages_named : (earlier later : List Stage) (line : ℕ) (rest : List (List FrontLine)) → cover.bundle.answer.stages ≡ reverse earlier ++ later →
      line ≡ lines_before_tree cover.bundle + lines_of_trees (take (length earlier) cover.trees) + 1 → rest ≡ drop (length earlier) cover.trees → length earlier + length later ≤ length cover.trees →
      EachOf Names (reasons_from pool lottery earlier later line rest)
  stages_named earlier [] line rest stages at its few = (other (length earlier) 10 _ (lit< tt), tt)
  stages_named earlier (stage ∷ later) line rest stages at its few =
      let lines = first_tree rest in
      let number = length earlier + 1 in
      let tree : lines ≡ get_or cover.trees (length earlier) [] = ap first_tree its ∙ first_behind cover.trees (length earlier) in
      let more = lines_of_one_more cover.trees (length earlier) (omega arith) in
      let long : length lines ≡ length (get_or cover.trees (length earlier) []) = ap length tree in
      let next : line + length lines + 1 ≡ lines_before_tree cover.bundle + lines_of_trees (take (suc (length earlier)) cover.trees) + 1 = omega (arith, at, more, long) in
      let turned : cover.bundle.answer.stages ≡ reverse (stage ∷ earlier) ++ later =
      stages ∙ sym (append_assoc (reverse earlier) (stage ∷ []) later) ∙ ap (λ all. all ++ later) (sym (reverse_onto earlier stage [])) in
      let before = reasons_before_cap pool lottery earlier stage in
      let of_tree = tree_reasons pool earlier stage line lines in
      let of_listed = listed_reasons lottery earlier stage in
      each_append (Of Names) (stage_reasons pool lottery earlier stage line lines) (reasons_from pool lottery (stage ∷ earlier) later (line + length lines + 1) (later_trees rest))
      (each_append (Of Names) (before ++ of_tree) of_listed
      (each_append (Of Names) before of_tree
      (other number 4 _ (lit< tt), (other number 5 _ (lit< tt), (other number 6 _ (lit< tt), (other number 7 _ (lit< tt), tt))))
      (named earlier later stage line lines stages at tree (tree_fault pool earlier stage line lines) refl, tt))
      (other number 9 _ (lit< tt), tt))
      (stages_named (stage ∷ earlier) later (line + length lines + 1) (later_trees rest) turned next (ap later_trees its ∙ later_behind cover.trees (length earlier)) (omega arith))

  cover_named : length cover.trees ≡ length cover.bundle.answer.stages → EachOf Names (reasons cover)
  cover_named one_each =
      each_append (Of Names) (lottery_reasons pool lottery) (reasons_from pool lottery [] cover.bundle.answer.stages (lines_before_tree cover.bundle + 1) cover.trees)
      (other 0 1 _ (lit< tt), (other 0 2 _ (lit< tt), (other 0 3 _ (lit< tt), tt)))
      (stages_named [] cover.bundle.answer.stages (lines_before_tree cover.bundle + 1) cover.trees refl (omega arith) refl (omega (arith, one_each)))

pub names_line : (cover : Cover) (refusal : Refusal) → length cover.trees ≡ length cover.bundle.answer.stages → verdict cover ≡ Refused refusal → IsOfLine refusal → NamesLine cover refusal
names_line cover refusal one_each refused is = first_of_each (Names cover) (reasons cover) (cover_named cover one_each) refusal refused is
