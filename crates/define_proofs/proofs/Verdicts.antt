-- A proof is valid exactly if its certificate holds and its trees show the caps.
use Rattle.std.proofs.Common.{◌≡◌, ℕ, ◌+◌, true, leb, List, [], ◌∷◌, ◌++◌, length, Option, Some, None, refl, ap}
use Rattle.define_pools.proofs.Each.{each_append, each_left, each_right}
use Rattle.define_bundles.specs.Ranges.{IsInRanges, reach}
use Rattle.define_checks.specs.Reasons as check
use Rattle.define_checks.specs.Reasons.{Refusal, Valid, cap_reasons, first_reason, lottery_reasons, nobody_unless, reason, reasons_before_cap}
use Rattle.define_checks.proofs.PassedCaps.{no_panel_where_capped}
use Rattle.define_checks.proofs.ReasonsStand as certificates
use Rattle.define_checks.proofs.ReasonsStand.{NoneStands, none_from_valid, valid_from_none, reason_none, unless_none}
use Rattle.define_pools.specs.Certificate.{Answer, Certifies, Stage, is_capped}
use Rattle.define_pools.specs.Lottery.{Lottery}
use Rattle.define_pools.specs.Pool.{Pool, panels}
use Rattle.define_proofs.specs.CapsHold.{CapsHold, EarlierCapsHold}
use Rattle.define_proofs.specs.Leaves.{no_panel_problem, stage_problem, standings}
use Rattle.define_proofs.specs.ProofVerdict.{OfLottery, OfNoPanel, TreesShow, first_tree, later_trees, line_reason, lines_before_tree, listed_reasons, reasons, reasons_from, stage_reasons, tree_reasons, verdict}
use Rattle.define_proofs.specs.TreeLines.{AreOfTree, TreeFault, TreeLine, tree_fault}
use Rattle.define_proofs.specs.TreeRanges.{number_limit}
use Rattle.define_proofs.proofs.ByLines.{no_fault_where_of_tree, of_tree_where_no_fault}
use Rattle.define_proofs.proofs.TreeShows.{capped, no_panels}

-- ---- caps, one after another

cap_of_lines : (pool : Pool) (earlier : List Stage) (stage : Stage) (lines : List TreeLine) → EarlierCapsHold pool earlier → AreOfTree (stage_problem pool earlier stage) (standings pool) lines → is_capped pool earlier stage ≡ true
cap_of_lines pool earlier stage lines hold of_tree = capped pool earlier stage of_tree.tree hold of_tree.shows

pub caps_hold : (pool : Pool) (earlier later : List Stage) (trees : List (List TreeLine)) → EarlierCapsHold pool earlier → TreesShow pool earlier later trees → CapsHold pool earlier later
caps_hold pool earlier [] trees hold show = tt
caps_hold pool earlier (stage ∷ later) trees hold show =
    let here = cap_of_lines pool earlier stage (first_tree trees) hold show.1 in (here, caps_hold pool (stage ∷ earlier) later (later_trees trees) (here, hold) show.2)

-- ---- a proof has no reason to be refused exactly if a check finds none and the trees show the caps

line_none : (stage : ℕ) (fault : Option TreeFault) → line_reason stage fault ≡ None → fault ≡ None
line_none stage None e = refl
line_none stage (Some fault) e = absurd cc

module _ (pool : Pool) (lottery : Lottery) where
  -- no reason of a check applies to the later stages, and their trees show the caps
  record BothNone (earlier later : List Stage) (trees : List (List TreeLine)) : Type 0 where
    check : NoneStands (check.reasons_from pool lottery earlier later)
    trees_show : TreesShow pool earlier later trees

  module _ (earlier : List Stage) (stage : Stage) (line : ℕ) (lines : List TreeLine) where
    abbrev number : ℕ
    number = length earlier + 1

    abbrev before : List (Option Refusal)
    before = reasons_before_cap pool lottery earlier stage

    abbrev of_tree : List (Option Refusal)
    of_tree = tree_reasons pool earlier stage line lines

    abbrev of_listed : List (Option Refusal)
    of_listed = listed_reasons lottery earlier stage

    abbrev fault : Option TreeFault
    fault = tree_fault (stage_problem pool earlier stage) (standings pool) line lines

    reach_within : NoneStands (stage_reasons pool lottery earlier stage line lines) → leb (reach stage) number_limit ≡ true
    reach_within none =
        let trees = each_right (λ r. r ≡ None) before of_tree (each_left (λ r. r ≡ None) (before ++ of_tree) of_listed none) in
        unless_none (leb (reach stage) number_limit) (reason_none number 13 (nobody_unless (leb (reach stage) number_limit)) trees.0)

    lines_of_tree : NoneStands (stage_reasons pool lottery earlier stage line lines) → AreOfTree (stage_problem pool earlier stage) (standings pool) lines
    lines_of_tree none =
        let trees = each_right (λ r. r ≡ None) before of_tree (each_left (λ r. r ≡ None) (before ++ of_tree) of_listed none) in
        of_tree_where_no_fault (stage_problem pool earlier stage) (standings pool) line lines (line_none number fault trees.1.0)

    check_none : is_capped pool earlier stage ≡ true → NoneStands (stage_reasons pool lottery earlier stage line lines) → NoneStands (check.stage_reasons pool lottery earlier stage)
    check_none cap none =
        let first = each_left (λ r. r ≡ None) before of_tree (each_left (λ r. r ≡ None) (before ++ of_tree) of_listed none) in
        let last = each_right (λ r. r ≡ None) (before ++ of_tree) of_listed none in
        each_append (λ r. r ≡ None) before (cap_reasons pool lottery earlier stage) first (ap (reason number 8) (no_panel_where_capped pool earlier stage cap), last)

    tree_none : leb (reach stage) number_limit ≡ true → AreOfTree (stage_problem pool earlier stage) (standings pool) lines → NoneStands (check.stage_reasons pool lottery earlier stage) →
        NoneStands (stage_reasons pool lottery earlier stage line lines)
    tree_none within is none =
        let first = each_left (λ r. r ≡ None) before (cap_reasons pool lottery earlier stage) none in
        let last = each_right (λ r. r ≡ None) before (cap_reasons pool lottery earlier stage) none in
        let reached : reason number 13 (nobody_unless (leb (reach stage) number_limit)) ≡ None = ap (λ b. reason number 13 (nobody_unless b)) within in
        let line_is : line_reason number fault ≡ None = ap (line_reason number) (no_fault_where_of_tree (stage_problem pool earlier stage) (standings pool) line lines is) in
        each_append (λ r. r ≡ None) (before ++ of_tree) of_listed (each_append (λ r. r ≡ None) before of_tree first (reached, (line_is, tt))) last.1

  both_none : (earlier later : List Stage) (line : ℕ) (trees : List (List TreeLine)) → EarlierCapsHold pool earlier → NoneStands (reasons_from pool lottery earlier later line trees) → BothNone earlier later trees
  both_none earlier [] line trees hold none = record { check = none; trees_show = tt }
  both_none earlier (stage ∷ later) line trees hold none =
      let lines = first_tree trees in
      let next = line + length lines + 1 in
      let here = each_left (λ r. r ≡ None) (stage_reasons pool lottery earlier stage line lines) (reasons_from pool lottery (stage ∷ earlier) later next (later_trees trees)) none in
      let behind = each_right (λ r. r ≡ None) (stage_reasons pool lottery earlier stage line lines) (reasons_from pool lottery (stage ∷ earlier) later next (later_trees trees)) none in
      let is = lines_of_tree earlier stage line lines here in
      let cap = cap_of_lines pool earlier stage lines hold is in
      let rest = both_none (stage ∷ earlier) later next (later_trees trees) (cap, hold) behind in
      record {
        check = each_append (λ r. r ≡ None) (check.stage_reasons pool lottery earlier stage) (check.reasons_from pool lottery (stage ∷ earlier) later) (check_none earlier stage line lines cap here) rest.check;
        trees_show = (reach_within earlier stage line lines here, is, rest.trees_show);
      }

  none_from_both : (earlier later : List Stage) (line : ℕ) (trees : List (List TreeLine)) → NoneStands (check.reasons_from pool lottery earlier later) → TreesShow pool earlier later trees → NoneStands (reasons_from pool lottery earlier later line trees)
  none_from_both earlier [] line trees none show = none
  none_from_both earlier (stage ∷ later) line trees none show =
      let lines = first_tree trees in
      let next = line + length lines + 1 in
      let here = each_left (λ r. r ≡ None) (check.stage_reasons pool lottery earlier stage) (check.reasons_from pool lottery (stage ∷ earlier) later) none in
      let behind = each_right (λ r. r ≡ None) (check.stage_reasons pool lottery earlier stage) (check.reasons_from pool lottery (stage ∷ earlier) later) none in
      each_append (λ r. r ≡ None) (stage_reasons pool lottery earlier stage line lines) (reasons_from pool lottery (stage ∷ earlier) later next (later_trees trees))
      (tree_none earlier stage line lines show.0 show.1 here) (none_from_both (stage ∷ earlier) later next (later_trees trees) behind show.2)

-- ---- which proofs are valid

module _ (pool : Pool) (answer : Answer) (trees : List (List TreeLine)) where
  abbrev first_line : ℕ
  first_line = lines_before_tree (OfLottery pool answer trees) + 1

  abbrev of_lottery : List (Option Refusal)
  of_lottery = lottery_reasons pool answer.lottery

  pub certified_where_valid : IsInRanges pool answer → verdict (OfLottery pool answer trees) ≡ Valid → Certifies pool answer.lottery answer.stages × TreesShow pool [] answer.stages trees
  certified_where_valid ranges valid =
      let from = reasons_from pool answer.lottery [] answer.stages first_line trees in
      let none = none_from_valid (of_lottery ++ from) valid in
      let both = both_none pool answer.lottery [] answer.stages first_line trees tt (each_right (λ r. r ≡ None) of_lottery from none) in
      let by_check = valid_from_none (check.reasons pool answer) (each_append (λ r. r ≡ None) of_lottery (check.reasons_from pool answer.lottery [] answer.stages) (each_left (λ r. r ≡ None) of_lottery from none) both.check) in
      (certificates.certified_where_valid pool answer ranges by_check, both.trees_show)

  pub valid_where_certified : Certifies pool answer.lottery answer.stages → TreesShow pool [] answer.stages trees → verdict (OfLottery pool answer trees) ≡ Valid
  valid_where_certified certifies show =
      let from = check.reasons_from pool answer.lottery [] answer.stages in
      let none = none_from_valid (of_lottery ++ from) (certificates.valid_where_certified pool answer certifies) in
      valid_from_none (reasons (OfLottery pool answer trees))
      (each_append (λ r. r ≡ None) of_lottery (reasons_from pool answer.lottery [] answer.stages first_line trees) (each_left (λ r. r ≡ None) of_lottery from none)
      (none_from_both pool answer.lottery [] answer.stages first_line trees (each_right (λ r. r ≡ None) of_lottery from none) show))

module _ (pool : Pool) (lines : List TreeLine) where
  abbrev line : ℕ
  line = lines_before_tree (OfNoPanel pool lines) + 1

  pub of_tree_where_valid : verdict (OfNoPanel pool lines) ≡ Valid → AreOfTree (no_panel_problem pool) (standings pool) lines
  of_tree_where_valid valid =
      let none = none_from_valid (reasons (OfNoPanel pool lines)) valid in
      of_tree_where_no_fault (no_panel_problem pool) (standings pool) line lines (line_none 0 (tree_fault (no_panel_problem pool) (standings pool) line lines) none.0)

  pub valid_where_of_tree : AreOfTree (no_panel_problem pool) (standings pool) lines → verdict (OfNoPanel pool lines) ≡ Valid
  valid_where_of_tree is = ap (λ fault. first_reason (line_reason 0 fault ∷ [])) (no_fault_where_of_tree (no_panel_problem pool) (standings pool) line lines is)

  pub no_panel_where_valid : verdict (OfNoPanel pool lines) ≡ Valid → panels pool ≡ []
  no_panel_where_valid valid = let is = of_tree_where_valid valid in no_panels pool is.tree is.shows
