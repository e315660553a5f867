-- A cover is valid exactly if its certificate meets all but its caps and the trees cover the stages; then the certificate holds.
use Rattle.std.proofs.Common.{◌≡◌, ℕ, ◌+◌, true, List, [], ◌∷◌, ◌++◌, length, Option, Some, None, refl, ap}
use Rattle.define_pools.proofs.Each.{each_append, each_left, each_right}
use Rattle.define_bundles.specs.Ranges.{IsInRanges}
use Rattle.define_checks.specs.Reasons as check
use Rattle.define_checks.specs.Reasons.{Refusal, Valid, cap_reasons, first_reason, lottery_reasons, reason, reasons_before_cap}
use Rattle.define_checks.proofs.PassedCaps.{no_panel_where_capped}
use Rattle.define_checks.proofs.ReasonsStand as certificates
use Rattle.define_checks.proofs.ReasonsStand.{NoneStands, none_from_valid, valid_from_none}
use Rattle.define_pools.specs.Certificate.{Answer, Certifies, Stage, StageHolds, StagesHold, is_capped}
use Rattle.define_pools.specs.Lottery.{LeximinGreatest, Lottery}
use Rattle.define_pools.specs.Pool.{Pool}
use Rattle.define_pools.proofs.Greatest.{greatest_from_Certifies}
use Rattle.define_proofs.specs.CapsHold.{CapsHold}
use Rattle.define_proofs.specs.ProofVerdict.{line_reason, listed_reasons}
use Rattle.define_proofs.specs.TreeLines.{TreeFault}
use Rattle.define_covers.specs.Covers.{Cover, FrontLine}
use Rattle.define_covers.specs.CoverVerdict.{first_tree, later_trees, lines_before_tree, reasons, reasons_from, stage_reasons, tree_fault, tree_reasons, verdict}
use Rattle.define_covers.specs.CoversHold.{AllButCap, CapsAreLeft, CertifiesButCaps, StagesMeetAllButCaps, TreesCover, TreesCoverCaps, ValidIsCertified, ValidWhereCovered}
use Rattle.define_covers.proofs.Covered.{capped_where_covered, covers_where_no_fault, no_fault_where_covers}

-- ---- caps

pub caps_hold : (pool : Pool) (earlier later : List Stage) (trees : List (List FrontLine)) → TreesCover pool earlier later trees → CapsHold pool earlier later
caps_hold pool earlier [] trees cover = tt
caps_hold pool earlier (stage ∷ later) trees cover =
    (capped_where_covered pool earlier stage (first_tree trees) cover.0, caps_hold pool (stage ∷ earlier) later (later_trees trees) cover.1)

pub trees_cover_caps : TreesCoverCaps
trees_cover_caps pool stages trees cover = caps_hold pool [] stages trees cover

-- ---- a certificate holds exactly if it meets all but its caps, and the caps hold

module _ (pool : Pool) (lottery : Lottery) where
  with_cap : (earlier : List Stage) (stage : Stage) → AllButCap pool lottery earlier stage → is_capped pool earlier stage ≡ true → StageHolds pool lottery earlier stage
  with_cap earlier stage it capped = record {
    one_each = it.one_each;
    none_negative = it.none_negative;
    some_positive = it.some_positive;
    common_count = it.common_count;
    same_count = it.same_count;
    least_count = it.least_count;
    capped = capped;
    reached = it.reached;
  }

  without_cap : (earlier : List Stage) (stage : Stage) → StageHolds pool lottery earlier stage → AllButCap pool lottery earlier stage
  without_cap earlier stage it = record {
    one_each = it.one_each;
    none_negative = it.none_negative;
    some_positive = it.some_positive;
    common_count = it.common_count;
    same_count = it.same_count;
    least_count = it.least_count;
    reached = it.reached;
  }

  with_caps : (earlier later : List Stage) → StagesMeetAllButCaps pool lottery earlier later → CapsHold pool earlier later → StagesHold pool lottery earlier later
  with_caps earlier [] meet hold = meet
  with_caps earlier (stage ∷ later) meet hold = (with_cap earlier stage meet.0 hold.0, with_caps (stage ∷ earlier) later meet.1 hold.1)

  without_caps : (earlier later : List Stage) → StagesHold pool lottery earlier later → StagesMeetAllButCaps pool lottery earlier later × CapsHold pool earlier later
  without_caps earlier [] hold = (hold, tt)
  without_caps earlier (stage ∷ later) hold =
      let rest = without_caps (stage ∷ earlier) later hold.1 in
      let here = hold.0 in
      ((without_cap earlier stage here, rest.0), (here.capped, rest.1))

pub caps_are_left : CapsAreLeft
caps_are_left pool lottery stages = (
  λ certifies. let both = without_caps pool lottery [] stages certifies.stages_hold in (record { is_lottery = certifies.is_lottery; stages_hold = both.0 }, both.1),
  λ both. let but = both.0 in record { is_lottery = but.is_lottery; stages_hold = with_caps pool lottery [] stages but.stages_hold both.1 },
)

-- ---- a cover has no reason to be refused exactly if a check finds none and the trees cover the stages

line_none : (stage : ℕ) (fault : Option TreeFault) → line_reason stage fault ≡ None → fault ≡ None
line_none stage None e = refl
line_none stage (Some fault) e = absurd cc

module _ (pool : Pool) (lottery : Lottery) where
  -- no reason of a check applies to the later stages, and their trees cover them
  record BothNone (earlier later : List Stage) (trees : List (List FrontLine)) : Type 0 where
    check : NoneStands (check.reasons_from pool lottery earlier later)
    cover : TreesCover pool earlier later trees

  module _ (earlier : List Stage) (stage : Stage) (line : ℕ) (lines : List FrontLine) where
    abbrev before : List (Option Refusal)
    before = reasons_before_cap pool lottery earlier stage

    abbrev of_tree : List (Option Refusal)
    of_tree = tree_reasons pool earlier stage line lines

    abbrev of_listed : List (Option Refusal)
    of_listed = listed_reasons lottery earlier stage

    no_fault : NoneStands (stage_reasons pool lottery earlier stage line lines) → tree_fault pool earlier stage line lines ≡ None
    no_fault none =
        let trees = each_right (λ r. r ≡ None) before of_tree (each_left (λ r. r ≡ None) (before ++ of_tree) of_listed none) in
        line_none (length earlier + 1) (tree_fault pool earlier stage line lines) trees.0

    check_none : is_capped pool earlier stage ≡ true → NoneStands (stage_reasons pool lottery earlier stage line lines) → NoneStands (check.stage_reasons pool lottery earlier stage)
    check_none cap none =
        let first = each_left (λ r. r ≡ None) before of_tree (each_left (λ r. r ≡ None) (before ++ of_tree) of_listed none) in
        let last = each_right (λ r. r ≡ None) (before ++ of_tree) of_listed none in
        each_append (λ r. r ≡ None) before (cap_reasons pool lottery earlier stage) first (ap (reason (length earlier + 1) 8) (no_panel_where_capped pool earlier stage cap), last)

    tree_none : tree_fault pool earlier stage line lines ≡ None → NoneStands (check.stage_reasons pool lottery earlier stage) → NoneStands (stage_reasons pool lottery earlier stage line lines)
    tree_none is none =
        let first = each_left (λ r. r ≡ None) before (cap_reasons pool lottery earlier stage) none in
        let last = each_right (λ r. r ≡ None) before (cap_reasons pool lottery earlier stage) none in
        each_append (λ r. r ≡ None) (before ++ of_tree) of_listed (each_append (λ r. r ≡ None) before of_tree first (ap (line_reason (length earlier + 1)) is, tt)) last.1

  both_none : (earlier later : List Stage) (line : ℕ) (trees : List (List FrontLine)) → NoneStands (reasons_from pool lottery earlier later line trees) → BothNone earlier later trees
  both_none earlier [] line trees none = record { check = none; cover = tt }
  both_none earlier (stage ∷ later) line trees none =
      let lines = first_tree trees in
      let next = line + length lines + 1 in
      let here = each_left (λ r. r ≡ None) (stage_reasons pool lottery earlier stage line lines) (reasons_from pool lottery (stage ∷ earlier) later next (later_trees trees)) none in
      let behind = each_right (λ r. r ≡ None) (stage_reasons pool lottery earlier stage line lines) (reasons_from pool lottery (stage ∷ earlier) later next (later_trees trees)) none in
      let covers = covers_where_no_fault pool earlier stage lines line (no_fault earlier stage line lines here) in
      let cap = capped_where_covered pool earlier stage lines covers in
      let rest = both_none (stage ∷ earlier) later next (later_trees trees) behind in
      record {
        check = each_append (λ r. r ≡ None) (check.stage_reasons pool lottery earlier stage) (check.reasons_from pool lottery (stage ∷ earlier) later) (check_none earlier stage line lines cap here) rest.check;
        cover = (covers, rest.cover);
      }

  none_from_both : (earlier later : List Stage) (line : ℕ) (trees : List (List FrontLine)) → NoneStands (check.reasons_from pool lottery earlier later) → TreesCover pool earlier later trees → NoneStands (reasons_from pool lottery earlier later line trees)
  none_from_both earlier [] line trees none cover = none
  none_from_both earlier (stage ∷ later) line trees none cover =
      let lines = first_tree trees in
      let next = line + length lines + 1 in
      let here = each_left (λ r. r ≡ None) (check.stage_reasons pool lottery earlier stage) (check.reasons_from pool lottery (stage ∷ earlier) later) none in
      let behind = each_right (λ r. r ≡ None) (check.stage_reasons pool lottery earlier stage) (check.reasons_from pool lottery (stage ∷ earlier) later) none in
      each_append (λ r. r ≡ None) (stage_reasons pool lottery earlier stage line lines) (reasons_from pool lottery (stage ∷ earlier) later next (later_trees trees))
      (tree_none earlier stage line lines (no_fault_where_covers pool earlier stage lines line cover.0) here) (none_from_both (stage ∷ earlier) later next (later_trees trees) behind cover.1)

-- ---- which covers are valid

module _ (cover : Cover) where
  abbrev pool : Pool
  pool = cover.bundle.pool

  abbrev answer : Answer
  answer = cover.bundle.answer

  abbrev first_line : ℕ
  first_line = lines_before_tree cover.bundle + 1

  abbrev of_lottery : List (Option Refusal)
  of_lottery = lottery_reasons pool answer.lottery

  certified_and_covered : IsInRanges pool answer → verdict cover ≡ Valid → Certifies pool answer.lottery answer.stages × TreesCover pool [] answer.stages cover.trees
  certified_and_covered ranges valid =
      let from = reasons_from pool answer.lottery [] answer.stages first_line cover.trees in
      let none = none_from_valid (of_lottery ++ from) valid in
      let both = both_none pool answer.lottery [] answer.stages first_line cover.trees (each_right (λ r. r ≡ None) of_lottery from none) in
      let by_check = valid_from_none (check.reasons pool answer) (each_append (λ r. r ≡ None) of_lottery (check.reasons_from pool answer.lottery [] answer.stages) (each_left (λ r. r ≡ None) of_lottery from none) both.check) in
      (certificates.certified_where_valid pool answer ranges by_check, both.cover)

  pub valid_where_checked : check.verdict pool answer ≡ Valid → TreesCover pool [] answer.stages cover.trees → verdict cover ≡ Valid
  valid_where_checked valid covers =
      let from = check.reasons_from pool answer.lottery [] answer.stages in
      let none = none_from_valid (of_lottery ++ from) valid in
      valid_from_none (reasons cover)
      (each_append (λ r. r ≡ None) of_lottery (reasons_from pool answer.lottery [] answer.stages first_line cover.trees) (each_left (λ r. r ≡ None) of_lottery from none)
      (none_from_both pool answer.lottery [] answer.stages first_line cover.trees (each_right (λ r. r ≡ None) of_lottery from none) covers))

  pub certified_where_valid : IsInRanges pool answer → verdict cover ≡ Valid → Certifies pool answer.lottery answer.stages
  certified_where_valid ranges valid = (certified_and_covered ranges valid).0

  pub greatest_where_valid : IsInRanges pool answer → verdict cover ≡ Valid → LeximinGreatest pool answer.lottery
  greatest_where_valid ranges valid = greatest_from_Certifies pool answer.lottery answer.stages (certified_where_valid ranges valid)

  covered_where_valid : IsInRanges pool answer → verdict cover ≡ Valid → CertifiesButCaps pool answer.lottery answer.stages × TreesCover pool [] answer.stages cover.trees
  covered_where_valid ranges valid =
      let both = certified_and_covered ranges valid in (((caps_are_left pool answer.lottery answer.stages).0 both.0).0, both.1)

  valid_where_covered_too : CertifiesButCaps pool answer.lottery answer.stages → TreesCover pool [] answer.stages cover.trees → verdict cover ≡ Valid
  valid_where_covered_too but covers =
      valid_where_checked (certificates.valid_where_certified pool answer ((caps_are_left pool answer.lottery answer.stages).1 (but, trees_cover_caps pool answer.stages cover.trees covers))) covers

pub valid_where_covered : ValidWhereCovered
valid_where_covered cover ranges = (covered_where_valid cover ranges, λ both. valid_where_covered_too cover both.0 both.1)

pub valid_is_certified : ValidIsCertified
valid_is_certified cover ranges valid = certified_where_valid cover ranges valid
