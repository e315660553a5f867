-- What a valid cover says: its certificate meets all but its caps, and each stage has a tree that covers what a search would enter. Then
-- the caps hold too. Builds on FrontOrder and Causes, and on Certificate of `define_pools`. The laws on covers use it.
use Rattle.std.specs.Prelude.{◌≡◌, ◌↔◌, ℕ, nat_lt, nat_le, ◌==◌, IsTrue, IsFalse, List, [], ◌∷◌, length, map, pos, int_le, Some}
use Rattle.std.specs.List.{list_all}
use Rattle.std.specs.Ordering.{int_eq}
use Rattle.define_bundles.specs.Ranges.{IsInRanges}
use Rattle.define_checks.specs.Caps.{classes_at, stage_row}
use Rattle.define_checks.specs.Reasons.{Valid}
use Rattle.define_pools.specs.Certificate.{Certifies, Stage, is_settled, panel_weight, settling, unsettled, weight_of}
use Rattle.define_pools.specs.Lottery.{IsLottery, Lottery, count}
use Rattle.define_pools.specs.Pool.{Pool, everybody}
use Rattle.define_rows.specs.Row.{Row}
use Rattle.define_searches.specs.Classes.{Classes}
use Rattle.define_searches.specs.Fronts.{is_live_above}
use Rattle.define_proofs.specs.CapsHold.{CapsHold}
use Rattle.define_covers.specs.Causes.{applies}
use Rattle.define_covers.specs.Covers.{Cause, Cover, FrontLine}
use Rattle.define_covers.specs.CoverVerdict.{first_tree, later_trees, verdict}
use Rattle.define_covers.specs.FrontOrder.{are_in_order}

-- ---- the trees

-- the fronts of the lines are all those of a tree over the classes, in order, and each cause applies to its front
pub record Covers (all : Classes) (closed : List Row) (row : Row) (lines : List FrontLine) : Type 0 where
  pub in_order : IsTrue (are_in_order all.classes (Some []) (map (λ line. line.front) lines))
  pub causes : IsTrue (list_all (λ line. applies all closed row line.front line.cause) lines)

-- the lines cover the search of a check at `stage`, after the stages `earlier`, of which the latest is first
abbrev pub CoversStage : Pool → List Stage → Stage → List FrontLine → Type 0
CoversStage pool earlier stage lines =
    Covers (classes_at pool (stage ∷ earlier)) (map (stage_row pool (stage ∷ earlier)) earlier) (stage_row pool (stage ∷ earlier) stage) lines

-- each stage of the second list, after `earlier`, is covered by the lines at its place in `trees`
abbrev pub TreesCover : Pool → List Stage → List Stage → List (List FrontLine) → Type 0
TreesCover pool earlier [] trees = Unit {0}
TreesCover pool earlier (stage ∷ later) trees =
    CoversStage pool earlier stage (first_tree trees) × TreesCover pool (stage ∷ earlier) later (later_trees trees)

-- ---- the certificate without its caps

-- what a stage must meet after earlier stages, but for its cap (`StageHolds` without `capped`)
pub record AllButCap (pool : Pool) (lottery : Lottery) (earlier : List Stage) (stage : Stage) : Type 0 where
  -- there is a weight for each volunteer
  pub one_each : length stage.weights ≡ length pool.volunteers
  -- nobody who is unsettled has a weight below 0
  pub none_negative : IsTrue (list_all (λ i. int_le (pos 0) (weight_of stage i)) (unsettled pool earlier))
  -- somebody who is unsettled has a weight above 0
  pub some_positive : IsTrue (nat_lt 0 (length (settling pool earlier stage)))
  -- all whom the stage settles have one count
  pub common_count : ℕ
  pub same_count : IsTrue (list_all (λ i. count lottery i == common_count) (settling pool earlier stage))
  -- nobody who is unsettled has a lower count
  pub least_count : IsTrue (list_all (λ i. nat_le common_count (count lottery i)) (unsettled pool earlier))
  -- each panel of the lottery weighs the cap
  pub reached : IsTrue (list_all (λ row. int_eq (panel_weight stage row.panel) stage.cap) lottery.rows)

-- each of the later stages meets all but its cap, after `earlier` and the later stages before it, and at the end everybody is settled
abbrev pub StagesMeetAllButCaps : Pool → Lottery → List Stage → List Stage → Type 0
StagesMeetAllButCaps pool lottery earlier [] = IsTrue (list_all (is_settled earlier) (everybody pool))
StagesMeetAllButCaps pool lottery earlier (stage ∷ later) =
    AllButCap pool lottery earlier stage × StagesMeetAllButCaps pool lottery (stage ∷ earlier) later

-- what `Certifies` asks of a certificate, but for the caps
pub record CertifiesButCaps (pool : Pool) (lottery : Lottery) (stages : List Stage) : Type 0 where
  pub is_lottery : IsLottery pool lottery
  pub stages_hold : StagesMeetAllButCaps pool lottery [] stages

-- ---- the laws

-- a front is live, as a check's search has it, exactly if no cause applies
abbrev pub LiveWhereNoCause : Type 0
LiveWhereNoCause = (all : Classes) (closed : List Row) (row : Row) (front : List ℕ) →
    IsTrue (is_live_above all closed row row.b front) ↔ ((cause : Cause) → IsFalse (applies all closed row front cause))

-- a certificate holds exactly if it meets all but its caps, and the caps hold
abbrev pub CapsAreLeft : Type 0
CapsAreLeft = (pool : Pool) (lottery : Lottery) (stages : List Stage) →
    Certifies pool lottery stages ↔ (CertifiesButCaps pool lottery stages × CapsHold pool [] stages)

-- if each stage has a tree that covers it, the caps hold
abbrev pub TreesCoverCaps : Type 0
TreesCoverCaps = (pool : Pool) (stages : List Stage) (trees : List (List FrontLine)) → TreesCover pool [] stages trees → CapsHold pool [] stages

-- for each bundle, a cover is valid exactly if the certificate meets all but its caps, and each stage has a tree that covers it
abbrev pub ValidWhereCovered : Type 0
ValidWhereCovered = (cover : Cover) → IsInRanges cover.bundle.pool cover.bundle.answer →
    verdict cover ≡ Valid ↔
    (CertifiesButCaps cover.bundle.pool cover.bundle.answer.lottery cover.bundle.answer.stages × TreesCover cover.bundle.pool [] cover.bundle.answer.stages cover.trees)

-- the certificate of a valid cover holds
abbrev pub ValidIsCertified : Type 0
ValidIsCertified = (cover : Cover) → IsInRanges cover.bundle.pool cover.bundle.answer → verdict cover ≡ Valid →
    Certifies cover.bundle.pool cover.bundle.answer.lottery cover.bundle.answer.stages
