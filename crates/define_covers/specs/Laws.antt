-- Laws of covers that stand in no other file. Builds on FirstCause, and on CoversHold of `define_covers`. The contracts of src/lib.rt cite it.
use Rattle.std.specs.Prelude.{◌≡◌, ℕ, List, [], None, true}
use Rattle.define_bundles.specs.Ranges.{IsInRanges}
use Rattle.define_checks.specs.Caps.{composition_above}
use Rattle.define_checks.specs.Reasons as check
use Rattle.define_checks.specs.Reasons.{Valid}
use Rattle.define_pools.specs.Certificate.{Stage}
use Rattle.define_pools.specs.Lottery.{LeximinGreatest}
use Rattle.define_pools.specs.Pool.{Pool}
use Rattle.define_rows.specs.Row.{Row}
use Rattle.define_searches.specs.Classes.{Classes}
use Rattle.define_searches.specs.Fronts.{is_live_above}
use Rattle.define_covers.specs.Covers.{Cover, FrontLine}
use Rattle.define_covers.specs.CoverVerdict.{tree_fault, verdict}
use Rattle.define_covers.specs.CoversHold.{TreesCover}
use Rattle.define_covers.specs.FirstCause.{first_cause}

-- a front to which no cause comes first is live
abbrev pub LiveWhereNoneFirst : Type 0
LiveWhereNoneFirst = (all : Classes) (closed : List Row) (row : Row) (front : List ℕ) → first_cause all closed row front ≡ None → is_live_above all closed row row.b front ≡ true

-- if the lines of a stage's tree have no fault, a check's search at the stage finds no composition above the cap
abbrev pub NoneAboveWhereCovered : Type 0
NoneAboveWhereCovered = (pool : Pool) (earlier : List Stage) (stage : Stage) (number : ℕ) (lines : List FrontLine) →
    tree_fault pool earlier stage number lines ≡ None → composition_above pool earlier stage ≡ None

-- a cover is valid if a check finds its certificate valid and its trees cover the stages
abbrev pub ValidWhereChecked : Type 0
ValidWhereChecked = (cover : Cover) → check.verdict cover.bundle.pool cover.bundle.answer ≡ Valid →
    TreesCover cover.bundle.pool [] cover.bundle.answer.stages cover.trees → verdict cover ≡ Valid

-- the lottery of a valid cover is leximin greatest
abbrev pub ValidIsGreatest : Type 0
ValidIsGreatest = (cover : Cover) → IsInRanges cover.bundle.pool cover.bundle.answer → verdict cover ≡ Valid →
    LeximinGreatest cover.bundle.pool cover.bundle.answer.lottery
