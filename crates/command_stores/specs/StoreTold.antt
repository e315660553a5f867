-- What one call over a store did, as seen from outside: its status, source, out and errs, and the keeper before and after the call. Builds
-- on `Told` of the shell, Keeping of `office_core` and Tables of `define_offices`. StoreOutcomes cites it, and so do the contracts of the
-- calls over a store, of `serve` and of `office`, and the headline.
use Rattle.std.specs.Prelude.{◌≡◌, ◌⊎◌, ℕ, List}
use Rattle.command_shell.specs.Told.{IsUntouched, Object, Told}
use Rattle.define_offices.specs.Tables.{Tables}
use Rattle.office_core.specs.Keeping.{Course, at}

-- a keeper before and after the call: its tables, if it tells them, its count of faults, and its course, which has where it is attached
pub record Keeper : Type 0 where
  pub object : Object Tables
  pub course_before : Course
  pub course_after : Course

abbrev pub keeper_told : Object Tables → Course → Course → Keeper
keeper_told object before after = record { object = object; course_before = before; course_after = after }

pub record StoreTold : Type 0 where
  pub call : Told
  pub keeper : Keeper

abbrev pub store_told : Told → Keeper → StoreTold
store_told call keeper = record { call = call; keeper = keeper }

-- the keeper was left alone: its tables, its count of faults and its course are as before
pub record IsLeftAlone (keeper : Keeper) : Type 0 where
  pub object : IsUntouched keeper.object
  pub course : keeper.course_after ≡ keeper.course_before

-- the tables that the keeper tells are as before
abbrev pub KeepsTables : Keeper → Type 0
KeepsTables keeper = keeper.object.after ≡ keeper.object.before

-- the keeper was attached at `path`
abbrev pub IsAttached : List ℕ → Keeper → Type 0
IsAttached path keeper = keeper.course_after.place ≡ at keeper.course_before.place path

-- the keeper was attached at `path`, or its place is as before
abbrev pub MayBeAttached : List ℕ → Keeper → Type 0
MayBeAttached path keeper = IsAttached path keeper ⊎ (keeper.course_after.place ≡ keeper.course_before.place)
