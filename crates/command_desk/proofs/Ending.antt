-- How a call of `serve` ends follows from what it does to keeper and door, and from what it tells.
use Rattle.std.proofs.Common.{◌≡◌, ℕ, List, Option, None, Result, Ok, Err, ap, subst, ◌∙◌, ◌⊎◌, inl, inr}
use Rattle.command_shell.specs.Answers.{Prints, Saying}
use Rattle.command_shell.specs.Lines.{door_fault_line}
use Rattle.command_shell.specs.Outcomes.{IsCutOff, IsPrinted, IsStopped, IsToldOrCutOff}
use Rattle.command_shell.specs.Told.{Told}
use Rattle.command_shell.specs.declared.status.Printed.TheVariants as printed
use Rattle.command_stores.specs.StoreTold.{IsAttached, Keeper, store_told}
use Rattle.outside.specs.declared.source.Failed.{Failed}
use Rattle.command_desk.specs.DeskTold.{Door, Ports, desk_told}
use Rattle.command_desk.specs.Rooms.{numbers_line}
use Rattle.command_desk.specs.ServeOutcomes.{Done, DoorFault, HasServed, ServeOutcome, WriteFault, kept_after, kept_before}
use Rattle.command_desk.specs.Turns.{AreCounted, ServesAt}
use Rattle.command_desk.specs.Serving.{served_line, served_of}
use Rattle.command_desk.specs.declared.serving.Counts.{Counts}
use Rattle.define_offices.specs.Tables.{Tables}
use Rattle.office_core.specs.Keeping.{Attach, Course, with_call}
use Rattle.office_http.specs.Visits.{Kept, Visit, kept}

line_of_counts : (visits : List Visit) (counts : Counts) → AreCounted visits counts → numbers_line counts.served counts.broken ≡ served_line visits
line_of_counts visits counts are = ap (λ (n : ℕ). numbers_line n counts.broken) are.served ∙ ap (λ (n : ℕ). numbers_line (served_of visits) n) are.broken

-- if the door was served without a failure, and the line was told, whole or cut off, the call ends as `ServeOutcome` says
pub served : (path : List ℕ) (port connections : ℕ) (call : Told) (keeper : Keeper) (door : Door) (ports : Ports) (counts : Counts) (saying : Saying) → IsAttached path keeper →
    ServesAt port connections door ports (kept_before path keeper) (kept_after keeper) (Ok counts) → saying ≡ Prints printed.Done (numbers_line counts.served counts.broken) →
    IsToldOrCutOff saying call → ServeOutcome path port connections (desk_told (store_told call keeper) door ports)
served path port connections call keeper door ports counts saying attached ((visits, attended, within, end, counted), opened) says tells =
    let line = says ∙ ap (λ (text : List ℕ). Prints printed.Done text) (line_of_counts visits counts counted) in
    let so : IsPrinted 0 (served_line visits) call ⊎ IsCutOff (served_line visits) call = subst (λ (s : Saying). IsToldOrCutOff s call) line tells in
    let has : HasServed path connections (desk_told (store_told call keeper) door ports) visits = record { attached = attached; attended = attended; within = within } in
    elim so [ inl whole ↦ Done visits opened has end whole | inr cut ↦ WriteFault visits opened has end cut ]

-- if the door failed, and the call told so, the call ends as `ServeOutcome` says
pub door_failed : (path : List ℕ) (port connections : ℕ) (call : Told) (keeper : Keeper) (door : Door) (ports : Ports) (failed : Failed) → IsAttached path keeper →
    ServesAt port connections door ports (kept_before path keeper) (kept_after keeper) (Err failed) → IsStopped 10 door_fault_line call → ServeOutcome path port connections (desk_told (store_told call keeper) door ports)
door_failed path port connections call keeper door ports failed attached (visits, attended, within, faulted, at) stopped =
    DoorFault visits at (record { attached = attached; attended = attended; within = within }) faulted stopped

-- if attaching changed neither the tables that the keeper tells nor its count of faults, then in `ServesAt` the tables and the count from
-- before the attaching can take the place of those of the attached keeper
pub from_before : (path : List ℕ) (port connections : ℕ) (door : Door) (ports : Ports) (tables now : Option Tables) (faults count : ℕ) (course attached : Course) (after : Kept) (result : Result Counts Failed) →
    now ≡ tables → count ≡ faults → attached ≡ with_call course (Attach path None) → ServesAt port connections door ports (kept now count attached) after result →
    ServesAt port connections door ports (kept tables faults (with_call course (Attach path None))) after result
from_before path port connections door ports tables now faults count course attached after result same none call serves =
    subst (λ (t : Option Tables). ServesAt port connections door ports (kept t faults (with_call course (Attach path None))) after result) same
    (subst (λ (f : ℕ). ServesAt port connections door ports (kept now f (with_call course (Attach path None))) after result) none
    (subst (λ (c : Course). ServesAt port connections door ports (kept now count c) after result) call serves))
