-- The imports into an empty office: each is decided at once, and leads to tables.
use Rattle.std.proofs.Common.{◌≡◌, ◌∙◌, ℕ, List, Option, Result, Ok, Err, refl, ap, subst}
use Rattle.std.specs.Prelude.{option_map}
use Rattle.define_imports.specs.Charters.{read_charter}
use Rattle.define_imports.specs.Registers.{ReadsRows}
use Rattle.define_imports.specs.Rules.{ReadsRules}
use Rattle.define_offices.specs.Commands.{Change, Command, Given, Outcome, Refuses, Register, Replies, Reply, SetCharter, SetRules}
use Rattle.define_offices.specs.Deciding.{IsDecided, asked}
use Rattle.define_offices.specs.Facts.{IsCommand, IsTables}
use Rattle.define_offices.specs.Laws.{StepsKeepTables}
use Rattle.define_offices.specs.Steps.{AtOnce, Comes, applied}
use Rattle.define_offices.specs.Tables.{Charter, Tables, first_tables}
use Rattle.define_pools.specs.Pool.{Category}
use Rattle.office_import.specs.Answers.{IsFault}
use Rattle.office_import.specs.declared.stops.ImportStop.{ImportStop}
use Rattle.office_import.specs.declared.stops.ImportStop.TheVariants as read
use Rattle.office_steps.specs.Replies.{seen_refusal, seen_reply}
use Rattle.office_steps.specs.declared.replies.Reply as reply
use Rattle.office_tables.specs.Changes.{seen_change}
use Rattle.office_tables.specs.declared.changes.Change as change
use Rattle.office_steps.specs.Steps.{Says}
use Rattle.office_steps.specs.declared.stops.OfficeStop.{OfficeStop}
use Rattle.office_steps.specs.declared.stops.OfficeStop.TheVariants.{Refused, OutOfMemory}
use Rattle.command_browser.specs.FirstPools.{AtCharter, AtRegister, AtRules, DoesOrStops, ImportsOrStops, IsDone, OfCharter, OfRegister, OfRules, ReadsFiles}

-- ---- the files

pub faulty_charter : (charter rules register : List ℕ) (stop : ImportStop) → IsFault (λ fault. read_charter charter ≡ Err fault) stop → ReadsFiles charter rules register (Err stop)
faulty_charter charter rules register (read.Fault fault) is = OfCharter is
faulty_charter charter rules register read.OutOfMemory is = tt

pub faulty_rules : (charter rules register : List ℕ) (its : Charter) (stop : ImportStop) → read_charter charter ≡ Ok its → IsFault (λ fault. ReadsRules rules (Err fault)) stop →
    ReadsFiles charter rules register (Err stop)
faulty_rules charter rules register its (read.Fault fault) are is = OfRules its are is
faulty_rules charter rules register its read.OutOfMemory are is = tt

pub faulty_register : (charter rules register : List ℕ) (its : Charter) (categories : List Category) (stop : ImportStop) → read_charter charter ≡ Ok its →
    ReadsRules rules (Ok categories) → IsFault (λ fault. ReadsRows categories register (Err fault)) stop → ReadsFiles charter rules register (Err stop)
faulty_register charter rules register its categories (read.Fault fault) are also is = OfRegister its categories are also is
faulty_register charter rules register its categories read.OutOfMemory are also is = tt

-- ---- one import

-- what is said of a change and a reply
pub says_both : (outcome : Outcome) (decided : Option change.Change × reply.Reply) → Says outcome (Ok decided) →
    outcome ≡ Replies (option_map seen_change decided.0) (seen_reply decided.1)
says_both outcome (its, told) says = says

comes_so : (tables : Tables) (command : Command) (one other : Outcome) → asked tables command ≡ IsDecided one → one ≡ other → Comes tables command other
comes_so tables command one other decided same = AtOnce (decided ∙ ap (λ it. IsDecided it) same)

pub keeps_tables : StepsKeepTables → (tables : Tables) (command : Command) (outcome : Outcome) (change : Option Change) (reply : Reply) → IsTables tables → IsCommand command →
    asked tables command ≡ IsDecided outcome → outcome ≡ Replies change reply → IsTables (applied tables change)
keeps_tables law tables command outcome change reply are is decided says =
    law tables command (applied tables change) are is
    (record { outcome = Replies change reply; comes = comes_so tables command outcome (Replies change reply) decided says; leaves = refl })

pub does_so : (tables : Tables) (command : Command) (outcome : Outcome) (change : Option Change) (reply : Reply) (after : Tables) →
    asked tables command ≡ IsDecided outcome → outcome ≡ Replies change reply → after ≡ applied tables change → IsDone tables command after
does_so tables command outcome change reply after decided says leaves =
    record { change = change; reply = reply; comes = comes_so tables command outcome (Replies change reply) decided says; leaves = leaves }

pub stops_so : (tables : Tables) (command : Command) (outcome : Outcome) (stop : OfficeStop) → asked tables command ≡ IsDecided outcome → Says outcome (Err stop) →
    DoesOrStops tables command (Err stop)
stops_so tables command outcome (Refused refusal) decided says = comes_so tables command outcome (Refuses (seen_refusal refusal)) decided says
stops_so tables command outcome OutOfMemory decided says = tt

-- ---- the three imports

pub at_charter : (its : Charter) (categories : List Category) (rows : List Given) (first : Tables) (stop : OfficeStop) → first ≡ first_tables →
    DoesOrStops first (SetCharter its) (Err stop) → ImportsOrStops its categories rows (Err stop)
at_charter its categories rows first (Refused refusal) empty comes =
    AtCharter (seen_refusal refusal) (subst (λ (tables : Tables). Comes tables (SetCharter its) (Refuses (seen_refusal refusal))) empty comes)
at_charter its categories rows first OutOfMemory empty comes = tt

from_first : (its : Charter) (first chartered : Tables) → first ≡ first_tables → IsDone first (SetCharter its) chartered → IsDone first_tables (SetCharter its) chartered
from_first its first chartered empty done = subst (λ (tables : Tables). IsDone tables (SetCharter its) chartered) empty done

pub at_rules : (its : Charter) (categories : List Category) (rows : List Given) (first chartered : Tables) (stop : OfficeStop) → first ≡ first_tables →
    IsDone first (SetCharter its) chartered → DoesOrStops chartered (SetRules categories) (Err stop) → ImportsOrStops its categories rows (Err stop)
at_rules its categories rows first chartered (Refused refusal) empty done comes =
    AtRules chartered (seen_refusal refusal) (from_first its first chartered empty done) comes
at_rules its categories rows first chartered OutOfMemory empty done comes = tt

pub at_register : (its : Charter) (categories : List Category) (rows : List Given) (first chartered ruled : Tables) (result : Result Tables OfficeStop) → first ≡ first_tables →
    IsDone first (SetCharter its) chartered → IsDone chartered (SetRules categories) ruled → DoesOrStops ruled (Register rows) result →
    ImportsOrStops its categories rows result
at_register its categories rows first chartered ruled (Ok tables) empty done also does =
    record { chartered = chartered; ruled = ruled; charter = from_first its first chartered empty done; rules = also; register = does }
at_register its categories rows first chartered ruled (Err (Refused refusal)) empty done also comes =
    AtRegister chartered ruled (seen_refusal refusal) (from_first its first chartered empty done) also comes
at_register its categories rows first chartered ruled (Err OutOfMemory) empty done also comes = tt
