-- The turns of `serve`, one after the other, and how they end.
use Rattle.std.proofs.Common.{◌≡◌, ◌≤◌, ◌<◌, ℕ, suc, true, false, ◌+◌, ◌++◌, List, [], ◌∷◌, length, Option, Some, None, Result, Ok, Err, refl, sym, ap, subst, ◌∙◌, inl, inr, length-append, arith, cond}
use Rattle.std.specs.Prelude.{IfSome, is_err, is_ok, option_map}
use Rattle.command_shell.specs.Told.{HasFaulted, HasNoFault}
use Rattle.office_http.specs.Visits.{Kept, LinkTold}
use Rattle.office_http.specs.declared.attending.LinkFault.{LinkFault}
use Rattle.outside.specs.Faults.{Rose}
use Rattle.outside.specs.Links.{Back, DoorCall, DoorLinks, Listen, Next}
use Rattle.outside.specs.declared.source.Failed.{Failed}
use Rattle.command_desk.specs.DeskTold.{Door, Ports, door_told, seen_links}
use Rattle.outside.specs.Faults.{called}
use Rattle.command_desk.specs.ServeOutcomes.{ToGive, ToListen}
use Rattle.command_desk.specs.Serving.{AreAttended, after_turns, broken_of, served_of}
use Rattle.command_desk.specs.Turns.{AreUnderWay, ServesAt, ServesDoor, TakesTurn}
use Rattle.command_desk.specs.declared.serving.Counts.{Counts}
use Rattle.command_desk.proofs.Attended.{attended_more, none_attended}
use Rattle.command_desk.proofs.Counting.{broken_more, served_more}

-- before the first turn: there is no visit, and both counts are 0
pub no_turn : (links : Option (DoorLinks LinkTold)) (kept : Kept) → AreUnderWay links kept (record { served = 0; broken = 0 }) 0 links kept
no_turn links kept = record { visits = []; attended = none_attended links links kept kept refl refl; counted = record { served = refl; broken = refl }; number = refl }

-- if the turns so far are counted, and one more turn is made and added to the counts, all turns are counted
pub one_turn : (links between after : Option (DoorLinks LinkTold)) (before kept left : Kept) (counts more : Counts) (turns : ℕ) (ended : Result ℕ LinkFault) →
    AreUnderWay links before counts turns between kept → TakesTurn between after kept left (Ok (Some ended)) →
    more.served ≡ counts.served + cond (is_ok ended) 1 0 → more.broken ≡ counts.broken + cond (is_err ended) 1 0 → AreUnderWay links before more (turns + 1) after left
one_turn links between after before kept left counts more turns ended way (visit, is, attended) served broken =
    let ok : cond (is_ok visit.ended) 1 0 ≡ cond (is_ok ended) 1 0 = ap (λ (e : Result ℕ LinkFault). cond (is_ok e) 1 0) is in
    let err : cond (is_err visit.ended) 1 0 ≡ cond (is_err ended) 1 0 = ap (λ (e : Result ℕ LinkFault). cond (is_err e) 1 0) is in
    let number : length (way.visits ++ visit ∷ []) ≡ turns + 1 = length-append way.visits (visit ∷ []) ∙ ap (λ (n : ℕ). n + 1) way.number in
    record {
      visits = way.visits ++ visit ∷ [];
      attended = attended_more links between after before kept left way.visits (visit ∷ []) way.attended attended;
      counted = record {
        served = served ∙ ap (λ (n : ℕ). n + cond (is_ok ended) 1 0) way.counted.served ∙ ap (λ (n : ℕ). served_of way.visits + n) (sym ok) ∙ sym (served_more way.visits visit);
        broken = broken ∙ ap (λ (n : ℕ). n + cond (is_err ended) 1 0) way.counted.broken ∙ ap (λ (n : ℕ). broken_of way.visits + n) (sym err) ∙ sym (broken_more way.visits visit);
      };
      number = number;
    }

-- if as many turns were made as the call may make, and the door has no fault, the serving ends with the counts
pub all_turns : (connections turns : ℕ) (door : Door) (calls calls_after : Option (List DoorCall)) (before after : Kept) (counts : Counts) → AreUnderWay door.before before counts turns door.after after → turns ≡ connections → HasNoFault door →
    ServesDoor connections door calls calls_after before after (Ok counts)
all_turns connections turns door calls calls_after before after counts way all none =
    let number : length way.visits ≡ connections = way.number ∙ all in
    let within : length way.visits ≤ connections = omega (arith, number) in
    (way.visits, way.attended, within, record { all = inl number; no_fault = none }, way.counted)

-- if no link is to come at a turn, the serving ends with the counts so far
pub last_turn : (connections turns : ℕ) (door : Door) (calls calls_after : Option (List DoorCall)) (between : Option (DoorLinks LinkTold)) (before kept after : Kept) (counts : Counts) → AreUnderWay door.before before counts turns between kept →
    turns < connections → TakesTurn between door.after kept after (Ok None) → HasNoFault door → ServesDoor connections door calls calls_after before after (Ok counts)
last_turn connections turns door calls calls_after between before kept after counts way fewer (same, left, none_comes) none =
    let within : length way.visits ≤ connections = omega (arith, way.number) in
    let attended = subst (λ (links : Option (DoorLinks LinkTold)). AreAttended door.before before way.visits links after) (sym same)
    (subst (λ (k : Kept). AreAttended door.before before way.visits between k) (sym left) way.attended) in
    let ended : IfSome door.after (λ links. links.coming ≡ []) = subst (λ (links : Option (DoorLinks LinkTold)). IfSome links (λ told. told.coming ≡ [])) (sym same) none_comes in
    (way.visits, attended, within, record { all = inr ended; no_fault = none }, way.counted)

-- if the door fails at a turn, the serving ends with its failure
pub failed_turn : (connections turns : ℕ) (door : Door) (calls between_calls calls_after : Option (List DoorCall)) (between : Option (DoorLinks LinkTold)) (before kept after : Kept) (counts : Counts) (failed : Failed) → AreUnderWay door.before before counts turns between kept →
    turns ≤ connections → TakesTurn between door.after kept after (Err failed) → HasFaulted door → between_calls ≡ after_turns turns calls → calls_after ≡ called between_calls (Next true) →
    ServesDoor connections door calls calls_after before after (Err failed)
failed_turn connections turns door calls between_calls calls_after between before kept after counts failed way fewer (same, left) faulted so_far call =
    let within : length way.visits ≤ connections = omega (arith, way.number) in
    let attended = subst (λ (links : Option (DoorLinks LinkTold)). AreAttended door.before before way.visits links after) (sym same)
    (subst (λ (k : Kept). AreAttended door.before before way.visits between k) (sym left) way.attended) in
    let made : calls_after ≡ called (after_turns (length way.visits) calls) (Next true) =
    call ∙ ap (λ (made : Option (List DoorCall)). called made (Next true)) (so_far ∙ ap (λ (n : ℕ). after_turns n calls) (sym way.number)) in
    (way.visits, attended, within, faulted, made)

-- the calls of the door after one more turn
pub turn_calls : (turns : ℕ) (calls between after : Option (List DoorCall)) → between ≡ after_turns turns calls → after ≡ called (called between (Next false)) Back → after ≡ after_turns (turns + 1) calls
turn_calls turns calls between after so_far more =
    let next : turns + 1 ≡ suc turns = omega arith in
    more ∙ ap (λ (made : Option (List DoorCall)). called (called made (Next false)) Back) so_far ∙ ap (λ (n : ℕ). after_turns n calls) (sym next)

-- ---- the door is opened first

-- if opening the door changed neither its links nor its count of faults, then in `ServesDoor` the door from before the opening can take
-- the place of the open door
pub opened : {L : Type 0} (sees : L → LinkTold) (connections : ℕ) (links between after : Option (DoorLinks L)) (faults faults_between faults_after : ℕ) (calls calls_after : Option (List DoorCall)) (before left : Kept)
    (result : Result Counts Failed) → between ≡ links → faults_between ≡ faults → ServesDoor connections (door_told sees between after faults_between faults_after) calls calls_after before left result →
    ServesDoor connections (door_told sees links after faults faults_after) calls calls_after before left result
opened {L} sees connections links between after faults faults_between faults_after calls calls_after before left result same none served =
    subst (λ (l : Option (DoorLinks L)). ServesDoor connections (door_told sees l after faults faults_after) calls calls_after before left result) same
    (subst (λ (f : ℕ). ServesDoor connections (door_told sees between after f faults_after) calls calls_after before left result) none served)

-- if the open door listens at `port`, and still does after the serving, `ServesAt` follows from `ServesDoor`
pub at_port : (port connections : ℕ) (door : Door) (listens : Option ℕ) (calls : Option (List DoorCall)) (ports : Ports) (before after : Kept) (result : Result Counts Failed) → listens ≡ Some port →
    calls ≡ called ports.calls_before (Listen port false) → ports.after ≡ listens → ServesDoor connections door calls ports.calls_after before after result →
    ServesAt port connections door ports before after result
at_port port connections door listens calls ports before after (Ok counts) at opening stays served = (served, stays ∙ at)
at_port port connections door listens calls ports before after (Err failed) at opening stays (visits, attended, within, faulted, made) =
    (visits, attended, within, faulted, ToGive (stays ∙ at) (made ∙ ap (λ (c : Option (List DoorCall)). called (after_turns (length visits) c) (Next true)) opening))

-- if opening the door fails, no link is attended, and the serving ends with the failure
pub not_opened : {L : Type 0} (sees : L → LinkTold) (port connections : ℕ) (links after : Option (DoorLinks L)) (faults faults_after : ℕ) (ports : Ports) (kept : Kept) (failed : Failed) → after ≡ links →
    Rose faults faults_after → ports.after ≡ ports.before → ports.calls_after ≡ called ports.calls_before (Listen port true) →
    ServesAt port connections (door_told sees links after faults faults_after) ports kept kept (Err failed)
not_opened {L} sees port connections links after faults faults_after ports kept failed same rose shut call =
    let within : 0 ≤ connections = omega arith in
    ([], none_attended _ _ kept kept (ap (λ (l : Option (DoorLinks L)). option_map (seen_links sees) l) same) refl, within, rose, ToListen refl shut call)
