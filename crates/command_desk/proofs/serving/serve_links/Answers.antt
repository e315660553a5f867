use Rattle.std.proofs.Common.{◌≡◌, ◌<◌, ◌≤◌, ◌∙◌, ℕ, arith, refl, subst}
use Rattle.std.specs.Prelude.{option_map}
use Rattle.command_desk.specs.DeskTold.{door_told, seen_links}
use Rattle.office_http.specs.Visits.{kept, link_told}
use Rattle.outside.specs.Faults.{Rose}
use Rattle.command_desk.proofs.Counting.{counted}
use Rattle.command_desk.proofs.LinksRead.{more_read, none_read}
use Rattle.command_desk.proofs.Turned.{all_turns, failed_turn, last_turn, no_turn, one_turn, turn_calls}
use Rattle.command_desk.proofs.serving.serve_links.Goals as goal

pub loop-turn-init : goal.loop-turn-init
loop-turn-init g c = record { way = no_turn _ _; needed = none_read g.D.Link.Link.left g.D.Link.Link.reads _ _ refl; back = c.requires.links; none = refl; port = refl; calls = refl; place = refl; free = c.requires.free }

pub add-requires : goal.add-requires
add-requires g c =
    let way = c.loop-turn.invariant.way in
    let sum = counted way.visits in
    omega (arith, sum, way.counted.served, way.counted.broken, way.number)

pub loop-turn-preserved : goal.loop-turn-preserved
loop-turn-preserved g c =
    let sees = λ (link : g.row.D-Link.Denot). link_told (g.D.Link.Link.left link) (g.D.Link.Link.written link) (g.D.Link.Link.faults link) in
    let links = λ (door : g.row.D.Denot). option_map (seen_links sees) (g.D.Door.links door) in
    let keeps = λ (keeper : g.row.K.Denot). kept (g.K.Keeper.tables keeper) (g.K.Keeper.faults keeper) (g.K.Keeper.course keeper) in
    let here = c.loop-turn.invariant in
    record {
      way = one_turn (links c.args.door.now) (links c.loop-turn.door) (links c.visit_next.new.door) (keeps c.args.keeper.now) (keeps c.loop-turn.keeper) (keeps c.visit_next.new.keeper)
          c.loop-turn.counts c.add.new.self c.loop-turn._turn c.in-Ok-Some.ended here.way (rw c.in-Ok-Some.field-0-is at c.in-Ok-Some.ensures.turn) c.add.ensures.served c.add.ensures.broken;
      needed = more_read g.D.Link.Link.left g.D.Link.Link.reads _ _ _ here.needed c.visit_next.ensures.needed;
      back = c.in-Ok-Some.ensures.back;
      none = c.in-Ok-Some.ensures.none ∙ here.none;
      port = c.visit_next.ensures.port ∙ here.port;
      calls = turn_calls c.loop-turn._turn (g.D.Door.calls c.args.door.now) (g.D.Door.calls c.loop-turn.door) (g.D.Door.calls c.visit_next.new.door) here.calls (rw c.in-Ok-Some.field-0-is at c.in-Ok-Some.ensures.calls);
      place = c.in-Ok-Some.ensures.place ∙ here.place;
      free = c.in-Ok-Some.ensures.free;
    }

pub returns-in-Ok-None-clause-served : goal.returns-in-Ok-None-clause-served
returns-in-Ok-None-clause-served g c =
    let sees = λ (link : g.row.D-Link.Denot). link_told (g.D.Link.Link.left link) (g.D.Link.Link.written link) (g.D.Link.Link.faults link) in
    let links = λ (door : g.row.D.Denot). option_map (seen_links sees) (g.D.Door.links door) in
    let keeps = λ (keeper : g.row.K.Denot). kept (g.K.Keeper.tables keeper) (g.K.Keeper.faults keeper) (g.K.Keeper.course keeper) in
    let here = c.loop-turn.invariant in
    let fewer : c.loop-turn._turn < c.args.connections = omega arith in
    last_turn c.args.connections c.loop-turn._turn
    (door_told sees (g.D.Door.links c.args.door.now) (g.D.Door.links c.visit_next.new.door) (g.D.Door.faults c.args.door.now) (g.D.Door.faults c.visit_next.new.door))
    (g.D.Door.calls c.args.door.now) (g.D.Door.calls c.visit_next.new.door) (links c.loop-turn.door) (keeps c.args.keeper.now) (keeps c.loop-turn.keeper) (keeps c.visit_next.new.keeper) c.loop-turn.counts here.way fewer
    (rw c.in-Ok-None.field-0-is at c.in-Ok-None.ensures.turn) (c.in-Ok-None.ensures.none ∙ here.none)

pub returns-in-Err-clause-served : goal.returns-in-Err-clause-served
returns-in-Err-clause-served g c =
    let sees = λ (link : g.row.D-Link.Denot). link_told (g.D.Link.Link.left link) (g.D.Link.Link.written link) (g.D.Link.Link.faults link) in
    let links = λ (door : g.row.D.Denot). option_map (seen_links sees) (g.D.Door.links door) in
    let keeps = λ (keeper : g.row.K.Denot). kept (g.K.Keeper.tables keeper) (g.K.Keeper.faults keeper) (g.K.Keeper.course keeper) in
    let here = c.loop-turn.invariant in
    let fewer : c.loop-turn._turn ≤ c.args.connections = omega arith in
    failed_turn c.args.connections c.loop-turn._turn
    (door_told sees (g.D.Door.links c.args.door.now) (g.D.Door.links c.visit_next.new.door) (g.D.Door.faults c.args.door.now) (g.D.Door.faults c.visit_next.new.door))
    (g.D.Door.calls c.args.door.now) (g.D.Door.calls c.loop-turn.door) (g.D.Door.calls c.visit_next.new.door) (links c.loop-turn.door) (keeps c.args.keeper.now) (keeps c.loop-turn.keeper) (keeps c.visit_next.new.keeper)
    c.loop-turn.counts c.in-Err.failed here.way fewer
    c.in-Err.ensures.turn (subst (λ (count : ℕ). Rose count (g.D.Door.faults c.visit_next.new.door)) here.none c.in-Err.ensures.cause) here.calls c.in-Err.ensures.calls

pub returns-clause-served : goal.returns-clause-served
returns-clause-served g c =
    let sees = λ (link : g.row.D-Link.Denot). link_told (g.D.Link.Link.left link) (g.D.Link.Link.written link) (g.D.Link.Link.faults link) in
    let links = λ (door : g.row.D.Denot). option_map (seen_links sees) (g.D.Door.links door) in
    let keeps = λ (keeper : g.row.K.Denot). kept (g.K.Keeper.tables keeper) (g.K.Keeper.faults keeper) (g.K.Keeper.course keeper) in
    let here = c.loop-turn.invariant in
    let all : c.loop-turn._turn ≡ c.args.connections = omega arith in
    all_turns c.args.connections c.loop-turn._turn
    (door_told sees (g.D.Door.links c.args.door.now) (g.D.Door.links c.loop-turn.door) (g.D.Door.faults c.args.door.now) (g.D.Door.faults c.loop-turn.door))
    (g.D.Door.calls c.args.door.now) (g.D.Door.calls c.loop-turn.door) (keeps c.args.keeper.now) (keeps c.loop-turn.keeper) c.loop-turn.counts here.way all here.none

pub returns-in-Ok-None-clause-needed : goal.returns-in-Ok-None-clause-needed
returns-in-Ok-None-clause-needed g c = more_read g.D.Link.Link.left g.D.Link.Link.reads _ _ _ c.loop-turn.invariant.needed c.visit_next.ensures.needed

pub returns-in-Err-clause-needed : goal.returns-in-Err-clause-needed
returns-in-Err-clause-needed g c = more_read g.D.Link.Link.left g.D.Link.Link.reads _ _ _ c.loop-turn.invariant.needed c.visit_next.ensures.needed
