use Rattle.std.proofs.Common.{Err, Ok, ◌∙◌, ap, refl}
use Rattle.office_core.specs.Keeping.{Course}
use Rattle.command_shell.specs.Answers.{saying, status_number}
use Rattle.command_shell.specs.Told.{object, told}
use Rattle.command_stores.specs.StoreTold.{keeper_told}
use Rattle.office_http.specs.Visits.{kept, link_told}
use Rattle.command_desk.specs.DeskTold.{door_told, ports}
use Rattle.command_desk.proofs.Ending.{door_failed, from_before, served}
use Rattle.command_desk.proofs.calling.call_serve.Goals as goal

pub returns-in-Ok-serve_door-clause-ends : goal.returns-in-Ok-serve_door-clause-ends
returns-in-Ok-serve_door-clause-ends g c source alone =
    let sees = λ (link : g.row.D-Link.Denot). link_told (g.D.Link.Link.left link) (g.D.Link.Link.written link) (g.D.Link.Link.faults link) in
    let door = door_told sees (g.D.Door.links c.args.door.now) (g.D.Door.links c.serve_door.new.door) (g.D.Door.faults c.args.door.now) (g.D.Door.faults c.serve_door.new.door) in
    let after = kept (g.K.Keeper.tables c.serve_door.new.keeper) (g.K.Keeper.faults c.serve_door.new.keeper) (g.K.Keeper.course c.serve_door.new.keeper) in
    let serves = from_before c.args.path.now c.args.serve.port c.args.serve.connections door (ports (g.D.Door.opened_at c.args.door.now) (g.D.Door.opened_at c.serve_door.new.door) (g.D.Door.calls c.args.door.now) (g.D.Door.calls c.serve_door.new.door)) (g.K.Keeper.tables c.args.keeper.now) (g.K.Keeper.tables c.open_store.new.keeper) (g.K.Keeper.faults c.args.keeper.now)
    (g.K.Keeper.faults c.open_store.new.keeper) (g.K.Keeper.course c.args.keeper.now) (g.K.Keeper.course c.open_store.new.keeper) after (Ok c.in-Ok-serve_door.counts) c.open_store.ensures.same c.in-Ok.ensures.cause c.in-Ok.ensures.attached c.in-Ok-serve_door.ensures.served in
    record {
      source = alone;
      ends = served c.args.path.now c.args.serve.port c.args.serve.connections
          (told (status_number c.tell.result) source
          (object (g.O.Sink.written c.args.out.now) (g.O.Sink.written c.tell.new.out) (g.O.Sink.faults c.args.out.now) (g.O.Sink.faults c.tell.new.out))
          (object (g.E.Sink.written c.args.errs.now) (g.E.Sink.written c.tell.new.errs) (g.E.Sink.faults c.args.errs.now) (g.E.Sink.faults c.tell.new.errs)))
          (keeper_told (object (g.K.Keeper.tables c.args.keeper.now) (g.K.Keeper.tables c.serve_door.new.keeper) (g.K.Keeper.faults c.args.keeper.now) (g.K.Keeper.faults c.serve_door.new.keeper))
          (g.K.Keeper.course c.args.keeper.now) (g.K.Keeper.course c.serve_door.new.keeper))
          door (ports (g.D.Door.opened_at c.args.door.now) (g.D.Door.opened_at c.serve_door.new.door) (g.D.Door.calls c.args.door.now) (g.D.Door.calls c.serve_door.new.door)) c.in-Ok-serve_door.counts (saying c.served_answer.result)
          (c.serve_door.ensures.place ∙ ap (λ (course : Course). course.place) c.in-Ok.ensures.attached) serves c.served_answer.ensures (c.tell.ensures source);
    }

pub returns-in-Err-clause-ends : goal.returns-in-Err-clause-ends
returns-in-Err-clause-ends g c source alone =
    let sees = λ (link : g.row.D-Link.Denot). link_told (g.D.Link.Link.left link) (g.D.Link.Link.written link) (g.D.Link.Link.faults link) in
    let door = door_told sees (g.D.Door.links c.args.door.now) (g.D.Door.links c.serve_door.new.door) (g.D.Door.faults c.args.door.now) (g.D.Door.faults c.serve_door.new.door) in
    let after = kept (g.K.Keeper.tables c.serve_door.new.keeper) (g.K.Keeper.faults c.serve_door.new.keeper) (g.K.Keeper.course c.serve_door.new.keeper) in
    let serves = from_before c.args.path.now c.args.serve.port c.args.serve.connections door (ports (g.D.Door.opened_at c.args.door.now) (g.D.Door.opened_at c.serve_door.new.door) (g.D.Door.calls c.args.door.now) (g.D.Door.calls c.serve_door.new.door)) (g.K.Keeper.tables c.args.keeper.now) (g.K.Keeper.tables c.open_store.new.keeper) (g.K.Keeper.faults c.args.keeper.now)
    (g.K.Keeper.faults c.open_store.new.keeper) (g.K.Keeper.course c.args.keeper.now) (g.K.Keeper.course c.open_store.new.keeper) after (Err c.in-Err.field-0) c.open_store.ensures.same c.in-Ok.ensures.cause c.in-Ok.ensures.attached c.in-Err.ensures.served in
    record {
      source = alone;
      ends = door_failed c.args.path.now c.args.serve.port c.args.serve.connections
          (told (status_number c.door_fault.result) source
          (object (g.O.Sink.written c.args.out.now) (g.O.Sink.written c.args.out.now) (g.O.Sink.faults c.args.out.now) (g.O.Sink.faults c.args.out.now))
          (object (g.E.Sink.written c.args.errs.now) (g.E.Sink.written c.door_fault.new.errs) (g.E.Sink.faults c.args.errs.now) (g.E.Sink.faults c.door_fault.new.errs)))
          (keeper_told (object (g.K.Keeper.tables c.args.keeper.now) (g.K.Keeper.tables c.serve_door.new.keeper) (g.K.Keeper.faults c.args.keeper.now) (g.K.Keeper.faults c.serve_door.new.keeper))
          (g.K.Keeper.course c.args.keeper.now) (g.K.Keeper.course c.serve_door.new.keeper))
          door (ports (g.D.Door.opened_at c.args.door.now) (g.D.Door.opened_at c.serve_door.new.door) (g.D.Door.calls c.args.door.now) (g.D.Door.calls c.serve_door.new.door)) c.in-Err.field-0 (c.serve_door.ensures.place ∙ ap (λ (course : Course). course.place) c.in-Ok.ensures.attached) serves
          (record { status = c.door_fault.ensures.status; out = record { same = refl; no_fault = refl }; errs = c.door_fault.ensures.line });
    }
