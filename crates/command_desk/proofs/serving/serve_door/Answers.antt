use Rattle.office_http.specs.Visits.{kept, link_told}
use Rattle.command_desk.specs.DeskTold.{door_told, ports}
use Rattle.command_desk.proofs.LinksRead.{more_read, none_read}
use Rattle.command_desk.proofs.Turned.{at_port, not_opened, opened}
use Rattle.command_desk.proofs.serving.serve_door.Goals as goal

pub returns-in-Ok-clause-served : goal.returns-in-Ok-clause-served
returns-in-Ok-clause-served g c =
    let sees = λ (link : g.row.D-Link.Denot). link_told (g.D.Link.Link.left link) (g.D.Link.Link.written link) (g.D.Link.Link.faults link) in
    let before = kept (g.K.Keeper.tables c.args.keeper.now) (g.K.Keeper.faults c.args.keeper.now) (g.K.Keeper.course c.args.keeper.now) in
    let after = kept (g.K.Keeper.tables c.serve_links.new.keeper) (g.K.Keeper.faults c.serve_links.new.keeper) (g.K.Keeper.course c.serve_links.new.keeper) in
    let served = opened sees c.args.serve.connections (g.D.Door.links c.args.door.now) (g.D.Door.links c.listen.new.self) (g.D.Door.links c.serve_links.new.door)
    (g.D.Door.faults c.args.door.now) (g.D.Door.faults c.listen.new.self) (g.D.Door.faults c.serve_links.new.door)
    (g.D.Door.calls c.listen.new.self) (g.D.Door.calls c.serve_links.new.door) before after c.serve_links.result c.in-Ok.ensures.same c.in-Ok.ensures.none c.serve_links.ensures.served in
    at_port c.args.serve.port c.args.serve.connections
    (door_told sees (g.D.Door.links c.args.door.now) (g.D.Door.links c.serve_links.new.door) (g.D.Door.faults c.args.door.now) (g.D.Door.faults c.serve_links.new.door))
    (g.D.Door.opened_at c.listen.new.self) (g.D.Door.calls c.listen.new.self) (ports (g.D.Door.opened_at c.args.door.now) (g.D.Door.opened_at c.serve_links.new.door) (g.D.Door.calls c.args.door.now) (g.D.Door.calls c.serve_links.new.door)) before after c.serve_links.result c.in-Ok.ensures.port c.in-Ok.ensures.call c.serve_links.ensures.port served

pub returns-in-Err-clause-served : goal.returns-in-Err-clause-served
returns-in-Err-clause-served g c =
    let sees = λ (link : g.row.D-Link.Denot). link_told (g.D.Link.Link.left link) (g.D.Link.Link.written link) (g.D.Link.Link.faults link) in
    not_opened sees c.args.serve.port c.args.serve.connections (g.D.Door.links c.args.door.now) (g.D.Door.links c.listen.new.self) (g.D.Door.faults c.args.door.now)
    (g.D.Door.faults c.listen.new.self) (ports (g.D.Door.opened_at c.args.door.now) (g.D.Door.opened_at c.listen.new.self) (g.D.Door.calls c.args.door.now) (g.D.Door.calls c.listen.new.self))
    (kept (g.K.Keeper.tables c.args.keeper.now) (g.K.Keeper.faults c.args.keeper.now) (g.K.Keeper.course c.args.keeper.now)) c.in-Err.failed c.in-Err.ensures.same c.in-Err.ensures.cause c.in-Err.ensures.shut c.in-Err.ensures.call

pub returns-in-Ok-clause-needed : goal.returns-in-Ok-clause-needed
returns-in-Ok-clause-needed g c =
    more_read g.D.Link.Link.left g.D.Link.Link.reads _ _ _ (none_read g.D.Link.Link.left g.D.Link.Link.reads _ _ c.in-Ok.ensures.same) c.serve_links.ensures.needed

pub returns-in-Err-clause-needed : goal.returns-in-Err-clause-needed
returns-in-Err-clause-needed g c = none_read g.D.Link.Link.left g.D.Link.Link.reads _ _ c.in-Err.ensures.same
