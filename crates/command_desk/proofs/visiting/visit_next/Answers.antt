use Rattle.std.proofs.Common.{◌≡◌, Option, refl, subst}
use Rattle.std.specs.Prelude.{IfSome}
use Rattle.office_http.specs.Visits.{kept, link_told, visit}
use Rattle.outside.specs.Links.{first_of}
use Rattle.command_desk.proofs.LinksRead.{one_read}
use Rattle.command_desk.proofs.Turning.{none_out, one_attended}
use Rattle.command_desk.proofs.visiting.visit_next.Goals as goal

pub returns-in-Some-clause-turn : goal.returns-in-Some-clause-turn
returns-in-Some-clause-turn g c =
    let sees = λ (link : g.row.D-Link.Denot). link_told (g.D.Link.Link.left link) (g.D.Link.Link.written link) (g.D.Link.Link.faults link) in
    let links = g.D.Door.links c.args.door.now in
    let before = kept (g.K.Keeper.tables c.args.keeper.now) (g.K.Keeper.faults c.args.keeper.now) (g.K.Keeper.course c.args.keeper.now) in
    let after = kept (g.K.Keeper.tables c.attend-ended.new.keeper) (g.K.Keeper.faults c.attend-ended.new.keeper) (g.K.Keeper.course c.attend-ended.new.keeper) in
    let first = subst (λ (link : Option g.row.D-Link.Denot). IfSome links (λ told. link ≡ first_of told.coming)) c.in-Some.is c.in_ok-link.ensures.first in (
      visit (sees c.in-Some.link) before (sees c.attend-ended.new.link) after c.attend-ended.result,
      refl,
      one_attended sees links (g.D.Door.links c.next.new.self) (g.D.Door.links c.back.new.self) c.in-Some.link c.attend-ended.new.link before after c.attend-ended.result
          first c.in_ok-link.ensures.given c.back.ensures.last c.attend-ended.ensures.visit,
    )

pub returns-in-Some-clause-back : goal.returns-in-Some-clause-back
returns-in-Some-clause-back g c =
    let links = g.D.Door.links c.args.door.now in
    let first = subst (λ (link : Option g.row.D-Link.Denot). IfSome links (λ told. link ≡ first_of told.coming)) c.in-Some.is c.in_ok-link.ensures.first in
    none_out links (g.D.Door.links c.next.new.self) (g.D.Door.links c.back.new.self) c.in-Some.link c.attend-ended.new.link c.requires.links first c.in_ok-link.ensures.given c.back.ensures.last

pub returns-in-Some-clause-needed : goal.returns-in-Some-clause-needed
returns-in-Some-clause-needed g c =
    let first = subst (λ (link : Option g.row.D-Link.Denot). IfSome (g.D.Door.links c.args.door.now) (λ told. link ≡ first_of told.coming)) c.in-Some.is c.in_ok-link.ensures.first in
    one_read g.D.Link.Link.left g.D.Link.Link.reads (g.D.Door.links c.args.door.now) (g.D.Door.links c.next.new.self) (g.D.Door.links c.back.new.self) c.in-Some.link c.attend-ended.new.link
    first c.in_ok-link.ensures.given c.back.ensures.last c.attend-ended.ensures.needed c.attend-ended.ensures.reads
