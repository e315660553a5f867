use Rattle.std.proofs.Common.{◌≡◌}
use Rattle.std.specs.Prelude.{false, option_map}
use Rattle.command_desk.specs.DeskTold.{NoMoreBack, seen_links}
use Rattle.command_desk.specs.LinksRead.{LinksAreReadAsNeeded}
use Rattle.command_desk.specs.Serving.{after_turns}
use Rattle.command_desk.specs.Turns.{AreUnderWay}
use Rattle.office_http.specs.Visits.{kept, link_told}
use Rattle.command_desk.proofs.serving.serve_links.Given as goal

-- the turns so far are counted, their links were read as needed, no more links came back than were given, the door counted no fault,
-- listens at the same port and was called as often as the turns say, and the keeper is attached where it was and keeps nobody out
abbrev pub invariant-loop-turn : goal.invariant-loop-turn
invariant-loop-turn g l = record {
  way : AreUnderWay (option_map (seen_links (λ link. link_told (g.D.Link.Link.left link) (g.D.Link.Link.written link) (g.D.Link.Link.faults link))) (g.D.Door.links l.fn.door))
      (kept (g.K.Keeper.tables l.fn.keeper) (g.K.Keeper.faults l.fn.keeper) (g.K.Keeper.course l.fn.keeper)) l.counts l._turn
      (option_map (seen_links (λ link. link_told (g.D.Link.Link.left link) (g.D.Link.Link.written link) (g.D.Link.Link.faults link))) (g.D.Door.links l.door))
      (kept (g.K.Keeper.tables l.keeper) (g.K.Keeper.faults l.keeper) (g.K.Keeper.course l.keeper));
  needed : LinksAreReadAsNeeded g.D.Link.Link.left g.D.Link.Link.reads (g.D.Door.links l.fn.door) (g.D.Door.links l.door);
  back : NoMoreBack (g.D.Door.links l.door);
  none : g.D.Door.faults l.door ≡ g.D.Door.faults l.fn.door;
  port : g.D.Door.opened_at l.door ≡ g.D.Door.opened_at l.fn.door;
  calls : g.D.Door.calls l.door ≡ after_turns l._turn (g.D.Door.calls l.fn.door);
  place : (g.K.Keeper.course l.keeper).place ≡ (g.K.Keeper.course l.fn.keeper).place;
  free : g.K.Keeper.holds l.keeper ≡ false;
}
