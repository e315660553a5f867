use Rattle.define_searches.proofs.Tracking.{places_of_class, stands_there}
use Rattle.check_search.proofs.groups.Classes.class_at.Goals as goal

pub returns-clause-stands : goal.returns-clause-stands
returns-clause-stands c = stands_there c.args.self.now c.args.place _ c.index-classes-place.result c.requires c.classes.ensures c.index-classes-place.is

pub returns-clause-places : goal.returns-clause-places
returns-clause-places c =
    places_of_class c.args.self.now c.args.place c.index-classes-place.result c.facts.ensures
    (stands_there c.args.self.now c.args.place _ c.index-classes-place.result c.requires c.classes.ensures c.index-classes-place.is)
