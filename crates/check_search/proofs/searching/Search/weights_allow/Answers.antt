use Rattle.std.proofs.Common.{◌++◌, ◌∷◌, [], take, sym, subst, ◌∙◌}
use Rattle.std.proofs.lemmas.List.{with_items_is}
use Rattle.define_searches.specs.Front.{AreWithin}
use Rattle.define_searches.specs.Weights.{EachNarrow}
use Rattle.check_search.specs.Weights.{Weighs, WeighEach}
use Rattle.check_search.proofs.Stands.{child_within}
use Rattle.define_searches.proofs.WeightLaws.{weighs_front}
use Rattle.check_search.proofs.searching.Search.weights_allow.Goals as goal
use Rattle.check_search.proofs.searching.Search.weights_allow.Goals.{After-child-reached, After-deref}

-- the child's counts are within their classes, for the front as the code reads it
within : (c : After-deref) → AreWithin c.args.terms.now.classes (take c.args.depth c.deref.result.now ++ c.args.count ∷ [])
within c =
    let terms = c.args.terms.now in let depth = c.args.depth in let count = c.args.count in
    subst (λ xs. AreWithin terms.classes (take depth xs ++ count ∷ [])) (sym c.deref.ensures.value)
    (child_within terms.classes terms.closed.items terms.row depth count _ c.args.self.now c.requires.stands c.requires.below c.requires.can_take)

-- if the weights are those of the child and its prefixes, they are also those of the front and its prefixes
weighs : (c : After-child-reached) → Weighs c.args.terms.now.classes c.args.terms.now.row (take c.args.depth c.args.self.now.counts.items) c.child-reached.new.self
weighs c =
    let terms = c.args.terms.now in let depth = c.args.depth in let count = c.args.count in
    weighs_front terms.classes terms.row (take depth c.args.self.now.counts.items) count _
    (subst (λ xs. Weighs terms.classes terms.row (take depth xs ++ count ∷ []) c.child-reached.new.self) c.deref.ensures.value c.child-reached.ensures.weighs)

pub child_attains-requires-clause-narrow : goal.child_attains-requires-clause-narrow
child_attains-requires-clause-narrow c = subst (EachNarrow c.args.terms.now.classes) (sym c.deref-then-side-reached-2.ensures.value) c.requires.terms.closed_narrow

pub child_attains-requires-clause-counts : goal.child_attains-requires-clause-counts
child_attains-requires-clause-counts c = within (goal.at.child_attains-requires-clause-counts c).After-deref

pub child-reached-requires-clause-counts : goal.child-reached-requires-clause-counts
child-reached-requires-clause-counts c = within (goal.at.child-reached-requires-clause-counts c).After-deref

pub returns-then-side-reached-clause-stands : goal.returns-then-side-reached-clause-stands
returns-then-side-reached-clause-stands c =
    let terms = c.args.terms.now in let all = terms.classes in let closed = terms.closed.items in
    let self = c.args.self.now in let depth = c.args.depth in let stands = c.requires.stands in
    let after = c.child_attains.new.weights in
    let made = with_items_is self.closed after (c.child_attains.auto.weights ∙ c.deref_mut.ensures.len) in
    record {
      places = stands.places;
      within = stands.within;
      live = stands.live;
      counts = stands.counts;
      tally = stands.tally;
      weights = weighs (goal.at.returns-then-side-reached-clause-stands c).After-child-reached;
      closed_rows = subst (WeighEach all closed (take depth self.counts.items)) (sym made)
          (subst (λ xs. WeighEach all closed (take depth xs) after) c.deref.ensures.value (subst (λ rows. WeighEach all rows (take depth c.deref.result.now) after) c.deref-then-side-reached-2.ensures.value c.child_attains.ensures.front));
    }

pub returns-else-side-reached-clause-stands : goal.returns-else-side-reached-clause-stands
returns-else-side-reached-clause-stands c =
    let stands = c.requires.stands in
    record {
      places = stands.places;
      within = stands.within;
      live = stands.live;
      counts = stands.counts;
      tally = stands.tally;
      weights = weighs (goal.at.returns-else-side-reached-clause-stands c).After-child-reached;
      closed_rows = stands.closed_rows;
    }
