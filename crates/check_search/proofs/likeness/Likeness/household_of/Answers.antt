use Rattle.std.proofs.Common.{◌∙◌, length}
use Rattle.std.proofs.lemmas.Bool.{false≢true}
use Rattle.define_searches.specs.Classes.{shared_household as shared}
use Rattle.define_searches.proofs.Places.{made_at, made_within}
use Rattle.check_search.proofs.likeness.Likeness.household_of.Goals as goal

pub returns-in-Some : goal.returns-in-Some
returns-in-Some c =
    let volunteers = c.args.self.now.pool.now.volunteers in
    c.in-Some.ensures.lookup.1 ∙ made_at (shared volunteers) (length volunteers) c.args.i c.deref.result.now c.in-Some.household.now (c.deref.ensures.value ∙ c.requires.households) c.requires.below

pub returns-in-None : goal.returns-in-None
returns-in-None c =
    let volunteers = c.args.self.now.pool.now.volunteers in
    absurd (false≢true (c.in-None.ensures.lookup.0 ∙ made_within (shared volunteers) (length volunteers) c.args.i c.deref.result.now (c.deref.ensures.value ∙ c.requires.households) c.requires.below))
