use Rattle.std.proofs.Common.{◌∙◌, length}
use Rattle.std.proofs.lemmas.Bool.{false≢true}
use Rattle.define_searches.specs.Classes.{shared_household as shared}
use Rattle.define_searches.proofs.Places.{made_at, made_within}
use Rattle.alike.proofs.grouping.household_of.Goals as goal

pub returns-in-Some : goal.returns-in-Some
returns-in-Some c =
    c.in-Some.ensures.lookup.1
    ∙ made_at (shared c.args.pool.now.volunteers) (length c.args.pool.now.volunteers) c.args.i c.args.households.now c.in-Some.household.now c.requires.households c.requires.below

pub returns-in-None : goal.returns-in-None
returns-in-None c =
    absurd (false≢true (c.in-None.ensures.lookup.0
    ∙ made_within (shared c.args.pool.now.volunteers) (length c.args.pool.now.volunteers) c.args.i c.args.households.now c.requires.households c.requires.below))
