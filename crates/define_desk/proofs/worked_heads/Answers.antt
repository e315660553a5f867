use Rattle.std.proofs.Common.{refl}
use Rattle.httparse.specs.Grammar.{trim_ows}
use Rattle.define_desk.proofs.worked_heads.Goals as goal

pub returns-clause-own : goal.returns-clause-own
unfolding trim_ows
returns-clause-own c = refl

pub returns-clause-body : goal.returns-clause-body
unfolding trim_ows
returns-clause-body c = refl

pub returns-clause-cut : goal.returns-clause-cut
unfolding trim_ows
returns-clause-cut c = refl

pub returns-clause-greatest : goal.returns-clause-greatest
unfolding trim_ows
returns-clause-greatest c = refl

pub returns-clause-large : goal.returns-clause-large
unfolding trim_ows
returns-clause-large c = refl

pub returns-clause-long : goal.returns-clause-long
unfolding trim_ows
returns-clause-long c = refl

pub returns-clause-twice : goal.returns-clause-twice
unfolding trim_ows
returns-clause-twice c = refl

pub returns-clause-encoded : goal.returns-clause-encoded
unfolding trim_ows
returns-clause-encoded c = refl
