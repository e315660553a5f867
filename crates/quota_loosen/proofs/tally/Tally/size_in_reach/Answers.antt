use Rattle.std.proofs.Common.{◌+◌, ◌&&◌, leb, length, sym, ap, ◌∙◌, arith, true}
use Rattle.define_searches.proofs.Tracking.{most_small}
use Rattle.quota_loosen.proofs.Liveness.{size_of_front}
use Rattle.quota_loosen.proofs.tally.Tally.size_in_reach.Goals as goal

pub size_allows-requires : goal.size_allows-requires
size_allows-requires c =
    let all = c.args.classes.now in
    omega (arith, c.requires.stands.taken, c.requires.small, c.requires.stands.later_taken, most_small all (length c.args.front.now) (λ class. true) c.facts.ensures)

pub returns : goal.returns
returns c =
    let self = c.args.self.now in
    c.size_allows.ensures ∙ ap (λ n. leb self.taken n && leb n (self.taken + self.later_taken)) c.size.ensures ∙ sym (size_of_front c.args.classes.now c.args.front.now _ c.requires.stands)
