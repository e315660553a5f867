use Rattle.std.proofs.Common.{length, arith}
use Rattle.define_searches.proofs.Tracking.{most_small, taken_within_all}
use Rattle.define_searches.proofs.WeightLaws.{within_few}
use Rattle.panel_search.specs.Groups.{is_in_group}
use Rattle.panel_search.proofs.live.can_reach.Goals as goal

pub overflow_add-result : goal.overflow_add-result
overflow_add-result c =
    let all = c.args.classes.now in let front = c.args.front.now in let p = is_in_group c.args.group in
    omega (
      arith,
      c.taken-taken.ensures,
      c.given.ensures,
      taken_within_all p all.classes front,
      within_few all front c.facts.ensures c.requires.counts,
      most_small all (length front) p c.facts.ensures,
    )
