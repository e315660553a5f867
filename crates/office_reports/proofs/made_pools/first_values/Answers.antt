use Rattle.std.proofs.Common.{◌≡◌, map, refl, ◌∙◌, ap, arith}
use Rattle.std.specs.List.{range_with_len}
use Rattle.define_made_pools.specs.Generator.{state}
use Rattle.define_made_pools.specs.MadePools.{made_values}
use Rattle.office_reports.proofs.Making.{next_list, next_numbers}
use Rattle.office_reports.proofs.made_pools.first_values.Goals as goal

pub loop-init : goal.loop-init
unfolding state
loop-init c = record { numbers = refl; lists = c.new-first.ensures.items }

pub loop-preserved : goal.loop-preserved
loop-preserved c =
    let more = next_list c.args.seed c.loop.counter c.loop.generator.state c.values.result c.loop.first.items c.loop.invariant.numbers c.values.ensures.value c.loop.invariant.lists in
    record {
      numbers = next_numbers c.args.seed c.loop.counter c.loop.generator.state c.values.new.self.state c.loop.invariant.numbers c.values.ensures.state;
      lists = cc (more, c.in_ok-push.ensures.items);
    }

pub returns : goal.returns
returns c =
    let e : c.loop.counter ≡ c.args.size = omega arith in
    c.loop.invariant.lists ∙ ap (λ n. map (made_values c.args.seed) (range_with_len 0 n)) e
