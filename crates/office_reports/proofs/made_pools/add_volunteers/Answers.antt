use Rattle.std.proofs.Common.{length, refl, ◌∙◌, ap, arith}
use Rattle.define_pools.specs.Building.{ids}
use Rattle.define_pools.specs.Lists.{includes_list}
use Rattle.define_pools.specs.Pool.{Pool}
use Rattle.define_made_pools.specs.Generator.{state}
use Rattle.define_made_pools.specs.MadePools.{made_id}
use Rattle.define_made_pools.proofs.Volunteers.{next_id_is_new}
use Rattle.office_reports.proofs.Making.{length-made_volunteers, next_numbers, next_volunteer}
use Rattle.office_reports.proofs.made_pools.add_volunteers.Goals as goal

pub loop-number-init : goal.loop-number-init
unfolding state
loop-number-init c = record { numbers = refl; size = refl; categories = refl; volunteers = c.requires.nobody }

pub add_volunteer-requires-clause-new : goal.add_volunteer-requires-clause-new
add_volunteer-requires-clause-new c =
    let i = c.loop-number.number in
    ap (λ volunteers. includes_list (ids volunteers) (made_id i)) c.loop-number.invariant.volunteers ∙ next_id_is_new c.args.seed i (omega arith)

pub add_volunteer-requires-clause-room : goal.add_volunteer-requires-clause-room
add_volunteer-requires-clause-room c =
    let e = ap length c.loop-number.invariant.volunteers ∙ length-made_volunteers c.args.seed c.loop-number.number in omega arith

pub loop-number-preserved : goal.loop-number-preserved
loop-number-preserved c =
    let more = next_volunteer c.args.seed c.loop-number.number c.loop-number.generator.state c.values.result c.loop-number.pool.volunteers
    c.loop-number.invariant.numbers c.values.ensures.value c.loop-number.invariant.volunteers in
    let added = c.in_ok-add_volunteer.ensures in
    record {
      numbers = next_numbers c.args.seed c.loop-number.number c.loop-number.generator.state c.values.new.self.state c.loop-number.invariant.numbers c.values.ensures.state;
      size = ap (λ (p : Pool). p.size) added ∙ c.loop-number.invariant.size;
      categories = ap (λ (p : Pool). p.categories) added ∙ c.loop-number.invariant.categories;
      volunteers = ap (λ (p : Pool). p.volunteers) added ∙ more;
    }
