use Rattle.std.proofs.Common.{get_or, ◌∙◌}
use Rattle.office_reports.proofs.Names.{made_volunteer_is_added, made_volunteer_fits}
use Rattle.office_reports.proofs.made_pools.add_volunteer.Goals as goal

pub add_right_volunteer-requires : goal.add_right_volunteer-requires
add_right_volunteer-requires c =
    let values = c.args.values in
    let places = c.requires.places in
    made_volunteer_fits c.args.pool.now c.as_str.result.now c.args.number (get_or values 0 0) (get_or values 1 0) (get_or values 2 0)
    c.gender_name.result.now c.age_name.result.now c.area_name.result.now c.requires.names places.0 places.1 places.2
    c.gender_name.ensures c.age_name.ensures c.area_name.ensures (c.as_str.ensures.value ∙ c.in_ok-id.ensures.ok) c.requires.new c.requires.number c.requires.room

pub returns : goal.returns
returns c =
    made_volunteer_is_added c.add_right_volunteer.result c.args.pool.now c.add_right_volunteer.new.self c.as_str.result.now c.args.number
    c.gender_name.result.now c.age_name.result.now c.area_name.result.now c.args.values c.requires.names c.requires.places
    c.gender_name.ensures c.age_name.ensures c.area_name.ensures (c.as_str.ensures.value ∙ c.in_ok-id.ensures.ok) c.add_right_volunteer.ensures.ok
