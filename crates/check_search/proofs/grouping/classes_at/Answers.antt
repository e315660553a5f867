use Rattle.std.proofs.Common.{map, ◌∙◌, ap}
use Rattle.define_checks.proofs.CheckClasses.{alike_at_makes}
use Rattle.define_searches.specs.Classes.{bounds_of, class_by}
use Rattle.check_search.specs.Likeness.{is_alike, stages_of}
use Rattle.define_searches.proofs.MadeClasses.{keeps_limits}
use Rattle.check_search.proofs.grouping.classes_at.Goals as goal

pub new-requires : goal.new-requires
new-requires c =
    let likeness = c.args.likeness.now in let pool = likeness.pool.now in
    keeps_limits pool (is_alike likeness) _ _ _ c.size.ensures (c.in_ok-bounds.ensures ∙ ap bounds_of c.categories.ensures)
    (c.in_ok-groups.ensures ∙ ap (map (class_by (is_alike likeness) pool)) c.requires.leaders) c.facts.ensures (alike_at_makes pool (stages_of likeness))
