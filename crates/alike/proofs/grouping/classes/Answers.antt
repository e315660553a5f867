use Rattle.std.proofs.Common.{◌∙◌, ap}
use Rattle.define_searches.specs.Classes.{are_alike, bounds_of}
use Rattle.define_searches.proofs.AlikeClasses.{alike_makes}
use Rattle.define_searches.proofs.MadeClasses.{keeps_limits, made_classes, made_parts}
use Rattle.alike.proofs.grouping.classes.Goals as goal

pub new-requires : goal.new-requires
new-requires c =
    let bounds = c.in_ok-bounds.ensures ∙ ap bounds_of c.categories.ensures in
    record {
      limits = keeps_limits c.args.pool.now (are_alike c.args.pool.now) _ _ _ c.size.ensures bounds c.in_ok-groups.ensures c.facts.ensures (alike_makes c.args.pool.now);
      parts = made_parts c.args.pool.now (are_alike c.args.pool.now) _ _ _ c.size.ensures bounds c.in_ok-groups.ensures (alike_makes c.args.pool.now);
    }

pub returns : goal.returns
returns c = c.new.ensures ∙ made_classes c.args.pool.now (are_alike c.args.pool.now) _ _ _ c.size.ensures (c.in_ok-bounds.ensures ∙ ap bounds_of c.categories.ensures) c.in_ok-groups.ensures
