use Rattle.std.proofs.Common.{length, ◌∙◌}
use Rattle.define_bundles.specs.Ranges.{is_stage}
use Rattle.check_search.proofs.AboveCap.{turned_in_ranges}
use Rattle.check_search.proofs.above_cap.terms_of.Goals as goal

pub new-requires : goal.new-requires
new-requires c =
    turned_in_ranges (is_stage (length c.args.pool.now.volunteers)) c.args.earlier.now c.deref.result.now c.args.stage.now c.requires.earlier c.requires.stage (c.deref.ensures.value ∙ c.in_ok-latest_first.ensures)
