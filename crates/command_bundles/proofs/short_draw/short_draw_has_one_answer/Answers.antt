use Rattle.command_bundles.proofs.ShortDrawn.{short_draw_once}
use Rattle.command_bundles.proofs.short_draw.short_draw_has_one_answer.Goals as goal

pub returns : goal.returns
returns c = short_draw_once
