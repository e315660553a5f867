use Rattle.std.proofs.Common.{ap, sym, ◌∙◌}
use Rattle.std.specs.Prelude.{unwrap_or}
use Rattle.std.proofs.lemmas.Iterator.{YieldsList-from_slice}
use Rattle.std.proofs.lemmas.Iterator.Adapters.{option_map_id}
use Rattle.std.proofs.lemmas.Iterator.Consumers.{YieldsList-from_copied, max_from_yields_List}
use Rattle.bundle_page.proofs.counts.greatest.Goals as goal

pub returns-clause-value : goal.returns-clause-value
returns-clause-value c =
    c.unwrap_or.ensures
    ∙ ap (λ found. unwrap_or found 0) (sym (option_map_id _) ∙ max_from_yields_List _ _ c.max.ensures.ran (YieldsList-from_copied (YieldsList-from_slice c.args.counts.now cc)))
