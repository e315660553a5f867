use Rattle.std.proofs.Common.{sym, ◌∙◌, rules, tests}
use Rattle.std.specs.Iterator.Adapters.{zip_first, zip_second}
use Rattle.std.proofs.lemmas.Iterator.{YieldsList-from_slice, YieldsList-from_zip}
use Rattle.std.proofs.lemmas.Iterator.Search.{all_from_yields_List}
use Rattle.pool_model.proofs.NameLists.{has_name, are_named-zip}
use Rattle.pool_model.proofs.names.are_named.Goals as goal

pub returns : goal.returns
returns c =
    let categories = c.args.categories.now in let names = c.args.names.now in
    all_from_yields_List has_name c.all.new.self _ c.all.result c.all.ensures.ran (YieldsList-from_zip {s = c.zip.result} (YieldsList-from_slice {s = zip_first c.zip.result} categories cc) (YieldsList-from_slice {s = zip_second c.zip.result} names cc)) (λ x b q k. search (rules, tests))
    ∙ sym (are_named-zip categories names)
