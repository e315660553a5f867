use Rattle.std.proofs.Common.{rules, tests}
use Rattle.std.specs.Iterator.Adapters.{zip_first, zip_second}
use Rattle.std.proofs.lemmas.Iterator.{YieldsList-from_slice, YieldsList-from_zip, YieldsList-from_map, items_from_collect}
use Rattle.std.proofs.lemmas.Iterator.Consumers.{YieldsList-at}
use Rattle.pool_model.proofs.NameLists.{place_beside, places_of-zip}
use Rattle.pool_model.proofs.names.places.Goals as goal

pub returns : goal.returns
returns c =
    let categories = c.args.categories.now in let names = c.args.names.now in
    let pairs = YieldsList-from_zip (YieldsList-from_slice {s = zip_first c.zip.result} categories cc) (YieldsList-from_slice {s = zip_second c.zip.result} names cc) in
    rw (places_of-zip categories names) (items_from_collect _ c.collect.ensures.ran (YieldsList-from_map _ place_beside (YieldsList-at c.map.ensures.source pairs) c.map.ensures.closure (λ x r q k. search (rules, tests))))
