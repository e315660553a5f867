use Rattle.std.proofs.Common.{sym, ◌∙◌, rules, tests}
use Rattle.std.specs.Iterator.Adapters.{zip_first, zip_second}
use Rattle.std.proofs.lemmas.Iterator.{YieldsList-from_slice, YieldsList-from_zip}
use Rattle.std.proofs.lemmas.Iterator.Search.{any_from_yields_List}
use Rattle.define_searches.proofs.Taken.{gives, is_taken-zip}
use Rattle.alike.proofs.composing.is_taken.Goals as goal

pub returns : goal.returns
returns c =
    let groups = c.args.groups.now in let counts = c.args.counts.now in
    any_from_yields_List (gives c.args.volunteer) c.any.new.self _ c.any.result c.any.ensures.ran (YieldsList-from_zip {s = c.zip.result} (YieldsList-from_slice {s = zip_first c.zip.result} groups cc) (YieldsList-from_slice {s = zip_second c.zip.result} counts cc)) (λ x b q k. search (rules, tests))
    ∙ sym (is_taken-zip c.args.volunteer groups counts)
