use Rattle.std.proofs.Common.{ℕ, List, ap, ◌∙◌, rules, tests}
use Rattle.std.specs.Str.{bytes_eq}
use Rattle.std.proofs.lemmas.Iterator.{YieldsList-from_slice}
use Rattle.std.proofs.lemmas.Iterator.Search.{any_from_yields_List}
use Rattle.define_pools.specs.Lists.{includes_list}
use Rattle.office_desk.proofs.Dropouts.{dropped_as_kept}
use Rattle.office_desk.proofs.seat_page.has_dropped.Goals as goal

pub returns : goal.returns
returns c =
    let id = c.args.id.now in
    any_from_yields_List (λ (name : List ℕ). bytes_eq id name) _ _ c.any.result c.any.ensures.ran (YieldsList-from_slice c.dropped.result.now cc) (λ x b q k. search (rules, tests))
    ∙ ap (λ (all : List (List ℕ)). includes_list all id) (c.dropped.ensures ∙ dropped_as_kept c.args.round.now)
