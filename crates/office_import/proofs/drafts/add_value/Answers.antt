use Rattle.std.proofs.Common.{◌≡◌, ◌∙◌, ◌∷◌, ◌++◌, [], ap, arith, get_or, set}
use Rattle.std.proofs.lemmas.Result.{on_ok_weaker}
use Rattle.define_pools.specs.Pool.{Category}
use Rattle.office_import.proofs.DraftLemmas.{written}
use Rattle.office_import.proofs.drafts.add_value.Goals as goal

pub returns : goal.returns
returns c =
    let drafts = c.args.drafts.now.items in let place = c.args.place in
    let d = c.index_mut-draft.result.now in
    let there : d ≡ get_or drafts place d = c.index_mut-draft.ensures.value in
    on_ok_weaker c.add.result
    (λ e. ap (λ (v : Category). set drafts place v) (e ∙ ap (λ (v : Category). record v { values = v.values ++ c.args.value ∷ [] }) there) ∙ written drafts place c.args.value d (omega arith))
    c.add.ensures
