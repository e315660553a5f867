use Rattle.std.proofs.Common.{◌≡◌, ◌∙◌, ◌++◌, ◌∷◌, [], ap, sym, Some, None}
use Rattle.std.specs.List.{position}
use Rattle.std.specs.Str.{bytes_eq}
use Rattle.std.proofs.lemmas.Result.{on_ok_weaker}
use Rattle.define_pools.proofs.Found.{position-None}
use Rattle.define_pools.specs.Pool.{Category}
use Rattle.office_import.specs.Seen.{rule_seen, with_value_at}
use Rattle.office_import.proofs.DraftLemmas.{added_in_place, appended}
use Rattle.office_import.proofs.drafts.add_rule.Goals as goal

pub returns-in_ok-of-in-Some : goal.returns-in_ok-of-in-Some
returns-in_ok-of-in-Some c =
    let drafts = c.args.drafts.now.items in let rule = rule_seen c.args.rule.now in let place = c.in-Some.place in
    let found : position (λ (draft : Category). bytes_eq rule.category draft.name) drafts ≡ Some place = sym (rw c.deref.ensures.value at c.place_of.ensures.value) ∙ c.in-Some.is in
    on_ok_weaker c.add_value.result
    (λ e. e ∙ (ap (with_value_at drafts place) c.in_ok-of-in-Some.ensures ∙ added_in_place drafts rule place (record { name = []; values = [] }) found))
    c.add_value.ensures

pub returns-in_ok-push-in-None : goal.returns-in_ok-push-in-None
returns-in_ok-push-in-None c =
    let drafts = c.args.drafts.now.items in let rule = rule_seen c.args.rule.now in
    let d : Category = record { name = []; values = [] } in
    let none : position (λ (draft : Category). bytes_eq rule.category draft.name) drafts ≡ None = sym (rw c.deref.ensures.value at c.place_of.ensures.value) ∙ c.in-None.is in
    c.in_ok-push-in-None.ensures.items
    ∙ (ap (λ (v : Category). drafts ++ v ∷ []) c.in_ok-of-in-None.ensures
    ∙ appended drafts rule d (λ k below. position-None (λ (draft : Category). bytes_eq rule.category draft.name) drafts k d none below))
