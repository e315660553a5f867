use Rattle.std.proofs.Common.{◌≡◌, List, ℕ, [], ◌∷◌, ◌++◌, codes, sym, ap, ◌∙◌, append_assoc}
use Rattle.std.specs.Fmt.{decimal}
use Rattle.std.proofs.lemmas.Result.{on_ok_weaker}
use Rattle.define_quotas.specs.ConflictText.{miss_line}
use Rattle.quota_conflicts.proofs.Added.{added_if_ok}
use Rattle.quota_conflicts.proofs.texts.push_miss.Goals as goal

regrouped : (text words number end : List ℕ) → ((text ++ words) ++ number) ++ end ≡ text ++ ((words ++ number) ++ end)
regrouped text words number end = simp append_assoc

pub returns-in_ok-push-in-Some : goal.returns-in_ok-push-in-Some
returns-in_ok-push-in-Some c =
    let text = c.args.text.now.items in
    let number = decimal c.in-Some.least in
    c.in_ok-push-in-Some.ensures.items
    ∙ ap (λ before. before ++ 10 ∷ []) (c.in_ok-push_number-in-Some.ensures ∙ ap (λ before. before ++ number) c.in_ok-extend_from_slice-in-Some.ensures.items)
    ∙ regrouped text (codes "these together miss by at least ") number (10 ∷ [])
    ∙ ap (λ least. text ++ miss_line least) (sym c.in-Some.is)

pub returns-in-None : goal.returns-in-None
returns-in-None c =
    let text = c.args.text.now.items in
    on_ok_weaker c.extend_from_slice-in-None.result (λ e. e ∙ ap (λ least. text ++ miss_line least) (sym c.in-None.is))
    (added_if_ok c.extend_from_slice-in-None.result text (codes "no panel of whole people meets these together" ++ 10 ∷ []) _ c.extend_from_slice-in-None.ensures.items)
