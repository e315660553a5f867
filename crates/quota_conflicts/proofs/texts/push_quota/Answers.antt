use Rattle.std.proofs.Common.{◌≡◌, List, ℕ, [], ◌∷◌, ◌++◌, codes, ap, ◌∙◌, append_assoc}
use Rattle.std.specs.Fmt.{decimal}
use Rattle.std.proofs.lemmas.Result.{on_ok_weaker}
use Rattle.define_quotas.specs.ConflictText.{available, counted_words, seated, side_words}
use Rattle.define_quotas.specs.Quotas.{bound}
use Rattle.quota_conflicts.proofs.Added.{added_if_ok}
use Rattle.quota_conflicts.proofs.texts.push_quota.Goals as goal

-- parts that are added one after the other are added as one text
regrouped : (text a b c d e f g h end : List ℕ) →
    (((((((text ++ a) ++ b) ++ c) ++ d) ++ e) ++ f) ++ g) ++ (h ++ end) ≡ text ++ ((((((((a ++ b) ++ c) ++ d) ++ e) ++ f) ++ g) ++ h) ++ end)
regrouped text a b c d e f g h end = simp append_assoc

pub returns : goal.returns
returns c =
    let pool = c.args.pool.now in
    let quota = c.args.quota in
    let text = c.args.text.now.items in
    let whom = counted_words pool quota.counted in
    let side = side_words quota.side in
    let bounded : c.push_number.new.text.items ≡ ((text ++ whom) ++ side) ++ decimal (bound pool quota) =
    c.in_ok-push_number.ensures
    ∙ ap (λ before. before ++ decimal c.bound.result) (c.in_ok-push_side.ensures ∙ ap (λ before. before ++ side) c.in_ok-push_counted.ensures)
    ∙ ap (λ n. ((text ++ whom) ++ side) ++ decimal n) c.bound.ensures in
    let first = ((text ++ whom) ++ side) ++ decimal (bound pool quota) in
    let reached : c.push_number-2.new.text.items ≡ (first ++ codes "; ") ++ decimal (available pool quota.counted) =
    c.in_ok-push_number-2.ensures
    ∙ ap (λ before. before ++ decimal c.available.result) (c.in_ok-extend_from_slice.ensures.items ∙ ap (λ before. before ++ codes "; ") bounded)
    ∙ ap (λ n. (first ++ codes "; ") ++ decimal n) c.available.ensures in
    let second = (first ++ codes "; ") ++ decimal (available pool quota.counted) in
    let taken : c.push_number-3.new.text.items ≡ (second ++ codes " available, ") ++ decimal (seated pool quota.counted) =
    c.in_ok-push_number-3.ensures
    ∙ ap (λ before. before ++ decimal c.seated.result) (c.in_ok-extend_from_slice-2.ensures.items ∙ ap (λ before. before ++ codes " available, ") reached)
    ∙ ap (λ n. (second ++ codes " available, ") ++ decimal n) c.seated.ensures in
    on_ok_weaker c.extend_from_slice-3.result
    (λ e. e ∙ (ap (λ before. before ++ (codes " of them seated" ++ 10 ∷ [])) taken
    ∙ regrouped text whom side (decimal (bound pool quota)) (codes "; ") (decimal (available pool quota.counted)) (codes " available, ") (decimal (seated pool quota.counted)) (codes " of them seated") (10 ∷ [])))
    (added_if_ok c.extend_from_slice-3.result c.push_number-3.new.text.items (codes " of them seated" ++ 10 ∷ []) _ c.extend_from_slice-3.ensures.items)
