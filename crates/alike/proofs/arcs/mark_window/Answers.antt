use Rattle.std.proofs.Common.{◌≡◌, ◌-◌, List, ℕ, take, drop, length, min, ap, ◌∙◌}
use Rattle.alike.proofs.Marked.{window_marked}
use Rattle.alike.proofs.arcs.mark_window.Goals as goal

pub returns : goal.returns
returns c =
    let members = c.args.members.now in let start = c.args.start in let count = c.args.count in
    let before = c.split_at.result.0.now in let after = c.split_at.result.1.now in
    let front : before ≡ take start members = c.split_at.ensures.front in
    let back : after ≡ drop start members = c.split_at.ensures.back in
    let first : c.min-first.result ≡ min count (length (drop start members)) = c.min-first.ensures ∙ ap (λ (xs : List ℕ). min count (length xs)) back in
    window_marked c.args.given.now c.mark.new.given c.mark-2.new.given start count members (take c.min-first.result after) (take c.min.result before)
    (ap (λ k. take k after) first ∙ ap (take (min count (length (drop start members)))) back)
    (ap (λ k. take k before) c.min.ensures ∙ (ap (λ n. take (min (length before) (count - n)) before) first ∙ ap (λ (xs : List ℕ). take (min (length xs) (count - min count (length (drop start members)))) xs) front))
    c.mark.ensures c.mark-2.ensures
