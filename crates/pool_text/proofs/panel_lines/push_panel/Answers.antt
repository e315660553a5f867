use Rattle.std.proofs.Common.{◌≡◌, ◌<◌, ◌∙◌, ◌++◌, ◌∷◌, [], ap, append_assoc, codes, get_or, length, map, take}
use Rattle.std.proofs.lemmas.List.{take_all}
use Rattle.std.proofs.lemmas.Result.{on_ok_weaker}
use Rattle.define_pools.proofs.Each.{below_at}
use Rattle.define_pools.specs.Pool.{volunteer}
use Rattle.define_lines.specs.Lines.{line_feed, tabbed}
use Rattle.define_lines.proofs.LineLemmas.{line_written}
use Rattle.define_bundles.proofs.PanelLines.{one_id}
use Rattle.pool_text.proofs.panel_lines.push_panel.Goals as goal

pub loop-number-preserved : goal.loop-number-preserved
loop-number-preserved c =
    let members = c.members-number-items.result.now in
    let same = c.members-number-items.ensures.value in
    let inside : get_or members c.loop-number.number-index 0 < length c.args.pool.now.volunteers =
    rw same (below_at (length c.args.pool.now.volunteers) c.args.panel.now c.loop-number.number-index c.requires (rw same at c.loop-number-test.true)) in
    one_id (c.args.text.now.items ++ codes "panel") c.args.pool.now.volunteers members c.loop-number.number-index _ _ c.index-volunteers-number.result
    c.loop-number.invariant c.loop-number-test.true (rw (c.as_bytes.ensures ∙ c.id.ensures) at c.in_ok-push_field.ensures.whole)
    (rw c.volunteers.ensures at c.index-volunteers-number.is) inside

pub returns : goal.returns
returns c =
    let ids = map (λ i. (volunteer c.args.pool.now.volunteers i).id) in
    let before = c.args.text.now.items in
    let members = c.members-number-items.result.now in
    let whole : take c.loop-number.number-index members ≡ members = take_all c.loop-number.number-index members c.loop-number-test.false in
    let stood = c.loop-number.invariant ∙ ap (λ xs. (before ++ codes "panel") ++ tabbed (ids xs)) (whole ∙ c.members-number-items.ensures.value) in
    let words = tabbed (ids c.args.panel.now) in
    on_ok_weaker c.end_line.result
    (λ e. e ∙ (ap (λ text. text ++ line_feed ∷ []) (stood ∙ append_assoc before (codes "panel") words)
    ∙ (append_assoc before (codes "panel" ++ words) (line_feed ∷ []) ∙ ap (λ line. before ++ line) (line_written (codes "panel") (ids c.args.panel.now)))))
    c.end_line.ensures.whole
