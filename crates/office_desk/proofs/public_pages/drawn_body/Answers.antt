use Rattle.std.proofs.Common.{◌≡◌, ℕ, List, Option, option_map, String, Global, string_bytes, FitsSigned, unsigned_abs, map, ap, ◌∙◌, rules}
use Rattle.std.specs.Int.{w128}
use Rattle.std.proofs.lemmas.Int.{to_z-of_z}
use Rattle.std.specs.Fmt.{decimal}
use Rattle.std.proofs.lemmas.Result.{IfOk-weaker}
use Rattle.serde_json.specs.Data.{array, string}
use Rattle.serde_json.specs.View.{items_view}
use Rattle.serde_json.specs.Written.{compact_text}
use Rattle.define_pools.specs.Pool.{Pool}
use Rattle.define_draws.specs.Lines.{bundle_seal, member_ids}
use Rattle.office_desk.specs.Bodies.{draw_text}
use Rattle.office_desk.proofs.DrawnBodies.{drawn_as_text, values_have_no_float}
use Rattle.office_desk.proofs.public_pages.drawn_body.Goals as goal

pub draw_body-requires : goal.draw_body-requires
draw_body-requires c = values_have_no_float c.in_ok-panel.panel.items (member_ids c.pool.result.now c.args.drawn.now.panel) c.in_ok-panel.ensures

pub returns : goal.returns
returns c =
    let bundle = c.args.bundle.now in
    let drawn = c.args.drawn.now in
    let values = c.in_ok-panel.panel.items in
    let digits = c.as_str.ensures.value ∙ c.in_ok-digits.ensures.ok c.requires.digits in
    let kept = c.as_str-2.ensures.value ∙ c.in_ok-kept.ensures in
    let fits : FitsSigned w128 drawn.ticket = search rules in
    let number : c.unsigned_abs.result ≡ unsigned_abs drawn.ticket = c.unsigned_abs.ensures.value ∙ ap unsigned_abs (to_z-of_z w128 drawn.ticket fits) in
    let ticket : c.as_str-3.result.now ≡ decimal (unsigned_abs drawn.ticket) = c.as_str-3.ensures.value ∙ (c.in_ok-ticket.ensures.ok ∙ ap decimal number) in
    let named = c.in_ok-panel.ensures ∙ ap (λ (pool : Pool). map string (member_ids pool drawn.panel)) c.pool.ensures in
    let panel = compact_text (array (items_view values)) in
    let tickets = option_map (λ (text : String Global). string_bytes text) c.in_ok-number.number in
    let whole =
    ap (λ (d : List ℕ). draw_text d panel c.as_str-2.result.now c.as_str-3.result.now tickets) digits
    ∙ (ap (λ (s : List ℕ). draw_text c.args.digits.now panel s c.as_str-3.result.now tickets) kept
    ∙ (ap (λ (t : List ℕ). draw_text c.args.digits.now panel (bundle_seal bundle) t tickets) ticket
    ∙ (ap (λ (t : Option (List ℕ)). draw_text c.args.digits.now panel (bundle_seal bundle) (decimal (unsigned_abs drawn.ticket)) t) c.in_ok-number.ensures
    ∙ drawn_as_text bundle c.args.tickets.now c.args.digits.now drawn values c.requires.drawn named))) in
    IfOk-weaker c.draw_body.result _ _ (λ body is. is ∙ whole) c.draw_body.ensures
