-- The body for what digits draw from a bundle.
use Rattle.std.proofs.Common.{◌≡◌, ℕ, false, List, length, map, Option, Some, None, option_map, unsigned_abs, refl, ap, sym, ◌∙◌}
use Rattle.std.specs.Fmt.{decimal}
use Rattle.serde_json.specs.Data.{Data, array, string}
use Rattle.serde_json.specs.View.{items_of, items_view, view}
use Rattle.serde_json.specs.Written.{compact_text, has_float, items_have_float}
use Rattle.serde_json.specs.declared.value.Value.{Value}
use Rattle.sealed_draw.specs.declared.drawn.Draw.{Draw}
use Rattle.define_bundles.specs.BundleText.{Bundle}
use Rattle.define_offices.specs.Deciding.{drawn_ids}
use Rattle.define_draws.specs.Lines.{bundle_seal, member_ids}
use Rattle.define_offices.specs.Pools.{drawn_lottery, drawn_of}
use Rattle.define_desk.specs.Desk.{draw_body}
use Rattle.define_desk.specs.Replies.{texts}
use Rattle.define_draws.specs.Draw.{Drawn}
use Rattle.office_tables.specs.Drawn.{Draws}
use Rattle.office_desk.specs.Bodies.{draw_text}
use Rattle.office_desk.proofs.BodyTexts.{ids_as_texts, ids_have_no_float}

pub values_have_no_float : (values : List Value) (ids : List (List ℕ)) → map view values ≡ map string ids → has_float (array (items_view values)) ≡ false
values_have_no_float values ids e = ap (λ (all : List Data). items_have_float (items_of all)) e ∙ ids_have_no_float ids

values_as_texts : (values : List Value) (ids : List (List ℕ)) → map view values ≡ map string ids → compact_text (array (items_view values)) ≡ texts ids
values_as_texts values ids e = ap (λ (all : List Data). compact_text (array (items_of all))) e ∙ ids_as_texts ids

number_as_text : (bundle : Bundle) (tickets : Option ℕ) (digits : List ℕ) →
    draw_text digits (texts (drawn_ids bundle tickets digits)) (bundle_seal bundle) (decimal (drawn_of bundle tickets digits).ticket) (option_map decimal tickets) ≡ draw_body bundle tickets digits
number_as_text bundle None digits = refl
number_as_text bundle (Some tickets) digits = refl

pub drawn_as_text : (bundle : Bundle) (tickets : Option ℕ) (digits : List ℕ) (drawn : Draw) (values : List Value) → Draws (drawn_lottery bundle tickets) (length bundle.pool.volunteers) digits drawn →
    map view values ≡ map string (member_ids bundle.pool drawn.panel) →
    draw_text digits (compact_text (array (items_view values))) (bundle_seal bundle) (decimal (unsigned_abs drawn.ticket)) (option_map decimal tickets) ≡ draw_body bundle tickets digits
drawn_as_text bundle tickets digits drawn values draws e =
    let same = sym draws.is in
    let panel : compact_text (array (items_view values)) ≡ texts (drawn_ids bundle tickets digits) =
    values_as_texts values (member_ids bundle.pool drawn.panel) e ∙ ap (λ (d : Drawn). texts (member_ids bundle.pool d.panel)) same in
    let ticket : decimal (unsigned_abs drawn.ticket) ≡ decimal (drawn_of bundle tickets digits).ticket = ap (λ (d : Drawn). decimal d.ticket) same in
    ap (λ (p : List ℕ). draw_text digits p (bundle_seal bundle) (decimal (unsigned_abs drawn.ticket)) (option_map decimal tickets)) panel
    ∙ (ap (λ (t : List ℕ). draw_text digits (texts (drawn_ids bundle tickets digits)) (bundle_seal bundle) t (option_map decimal tickets)) ticket ∙ number_as_text bundle tickets digits)
