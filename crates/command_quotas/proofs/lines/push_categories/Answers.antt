use Rattle.std.proofs.Common.{◌≡◌, ◌+◌, List, [], ◌∷◌, ◌++◌, length, length-append, take, ap, sym, ◌∙◌, arith, rules}
use Rattle.std.specs.List.{flat_map, zip}
use Rattle.std.proofs.lemmas.List.{take_all}
use Rattle.std.proofs.lemmas.Slice.Zip.{length-zip, zip_end, zip_turn}
use Rattle.define_lines.specs.Lines.{text_of}
use Rattle.define_pools.specs.Pool.{BoundedValue}
use Rattle.command_meanings.specs.LooseningLines.{moved_in, moved_line}
use Rattle.command_quotas.proofs.Pairs.{pair_written}
use Rattle.command_quotas.proofs.lines.push_categories.Goals as goal

pub loop-category-preserved : goal.loop-category-preserved
loop-category-preserved c =
    let categories = c.args.categories.now in
    let loosened = c.args.loosened.now in
    let category = c.in-Some.category.now in
    let after = c.in-Some.after.now in
    let text = c.args.text.now.items in
    let before = c.loop-category.text.items in
    let yielded = c.loop-category.yielded in
    let turn = zip_turn categories loosened yielded c.into_iter-category-iterator.result c.loop-category.category-iterator c.next.new.self c.next.result (search rules) (search rules) c.loop-category.yielded_by (c.in-Some.category, c.in-Some.after) c.in-Some.is c.next.ensures.steps in
    let size : length (yielded ++ (c.in-Some.category, c.in-Some.after) ∷ []) ≡ length yielded + 1 = length-append yielded ((c.in-Some.category, c.in-Some.after) ∷ []) in
    let added : c.push_values.new.text.items ≡ before ++ text_of (moved_in (category, after)) =
    c.in_ok-push_values.ensures
    ∙ (ap (λ (name : List _). before ++ text_of (flat_map (moved_line name) (zip c.values.result.now c.values-in-loop-category.result.now))) (c.as_bytes.ensures ∙ c.name.ensures)
    ∙ (ap (λ (values : List BoundedValue). before ++ text_of (flat_map (moved_line category.name) (zip values c.values-in-loop-category.result.now))) c.values.ensures
    ∙ ap (λ (values : List BoundedValue). before ++ text_of (flat_map (moved_line category.name) (zip category.values values))) c.values-in-loop-category.ensures)) in
    pair_written moved_in categories loosened (length yielded) category after text before _ turn.0 turn.1
    (turn.2 category) (turn.3 after) c.loop-category.invariant added
    ∙ ap (λ n. text ++ text_of (flat_map moved_in (take n (zip categories loosened)))) (sym size)

pub returns : goal.returns
returns c =
    let categories = c.args.categories.now in
    let loosened = c.args.loosened.now in
    let yielded = c.loop-category.yielded in
    let count = zip_end categories loosened yielded c.into_iter-category-iterator.result c.loop-category.category-iterator c.next.new.self c.next.result (search rules) (search rules) c.loop-category.yielded_by c.in-None.is c.next.ensures.steps in
    let whole : take (length yielded) (zip categories loosened) ≡ zip categories loosened = take_all (length yielded) (zip categories loosened) (omega (arith, length-zip categories loosened, count)) in
    c.loop-category.invariant ∙ ap (λ pairs. c.args.text.now.items ++ text_of (flat_map moved_in pairs)) whole
