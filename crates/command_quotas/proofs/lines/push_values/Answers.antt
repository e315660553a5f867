use Rattle.std.proofs.Common.{◌≡◌, ◌+◌, [], ◌∷◌, ◌++◌, length, length-append, take, ap, sym, ◌∙◌, arith, rules}
use Rattle.std.specs.List.{flat_map, zip}
use Rattle.std.proofs.lemmas.List.{take_all}
use Rattle.std.proofs.lemmas.Slice.Zip.{length-zip, zip_end, zip_turn}
use Rattle.define_lines.specs.Lines.{text_of}
use Rattle.command_meanings.specs.LooseningLines.{moved_line}
use Rattle.command_quotas.proofs.Pairs.{pair_written}
use Rattle.command_quotas.proofs.lines.push_values.Goals as goal

pub loop-value-preserved : goal.loop-value-preserved
loop-value-preserved c =
    let values = c.args.values.now in
    let loosened = c.args.loosened.now in
    let lines = moved_line c.args.category.now in
    let text = c.args.text.now.items in
    let yielded = c.loop-value.yielded in
    let turn = zip_turn values loosened yielded c.into_iter-value-iterator.result c.loop-value.value-iterator c.next.new.self c.next.result (search rules) (search rules) c.loop-value.yielded_by (c.in-Some.value, c.in-Some.after) c.in-Some.is c.next.ensures.steps in
    let size : length (yielded ++ (c.in-Some.value, c.in-Some.after) ∷ []) ≡ length yielded + 1 = length-append yielded ((c.in-Some.value, c.in-Some.after) ∷ []) in
    pair_written lines values loosened (length yielded) c.in-Some.value.now c.in-Some.after.now text _ _ turn.0 turn.1
    (turn.2 c.in-Some.value.now) (turn.3 c.in-Some.after.now) c.loop-value.invariant c.in_ok-push_moved.ensures
    ∙ ap (λ n. text ++ text_of (flat_map lines (take n (zip values loosened)))) (sym size)

pub returns : goal.returns
returns c =
    let values = c.args.values.now in
    let loosened = c.args.loosened.now in
    let yielded = c.loop-value.yielded in
    let count = zip_end values loosened yielded c.into_iter-value-iterator.result c.loop-value.value-iterator c.next.new.self c.next.result (search rules) (search rules) c.loop-value.yielded_by c.in-None.is c.next.ensures.steps in
    let whole : take (length yielded) (zip values loosened) ≡ zip values loosened = take_all (length yielded) (zip values loosened) (omega (arith, length-zip values loosened, count)) in
    c.loop-value.invariant ∙ ap (λ pairs. c.args.text.now.items ++ text_of (flat_map (moved_line c.args.category.now) pairs)) whole
