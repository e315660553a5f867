use Rattle.std.proofs.Common.{◌≡◌, ◌∷◌, ◌++◌, ◌*◌, ◌/◌, [], map, append_assoc, sym, ap, ◌∙◌, arith}
use Rattle.std.specs.List.{range_with_len}
use Rattle.std.proofs.lemmas.List.FromFn.{map-range_with_len_more}
use Rattle.std.proofs.Math.Nat.{mul-div_assoc}
use Rattle.alike.proofs.dials.push_marks.Goals as goal

pub loop-number-preserved : goal.loop-number-preserved
loop-number-preserved c =
    let size = c.args.size in let places = c.args.places in let number = c.loop-number.number in
    let mark : number * (places / size) ≡ number * places / size = sym (mul-div_assoc size number c.requires.size.1) in
    let more = map-range_with_len_more (λ j. j * places / size) 0 number number (omega arith) in
    c.in_ok-push.ensures.items
    ∙ (ap (λ xs. xs ++ number * (places / size) ∷ []) c.loop-number.invariant
    ∙ (ap (λ n. (c.args.cuts.now.items ++ map (λ j. j * places / size) (range_with_len 0 number)) ++ n ∷ []) mark
    ∙ (append_assoc c.args.cuts.now.items (map (λ j. j * places / size) (range_with_len 0 number)) (number * places / size ∷ [])
    ∙ ap (λ xs. c.args.cuts.now.items ++ xs) (sym more))))
