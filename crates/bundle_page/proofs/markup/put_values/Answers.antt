use Rattle.std.proofs.Common.{◌≡◌, ℕ, ◌+◌, ◌≤◌, [], ◌∷◌, ◌++◌, append-nil, drop, get_or, length, map, refl, sym, ap, subst, ◌∙◌, arith}
use Rattle.std.proofs.lemmas.List.{drop_all, length-map}
use Rattle.bundle_page.specs.Markup.{filled}
use Rattle.bundle_page.proofs.Filling.{byte_put, filled_end, none_put, value_put}
use Rattle.bundle_page.proofs.markup.put_values.Goals as goal
use Rattle.bundle_page.proofs.markup.put_values.Goals.{then-byte-ne-PLACE+in_ok-push, else-byte-ne-PLACE+then-next-values+in_ok-extend_from_slice, else-byte-ne-PLACE+else-next-values}

pub loop-byte-preserved : goal.loop-byte-preserved
loop-byte-preserved c =
    let template = c.args.template.now in
    let values = map (λ value. value.now) c.args.values.now in
    let start = c.args.text.now.items ++ filled template values in
    let i = c.loop-byte.byte-index in
    let next = c.loop-byte.next in
    let byte = get_or template i 0 in
    let before = c.loop-byte.text.items in
    let after = c.if-byte-ne-PLACE.text.items in
    let more : (n : ℕ) → c.if-byte-ne-PLACE.next ≡ n → after ++ filled (drop (i + 1) template) (drop n values) ≡ start →
    after ++ filled (drop (i + 1) template) (drop c.if-byte-ne-PLACE.next values) ≡ start =
    λ n is. subst (λ k. after ++ filled (drop (i + 1) template) (drop k values) ≡ start) (sym is) in
    elim c.if-byte-ne-PLACE.branch [
      | then-byte-ne-PLACE+in_ok-push w ↦
          let added : after ≡ before ++ byte ∷ [] = ap (λ t. t.items) w.text-is ∙ w.in_ok-push.ensures.items in
          record {
            few = omega (arith, w.next-is);
            whole = more next w.next-is (byte_put start before after template i byte c.loop-byte-test.true refl (drop next values) w.if-byte-ne-PLACE.true c.loop-byte.invariant.whole added);
          }
      | else-byte-ne-PLACE+then-next-values+in_ok-extend_from_slice w ↦
          record {
            few = omega (arith, w.next-is);
            whole = more (next + 1) w.next-is
                (value_put start before after template i byte c.loop-byte-test.true refl (λ value. value.now) c.args.values.now next _ w.if-byte-ne-PLACE.false w.if-next-values.true c.loop-byte.invariant.whole
                (ap (λ t. t.items) w.text-is ∙ w.in_ok-extend_from_slice.ensures.items));
          }
      | else-byte-ne-PLACE+else-next-values w ↦
          let none : length values ≤ next = subst (λ n. n ≤ next) (sym (length-map c.args.values.now (λ value. value.now))) w.if-next-values.false in
          let same : before ≡ after = sym (ap (λ t. t.items) w.text-is) in
          record {
            few = omega (arith, w.next-is);
            whole = more next w.next-is
                (subst (λ t. t ++ filled (drop (i + 1) template) (drop next values) ≡ start) same
                (none_put start before before template i byte c.loop-byte-test.true refl values next w.if-byte-ne-PLACE.false none c.loop-byte.invariant.whole));
          }
    ]

pub returns : goal.returns
returns c =
    let template = c.args.template.now in
    let values = map (λ value. value.now) c.args.values.now in
    let rest = drop c.loop-byte.next values in
    let none : drop c.loop-byte.byte-index template ≡ [] = drop_all c.loop-byte.byte-index template (omega arith) in
    sym (append-nil c.loop-byte.text.items) ∙ ap (λ text. c.loop-byte.text.items ++ text) (sym (ap (λ t. filled t rest) none ∙ filled_end rest)) ∙ c.loop-byte.invariant.whole
