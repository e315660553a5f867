use Rattle.std.proofs.Common.{sym, ap, ◌∙◌}
use Rattle.std.specs.List.{find, range_with_len}
use Rattle.define_covers.specs.Causes.{applies}
use Rattle.define_covers.specs.Covers.{ByValue}
use Rattle.define_covers.proofs.FirstCauses.{by_cap, by_closed, by_household, by_none, by_value}
use Rattle.cover_cert.proofs.causes.cause_here.Goals as goal

pub returns-in-Some : goal.returns-in-Some
returns-in-Some c =
    let all = c.args.terms.now.classes in let closed = c.args.terms.now.closed.items in let row = c.args.terms.now.row in let front = c.args.front.now in
    let size = sym c.does_apply.ensures ∙ c.if-does_apply.false in
    let found = ap (λ n. find (λ number. applies all closed row front (ByValue number)) (range_with_len 1 n)) (sym c.requires.values) ∙ sym c.first_value.ensures ∙ c.in-Some.is in
    sym (by_value all closed row front size c.in-Some.number found)

pub returns-then-does_apply-2 : goal.returns-then-does_apply-2
returns-then-does_apply-2 c =
    let all = c.args.terms.now.classes in let closed = c.args.terms.now.closed.items in let row = c.args.terms.now.row in let front = c.args.front.now in
    let size = sym c.does_apply.ensures ∙ c.if-does_apply.false in
    let none = ap (λ n. find (λ number. applies all closed row front (ByValue number)) (range_with_len 1 n)) (sym c.requires.values) ∙ sym c.first_value.ensures ∙ c.in_default.is in
    sym (by_household all closed row front size none (sym c.does_apply-2.ensures ∙ c.if-does_apply-2.true))

pub returns-in-Some-first_closed : goal.returns-in-Some-first_closed
returns-in-Some-first_closed c =
    let all = c.args.terms.now.classes in let closed = c.args.terms.now.closed.items in let row = c.args.terms.now.row in let front = c.args.front.now in
    let size = sym c.does_apply.ensures ∙ c.if-does_apply.false in
    let none = ap (λ n. find (λ number. applies all closed row front (ByValue number)) (range_with_len 1 n)) (sym c.requires.values) ∙ sym c.first_value.ensures ∙ c.in_default.is in
    let households = sym c.does_apply-2.ensures ∙ c.if-does_apply-2.false in
    sym (by_closed all closed row front size none households c.in-Some-first_closed.number (sym c.first_closed.ensures ∙ c.in-Some-first_closed.is))

pub returns-then-does_apply-3 : goal.returns-then-does_apply-3
returns-then-does_apply-3 c =
    let all = c.args.terms.now.classes in let closed = c.args.terms.now.closed.items in let row = c.args.terms.now.row in let front = c.args.front.now in
    let size = sym c.does_apply.ensures ∙ c.if-does_apply.false in
    let none = ap (λ n. find (λ number. applies all closed row front (ByValue number)) (range_with_len 1 n)) (sym c.requires.values) ∙ sym c.first_value.ensures ∙ c.in_default.is in
    let households = sym c.does_apply-2.ensures ∙ c.if-does_apply-2.false in
    sym (by_cap all closed row front size none households (sym c.first_closed.ensures ∙ c.in_default-first_closed.is) (sym c.does_apply-3.ensures ∙ c.if-does_apply-3.true))

pub returns : goal.returns
returns c =
    let all = c.args.terms.now.classes in let closed = c.args.terms.now.closed.items in let row = c.args.terms.now.row in let front = c.args.front.now in
    let size = sym c.does_apply.ensures ∙ c.if-does_apply.false in
    let none = ap (λ n. find (λ number. applies all closed row front (ByValue number)) (range_with_len 1 n)) (sym c.requires.values) ∙ sym c.first_value.ensures ∙ c.in_default.is in
    let households = sym c.does_apply-2.ensures ∙ c.if-does_apply-2.false in
    sym (by_none all closed row front size none households (sym c.first_closed.ensures ∙ c.in_default-first_closed.is) (sym c.does_apply-3.ensures ∙ c.if-does_apply-3.false))
