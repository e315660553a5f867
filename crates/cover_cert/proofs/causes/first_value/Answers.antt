use Rattle.std.proofs.Common.{ℕ, ◌+◌, Bool, sym, ◌∙◌, arith}
use Rattle.define_pools.proofs.Found.{find_range-first, find_range-none}
use Rattle.define_covers.specs.Causes.{applies}
use Rattle.define_covers.specs.Covers.{ByValue}
use Rattle.cover_cert.proofs.causes.first_value.Goals as goal

pub returns-then-does_apply : goal.returns-then-does_apply
returns-then-does_apply c =
    let p : ℕ → Bool = λ number. applies c.args.terms.now.classes c.args.terms.now.closed.items c.args.terms.now.row c.args.front.now (ByValue number) in
    sym (find_range-first p 1 c.args.values (c.loop-place.place + 1) (omega arith) (omega (arith, c.loop-place-test.true)) (sym c.does_apply.ensures ∙ c.if-does_apply.true) (λ number l m. c.loop-place.invariant number l (omega arith)))

pub returns : goal.returns
returns c =
    let p : ℕ → Bool = λ number. applies c.args.terms.now.classes c.args.terms.now.closed.items c.args.terms.now.row c.args.front.now (ByValue number) in
    sym (find_range-none p 1 c.args.values (λ number l m. c.loop-place.invariant number l (omega (arith, c.loop-place-test.false))))
