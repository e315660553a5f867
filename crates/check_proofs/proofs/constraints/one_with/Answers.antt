use Rattle.std.proofs.Common.{◌≡◌, ◌&&◌, Bool, false, ℕ, ℤ, cond, eqb, ltb, pos, length, sym, ap, ◌∙◌, rules, arith, FitsSigned}
use Rattle.std.specs.Prelude.{slice_index}
use Rattle.std.specs.Int.{w128}
use Rattle.std.proofs.lemmas.Bool.{le-ltb, lt-ltb}
use Rattle.std.proofs.lemmas.Int.{to_z-of_z}
use Rattle.define_pools.specs.Pool.{volunteer}
use Rattle.check_proofs.proofs.Coefficients.{for_passing}
use Rattle.check_proofs.proofs.constraints.one_with.Goals.{then-i-volunteers, else-i-volunteers}
use Rattle.check_proofs.proofs.constraints.one_with.Goals as goal

pub returns : goal.returns
returns c =
    let count = length c.args.volunteers.now in
    let passes : ℕ → Bool = λ i. eqb (slice_index (volunteer c.args.volunteers.now i).values c.args.c) c.args.v in
    let fits : FitsSigned w128 c.one_if.result = search rules in
    let both : c.if-i-volunteers.one_if ≡ (ltb c.args.i count && passes c.args.i) = elim c.if-i-volunteers.branch as (λ w. c.if-i-volunteers.one_if ≡ (ltb c.args.i count && passes c.args.i)) [
      | then-i-volunteers w ↦ w.one_if-is ∙ ap (λ value. eqb value c.args.v) c.value_of.ensures ∙ sym (ap (λ b. b && passes c.args.i) (lt-ltb c.args.i count w.if-i-volunteers.true))
      | else-i-volunteers w ↦
          let beyond : ltb c.args.i count ≡ false = le-ltb c.args.i count (omega (arith, w.if-i-volunteers.false)) in
          w.one_if-is ∙ beyond ∙ sym (ap (λ b. b && passes c.args.i) beyond)
    ] in
    to_z-of_z w128 c.one_if.result fits ∙ c.one_if.ensures ∙ ap (λ b. cond {A = ℤ} b (pos 1) (pos 0)) both ∙ for_passing passes count c.args.i
