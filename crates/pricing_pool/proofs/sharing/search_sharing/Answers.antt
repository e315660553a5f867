use Rattle.std.proofs.Common.{rules, FitsSigned, of_z, to_z, inl, refl, sym, ◌∙◌, ap, arith, subst}
use Rattle.std.specs.Int.{w128}
use Rattle.std.specs.List.{AllByRecursion}
use Rattle.std.proofs.lemmas.Int.{ints, to_z-of_z}
use Rattle.std.proofs.lemmas.Result.{err_from_is_err_and}
use Rattle.define_searches.specs.Below.{IsFront}
use Rattle.pricing_pool.specs.SoFar.{pricing_so_far}
use Rattle.pricing_pool.proofs.SharedWaves.{fronts_stop, short_fronts, whole_answers, whole_stops}
use Rattle.pricing_pool.proofs.sharing.search_sharing.Goals as goal

pub returns-in_err-fronts : goal.returns-in_err-fronts
returns-in_err-fronts g c =
    let p = c.args.priced.now in
    let out = err_from_is_err_and c.from_residual.result c.from_residual.ensures.1 in
    rw (out.1, out.2) (fronts_stop p.classes p.closed p.row c.facts.ensures.searchable c.facts.ensures.entries c.args.nodes c.in_err-fronts.field-0.0 c.in_err-fronts.ensures.answers)

pub take_waves-requires-clause-bounded : goal.take_waves-requires-clause-bounded
take_waves-requires-clause-bounded g c κs within =
    let fits : FitsSigned w128 c.side.result = search rules in
    let side = to_z-of_z w128 c.side.result fits ∙ c.side.ensures ∙ ap (λ row. row.b) c.row.ensures in
    let positive = c.requires.positive in
    record { above = omega (arith, ints); no_less = omega (arith, ints); stands = inl refl }

pub returns-in_err-take_waves : goal.returns-in_err-take_waves
returns-in_err-take_waves g c =
    let p = c.args.priced.now in
    let found = c.in_ok-fronts.ensures.answers in
    let fits : FitsSigned w128 c.side.result = search rules in
    let out = err_from_is_err_and c.from_residual-in_err-take_waves.result c.from_residual-in_err-take_waves.ensures.1 in
    let short = short_fronts p.classes p.closed p.row c.facts.ensures.searchable c.facts.ensures.entries c.deref.result.now (subst (AllByRecursion (IsFront p.classes)) (sym c.deref.ensures.value) c.in_ok-fronts.ensures.fronts) in
    rw (out.1, out.2)
    (whole_stops p.classes p.closed p.row c.facts.ensures.searchable c.facts.ensures.entries c.args.nodes c.in_ok-fronts.visits c.deref.result.now (to_z w128 (of_z w128 c.side.result)) found.2 (c.deref.ensures.value ∙ found.1)
    (to_z-of_z w128 c.side.result fits ∙ c.side.ensures ∙ ap (λ row. row.b) c.row.ensures) short c.in_err-take_waves.field-0.0 (pricing_so_far c.take_waves.new.shared.so_far) c.take_waves.new.shared.word c.in_err-take_waves.ensures)

pub returns : goal.returns
returns g c =
    let p = c.args.priced.now in
    let found = c.in_ok-fronts.ensures.answers in
    let fits : FitsSigned w128 c.side.result = search rules in
    let short = short_fronts p.classes p.closed p.row c.facts.ensures.searchable c.facts.ensures.entries c.deref.result.now (subst (AllByRecursion (IsFront p.classes)) (sym c.deref.ensures.value) c.in_ok-fronts.ensures.fronts) in
    whole_answers p.classes p.closed p.row c.facts.ensures.searchable c.facts.ensures.entries c.args.nodes c.in_ok-fronts.visits c.deref.result.now (to_z w128 (of_z w128 c.side.result)) found.2 (c.deref.ensures.value ∙ found.1)
    (to_z-of_z w128 c.side.result fits ∙ c.side.ensures ∙ ap (λ row. row.b) c.row.ensures) short c.requires.positive (pricing_so_far c.take_waves.new.shared.so_far) c.take_waves.new.shared.word c.in_ok-take_waves.ensures.0 c.in_ok-take_waves.ensures.1
