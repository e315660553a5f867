use Rattle.std.proofs.Common.{◌≡◌, ◌∙◌, ◌++◌, List, ap, map, length, subst, sym, arith}
use Rattle.std.proofs.lemmas.List.{length-map}
use Rattle.define_proofs.specs.Constraints.{Constraint, first_members, household_constraint}
use Rattle.prove_program.specs.Demands.{constraint_of}
use Rattle.prove_program.specs.Programs.{IsProgram, quota_constraints, rows_of}
use Rattle.prove_program.proofs.PoolDemands.{demands_are, joined}
use Rattle.prove_program.proofs.PoolPrograms.{program_is, same_program}
use Rattle.prove_program.proofs.programs.over.Goals as goal

pub rows-requires-clause-demands : goal.rows-requires-clause-demands
rows-requires-clause-demands c =
    let pool = c.args.pool.now in
    let all = ap (map (constraint_of pool)) c.deref.ensures.value ∙ c.in_ok-push_households.ensures
    ∙ ap (λ (quotas : List Constraint). quotas ++ map (household_constraint pool) (first_members pool)) c.in_ok-demands.ensures ∙ joined pool c.facts.ensures in
    demands_are pool c.facts.ensures c.deref.result.now all

pub invariant_of-result : goal.invariant_of-result
invariant_of-result c =
    let pool = c.args.pool.now in let columns = c.args.columns.now in
    let all = ap (map (constraint_of pool)) c.deref.ensures.value ∙ c.in_ok-push_households.ensures
    ∙ ap (λ (quotas : List Constraint). quotas ++ map (household_constraint pool) (first_members pool)) c.in_ok-demands.ensures ∙ joined pool c.facts.ensures in
    let rows = c.in_ok-rows.ensures ∙ ap (rows_of columns) all in
    let count = c.in_ok-demands.demands.ok.0 in let same = length-map c.in_ok-demands.demands.items (constraint_of pool) in let whole = ap (λ (xs : List Constraint). length xs) c.in_ok-demands.ensures in
    let quotas : c.len-quotas.result ≡ length (quota_constraints pool) = omega (arith, c.len-quotas.ensures, count, same, whole) in
    subst IsProgram
    (sym (same_program pool c.args.column_numbers.items columns c.in_ok-firsts.firsts.items c.in_ok-sizes.sizes.items c.in_ok-spans.spans.items c.in_ok-rows.rows.items c.len-quotas.result
    c.in_ok-firsts.ensures c.in_ok-sizes.ensures c.in_ok-spans.ensures rows quotas))
    (program_is pool c.facts.ensures c.args.column_numbers.items columns c.requires.columns c.requires.numbers)

pub returns : goal.returns
returns c =
    let pool = c.args.pool.now in let columns = c.args.columns.now in
    let all = ap (map (constraint_of pool)) c.deref.ensures.value ∙ c.in_ok-push_households.ensures
    ∙ ap (λ (quotas : List Constraint). quotas ++ map (household_constraint pool) (first_members pool)) c.in_ok-demands.ensures ∙ joined pool c.facts.ensures in
    let rows = c.in_ok-rows.ensures ∙ ap (rows_of columns) all in
    let count = c.in_ok-demands.demands.ok.0 in let same = length-map c.in_ok-demands.demands.items (constraint_of pool) in let whole = ap (λ (xs : List Constraint). length xs) c.in_ok-demands.ensures in
    let quotas : c.len-quotas.result ≡ length (quota_constraints pool) = omega (arith, c.len-quotas.ensures, count, same, whole) in
    same_program pool c.args.column_numbers.items columns c.in_ok-firsts.firsts.items c.in_ok-sizes.sizes.items c.in_ok-spans.spans.items c.in_ok-rows.rows.items c.len-quotas.result
    c.in_ok-firsts.ensures c.in_ok-sizes.ensures c.in_ok-spans.ensures rows quotas
