use Rattle.std.proofs.Common.{◌∙◌, ◌++◌, ap, ap₂, map, arith}
use Rattle.std.specs.List.{enumerate_from}
use Rattle.std.proofs.lemmas.List.{take_all}
use Rattle.std.proofs.lemmas.List.FromFn.{length-enumerate_from}
use Rattle.define_proofs.specs.Constraints.{counting, value_constraint}
use Rattle.prove_program.specs.declared.demands.Counted.TheVariants.{WithValue}
use Rattle.prove_program.specs.Demands.{constraint_of, is_counted}
use Rattle.prove_program.proofs.ListSteps.{mapped_more, numbered_at}
use Rattle.prove_program.proofs.demands.push_values.Goals as goal

pub loop-value-preserved : goal.loop-value-preserved
loop-value-preserved c =
    let pool = c.args.pool.now in let place = c.args.category in let values = c.args.values.now in let k = c.loop-value.value in
    let value = c.index-values-value.result in
    let many = length-enumerate_from 0 values in
    mapped_more (constraint_of pool) (value_constraint pool place) (map (constraint_of pool) c.args.demands.now.items) (enumerate_from 0 values) k (k, value) c.loop-value.demands.items c.push.new.self.items
    (record { counted = WithValue place k; lower = c.lower.result; upper = c.upper.result })
    (omega (arith, many)) (numbered_at values k value (omega arith) c.index-values-value.is)
    (ap₂ (λ lower upper. counting pool (is_counted pool (WithValue place k)) lower upper) c.lower.ensures c.upper.ensures)
    c.in_ok-push.ensures.items c.loop-value.invariant

pub returns : goal.returns
returns c =
    let pool = c.args.pool.now in let values = c.args.values.now in
    let many = length-enumerate_from 0 values in
    c.loop-value.invariant
    ∙ ap (λ zs. map (constraint_of pool) c.args.demands.now.items ++ map (value_constraint pool c.args.category) zs) (take_all c.loop-value.value (enumerate_from 0 values) (omega (arith, many)))
