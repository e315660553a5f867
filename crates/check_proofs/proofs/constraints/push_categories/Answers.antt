use Rattle.define_proofs.specs.Constraints.{category_constraints}
use Rattle.check_proofs.proofs.Rows.{all_several, several_more}
use Rattle.check_proofs.proofs.constraints.push_categories.Goals as goal

pub loop-c-preserved : goal.loop-c-preserved
loop-c-preserved c =
    several_more c.args.rows.now.items c.categories-category-items.result.now c.args.pool.now.categories c.categories-category-items.ensures c.loop-c.c (category_constraints c.args.pool.now)
    c.loop-c.rows.items c.push_values.new.rows.items c.category-item.result c.loop-c-test.true c.category-item.is c.loop-c.invariant c.in_ok-push_values.ensures

pub returns : goal.returns
returns c =
    all_several c.args.rows.now.items c.categories-category-items.result.now c.args.pool.now.categories c.categories-category-items.ensures c.loop-c.c (category_constraints c.args.pool.now)
    c.loop-c.rows.items c.loop-c-test.false c.loop-c.invariant
