use Rattle.std.proofs.Common.{◌≡◌, ℕ, List, ◌∙◌, subst, ap}
use Rattle.std.specs.Prelude.{Result, Ok, Err, IfOk}
use Rattle.define_pools.specs.Pool.{Pool, IsPool}
use Rattle.define_bundles.specs.PoolText.{spelling}
use Rattle.define_bundles.specs.PoolReading.{read}
use Rattle.define_bundles.proofs.PoolReadAgain.{spelled_is_read}
use Rattle.define_bundles.proofs.PoolSpelled.{read_is_spelled}
use Rattle.pool_text.specs.declared.faults.ReadPool.{ReadPool}
use Rattle.pool_text.specs.Answers.{Reads}
use Rattle.pool_text.proofs.reading.read_pool.Goals as goal

spelled : (bytes : List ℕ) (r : Result Pool ReadPool) → Reads (read bytes) r → IfOk r (λ pool. IsPool pool × (bytes ≡ spelling pool))
spelled bytes (Ok pool) h = read_is_spelled bytes pool h
spelled bytes (Err stop) h = tt

pub returns-clause-spelled : goal.returns-clause-spelled
returns-clause-spelled c = spelled c.args.bytes.now c.read_lines.result c.read_lines.ensures.exact

pub returns-clause-read : goal.returns-clause-read
returns-clause-read c pool has same = subst (λ said. Reads said c.read_lines.result) (ap read same ∙ spelled_is_read pool has) c.read_lines.ensures.exact
