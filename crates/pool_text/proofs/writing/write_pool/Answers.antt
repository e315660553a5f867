use Rattle.std.proofs.Common.{◌≡◌, ap, ◌∙◌, arith}
use Rattle.std.proofs.lemmas.Grind.{common_steps}
use Rattle.define_bundles.specs.PoolText.{spelling}
use Rattle.define_bundles.specs.PoolReading.{read}
use Rattle.define_bundles.proofs.PoolReadAgain.{spelled_is_read}
use Rattle.pool_text.proofs.writing.write_pool.Goals as goal

pub returns-clause-read : goal.returns-clause-read
returns-clause-read c =
    let spelled : c.push_pool.new.text.items ≡ spelling c.args.pool.now = grind (arith, common_steps) in
    ap read spelled ∙ spelled_is_read c.args.pool.now c.facts.ensures
