use Rattle.std.proofs.Common.{◌≡◌, ap, ◌∙◌, arith}
use Rattle.std.proofs.lemmas.Grind.{common_steps}
use Rattle.define_bundles.specs.BundleText.{bundle_text}
use Rattle.define_bundles.specs.BundleReading.{read_bundle}
use Rattle.define_bundles.proofs.ReadAgain.{spelled_is_read}
use Rattle.bundle_text.proofs.writing.write_bundle.Goals as goal

pub returns-clause-read : goal.returns-clause-read
returns-clause-read c =
    let spelled : c.push_answer.new.text.items ≡ bundle_text c.args.pool.now c.args.answer.now = grind (arith, common_steps) in
    ap read_bundle spelled ∙ spelled_is_read (record { pool = c.args.pool.now; answer = c.args.answer.now }) (record { is_pool = c.facts.ensures; in_ranges = c.requires })
