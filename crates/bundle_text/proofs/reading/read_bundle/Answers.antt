use Rattle.std.proofs.Common.{◌≡◌, ℕ, List, ◌∙◌, subst, ap}
use Rattle.std.specs.Prelude.{Result, Ok, Err, IfOk}
use Rattle.define_bundles.specs.BundleText.{Bundle, IsBundle, bundle_spelling}
use Rattle.define_bundles.specs.BundleReading.{read_bundle}
use Rattle.define_bundles.proofs.ReadAgain.{spelled_is_read}
use Rattle.define_bundles.proofs.Spelled.{read_is_spelled}
use Rattle.bundle_text.specs.declared.faults.ReadBundle.{ReadBundle}
use Rattle.bundle_text.specs.Answers.{Reads}
use Rattle.bundle_text.proofs.reading.read_bundle.Goals as goal

spelled : (bytes : List ℕ) (r : Result Bundle ReadBundle) → Reads (read_bundle bytes) r → IfOk r (λ bundle. IsBundle bundle × (bytes ≡ bundle_spelling bundle))
spelled bytes (Ok bundle) h = read_is_spelled bytes bundle h
spelled bytes (Err stop) h = tt

pub returns-clause-spelled : goal.returns-clause-spelled
returns-clause-spelled c = spelled c.args.bytes.now c.read_lines.result c.read_lines.ensures

pub returns-clause-read : goal.returns-clause-read
returns-clause-read c bundle is same = subst (λ said. Reads said c.read_lines.result) (ap read_bundle same ∙ spelled_is_read bundle is) c.read_lines.ensures
