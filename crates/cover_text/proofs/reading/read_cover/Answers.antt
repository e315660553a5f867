use Rattle.std.proofs.Common.{◌≡◌, ℕ, List, ◌∙◌, subst, ap}
use Rattle.std.specs.Prelude.{Result, Ok, Err, IfOk}
use Rattle.define_covers.specs.Covers.{Cover}
use Rattle.define_covers.specs.CoverText.{IsCover, cover_spelling}
use Rattle.define_covers.specs.CoverReading.{read_cover}
use Rattle.define_covers.proofs.ReadAgain.{spelled_is_read}
use Rattle.define_covers.proofs.Spelled.{read_is_spelled}
use Rattle.text_lines.specs.declared.faults.TextStop.{TextStop}
use Rattle.cover_text.specs.Answers.{Reads}
use Rattle.cover_text.proofs.reading.read_cover.Goals as goal

spelled : (bytes : List ℕ) (r : Result Cover TextStop) → Reads (read_cover bytes) r → IfOk r (λ cover. IsCover cover × (bytes ≡ cover_spelling cover))
spelled bytes (Ok cover) h = read_is_spelled bytes cover h
spelled bytes (Err stop) h = tt

pub returns-clause-spelled : goal.returns-clause-spelled
returns-clause-spelled c = spelled c.args.bytes.now c.read_lines.result c.read_lines.ensures

pub returns-clause-read : goal.returns-clause-read
returns-clause-read c cover is same = subst (λ said. Reads said c.read_lines.result) (ap read_cover same ∙ spelled_is_read cover is) c.read_lines.ensures
