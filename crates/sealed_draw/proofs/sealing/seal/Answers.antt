use Rattle.std.proofs.Common.{ap, ◌∙◌, ◌*◌, length}
use Rattle.std.proofs.lemmas.Result.{IfOk-weaker}
use Rattle.hex.proofs.HexLemmas.{length-encode_with}
use Rattle.hex.specs.Hex.{lower_digits}
use Rattle.sha2.proofs.Facts256.{length-sha256}
use Rattle.sealed_draw.proofs.sealing.seal.Goals as goal

pub returns-clause-digits : goal.returns-clause-digits
returns-clause-digits c =
    IfOk-weaker c.encode.result _ _
    (λ text e. ap length e ∙ length-encode_with lower_digits c.digest-digest.result
    ∙ ap (λ n. 2 * n) (ap length c.digest-digest.ensures ∙ length-sha256 c.args.bytes.now))
    c.encode.ensures
