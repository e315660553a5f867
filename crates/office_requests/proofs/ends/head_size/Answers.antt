use Rattle.std.proofs.Common.{◌≡◌, ◌+◌, ◌<◌, length, drop, ap, sym, ◌∙◌, arith}
use Rattle.std.proofs.lemmas.List.{take_rest}
use Rattle.define_desk.specs.Requests.{empty_line}
use Rattle.office_requests.proofs.HeadSizes.{head_size-passed}
use Rattle.office_requests.proofs.ends.head_size.Goals as goal
use Rattle.office_requests.proofs.ends.head_size.Goals.{then-byte-eq10+else-ending-gt0, else-byte-eq10}

pub loop-at-preserved : goal.loop-at-preserved
loop-at-preserved c =
    let within : c.loop-at.at < length c.args.bytes.now = omega arith in
    elim c.if-byte-eq10.branch [
      | then-byte-eq10+else-ending-gt0 w ↦
          let zero : w.empty_line-ending.result ≡ 0 = omega (arith, w.if-ending-gt0.false) in
          let line : empty_line (drop (c.loop-at.at + 1) c.args.bytes.now) ≡ w.empty_line-ending.result =
          ap empty_line (sym (take_rest c.args.bytes.now (c.loop-at.at + 1))) ∙ sym w.empty_line-ending.ensures in
          head_size-passed c.args.bytes.now c.loop-at.at within (λ _. line ∙ zero) c.loop-at.invariant
      | else-byte-eq10 w ↦ head_size-passed c.args.bytes.now c.loop-at.at within (λ is. absurd (omega (arith, is, w.if-byte-eq10.false))) c.loop-at.invariant
    ]
