use Rattle.std.proofs.Common.{◌≡◌, ◌++◌, List, ℕ, Vec, Global, length, ap, ◌∙◌}
use Rattle.std.specs.Fmt.{decimal}
use Rattle.define_desk.specs.Replies.{status_line}
use Rattle.office_desk.specs.Heads.{told_head}
use Rattle.office_desk.specs.Sent.{Sent}
use Rattle.office_desk.proofs.ReplyTexts.{told_bytes}
use Rattle.office_desk.proofs.replies.told_with.Goals as goal

pub returns : goal.returns
returns c =
    let media = c.args.media.now in
    let body = c.args.body.now in
    let made : c.into_bytes-bytes.result.items ≡ told_head media (length body) =
    ap (λ (bytes : Vec ℕ Global). bytes.items) c.into_bytes-bytes.ensures.value ∙ c.in_ok-head.ensures in
    let whole : c.extend_from_slice.new.self.items ≡ told_head media (length body) ++ body =
    c.in_ok-extend_from_slice.ensures.items ∙ ap (λ (bytes : List ℕ). bytes ++ body) made in
    c.told.ensures ∙ ap (λ (text : List ℕ). let sent : Sent = record { status = 200; bytes = text } in sent)
    (whole ∙ told_bytes (status_line 200) media (decimal (length body)) body)
