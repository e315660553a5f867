-- What is sent for the content of an answer. Used by the module `answers`.
use Rattle.office_desk.specs.Sent.{Sent, sent_of}
use Rattle.office_desk.specs.Refusals.{refusal_reply}
use Rattle.office_desk.specs.declared.answers.Content.{Content}
use Rattle.office_desk.specs.declared.answers.Content.TheVariants.{Told, Refused}

abbrev pub content_sent : Content → Sent
content_sent (Told bytes) = record { status = 200; bytes = bytes.items }
content_sent (Refused refusal) = sent_of (refusal_reply refusal)
