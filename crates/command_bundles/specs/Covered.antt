-- What `cover` answers once a cover is made, or the certificate is refused. The contract of `told` in src/its_cover.rt cites it.
use Rattle.std.specs.Prelude.{◌≡◌}
use Rattle.define_covers.specs.CoverText.{IsCover, cover_spelling}
use Rattle.cover_cert.specs.declared.making.Covered.{Covered}
use Rattle.cover_cert.specs.declared.making.Covered.TheVariants.{Cover, Refused}
use Rattle.command_meanings.specs.Check.{refused_line}
use Rattle.command_shell.specs.declared.status.Printed.TheVariants as printed
use Rattle.command_shell.specs.Answers.{Saying, Prints}

abbrev pub TellsCovered : Covered → Saying → Type 0
TellsCovered (Cover cover) answer = IsCover cover × (answer ≡ Prints printed.Done (cover_spelling cover))
TellsCovered (Refused stage reason who) answer =
    answer ≡ Prints printed.Refused (refused_line (record { stage = stage; reason = reason; who = who.items }))
