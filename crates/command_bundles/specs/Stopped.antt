-- What `draw` answers if it draws nothing. The contract of `stopped` in src/draw.rt cites it.
use Rattle.std.specs.Prelude.{◌≡◌, [], string_bytes}
use Rattle.define_draws.specs.declared.DiceStop.TheVariants as dice
use Rattle.define_draws.specs.Draw.{Refused}
use Rattle.sealed_draw.specs.declared.drawn.DrawStop.{DrawStop}
use Rattle.sealed_draw.specs.declared.drawn.DrawStop.TheVariants.{SealDiffers, BadDigit, MoreDigits, OutOfMemory}
use Rattle.command_shell.specs.declared.status.Cause.TheVariants.{Rule}
use Rattle.command_shell.specs.Answers.{Saying, Stops}
use Rattle.command_meanings.specs.Draw.{refused_draw_line}

-- the answer is the line for this stop. If memory runs out there is no answer: the command returns an error
abbrev pub TellsStop : DrawStop → Saying → Type 0
TellsStop (SealDiffers given kept) answer = answer ≡ Stops Rule (refused_draw_line (string_bytes given) (string_bytes kept) Refused.SealDiffers)
TellsStop (BadDigit place) answer = answer ≡ Stops Rule (refused_draw_line [] [] (Refused.NoTicket (dice.BadDigit place)))
TellsStop (MoreDigits read) answer = answer ≡ Stops Rule (refused_draw_line [] [] (Refused.NoTicket (dice.MoreDigits read)))
TellsStop OutOfMemory answer = ⊥
