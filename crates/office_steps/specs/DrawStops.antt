-- Which refusal each stop of a draw is. The promise of `draw_refusal` cites it.
use Rattle.std.specs.Prelude.{◌≡◌, string_bytes}
use Rattle.define_offices.specs.Commands as office
use Rattle.sealed_draw.specs.declared.drawn.DrawStop.{DrawStop}
use Rattle.sealed_draw.specs.declared.drawn.DrawStop.TheVariants.{SealDiffers, BadDigit, MoreDigits, OutOfMemory}

-- `refusal` is this stop of a draw; running out of memory is no refusal
abbrev pub IsStop : DrawStop → office.Refusal → Type 0
IsStop (SealDiffers given kept) refusal = refusal ≡ office.SealDiffers (string_bytes given) (string_bytes kept)
IsStop (BadDigit place) refusal = refusal ≡ office.BadDigit place
IsStop (MoreDigits read) refusal = refusal ≡ office.MoreDigits read
IsStop OutOfMemory refusal = ⊥
