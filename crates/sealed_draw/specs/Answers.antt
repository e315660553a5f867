-- What `draw` may return, and of which row a drawn panel is. Builds on Draw and Tickets of `define_draws`. The promise of `draw` cites it,
-- and so do `short_tickets`, `command_questions`, and proofs of `command_bundles`, `office_steps` and `office_tables`.
use Rattle.std.specs.Prelude.{◌≡◌, ◌≤ℤ◌, ℕ, pos, List, Result, Ok, Err, string_bytes, unsigned_abs, ⊤}
use Rattle.define_pools.specs.Lottery.{Lottery}
use Rattle.define_draws.specs.declared.DiceStop.TheVariants as dice
use Rattle.define_draws.specs.Draw.{Refused, draw, panel_at}
use Rattle.define_draws.specs.Tickets.{HoldsTicket, weights_of}
use Rattle.sealed_draw.specs.declared.drawn.Draw.{Draw}
use Rattle.sealed_draw.specs.declared.drawn.DrawStop.{DrawStop}
use Rattle.sealed_draw.specs.declared.drawn.DrawStop.TheVariants.{SealDiffers, BadDigit, MoreDigits, OutOfMemory}

-- the answer is what the definition draws from the lottery, or why it draws nothing; running out of memory is allowed at any time
abbrev pub DrawSays : Lottery → List ℕ → List ℕ → List ℕ → Result Draw DrawStop → Type 0
DrawSays lottery kept given digits (Ok drawn) =
    (draw lottery kept given digits ≡ Ok (record { ticket = unsigned_abs drawn.ticket; used = drawn.used; panel = drawn.panel })) × (pos 0 ≤ℤ drawn.ticket)
DrawSays lottery kept given digits (Err (SealDiffers as_given as_kept)) =
    (draw lottery kept given digits ≡ Err Refused.SealDiffers) × (string_bytes as_given ≡ given) × (string_bytes as_kept ≡ kept)
DrawSays lottery kept given digits (Err (BadDigit place)) = draw lottery kept given digits ≡ Err (Refused.NoTicket (dice.BadDigit place))
DrawSays lottery kept given digits (Err (MoreDigits read)) = draw lottery kept given digits ≡ Err (Refused.NoTicket (dice.MoreDigits read))
DrawSays lottery kept given digits (Err OutOfMemory) = ⊤

-- the panel is that of the row whose range has the ticket
pub record IsOfRow (lottery : Lottery) (ticket : ℕ) (panel : List ℕ) : Type 0 where
  pub row : ℕ
  pub holds : HoldsTicket (weights_of lottery) row ticket
  pub panel_is : panel ≡ panel_at lottery row
