-- What `draw` answers: the panel that the digits of dice draw from a bundle, if the given seal is the bundle's. The bundle's seal is
-- computed from its text, so a panel is drawn only from a bundle whose seal was given.
use Rattle.std.specs.Prelude.{◌≡◌, ℕ, List, [], ◌∷◌, ◌++◌, codes, Ok, Err}
use Rattle.std.specs.Fmt.{decimal}
use Rattle.define_lines.specs.Lines.{text_of}
use Rattle.define_pools.specs.Lottery.{TotalAgrees}
use Rattle.define_bundles.specs.BundleText.{Bundle}
use Rattle.define_draws.specs.declared.DiceStop.TheVariants.{BadDigit, MoreDigits}
use Rattle.define_draws.specs.Draw.{Drawn, Refused, draw}
use Rattle.command_shell.specs.Answers.{RightAnswers, no_answer}
use Rattle.command_shell.specs.Lines.{input_line, line}
use Rattle.command_meanings.specs.Lines.{panel_line}
use Rattle.define_draws.specs.Lines.{bundle_seal, ticket_line as line_of_ticket}

-- the line of the ticket with how many digits were read, with its LF
abbrev pub ticket_line : Drawn → List ℕ
ticket_line drawn = text_of (line_of_ticket drawn.ticket drawn.used ∷ [])

-- the line of the ticket, then the line of the ids of the panel's members
abbrev pub drawn_lines : Bundle → Drawn → List ℕ
drawn_lines bundle drawn = ticket_line drawn ++ panel_line bundle.pool drawn.panel

-- the line for a bundle whose weights don't sum to its total: a fault of kind 14 in line 0
abbrev pub wrong_total_line : List ℕ
wrong_total_line = input_line (record { line = 0; kind = 14 })

-- the line that says why nothing is drawn; `given` is the given seal, and `kept` the bundle's
abbrev pub refused_draw_line : List ℕ → List ℕ → Refused → List ℕ
refused_draw_line given kept Refused.SealDiffers = line (codes "rule" ∷ codes "SealDiffers" ∷ given ∷ kept ∷ [])
refused_draw_line given kept (Refused.NoTicket (BadDigit place)) = line (codes "rule" ∷ codes "BadDigit" ∷ decimal place ∷ [])
refused_draw_line given kept (Refused.NoTicket (MoreDigits read)) = line (codes "rule" ∷ codes "MoreDigits" ∷ decimal read ∷ [])

-- the text is the two lines of the ticket and panel that are drawn
pub record PrintsDrawn (given digits : List ℕ) (bundle : Bundle) (text : List ℕ) : Type 0 where
  pub drawn : Drawn
  pub total : TotalAgrees bundle.answer.lottery
  pub draws : draw bundle.answer.lottery (bundle_seal bundle) given digits ≡ Ok drawn
  pub lines : text ≡ drawn_lines bundle drawn

-- the weights don't sum to the total, and the text is the line that says so
pub record HasWrongTotal (bundle : Bundle) (text : List ℕ) : Type 0 where
  pub total : TotalAgrees bundle.answer.lottery → ⊥
  pub line : text ≡ wrong_total_line

-- the given seal isn't the bundle's, or the digits name no ticket; the text is the line that says which
pub record RefusesDraw (given digits : List ℕ) (bundle : Bundle) (text : List ℕ) : Type 0 where
  pub refused : Refused
  pub total : TotalAgrees bundle.answer.lottery
  pub draws : draw bundle.answer.lottery (bundle_seal bundle) given digits ≡ Err refused
  pub line : text ≡ refused_draw_line given (bundle_seal bundle) refused

abbrev pub DrawMeans : List ℕ → List ℕ → Bundle → RightAnswers
DrawMeans given digits bundle = record no_answer {
  -- status 0
  done = PrintsDrawn given digits bundle;
  -- status 3
  input = HasWrongTotal bundle;
  -- status 6
  rule = RefusesDraw given digits bundle;
}
