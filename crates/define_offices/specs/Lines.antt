-- The lines that the replies and refusals of an office print, each without its LF. Those of a seal and of a draw are in `define_draws`.
use Rattle.std.specs.Prelude.{ℕ, List, [], ◌∷◌, length, codes}
use Rattle.std.specs.Fmt.{decimal}
use Rattle.define_lines.specs.Lines.{line_of, text_of}
use Rattle.define_bundles.specs.BundleText.{Bundle}
use Rattle.define_offices.specs.declared.Part.{Part}
use Rattle.define_offices.specs.declared.Part.TheVariants as part
use Rattle.define_offices.specs.declared.Phase.{Phase}
use Rattle.define_offices.specs.declared.Phase.TheVariants as phase
use Rattle.define_offices.specs.Commands.{Reply, Lines, Refusal, NoRound, Incomplete, WrongPhase, RowDiffers, KeyTaken, RegisterFull, NotSealed, SealDiffers, DrawDiffers, BadDigit, MoreDigits, NotSeated, RoundClosed, OtherPool, UnknownKey, TooLate, TicketsDiffer, NotDropped, UnknownId}

abbrev pub phase_name : Phase → List ℕ
phase_name phase.Open = codes "Open"
phase_name phase.Solved = codes "Solved"
phase_name phase.Sealed = codes "Sealed"
phase_name phase.Drawn = codes "Drawn"

-- ---- replies

abbrev pub one_line : List ℕ → Reply
one_line line = Lines (text_of (line ∷ []))

abbrev pub charter_line : List ℕ → List ℕ
charter_line word = line_of (codes "charter" ∷ word ∷ [])

abbrev pub rules_line : List ℕ → List ℕ
rules_line word = line_of (codes "rules" ∷ word ∷ [])

-- how many rows were added, how many were there already, and how many the register has afterwards
abbrev pub register_line : ℕ → ℕ → ℕ → List ℕ
register_line added repeated all =
    line_of (codes "register" ∷ codes "added" ∷ decimal added ∷ codes "repeated" ∷ decimal repeated ∷ codes "all" ∷ decimal all ∷ [])

-- the round, how many panels its lottery has, and the lottery's total
abbrev pub solved_line : ℕ → Bundle → List ℕ
solved_line round bundle =
    line_of (codes "solved" ∷ decimal round ∷ decimal (length bundle.answer.lottery.rows) ∷ decimal bundle.answer.lottery.total ∷ [])

abbrev pub dropped_line : ℕ → List ℕ → List ℕ
dropped_line round id = line_of (codes "dropped" ∷ decimal round ∷ id ∷ [])

abbrev pub undropped_line : ℕ → List ℕ → List ℕ
undropped_line round id = line_of (codes "undropped" ∷ decimal round ∷ id ∷ [])

abbrev pub round_line : ℕ → List ℕ
round_line number = line_of (codes "round" ∷ decimal number ∷ [])

-- the number of the round that was taken away
abbrev pub reopened_line : ℕ → List ℕ
reopened_line number = line_of (codes "reopened" ∷ decimal number ∷ [])

abbrev pub withdrawn_line : List ℕ → List ℕ
withdrawn_line id = line_of (codes "withdrawn" ∷ id ∷ [])

-- ---- refusals

abbrev pub part_name : Part → List ℕ
part_name part.Charter = codes "charter"
part_name part.Rules = codes "rules"
part_name part.Drops = codes "drops"

-- a refusal's name, then its values
abbrev pub refusal_fields : Refusal → List (List ℕ)
refusal_fields (NoRound last) = codes "NoRound" ∷ decimal last ∷ []
refusal_fields (Incomplete what) = codes "Incomplete" ∷ part_name what ∷ []
refusal_fields (WrongPhase phase) = codes "WrongPhase" ∷ phase_name phase ∷ []
refusal_fields (RowDiffers what) = codes "RowDiffers" ∷ what ∷ []
refusal_fields (KeyTaken id) = codes "KeyTaken" ∷ id ∷ []
refusal_fields (RegisterFull rows) = codes "RegisterFull" ∷ decimal rows ∷ []
refusal_fields (NotSealed phase) = codes "NotSealed" ∷ phase_name phase ∷ []
refusal_fields (SealDiffers given kept) = codes "SealDiffers" ∷ given ∷ kept ∷ []
refusal_fields (DrawDiffers kept) = codes "DrawDiffers" ∷ kept ∷ []
refusal_fields (BadDigit place) = codes "BadDigit" ∷ decimal place ∷ []
refusal_fields (MoreDigits read) = codes "MoreDigits" ∷ decimal read ∷ []
refusal_fields (NotSeated id) = codes "NotSeated" ∷ id ∷ []
refusal_fields (RoundClosed last) = codes "RoundClosed" ∷ decimal last ∷ []
refusal_fields (OtherPool round) = codes "OtherPool" ∷ decimal round ∷ []
refusal_fields UnknownKey = codes "UnknownKey" ∷ []
refusal_fields TooLate = codes "TooLate" ∷ []
refusal_fields (TicketsDiffer kept) = codes "TicketsDiffer" ∷ decimal kept ∷ []
refusal_fields (NotDropped id) = codes "NotDropped" ∷ id ∷ []
refusal_fields (UnknownId id) = codes "UnknownId" ∷ id ∷ []

abbrev pub rule_line : Refusal → List ℕ
rule_line refusal = line_of (codes "rule" ∷ refusal_fields refusal)
