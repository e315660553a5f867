-- Small certificates on which the definitions are computed. Most of them are refused, nearly all for one reason alone.
use Rattle.std.specs.Prelude.{ℕ, List, [], ◌∷◌, filter, map, pos, negsuc, Option, Some, is_some}
use Rattle.define_pools.specs.declared.Standing.TheVariants.{Gone}
use Rattle.define_pools.specs.Building.{standing_set}
use Rattle.define_pools.specs.Certificate.{Answer, Stage}
use Rattle.define_pools.specs.Lottery.{Lottery, LotteryRow}
use Rattle.define_pools.specs.Pool.{Pool}
use Rattle.define_pools.specs.WorkedExamples.{four, four_lottery, four_stages, row, stage}
use Rattle.define_checks.specs.Caps.{classes_at}
use Rattle.define_checks.specs.Reasons.{Refusal, Refused, Verdict, reasons}

-- a lottery with its stages
abbrev pub answer : Lottery → List Stage → Answer
answer lottery stages = record { lottery = lottery; stages = stages }

abbrev pub drawn : ℕ → List LotteryRow → Lottery
drawn total rows = record { total = total; rows = rows }

-- a reason at a stage, with those who show it
abbrev pub refusal : ℕ → ℕ → List ℕ → Refusal
refusal stage reason who = record { stage = stage; reason = reason; who = who }

abbrev pub refused : ℕ → ℕ → List ℕ → Verdict
refused stage reason who = Refused (refusal stage reason who)

-- all reasons that hold
abbrev pub reasons_that_stand : Pool → Answer → List (Option Refusal)
reasons_that_stand pool answer = filter is_some (reasons pool answer)

-- the list with one reason, as the only one that holds
abbrev pub alone : ℕ → ℕ → List ℕ → List (Option Refusal)
alone stage reason who = Some (refusal stage reason who) ∷ []

-- ---- over two women, a and b, and two men, c and d

-- one stage, which settles all four volunteers
abbrev pub all_at_once : List Stage
all_at_once = stage (pos 2) (pos 1 ∷ pos 1 ∷ pos 1 ∷ pos 1 ∷ []) ∷ []

-- an answer with a panel of the two women and a panel of the two men
abbrev pub two_women : Answer
two_women = answer (drawn 2 (row (0 ∷ 1 ∷ []) 1 ∷ row (2 ∷ 3 ∷ []) 1 ∷ [])) all_at_once

-- two panels, each listed twice
abbrev pub twice : Answer
twice = answer (drawn 4 (row (0 ∷ 2 ∷ []) 1 ∷ row (1 ∷ 3 ∷ []) 1 ∷ row (1 ∷ 3 ∷ []) 1 ∷ row (0 ∷ 2 ∷ []) 1 ∷ [])) four_stages

-- a total of 3, though the two weights sum to 2
abbrev pub three_in_all : Answer
three_in_all = answer (drawn 3 (row (0 ∷ 2 ∷ []) 1 ∷ row (1 ∷ 3 ∷ []) 1 ∷ [])) four_stages

-- the men's weights are below 0 while they are unsettled
abbrev pub below_zero : Answer
below_zero = answer four_lottery (stage (pos 0) (pos 1 ∷ pos 1 ∷ negsuc 0 ∷ negsuc 0 ∷ []) ∷ stage (pos 0) (negsuc 0 ∷ negsuc 0 ∷ pos 1 ∷ pos 1 ∷ []) ∷ [])

-- a first stage that settles nobody
abbrev pub all_zero : Answer
all_zero = answer four_lottery (stage (pos 0) (pos 0 ∷ pos 0 ∷ pos 0 ∷ pos 0 ∷ []) ∷ four_stages)

-- b and d have twice the count of a and c
abbrev pub uneven : Answer
uneven = answer (drawn 3 (row (0 ∷ 2 ∷ []) 1 ∷ row (1 ∷ 3 ∷ []) 2 ∷ [])) all_at_once

-- a with d weighs 2, more than the first cap
abbrev pub low_cap : Answer
low_cap = answer four_lottery (stage (pos 1) (pos 1 ∷ pos 0 ∷ pos 0 ∷ pos 1 ∷ []) ∷ stage (pos 0) (negsuc 0 ∷ pos 1 ∷ pos 1 ∷ negsuc 0 ∷ []) ∷ [])

-- `low_cap` with another second stage, in which b, who is unsettled, has a weight below 0
abbrev pub low_cap_and_negative : Answer
low_cap_and_negative = answer four_lottery (stage (pos 1) (pos 1 ∷ pos 0 ∷ pos 0 ∷ pos 1 ∷ []) ∷ stage (pos 0) (negsuc 0 ∷ negsuc 0 ∷ pos 1 ∷ pos 1 ∷ []) ∷ [])

-- the panel of b and d weighs 0, less than the first cap
abbrev pub high_cap : Answer
high_cap = answer four_lottery (stage (pos 2) (pos 1 ∷ pos 0 ∷ pos 1 ∷ pos 0 ∷ []) ∷ all_at_once)

-- the men are left unsettled
abbrev pub one_stage : Answer
one_stage = answer four_lottery (stage (pos 1) (pos 1 ∷ pos 1 ∷ pos 0 ∷ pos 0 ∷ []) ∷ [])

-- ---- the same pool, after b is gone

abbrev pub without_b : Pool
without_b = standing_set four 1 Gone

-- a is settled while c and d have a lower count
abbrev pub too_early : Answer
too_early = answer (drawn 2 (row (0 ∷ 2 ∷ []) 1 ∷ row (0 ∷ 3 ∷ []) 1 ∷ []))
    (stage (pos 0) (pos 0 ∷ pos 1 ∷ pos 0 ∷ pos 0 ∷ []) ∷ stage (pos 1) (pos 1 ∷ pos 0 ∷ pos 0 ∷ pos 0 ∷ []) ∷ stage (pos 1) (pos 0 ∷ pos 0 ∷ pos 1 ∷ pos 1 ∷ []) ∷ [])

-- ---- one seat, for a or b

abbrev pub either_lottery : Lottery
either_lottery = drawn 2 (row (0 ∷ []) 1 ∷ row (1 ∷ []) 1 ∷ [])

abbrev pub either_stages : List Stage
either_stages = stage (pos 1) (pos 1 ∷ pos 1 ∷ []) ∷ []

-- ---- a pool in which a and c are of one household

-- in the first stage a and c weigh 2 together, in the second stage b and d do
abbrev pub household_stages : List Stage
household_stages = stage (pos 1) (pos 1 ∷ pos 0 ∷ pos 1 ∷ pos 0 ∷ []) ∷ stage (pos 1) (pos 0 ∷ pos 1 ∷ pos 0 ∷ pos 1 ∷ []) ∷ []

-- the members of each class of a check at the first stage of the list, which is the latest
abbrev pub members_at : Pool → List Stage → List (List ℕ)
members_at pool stages = map (λ class. class.members) (classes_at pool stages).classes
