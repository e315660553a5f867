-- What contracts see of a cause: the causes of `define_covers`. The contracts of this crate and of those above cite it.
use Rattle.define_covers.specs.Covers as words
use Rattle.cover_text.specs.declared.fronts.Cause.{Cause}
use Rattle.cover_text.specs.declared.fronts.Cause.TheVariants.{Size, Value, Household, Closed, Cap}

-- a cause as contracts see it
abbrev pub seen_cause : Cause → words.Cause
seen_cause Size = words.BySize
seen_cause (Value number) = words.ByValue number
seen_cause Household = words.ByHousehold
seen_cause (Closed number) = words.ByClosed number
seen_cause Cap = words.ByCap
