-- What `legs` answers about a pool: the legs of the run under `limits`, if it finds an answer, or why there is none.
use Rattle.std.specs.Prelude.{◌≡◌, ◌<◌, ℕ, List, length}
use Rattle.std.specs.List.{All}
use Rattle.define_legs.specs.declared.Leg.{Leg}
use Rattle.define_legs.specs.Legs.{RunHasLegs, leg_bases}
use Rattle.define_legs.specs.LegTexts.{legs_text}
use Rattle.define_pools.specs.Certificate.{Answer}
use Rattle.define_pools.specs.Pool.{Pool}
use Rattle.define_rows.specs.Table.{Table}
use Rattle.define_runs.specs.Run.{Ending, Limits}
use Rattle.define_searches.specs.Classes.{classes_of}
use Rattle.command_shell.specs.Answers.{RightAnswers}
use Rattle.command_meanings.specs.Lottery.{LotteryMeans}

-- how many classes the pool has
abbrev pub class_count : Pool → ℕ
class_count pool = length (classes_of pool).classes

-- the run finds an answer, and the text tells its legs until then. Each has fewer pivots than there are sets of variables that could be
-- basic in it
pub record PrintsLegs (limits : Limits) (pool : Pool) (text : List ℕ) : Type 0 where
  pub last : Table
  pub answer : Answer
  pub legs : List Leg
  pub ends : RunHasLegs pool limits (Ending.Found last answer) legs
  pub short : All (λ leg. leg.pivots < leg_bases (class_count pool) leg) legs
  pub tells : text ≡ legs_text (class_count pool) legs

-- at the other statuses `legs` answers as `lottery`, since it makes the same run
abbrev pub LegsMeans : Limits → Pool → RightAnswers
LegsMeans limits pool = record (LotteryMeans limits pool) {
  -- status 0
  done = PrintsLegs limits pool;
}
