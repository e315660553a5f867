-- A source and a sink in memory, and what a call of each does. Builds on Faults. The contracts of all objects in memory cite it, the keeper
-- of `office_keeper` included.
use Rattle.std.specs.Prelude.{ℕ, ◌+◌, ◌-◌, ◌==◌, ◌||◌, ◌++◌, Bool, List, length, take, drop, nat_lt, if◌then◌else◌}
use Rattle.std.specs.List.{list_any}
use Rattle.outside.specs.Faults.{raised}

-- the calls of an object: the numbers of those that are to fail, how many were made, and how many faults were counted
pub record Calls : Type 0 where
  pub failing : List ℕ
  pub made : ℕ
  pub faults : ℕ

-- no call was made yet
abbrev pub no_calls : List ℕ → Calls
no_calls failing = record { failing = failing; made = 0; faults = 0 }

-- true if the next call is to fail; calls are numbered from 1
abbrev pub next_fails : Calls → Bool
next_fails calls = list_any (λ number. number == raised calls.made) calls.failing

-- the calls after one more call, which counted a fault if `is_fault` holds
abbrev pub after_call : Calls → Bool → Calls
after_call calls is_fault = record calls { made = raised calls.made; faults = if is_fault then raised calls.faults else calls.faults }

-- a source: the bytes that are left, and its calls
pub record SourceState : Type 0 where
  pub left : List ℕ
  pub calls : Calls

-- the source after a read into a room of `size` bytes: a call that is to fail takes nothing, any other takes as much as fits
abbrev pub after_read : SourceState → ℕ → SourceState
after_read source size = record {
  left = if next_fails source.calls then source.left else drop size source.left;
  calls = after_call source.calls (next_fails source.calls);
}

-- a sink: what was written, how many bytes it takes in all, and its calls
pub record SinkState : Type 0 where
  pub written : List ℕ
  pub room : ℕ
  pub calls : Calls

-- a put fails if its call is to fail or if the piece doesn't fit
abbrev pub put_fails : SinkState → List ℕ → Bool
put_fails sink piece = next_fails sink.calls || nat_lt sink.room (length sink.written + length piece)

-- the sink after a put of `piece`: a call that is to fail appends nothing, any other appends as much as fits
abbrev pub after_put : SinkState → List ℕ → SinkState
after_put sink piece = record {
  written = if next_fails sink.calls then sink.written else sink.written ++ take (sink.room - length sink.written) piece;
  room = sink.room;
  calls = after_call sink.calls (put_fails sink piece);
}
