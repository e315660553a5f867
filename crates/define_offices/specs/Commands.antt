-- The commands of an office, and their outcomes: a reply, with or without a change, a refusal, the stop of a run, or a refused proof.
use Rattle.std.specs.Prelude.{ℕ, List, Option}
use Rattle.define_pools.specs.Pool.{Category}
use Rattle.define_bundles.specs.BundleText.{Bundle}
use Rattle.define_runs.specs.Run.{Ending, Limits}
use Rattle.define_proofs.specs.ProofVerdict.{Proof}
use Rattle.define_checks.specs.Reasons as reasons
use Rattle.define_offices.specs.declared.Part.{Part}
use Rattle.define_offices.specs.declared.Phase.{Phase}
use Rattle.define_offices.specs.Tables.{Charter, Entry}

-- a row that is to be registered, with its key as it was given
pub record Given : Type 0 where
  pub id : List ℕ
  pub key : List ℕ
  pub values : List (List ℕ)
  pub household : Option (List ℕ)

pub data Command : Type 0 where
  SetCharter : (charter : Charter) → Command
  SetRules : (rules : List Category) → Command
  Register : (rows : List Given) → Command
  -- an open round is to be solved by the stated run
  Solve : (round : ℕ) (limits : Limits) → Command
  -- an open round is to be solved by a proof, whoever made it
  Keep : (round : ℕ) (proof : Proof) → Command
  -- with a round number of tickets, the lottery shortened to so many is drawn from
  Seal : (round : ℕ) (tickets : Option ℕ) → Command
  Draw : (round : ℕ) (given digits : List ℕ) → Command
  Drop : (round : ℕ) (id : List ℕ) → Command
  NextRound : (after : ℕ) → Command
  Show : (round : ℕ) → Command
  Withdraw : (key : List ℕ) → Command
  -- other bounds for an open round, from round 2 on
  SetBounds : (round : ℕ) (bounds : List Category) → Command
  -- what `Draw` would draw, with no change
  TryDraw : (round : ℕ) (given digits : List ℕ) → Command
  -- a dropout that was entered by mistake is taken back
  Undrop : (round : ℕ) (id : List ℕ) → Command
  -- the last round is taken away while it is open, so that the round before it is the last again; from round 2 on
  Reopen : (round : ℕ) → Command
  -- a withdrawal that the office enters for a volunteer
  WithdrawId : (id : List ℕ) → Command

pub data Change : Type 0 where
  CharterSet : (charter : Charter) → Change
  RulesSet : (rules : List Category) → Change
  Added : (entries : List Entry) → Change
  SolvedWith : (round : ℕ) (bundle : Bundle) → Change
  SealTold : (round : ℕ) (tickets : Option ℕ) → Change
  DrawnWith : (round : ℕ) (digits : List ℕ) → Change
  DroppedOut : (round : ℕ) (id : List ℕ) → Change
  Begun : Change
  Withdrawn : (place : ℕ) → Change
  BoundsSet : (bounds : List Category) → Change
  TakenBack : (round : ℕ) (id : List ℕ) → Change
  Reopened : (round : ℕ) → Change

pub data Reply : Type 0 where
  -- the lines that are printed as one text, each ended by LF
  Lines : (text : List ℕ) → Reply
  -- the pool of the round has no quota panel
  NoPanel : Reply

pub data Refusal : Type 0 where
  NoRound : (last : ℕ) → Refusal
  Incomplete : (what : Part) → Refusal
  WrongPhase : (phase : Phase) → Refusal
  -- `what` is the word `rules` if rules and rows don't fit each other, else the id of a row
  RowDiffers : (what : List ℕ) → Refusal
  KeyTaken : (id : List ℕ) → Refusal
  RegisterFull : (rows : ℕ) → Refusal
  NotSealed : (phase : Phase) → Refusal
  SealDiffers : (given kept : List ℕ) → Refusal
  DrawDiffers : (kept : List ℕ) → Refusal
  BadDigit : (place : ℕ) → Refusal
  MoreDigits : (read : ℕ) → Refusal
  NotSeated : (id : List ℕ) → Refusal
  RoundClosed : (last : ℕ) → Refusal
  -- the proof is valid, but its pool isn't the round's
  OtherPool : (round : ℕ) → Refusal
  -- a withdrawal: no row of the register has the key
  UnknownKey : Refusal
  -- a withdrawal: the last round is not open, or the volunteer is seated in it
  TooLate : Refusal
  -- the round was sealed with `kept` tickets, or without a number of tickets if `kept` is 0
  TicketsDiffer : (kept : ℕ) → Refusal
  NotDropped : (id : List ℕ) → Refusal
  -- a withdrawal that the office enters: no row of the register has the id
  UnknownId : (id : List ℕ) → Refusal

-- the outcome of a command: a reply, with a change if the tables change; or a refusal, the stop of a run, or a refused proof, at which the
-- tables stay as they are
pub data Outcome : Type 0 where
  Replies : (change : Option Change) (reply : Reply) → Outcome
  Refuses : (refusal : Refusal) → Outcome
  -- the run over the pool stops; `ending` says why
  Stops : (ending : Ending) → Outcome
  -- the proof is refused, with the first reason that holds
  Unproved : (refusal : reasons.Refusal) → Outcome
