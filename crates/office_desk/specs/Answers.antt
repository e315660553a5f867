-- What the desk sends for a request, and what it does to the tables that the keeper tells. Used by the promise of `answer`, the module
-- `withdrawing`, and Visits of `office_http`.
use Rattle.std.specs.Prelude.{◌≡◌, ◌≤◌, ◌==◌, ℕ, List, [], ◌∷◌, Option, Some, None, option_map}
use Rattle.std.specs.Bool.{MatchBool}
use Rattle.define_offices.specs.Commands.{Withdraw}
use Rattle.define_offices.specs.Tables.{Tables}
use Rattle.define_desk.specs.Requests.{Request, Asking, TooLarge, NoRequest, Asks}
use Rattle.define_desk.specs.Replies.{bad_request, out_of_memory, too_large, unavailable}
use Rattle.define_desk.specs.Desk.{served}
use Rattle.office_core.specs.Acting.{FailsAtStore, IsLoaded}
use Rattle.office_core.specs.Keeping.{Course, Load, with_call}
use Rattle.office_core.specs.declared.keeper.KeeperStop.TheVariants.{Failed}
use Rattle.outside.specs.Faults.{Rose}
use Rattle.office_desk.specs.Sent.{Sent, sent_of}

-- what is sent for a request over the tables that were loaded. If the keeper tells its tables, they are afterwards as the definitions of
-- the desk say
pub record IsServed (before : Option Tables) (tables : Tables) (request : Request) (after : Option Tables) (sent : Sent) : Type 0 where
  pub replies : sent ≡ sent_of (served tables request).reply
  pub leaves : after ≡ option_map (λ told. (served tables request).tables) before

-- what is sent for a request. After a fault of the keeper, and if memory runs out, the tables that the keeper tells are as before
pub data IsReplyTo (before : Option Tables) (request : Request) (after : Option Tables) (sent : Sent) : Type 0 where
  Replied : (tables : Tables) → IsLoaded before tables → IsServed before tables request after sent → IsReplyTo before request after sent
  Unavailable : sent ≡ sent_of unavailable → after ≡ before → IsReplyTo before request after sent
  NoMemory : sent ≡ sent_of out_of_memory → after ≡ before → IsReplyTo before request after sent

-- `sent` is a right reply to what the bytes ask for, and `after` are the tables after it. If the bytes are too large or no request, the
-- tables stay as they are
abbrev pub IsDeskAnswer : Option Tables → Asking → Option Tables → Sent → Type 0
IsDeskAnswer before TooLarge after sent = (sent ≡ sent_of too_large) × (after ≡ before)
IsDeskAnswer before NoRequest after sent = (sent ≡ sent_of bad_request) × (after ≡ before)
IsDeskAnswer before (Asks request) after sent = IsReplyTo before request after sent

-- ---- the faults of the keeper

-- exactly one key was given, and the keeper failed when it was to store the change of the withdrawal with this key over the tables
abbrev pub FailsToStore : Tables → List (List ℕ) → Course → Course → Type 0
FailsToStore tables [] before after = ⊥
FailsToStore tables (key ∷ []) before after = FailsAtStore tables (Withdraw key) before after
FailsToStore tables (key ∷ other ∷ keys) before after = ⊥

-- the keeper failed at a call that the request gave cause for: its first one, to load the tables; or its second one, to store a withdrawal
pub data FailsInTurn (told : Option Tables) (keys : List (List ℕ)) (before after : Course) : Type 0 where
  ToLoad : after ≡ with_call before (Load (Some Failed)) → FailsInTurn told keys before after
  ToStore : (tables : Tables) → IsLoaded told tables → FailsToStore tables keys (with_call before (Load None)) after → FailsInTurn told keys before after

-- the same for what was asked. What isn't a request gives no cause for a call
abbrev pub FailsFor : Option Tables → Asking → Course → Course → Type 0
FailsFor told TooLarge before after = ⊥
FailsFor told NoRequest before after = ⊥
FailsFor told (Asks request) before after = FailsInTurn told request.keys before after

-- the keeper counted a fault exactly if the status is 503, and then `Why` holds
abbrev pub HasFault : Type 0 → ℕ → ℕ → ℕ → Type 0
HasFault Why before now status = MatchBool (status == 503) ((before ≤ now) × Rose before now × Why) (now ≡ before)
