-- How a request ends, given what the desk serves for it. Used by the modules `serving` and `withdrawing`.
use Rattle.std.specs.Prelude.{◌≡◌, Option, option_map, ◌⊎◌}
use Rattle.define_offices.specs.Tables.{Tables}
use Rattle.define_desk.specs.Replies.{Reply, out_of_memory, unavailable}
use Rattle.define_desk.specs.Desk.{Served}
use Rattle.office_desk.specs.Sent.{Sent, sent_of}

-- `sent` is the reply `reply`, or the reply that memory ran out
abbrev pub IsSentFor : Reply → Sent → Type 0
IsSentFor reply sent = (sent ≡ sent_of reply) ⊎ (sent ≡ sent_of out_of_memory)

-- `serves.reply` is sent and the keeper, if it tells tables, tells `serves.tables`; or it is sent that the keeper failed or that memory ran
-- out, and the tables that the keeper tells are as before
pub data EndsAs (before : Option Tables) (serves : Served) (after : Option Tables) (sent : Sent) : Type 0 where
  Done : sent ≡ sent_of serves.reply → after ≡ option_map (λ told. serves.tables) before → EndsAs before serves after sent
  Failed : sent ≡ sent_of unavailable → after ≡ before → EndsAs before serves after sent
  WantsMemory : sent ≡ sent_of out_of_memory → after ≡ before → EndsAs before serves after sent
