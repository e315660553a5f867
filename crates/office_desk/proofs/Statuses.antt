-- Replies whose status isn't 503: with these, `HasFault` holds if the keeper's count of faults stays the same.
use Rattle.std.proofs.Common.{◌≡◌, ℕ, ◌≤◌, Bool, true, false, cond, List, [], ◌∷◌, Option, Some, None, inl, inr, refl, sym, subst}
use Rattle.std.specs.Prelude.{◌==◌}
use Rattle.std.specs.Bool.{MatchBool}
use Rattle.std.specs.Str.{bytes_eq}
use Rattle.define_offices.specs.Tables.{Tables}
use Rattle.define_desk.specs.Requests.{Request}
use Rattle.define_desk.specs.Replies.{Reply, not_allowed}
use Rattle.define_desk.specs.Views.{Nothing, Own, Published, TheBundle, TheDraw, View, view}
use Rattle.define_desk.specs.Desk.{bundle_reply, draw_reply, if_by, own_reply, own_reply_by}
use Rattle.outside.specs.Faults.{Rose}
use Rattle.office_desk.specs.Answers.{HasFault}
use Rattle.office_desk.specs.Endings.{IsSentFor}
use Rattle.office_desk.specs.Sent.{Sent}

pub no_fault : (Why : Type 0) (count : ℕ) (reply : Reply) (sent : Sent) → (reply.status == 503) ≡ false → IsSentFor reply sent → HasFault Why count count sent.status
no_fault Why count reply sent h (inl is) =
    subst (λ (s : Sent). HasFault Why count count s.status) (sym is) (subst (λ (b : Bool). MatchBool b ((count ≤ count) × Rose count count × Why) (count ≡ count)) (sym h) refl)
no_fault Why count reply sent h (inr is) = subst (λ (s : Sent). HasFault Why count count s.status) (sym is) refl

if_status : (method : List ℕ) (request : Request) (reply : Reply) → (reply.status == 503) ≡ false → ((if_by method request reply).status == 503) ≡ false
if_status method request reply h = by (bytes_eq request.method method)
  where
    by : (b : Bool) → ((cond b reply (not_allowed method)).status == 503) ≡ false
    by true = h
    by false = refl

module _ (body : View → Own → List ℕ) where
  own_status_by : (shown : View) (own : Option Own) → ((own_reply_by body shown own).status == 503) ≡ false
  own_status_by shown None = refl
  own_status_by shown (Some own) = refl

  own_reply_status : (tables : Tables) (keys : List (List ℕ)) → ((own_reply body tables keys).status == 503) ≡ false
  own_reply_status tables [] = refl
  own_reply_status tables (key ∷ []) = own_status_by (view tables key) (view tables key).own
  own_reply_status tables (key ∷ other ∷ keys) = refl

  pub own_status : (method : List ℕ) (request : Request) (tables : Tables) (keys : List (List ℕ)) → ((if_by method request (own_reply body tables keys)).status == 503) ≡ false
  own_status method request tables keys = if_status method request (own_reply body tables keys) (own_reply_status tables keys)

pub bundle_status : (request : Request) (shown : Published) → ((bundle_reply request shown).status == 503) ≡ false
bundle_status request Nothing = refl
bundle_status request (TheBundle bundle) = if_status _ request _ refl
bundle_status request (TheDraw bundle tickets digits) = if_status _ request _ refl

pub draw_status : (request : Request) (shown : Published) → ((draw_reply request shown).status == 503) ≡ false
draw_status request Nothing = refl
draw_status request (TheBundle bundle) = refl
draw_status request (TheDraw bundle tickets digits) = if_status _ request _ refl
