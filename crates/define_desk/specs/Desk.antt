-- The desk: what it replies to the bytes of a connection over the tables of an office, and the tables afterwards. If several refusals
-- apply, it replies the first one of 413, 400, 404, 405, 401, 409.
use Rattle.std.specs.Prelude.{◌≡◌, ℕ, ◌+◌, ◌-◌, ◌++◌, nat_lt, nat_le, if◌then◌else◌, Bool, false, not, ◌&&◌, List, [], ◌∷◌, length, map, take, drop, bytes_eq, codes, Option, Some, None, option_map, unwrap_or}
use Rattle.std.specs.Char.{is_ascii_digit}
use Rattle.std.specs.Fmt.{decimal}
use Rattle.std.specs.List.{list_all}
use Rattle.std.specs.Str.Parse.{digits_value}
use Rattle.json.specs.Print.{quoted}
use Rattle.frac128.specs.Fractions.{fraction_text, lowest_of}
use Rattle.define_pools.specs.Lists.{includes, includes_list}
use Rattle.define_pools.specs.Lottery.{Lottery, count}
use Rattle.define_pools.specs.Pool.{Volunteer}
use Rattle.define_bundles.specs.BundleText.{Bundle, bundle_spelling}
use Rattle.define_offices.specs.Tables.{Entry, Tables}
use Rattle.define_offices.specs.Commands.{Outcome, Replies, Refuses, Stops, Unproved}
use Rattle.define_offices.specs.Deciding.{drawn_ids, place_of_hash, withdraw_at, with_hash}
use Rattle.define_offices.specs.Lines.{phase_name}
use Rattle.define_draws.specs.Lines.{bundle_seal}
use Rattle.define_offices.specs.Pools.{drawn_of}
use Rattle.define_offices.specs.Steps.{tables_after}
use Rattle.define_draws.specs.Seal.{seal_of}
use Rattle.define_desk.specs.Requests.{Request, Asking, TooLarge, NoRequest, Asks, AreAsking}
use Rattle.define_desk.specs.Replies.{Reply, bad_request, not_allowed, not_found, numbers, text_or_null, texts, told, told_text, too_large, too_late, truth, truth_or_null, unknown_key}
use Rattle.define_desk.specs.Views.{Own, Published, Nothing, TheBundle, TheDraw, View, last_published, published, published_of, view}

-- ---- pages and their paths

-- what a path names: the bundle of a round, its draw, what a volunteer sees, whether a volunteer has a seat, and a volunteer's withdrawal
pub data Page : Type 0 where
  BundlePage : (round : List ℕ) → Page
  DrawPage : (round : List ℕ) → Page
  OwnPage : Page
  SeatPage : Page
  WithdrawalPage : Page

-- the rest of the path after `front`, if the path begins with `front`
abbrev pub after_front : List ℕ → List ℕ → Option (List ℕ)
after_front front path = if bytes_eq (take (length front) path) front then Some (drop (length front) path) else None

-- the page of a round: its bundle if the path begins with `/public/bundle/`, or its draw if the path begins with `/public/draw/`. The rest
-- of the path names the round
abbrev pub round_page : Option (List ℕ) → Option (List ℕ) → Option Page
round_page (Some round) draw = Some (BundlePage round)
round_page None (Some round) = Some (DrawPage round)
round_page None None = None

abbrev pub page_of : List ℕ → Option Page
page_of path =
    if bytes_eq path (codes "/me") then Some OwnPage
    else if bytes_eq path (codes "/me/seat") then Some SeatPage
    else if bytes_eq path (codes "/me/withdraw") then Some WithdrawalPage
    else round_page (after_front (codes "/public/bundle/") path) (after_front (codes "/public/draw/") path)

-- the number of a round that a text of 1 to 4 digits names; for any other text 0, which is no round's number
abbrev pub round_named : List ℕ → ℕ
round_named text = if nat_lt 0 (length text) && nat_le (length text) 4 && list_all is_ascii_digit text then digits_value 10 text else 0

-- `reply` if the request has the page's method `method`, else the reply that this method alone is allowed
abbrev pub if_by : List ℕ → Request → Reply → Reply
if_by method request reply = if bytes_eq request.method method then reply else not_allowed method

-- ---- the replies that anybody may ask for: a round's bundle and its draw

abbrev pub bundle_reply : Request → Published → Reply
bundle_reply request Nothing = not_found
bundle_reply request (TheBundle bundle) = if_by (codes "GET") request (told_text (bundle_spelling bundle))
bundle_reply request (TheDraw bundle tickets digits) = if_by (codes "GET") request (told_text (bundle_spelling bundle))

-- the end of the body for a draw, with the round number of tickets if one was kept with the seal
abbrev pub draw_end : Option ℕ → List ℕ
draw_end None = codes "}"
draw_end (Some tickets) = codes ",\"tickets\":" ++ quoted (decimal tickets) ++ codes "}"

abbrev pub draw_body : Bundle → Option ℕ → List ℕ → List ℕ
draw_body bundle tickets digits =
    codes "{\"digits\":" ++ quoted digits
    ++ codes ",\"panel\":" ++ texts (drawn_ids bundle tickets digits)
    ++ codes ",\"seal\":" ++ quoted (bundle_seal bundle)
    ++ codes ",\"ticket\":" ++ quoted (decimal (drawn_of bundle tickets digits).ticket)
    ++ draw_end tickets

abbrev pub draw_reply : Request → Published → Reply
draw_reply request Nothing = not_found
draw_reply request (TheBundle bundle) = not_found
draw_reply request (TheDraw bundle tickets digits) = if_by (codes "GET") request (told (draw_body bundle tickets digits))

-- ---- the reply to a volunteer who asks with a key

-- the number of the volunteer with an id, if the first of the volunteers has the number `number`; None if no volunteer has the id
abbrev pub number_of : List ℕ → List Volunteer → ℕ → Option ℕ
number_of id [] number = None
number_of id (volunteer ∷ volunteers) number = if bytes_eq id volunteer.id then Some number else number_of id volunteers (number + 1)

abbrev pub chance_text : Lottery → ℕ → List ℕ
chance_text lottery number = fraction_text (lowest_of (count lottery number) lottery.total)

abbrev pub chance_in : Bundle → List ℕ → Option (List ℕ)
chance_in bundle id = option_map (chance_text bundle.answer.lottery) (number_of id bundle.pool.volunteers 0)

-- the chance of the volunteer with an id, once the bundle is published; None before, or if the bundle's pool hasn't this volunteer
abbrev pub chance_of : Published → List ℕ → Option (List ℕ)
chance_of Nothing id = None
chance_of (TheBundle bundle) id = chance_in bundle id
chance_of (TheDraw bundle tickets digits) id = chance_in bundle id

-- whether the volunteer with an id was drawn, once the round is drawn
abbrev pub is_drawn : Published → List ℕ → Option Bool
is_drawn Nothing id = None
is_drawn (TheBundle bundle) id = None
is_drawn (TheDraw bundle tickets digits) id = Some (includes_list (drawn_ids bundle tickets digits) id)

-- what a volunteer sees
abbrev pub own_body : View → Own → List ℕ
own_body shown own =
    codes "{\"chance\":" ++ text_or_null (chance_of (last_published shown.rounds) own.entry.id)
    ++ codes ",\"drawn\":" ++ truth_or_null (is_drawn (last_published shown.rounds) own.entry.id)
    ++ codes ",\"id\":" ++ quoted own.entry.id
    ++ codes ",\"phase\":" ++ quoted (phase_name shown.phase)
    ++ codes ",\"round\":" ++ decimal (length shown.rounds)
    ++ codes ",\"withdrawn\":" ++ truth own.entry.withdrawn
    ++ codes "}"

-- whether the round `number` drew the volunteer, who didn't drop out of it. There is no round 0
abbrev pub keeps_seat : List Published → Own → ℕ → Bool
keeps_seat rounds own number = unwrap_or (is_drawn (published_of rounds number) own.entry.id) false && not (includes own.dropped number)

-- the rounds of which the volunteer dropped out, and whether this volunteer is seated in the last round, as a member of the one before it
abbrev pub seat_body : View → Own → List ℕ
seat_body shown own =
    codes "{\"dropped\":" ++ numbers own.dropped
    ++ codes ",\"id\":" ++ quoted own.entry.id
    ++ codes ",\"seated\":" ++ truth (keeps_seat shown.rounds own (length shown.rounds - 1))
    ++ codes "}"

abbrev pub own_reply_by : (View → Own → List ℕ) → View → Option Own → Reply
own_reply_by body shown None = unknown_key
own_reply_by body shown (Some own) = told (body shown own)

-- the reply to a request for a page about a volunteer, by the keys in the request: there must be exactly one. `body` makes the reply's body
abbrev pub own_reply : (View → Own → List ℕ) → Tables → List (List ℕ) → Reply
own_reply body tables [] = unknown_key
own_reply body tables (key ∷ []) = own_reply_by body (view tables key) (view tables key).own
own_reply body tables (key ∷ other ∷ keys) = unknown_key

-- ---- withdrawals

-- a reply, and the tables afterwards
pub record Served : Type 0 where
  pub tables : Tables
  pub reply : Reply

-- the reply `reply`, with the tables `tables` afterwards
abbrev pub leaving : Tables → Reply → Served
leaving tables reply = record { tables = tables; reply = reply }

abbrev pub withdrawn_body : List ℕ → List ℕ
withdrawn_body id = codes "{\"id\":" ++ quoted id ++ codes ",\"withdrawn\":true}"

-- the reply to a withdrawal by the key of a volunteer. The office refuses it if it comes too late, and for no other reason
abbrev pub withdrawal_reply : Entry → Outcome → Reply
withdrawal_reply entry (Replies change reply) = told (withdrawn_body entry.id)
withdrawal_reply entry (Refuses refusal) = too_late
withdrawal_reply entry (Stops ending) = too_late
withdrawal_reply entry (Unproved refusal) = too_late

abbrev pub withdrawal_by : Tables → Option Entry → Outcome → Served
withdrawal_by tables None outcome = leaving tables unknown_key
withdrawal_by tables (Some entry) outcome = leaving (tables_after tables outcome) (withdrawal_reply entry outcome)

-- a withdrawal by the volunteer with the key in the request, as the office does it. There must be exactly one key
abbrev pub withdrawal : Tables → List (List ℕ) → Served
withdrawal tables [] = leaving tables unknown_key
withdrawal tables (key ∷ []) = withdrawal_by tables (with_hash tables.register (seal_of key)) (withdraw_at tables (place_of_hash tables.register (seal_of key) 0))
withdrawal tables (key ∷ other ∷ keys) = leaving tables unknown_key

-- ---- the reply to any request, and to the bytes of a connection

abbrev pub served_page : Tables → Request → Option Page → Served
served_page tables request None = leaving tables not_found
served_page tables request (Some (BundlePage round)) = leaving tables (bundle_reply request (published_of (map published tables.rounds) (round_named round)))
served_page tables request (Some (DrawPage round)) = leaving tables (draw_reply request (published_of (map published tables.rounds) (round_named round)))
served_page tables request (Some OwnPage) = leaving tables (if_by (codes "GET") request (own_reply own_body tables request.keys))
served_page tables request (Some SeatPage) = leaving tables (if_by (codes "GET") request (own_reply seat_body tables request.keys))
served_page tables request (Some WithdrawalPage) =
    if bytes_eq request.method (codes "POST") then withdrawal tables request.keys else leaving tables (not_allowed (codes "POST"))

-- the reply to a request, and the tables afterwards
abbrev pub served : Tables → Request → Served
served tables request = served_page tables request (page_of request.path)

abbrev pub served_by : Tables → Asking → Served
served_by tables TooLarge = leaving tables too_large
served_by tables NoRequest = leaving tables bad_request
served_by tables (Asks request) = served tables request

-- what the desk replies to `bytes`, all that come over a connection, and the tables afterwards. A keeper that fails, and want of memory,
-- have replies of their own
abbrev pub Serves : Tables → List ℕ → Served → Type 0
Serves tables bytes result = (asking : Asking) × AreAsking bytes asking × (result ≡ served_by tables asking)

-- ---- on what a reply depends

-- who asks with `key` learns nothing of the tables but what the key's view has: over tables with the same view, each request with this key
-- and no other gets the same reply
abbrev pub IsIsolated : Tables → Tables → List ℕ → Type 0
IsIsolated one other key = view one key ≡ view other key → (request : Request) → request.keys ≡ key ∷ [] → (served one request).reply ≡ (served other request).reply

-- a page that anybody may read depends only on what is published
abbrev pub IsPublic : Tables → Tables → Page → Type 0
IsPublic one other page = map published one.rounds ≡ map published other.rounds → (request : Request) → (served_page one request (Some page)).reply ≡ (served_page other request (Some page)).reply
