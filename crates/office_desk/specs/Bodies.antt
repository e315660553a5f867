-- Bodies of JSON: their texts, made of the texts of their parts, and the values whose texts they are. Used by the modules `bodies` and
-- `seat_page`.
use Rattle.std.specs.Prelude.{ℕ, ◌++◌, Bool, true, List, Option, Some, None, codes}
use Rattle.std.specs.Fmt.{decimal}
use Rattle.json.specs.Print.{quoted}
use Rattle.serde_json.specs.Data.{Data, Members, null, boolean, number, unsigned, string, object, member, no_members}
use Rattle.define_desk.specs.Replies.{text_or_null, truth, truth_or_null}

-- ---- the texts of bodies

abbrev pub own_text : Option (List ℕ) → Option Bool → List ℕ → List ℕ → ℕ → Bool → List ℕ
own_text chance drawn id phase round withdrawn =
    codes "{\"chance\":" ++ text_or_null chance
    ++ codes ",\"drawn\":" ++ truth_or_null drawn
    ++ codes ",\"id\":" ++ quoted id
    ++ codes ",\"phase\":" ++ quoted phase
    ++ codes ",\"round\":" ++ decimal round
    ++ codes ",\"withdrawn\":" ++ truth withdrawn
    ++ codes "}"

-- the text of the body for a seat; `dropped` is the text of the part that tells the rounds
abbrev pub seat_text : List ℕ → List ℕ → Bool → List ℕ
seat_text dropped id seated = codes "{\"dropped\":" ++ dropped ++ codes ",\"id\":" ++ quoted id ++ codes ",\"seated\":" ++ truth seated ++ codes "}"

-- the end of the body for a draw, with a number of tickets if there is one
abbrev pub draw_text_end : Option (List ℕ) → List ℕ
draw_text_end None = codes "}"
draw_text_end (Some tickets) = codes ",\"tickets\":" ++ quoted tickets ++ codes "}"

-- the text of the body for a draw; `panel` is the text of the panel's part
abbrev pub draw_text : List ℕ → List ℕ → List ℕ → List ℕ → Option (List ℕ) → List ℕ
draw_text digits panel seal ticket tickets =
    codes "{\"digits\":" ++ quoted digits ++ codes ",\"panel\":" ++ panel ++ codes ",\"seal\":" ++ quoted seal ++ codes ",\"ticket\":" ++ quoted ticket ++ draw_text_end tickets

-- ---- the values whose texts are the bodies

abbrev pub text_data : Option (List ℕ) → Data
text_data None = null
text_data (Some text) = string text

abbrev pub truth_data : Option Bool → Data
truth_data None = null
truth_data (Some value) = boolean value

abbrev pub own_data : Option (List ℕ) → Option Bool → List ℕ → List ℕ → ℕ → Bool → Data
own_data chance drawn id phase round withdrawn =
    object (member (codes "chance") (text_data chance) (member (codes "drawn") (truth_data drawn) (member (codes "id") (string id)
    (member (codes "phase") (string phase) (member (codes "round") (number (unsigned round)) (member (codes "withdrawn") (boolean withdrawn) no_members))))))

abbrev pub seat_data : Data → List ℕ → Bool → Data
seat_data dropped id seated =
    object (member (codes "dropped") dropped (member (codes "id") (string id) (member (codes "seated") (boolean seated) no_members)))

-- a round's number as a value
abbrev pub number_data : ℕ → Data
number_data n = number (unsigned n)

-- the member with a number of tickets, if there is one
abbrev pub tickets_members : Option (List ℕ) → Members
tickets_members None = no_members
tickets_members (Some tickets) = member (codes "tickets") (string tickets) no_members

abbrev pub draw_data : List ℕ → Data → List ℕ → List ℕ → Option (List ℕ) → Data
draw_data digits panel seal ticket tickets =
    object (member (codes "digits") (string digits) (member (codes "panel") panel (member (codes "seal") (string seal) (member (codes "ticket") (string ticket) (tickets_members tickets)))))

abbrev pub withdrawn_data : List ℕ → Data
withdrawn_data id = object (member (codes "id") (string id) (member (codes "withdrawn") (boolean true) no_members))
