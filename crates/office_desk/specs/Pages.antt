-- Pages of the program, as the definitions of the desk have them. Used by the modules `routes` and `own_page`.
use Rattle.std.specs.Prelude.{ℕ, ◌==◌, nat_le, nat_lt, if◌then◌else◌, Bool, ◌&&◌, List, length, Option, Some, None}
use Rattle.std.specs.Char.{is_ascii_digit}
use Rattle.std.specs.List.{list_all}
use Rattle.define_desk.specs.Desk as desk
use Rattle.define_desk.specs.Desk.{own_body, round_named, seat_body}
use Rattle.define_desk.specs.Views.{Own as SeenOwn, View}
use Rattle.office_desk.specs.declared.routes.Page.{Page}
use Rattle.office_desk.specs.declared.routes.Page.TheVariants.{Bundle, Draw, Own, Withdrawal}
use Rattle.office_desk.specs.declared.routes.OwnPage.{OwnPage}
use Rattle.office_desk.specs.declared.routes.OwnPage.TheVariants.{Seat, Standing}

-- the page of the round with this number; None for the number 0, which no round has
abbrev pub in_round : (ℕ → Page) → ℕ → Option Page
in_round page number = if number == 0 then None else Some (page number)

-- a page, with a round's number in place of the text that names the round; None if the text names no round
abbrev pub seen_page : desk.Page → Option Page
seen_page (desk.BundlePage round) = in_round (λ number. Bundle number) (round_named round)
seen_page (desk.DrawPage round) = in_round (λ number. Draw number) (round_named round)
seen_page desk.OwnPage = Some (Own Standing)
seen_page desk.SeatPage = Some (Own Seat)
seen_page desk.WithdrawalPage = Some Withdrawal

-- the body of a page about a volunteer
abbrev pub body_of : OwnPage → View → SeenOwn → List ℕ
body_of Standing = own_body
body_of Seat = seat_body

-- 1 to 4 digits
abbrev pub is_round_text : List ℕ → Bool
is_round_text text = nat_lt 0 (length text) && nat_le (length text) 4 && list_all is_ascii_digit text
