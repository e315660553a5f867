-- The routes of the desk, as the router keeps them. Used by the module `routes`.
use Rattle.std.specs.Prelude.{ℕ, ◌++◌, List, [], ◌∷◌, codes, Option, Some}
use Rattle.matchit.specs.Params.{walk}
use Rattle.matchit.specs.Rows.{RowsOf, catch_all_token}
use Rattle.matchit.specs.Router.{RouteOf}
use Rattle.matchit.specs.declared.params.Params.{Params}
use Rattle.define_desk.specs.Desk.{round_named}
use Rattle.office_desk.specs.Pages.{in_round}
use Rattle.office_desk.specs.declared.routes.OwnPage.TheVariants as own
use Rattle.office_desk.specs.declared.routes.Page.{Page}
use Rattle.office_desk.specs.declared.routes.Page.TheVariants as page
use Rattle.office_desk.specs.declared.routes.Route.{Route}
use Rattle.office_desk.specs.declared.routes.Route.TheVariants.{Bundle, Draw, Seat, Standing, Withdrawal}

-- the row of a route that is one path
abbrev pub path_row : List ℕ → Route → List ℕ × RouteOf Route
path_row path route = (path, record { pattern = path; text = path; names = []; value = route })

-- the row of a route that is a front and the text `{*round}`, which stands for any further bytes. `name` is where the word `round` is
abbrev pub round_row : List ℕ → ℕ × ℕ → Route → List ℕ × RouteOf Route
round_row front name route =
    (front ++ catch_all_token ∷ [], record { pattern = front ++ catch_all_token ∷ []; text = front ++ codes "{*round}"; names = name ∷ []; value = route })

abbrev pub desk_routes : RowsOf (RouteOf Route)
desk_routes =
    path_row (codes "/me/seat") Seat
    ∷ path_row (codes "/me/withdraw") Withdrawal
    ∷ path_row (codes "/me") Standing
    ∷ round_row (codes "/public/bundle/") (17, 22) Bundle
    ∷ round_row (codes "/public/draw/") (15, 20) Draw
    ∷ []

-- the names of a route's parameters, each with the part of the path that it took
abbrev pub parts_of : Params → List (List ℕ × List ℕ)
parts_of params = walk params.pattern.now params.text.now params.path.now params.names.now 0 0

-- the page of a route; `round` names the round if the route has one
abbrev pub page_on : Route → List ℕ → Option Page
page_on Standing round = Some (page.Own own.Standing)
page_on Seat round = Some (page.Own own.Seat)
page_on Withdrawal round = Some page.Withdrawal
page_on Bundle round = in_round (λ number. page.Bundle number) (round_named round)
page_on Draw round = in_round (λ number. page.Draw number) (round_named round)
