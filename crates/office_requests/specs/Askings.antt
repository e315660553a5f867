-- What was asked over a link, in terms of the definitions of the desk.
use Rattle.std.specs.Prelude.{◌≡◌, ℕ, List, Option, IfSome}
use Rattle.define_desk.specs.Requests as desk
use Rattle.office_requests.specs.declared.askings.Asking.{Asking}
use Rattle.office_requests.specs.declared.askings.Asking.TheVariants.{TooLarge, NoRequest, Asks}

abbrev pub seen_asking : Asking → desk.Asking
seen_asking TooLarge = desk.TooLarge
seen_asking NoRequest = desk.NoRequest
seen_asking (Asks request) = desk.Asks request

-- there are bytes that ask for `asking`; if the link tells what was left to read, they are all of that
abbrev pub IsAskedOver : Option (List ℕ) → desk.Asking → Type 0
IsAskedOver left asking = (bytes : List ℕ) × IfSome left (λ told. bytes ≡ told) × desk.AreAsking bytes asking
