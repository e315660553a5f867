-- What contracts see of `Published`, which is what is published of a round, and when it is sound: a total agrees, and digits name a ticket.
-- And what the desk shows to the volunteer of a row. Used by the module `published` and by the pages that show it.
use Rattle.std.specs.Prelude.{◌≡◌, ℕ, List, is_ok, map, true, Option, Some, ⊤}
use Rattle.define_pools.specs.Lottery.{TotalAgrees}
use Rattle.define_bundles.specs.BundleText.{Bundle}
use Rattle.define_draws.specs.Dice.{name_ticket}
use Rattle.define_desk.specs.Views as views
use Rattle.define_desk.specs.Views.{Own, View, dropped_from, published}
use Rattle.define_offices.specs.Pools.{drawn_lottery}
use Rattle.define_offices.specs.Tables.{Entry, Tables, last_phase}
use Rattle.office_desk.specs.declared.published.Published.{Published}
use Rattle.office_desk.specs.declared.published.Published.TheVariants.{Nothing, TheBundle, TheDraw}

abbrev pub seen_published : Published → views.Published
seen_published Nothing = views.Nothing
seen_published (TheBundle bundle) = views.TheBundle bundle.now
seen_published (TheDraw bundle tickets digits) = views.TheDraw bundle.now tickets.now digits.now

-- the weights of the bundle sum to its total, and the digits name a ticket of the lottery that the round draws from
pub record CanBeDrawn (bundle : Bundle) (tickets : Option ℕ) (digits : List ℕ) : Type 0 where
  pub agrees : TotalAgrees bundle.answer.lottery
  pub named : is_ok (name_ticket (drawn_lottery bundle tickets).total digits) ≡ true

-- the weights of a bundle that is published sum to its total, and digits that are published name a ticket
abbrev pub IsSound : views.Published → Type 0
IsSound views.Nothing = ⊤
IsSound (views.TheBundle bundle) = TotalAgrees bundle.answer.lottery
IsSound (views.TheDraw bundle tickets digits) = CanBeDrawn bundle tickets digits

-- ---- what is shown to the volunteer of a row

abbrev pub own_in : Tables → Entry → Own
own_in tables entry = record { entry = entry; dropped = dropped_from entry.id tables.rounds 1 }

abbrev pub shown_to : Tables → Entry → View
shown_to tables entry = record { own = Some (own_in tables entry); phase = last_phase tables.rounds; rounds = map published tables.rounds }
