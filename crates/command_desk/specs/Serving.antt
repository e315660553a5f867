-- Visits, one after the other: what they make of a door and a keeper, and how many ended with a status. Builds on the visits of
-- `office_http`. ServeOutcomes, Turns, the law of src/laws.rt and the headline cite it.
use Rattle.std.specs.Prelude.{◌≡◌, ℕ, zero, suc, false, ◌+◌, ◌++◌, List, [], ◌∷◌, length, map, take, drop, codes, Option, IfSome, option_map, is_ok, is_err}
use Rattle.std.specs.Fmt.{decimal}
use Rattle.std.specs.List.{count_by}
use Rattle.command_shell.specs.Lines.{line}
use Rattle.office_http.specs.Visits.{IsAttended, Kept, LinkTold, Visit}
use Rattle.outside.specs.Faults.{called}
use Rattle.outside.specs.Links.{Back, DoorCall, DoorLinks, Next}

-- `IsAttended` holds of each visit, and each visit found the keeper as the one before left it
abbrev pub AreVisits : Kept → List Visit → Kept → Type 0
AreVisits before [] after = after ≡ before
AreVisits before (visit ∷ visits) after = (visit.keeper ≡ before) × IsAttended visit × AreVisits visit.keeper_after visits after

-- the links of a door after these visits: the door gave a link to each visit, in order, and the links came back as the visits left them
abbrev pub after_visits : List Visit → DoorLinks LinkTold → DoorLinks LinkTold
after_visits visits links = record {
  coming = drop (length visits) links.coming;
  given = links.given + length visits;
  back = links.back ++ map (λ visit. visit.link_after) visits;
}

-- the links that the door gave were attended, in their order, and given back
pub record AreAttended (links : Option (DoorLinks LinkTold)) (before : Kept) (visits : List Visit) (links_after : Option (DoorLinks LinkTold)) (after : Kept) : Type 0 where
  pub chain : AreVisits before visits after
  -- the links of the visits are the first of those that were to come
  pub given : IfSome links (λ told. map (λ visit. visit.link) visits ≡ take (length visits) told.coming)
  pub door : links_after ≡ option_map (after_visits visits) links

-- the calls of a door, after `turns` links were given, attended and given back, one after the other
abbrev pub after_turns : ℕ → Option (List DoorCall) → Option (List DoorCall)
after_turns zero calls = calls
after_turns (suc turns) calls = called (called (after_turns turns calls) (Next false)) Back

-- how many visits ended with a status; `broken_of` is how many ended with a fault of the link
abbrev pub served_of : List Visit → ℕ
served_of visits = count_by (λ visit. is_ok visit.ended) visits

abbrev pub broken_of : List Visit → ℕ
broken_of visits = count_by (λ visit. is_err visit.ended) visits

-- the line that is told after these visits
abbrev pub served_line : List Visit → List ℕ
served_line visits = line (codes "served" ∷ decimal (served_of visits) ∷ codes "broken" ∷ decimal (broken_of visits) ∷ [])
