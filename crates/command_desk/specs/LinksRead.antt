-- How much a call reads of the links that a door gives: no more than each visit needs. It speaks of the links themselves, because `LinkTold`
-- doesn't have the count of reads. Builds on Links of `outside` and Needs of `office_requests`. The contracts of `serve` and of `office`
-- cite it.
use Rattle.std.specs.Prelude.{◌≡◌, ◌≤◌, ℕ, ◌+◌, ◌++◌, List, map, Option, Some, IfSome}
use Rattle.std.specs.List.{All}
use Rattle.office_requests.specs.Needs.{ReadsAsNeeded}
use Rattle.office_requests.specs.Reads.{most_read}
use Rattle.outside.specs.Links.{DoorLinks}

-- a link as a door gave it, and as it came back
pub record GivenLink (L : Type 0) : Type 0 where
  pub before : L
  pub after : L

-- each read of the link was made while the bytes before it could still ask for different things, and there were at most `most_read` reads
pub record IsReadAsNeeded {L : Type 0} (left : L → Option (List ℕ)) (reads : L → ℕ) (link : GivenLink L) : Type 0 where
  pub needed : ReadsAsNeeded left reads link.before link.after
  pub within : reads link.after ≤ reads link.before + most_read

-- a door gave these links, the first of those that were to come, and they came back; both in this order
pub record AreGiven {L : Type 0} (told : DoorLinks L) (links : List (GivenLink L)) (told_after : DoorLinks L) : Type 0 where
  pub coming : told.coming ≡ map (λ link. link.before) links ++ told_after.coming
  pub back : told_after.back ≡ told.back ++ map (λ link. link.after) links

-- if the door tells its links, each that it gave came back, and was read no more than its visit needed. `left` is what a link tells of its
-- bytes, and `reads` its count of reads
abbrev pub LinksAreReadAsNeeded : {L : Type 0} → (L → Option (List ℕ)) → (L → ℕ) → Option (DoorLinks L) → Option (DoorLinks L) → Type 0
LinksAreReadAsNeeded {L} left reads door door_after = IfSome door (λ told.
    (told_after : DoorLinks L) × (door_after ≡ Some told_after) × (links : List (GivenLink L)) × AreGiven told links told_after × All (IsReadAsNeeded left reads) links)
