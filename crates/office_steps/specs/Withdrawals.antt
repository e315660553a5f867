-- The place of the row with a key's digest, and of the row with an id. The contracts of src/withdrawing.rt cite it.
use Rattle.std.specs.Prelude.{◌≡◌, ℕ, ◌<◌, List, Option, Some, None, length, slice_index_or}
use Rattle.define_offices.specs.Deciding.{place_of_hash, place_of_id}
use Rattle.define_offices.specs.Tables.{Entry}

-- if there is a place, the row there is the first with the digest; if there is none, no row has the digest
abbrev pub IsPlaceOf : List Entry → List ℕ → Option ℕ → Type 0
IsPlaceOf register hash None = place_of_hash register hash 0 ≡ None
IsPlaceOf register hash (Some place) = (place < length register) × ((entry : Entry) → place_of_hash register hash 0 ≡ Some (place, slice_index_or register place entry))

-- the same for the first row with the id
abbrev pub IsPlaceOfId : List Entry → List ℕ → Option ℕ → Type 0
IsPlaceOfId register id None = place_of_id register id 0 ≡ None
IsPlaceOfId register id (Some place) = (place < length register) × ((entry : Entry) → place_of_id register id 0 ≡ Some (place, slice_index_or register place entry))
