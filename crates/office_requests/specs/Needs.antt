-- Which reads of a link are needed: those that are made while the bytes so far can still ask for different things. The contracts of
-- `read_asking` and of `attend` cite it.
use Rattle.std.specs.Prelude.{◌≡◌, ◌≢◌, ℕ, ◌<◌, List, [], ◌∷◌, ◌++◌, length, Option, None}
use Rattle.std.specs.Io.KnownBytes.{Consumes}
use Rattle.outside.specs.Faults.{raised}
use Rattle.define_desk.specs.Requests.{AreAsking, Asking, head_size, most_of_head}

-- `bytes` can go on in two ways that ask for different things
pub record IsUndecided (bytes : List ℕ) : Type 0 where
  pub one : List ℕ
  pub other : List ℕ
  pub first : Asking
  pub second : Asking
  pub asks_first : AreAsking (bytes ++ one) first
  pub asks_second : AreAsking (bytes ++ other) second
  pub differ : first ≢ second

-- `states` are the states of a link after each read that brought it from `link` to `last`, whose bytes left and count of reads are those of
-- the last state. `sofar` are the bytes that came before, and `all` are they and what these reads gave. Each read was counted, and was made
-- while `Lacks` held of the bytes that came before it. Only the last read may have given nothing
abbrev pub AreReads : {L : Type 0} → (L → Option (List ℕ)) → (L → ℕ) → (List ℕ → Type 0) → L → List ℕ → List L → L → List ℕ → Type 0
AreReads left reads Lacks link sofar [] last all = (left last ≡ left link) × (reads last ≡ reads link) × (all ≡ sofar)
AreReads left reads Lacks link sofar (next ∷ states) last all =
    (piece : List ℕ) × Lacks sofar × Consumes (left link) (left next) piece × (piece ≡ [] → states ≡ []) × (reads next ≡ raised (reads link))
    × AreReads left reads Lacks next (sofar ++ piece) states last all

-- `bytes` came by all reads that brought a link from `old` to `new`. A state of a link comes only of calls, so none of them is left out
abbrev pub ComeWhile : {L : Type 0} → (L → Option (List ℕ)) → (L → ℕ) → (List ℕ → Type 0) → L → L → List ℕ → Type 0
ComeWhile {L} left reads Lacks old new bytes = (states : List L) × AreReads left reads Lacks old [] states new bytes

-- some bytes came so
abbrev pub ReadsWhile : {L : Type 0} → (L → Option (List ℕ)) → (L → ℕ) → (List ℕ → Type 0) → L → L → Type 0
ReadsWhile left reads Lacks old new = (bytes : List ℕ) × ComeWhile left reads Lacks old new bytes

-- each read was made while the bytes before it were undecided
abbrev pub ReadsAsNeeded : {L : Type 0} → (L → Option (List ℕ)) → (L → ℕ) → L → L → Type 0
ReadsAsNeeded left reads old new = ReadsWhile left reads IsUndecided old new

-- `Lacks` holds of the bytes that were read
abbrev pub StopsWhile : (List ℕ → Type 0) → Option (List ℕ) → Option (List ℕ) → Type 0
StopsWhile Lacks old new = (bytes : List ℕ) × Consumes old new bytes × Lacks bytes

-- ---- what bytes lack while they are undecided

-- `bytes` have no head and may still get one
abbrev pub LacksHead : List ℕ → Type 0
LacksHead bytes = (length bytes < most_of_head) × (head_size bytes ≡ None)

-- `bytes` are fewer than `count`
abbrev pub LacksBytes : ℕ → List ℕ → Type 0
LacksBytes count bytes = length bytes < count
