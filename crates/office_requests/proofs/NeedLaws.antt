-- The reads of `read_asking` were needed, as it follows from what `read_front` and `skip` read.
use Rattle.std.proofs.Common.{◌≡◌, ℕ, ◌-◌, ◌<◌, List, ◌++◌, length, take, Option, Some, None, sym, ◌∙◌, arith}
use Rattle.std.proofs.KnownBytes.{Consumes-trans}
use Rattle.define_desk.specs.Requests as desk
use Rattle.office_requests.specs.Heads.{IsWanted}
use Rattle.office_requests.specs.Needs.{ComeWhile, IsUndecided, LacksBytes, LacksHead, ReadsAsNeeded, ReadsWhile, StopsWhile}
use Rattle.office_requests.specs.Reads.{ReadsFront}
use Rattle.office_requests.specs.declared.heads.Wanted.{Wanted}
use Rattle.office_requests.specs.declared.heads.Wanted.TheVariants.{Asks}
use Rattle.office_requests.proofs.AskingLaws.{wanted_here}
use Rattle.office_requests.proofs.Chains.{come_so, come_then}
use Rattle.office_requests.proofs.Undecided.{undecided_body, undecided_head}

-- reads that were made without a head were needed
pub needed_before : {L : Type 0} (left : L → Option (List ℕ)) (reads : L → ℕ) (old new : L) → ReadsWhile left reads LacksHead old new → ReadsAsNeeded left reads old new
needed_before left reads old new (bytes, came) = (bytes, come_so left reads LacksHead IsUndecided old new bytes undecided_head came)

pub needed_front : {L : Type 0} (left : L → Option (List ℕ)) (reads : L → ℕ) (old new : L) (bytes : List ℕ) → ComeWhile left reads LacksHead old new bytes
    → ReadsAsNeeded left reads old new
needed_front left reads old new bytes came = needed_before left reads old new (bytes, came)

pub stops_before : (old new : Option (List ℕ)) → StopsWhile LacksHead old new → StopsWhile IsUndecided old new
stops_before old new (bytes, read, lacks) = (bytes, read, undecided_head bytes lacks)

-- a part of the body, read after bytes whose head asks for `body` bytes of which `count` are missing, leaves it undecided what is asked
missing_part : (old mid : Option (List ℕ)) (bytes slice : List ℕ) (size : ℕ) (head : Option ℕ) (wanted : Wanted) (request : desk.Request) (body count : ℕ)
    → ReadsFront old mid bytes head → head ≡ Some size → slice ≡ bytes → IsWanted (take size slice) wanted → wanted ≡ Asks request body
    → count ≡ body - (length bytes - size) → (part : List ℕ) → LacksBytes count part → IsUndecided (bytes ++ part)
missing_part old mid bytes slice size head wanted request body count front some same asks is missing part few =
    let here = wanted_here bytes slice size wanted (Asks request body) same is asks in
    undecided_body bytes part size body request front.within (sym front.head_is ∙ some) (λ rest. here rest) (let lacks : length part < body - (length bytes - size) = omega (arith, few, missing) in lacks)

-- the reads for the head and for the body were needed
pub needed_body : {L : Type 0} (left : L → Option (List ℕ)) (reads : L → ℕ) (old mid new : L) (bytes slice : List ℕ) (size : ℕ) (head : Option ℕ) (wanted : Wanted) (request : desk.Request) (body count : ℕ)
    → ReadsFront (left old) (left mid) bytes head → head ≡ Some size → slice ≡ bytes → IsWanted (take size slice) wanted → wanted ≡ Asks request body
    → count ≡ body - (length bytes - size) → ComeWhile left reads LacksHead old mid bytes → ReadsWhile left reads (LacksBytes count) mid new → ReadsAsNeeded left reads old new
needed_body left reads old mid new bytes slice size head wanted request body count front some same asks is missing came (part, more) = (
  bytes ++ part,
  come_then left reads LacksHead (LacksBytes count) IsUndecided old mid new bytes part undecided_head
      (missing_part (left old) (left mid) bytes slice size head wanted request body count front some same asks is missing)
      (λ lacks. let found : None ≡ Some size = sym lacks.1 ∙ sym front.head_is ∙ some in let clash : ⊥ = cc in clash) came more,
)

pub stops_body : (old mid new : Option (List ℕ)) (bytes slice : List ℕ) (size : ℕ) (head : Option ℕ) (wanted : Wanted) (request : desk.Request) (body count : ℕ)
    → ReadsFront old mid bytes head → head ≡ Some size → slice ≡ bytes → IsWanted (take size slice) wanted → wanted ≡ Asks request body
    → count ≡ body - (length bytes - size) → StopsWhile (LacksBytes count) mid new → StopsWhile IsUndecided old new
stops_body old mid new bytes slice size head wanted request body count front some same asks is missing (part, then, few) = (
  bytes ++ part,
  Consumes-trans old mid new bytes part front.read then,
  missing_part old mid bytes slice size head wanted request body count front some same asks is missing part few,
)
