-- What one call of the program did, as seen from outside: its status, and the source, out and errs before and after it. Builds on the
-- definitions of `outside`. Outcomes and every contract of a call cite it.
use Rattle.std.specs.Prelude.{◌≡◌, ℕ, List, Option}
use Rattle.std.specs.Io.KnownBytes.{Appends}
use Rattle.outside.specs.Faults.{Rose}
use Rattle.outside.specs.Content.{AppendsPart, LosesMore, ReadsAll}

-- a source or sink before and after the call: its content, if it tells it, and its count of faults. A source's content is the bytes that
-- are not yet read, a sink's the bytes written
pub record Object (Content : Type 0) : Type 0 where
  pub before : Option Content
  pub after : Option Content
  pub faults_before : ℕ
  pub faults_after : ℕ

abbrev pub object : {Content : Type 0} → Option Content → Option Content → ℕ → ℕ → Object Content
object before after faults_before faults_after = record { before = before; after = after; faults_before = faults_before; faults_after = faults_after }

-- an object whose content is bytes
abbrev pub Bytes : Type 0
Bytes = Object (List ℕ)

-- what a call told: its status, and the source, out and errs before and after it
pub record Told : Type 0 where
  pub status : ℕ
  pub source : Bytes
  pub out : Bytes
  pub errs : Bytes

abbrev pub told : ℕ → Bytes → Bytes → Bytes → Told
told status source out errs = record { status = status; source = source; out = out; errs = errs }

-- the object counted a fault in this call; a count at its last value, 2^64 - 1, can't rise and is taken as risen in each call
abbrev pub HasFaulted : {Content : Type 0} → Object Content → Type 0
HasFaulted object = Rose object.faults_before object.faults_after

-- the count of faults is as it was
abbrev pub HasNoFault : {Content : Type 0} → Object Content → Type 0
HasNoFault object = object.faults_after ≡ object.faults_before

-- the object's content, as far as it tells it, and its count of faults are as before the call
pub record IsUntouched {Content : Type 0} (object : Object Content) : Type 0 where
  pub same : object.after ≡ object.before
  pub no_fault : HasNoFault object

-- these bytes are all that the source held, and it was read to its end; for a source that tells nothing this holds of any bytes
abbrev pub HeldAll : Bytes → List ℕ → Type 0
HeldAll source bytes = ReadsAll source.before source.after bytes

-- the source held more than `limit` bytes, and more than `limit` were read
abbrev pub HeldMore : Bytes → ℕ → Type 0
HeldMore source limit = LosesMore limit source.before source.after

-- the sink gained these bytes
abbrev pub Gains : Bytes → List ℕ → Type 0
Gains object bytes = Appends object.before object.after bytes

-- the sink gained a prefix of these bytes
abbrev pub GainsPart : Bytes → List ℕ → Type 0
GainsPart object bytes = AppendsPart object.before object.after bytes

-- the sink gained a prefix of this line, and all of it unless it counted a fault
pub record GainsLine (errs : Bytes) (line : List ℕ) : Type 0 where
  pub part : GainsPart errs line
  pub whole : (HasFaulted errs → ⊥) → Gains errs line
