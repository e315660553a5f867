-- What `check`, `cover`, `verify` and `check-cover` answer about a text that the source told.
use Rattle.std.proofs.Common.{◌≡◌, ◌∙◌, ◌+◌, ◌≤◌, ℕ, List, length, Option, Some, None, Ok, ap, subst, arith}
use Rattle.std.specs.Prelude.{◌≢◌, ◌↔◌}
use Rattle.std.proofs.lemmas.List.{length-append}
use Rattle.define_proofs.specs.ProofVerdict.{Proof, verdict}
use Rattle.define_bundles.specs.BundleText.{Bundle, IsBundle, bundle_spelling}
use Rattle.define_bundles.proofs.ReadAgain.{spelled_is_read as bundle_is_read}
use Rattle.define_checks.specs.Reasons.{Valid}
use Rattle.define_covers.specs.CoverText.{IsCover, cover_spelling}
use Rattle.define_covers.proofs.ReadAgain.{spelled_is_read as cover_is_read}
use Rattle.define_covers.specs.Covers.{Cover}
use Rattle.define_covers.specs.CoverVerdict.{verdict as cover_verdict}
use Rattle.define_pools.proofs.LeximinParts.{leximin}
use Rattle.define_pools.specs.Leximin.{IsLeximin}
use Rattle.outside.specs.Content.{LosesMore, ReadsAll}
use Rattle.define_pools.specs.Certificate.{Certifies}
use Rattle.define_proofs.specs.ProofText.{IsProof, proof_spelling}
use Rattle.define_proofs.proofs.ReadAgain.{spelled_is_read as proof_is_read}
use Rattle.command_shell.specs.declared.status.Cause.TheVariants.{Input, Spent}
use Rattle.command_shell.specs.declared.status.Printed.TheVariants.{Done, Refused as Rejected}
use Rattle.command_shell.specs.Answers.{IsRight, IsTheAnswer, RightAnswers, Saying, Prints, Stops, status_of}
use Rattle.command_shell.specs.Formats.{bundle_format, proof_format}
use Rattle.command_shell.specs.Lines.{input_limit}
use Rattle.command_shell.specs.Outcomes.{Answered, Ends, IsAboutSource, IsTold, ReadFault, TextOutcome, TooLong, WantOfMemory, WriteFault}
use Rattle.command_shell.specs.Subjects.{About, AboutFault, AboutValue, Format}
use Rattle.command_shell.specs.Told.{Told}
use Rattle.command_meanings.specs.CheckCover.{CheckCoverMeans}
use Rattle.command_bundles.specs.CoverFormat.{cover_format}
use Rattle.command_meanings.specs.ItsCover.{CoverMeans}
use Rattle.command_meanings.specs.Check.{CheckMeans}
use Rattle.command_meanings.specs.Verify.{VerifyMeans}
use Rattle.command_texts.specs.declared.commands.TextCommand.TheVariants as texts
use Rattle.command_stores.specs.StoreTold.{StoreTold}
use Rattle.command_office.specs.declared.asked.Asked.{Asked}
use Rattle.command_office.specs.declared.asked.Asked.TheVariants as asks
use Rattle.command_office.specs.About.{ToldText, searches_of}
use Rattle.command_office.specs.Office.{Answers, AnswersRightly}
use Rattle.command_office.proofs.Reading.{its_status}

-- if the source told that it held `text`, the bytes that were read are `text`
pub same_text : (before after : Option (List ℕ)) (text bytes : List ℕ) → before ≡ Some text → ReadsAll before after bytes → bytes ≡ text
same_text None after text bytes told held = absurd (cc (told))
same_text (Some left) after text bytes told held = let same : left ≡ text = cc (told) in held.0 ∙ same

-- if a source told a text of at most `limit` bytes, no call reads more than `limit` bytes from it
pub not_longer : (before after : Option (List ℕ)) (text : List ℕ) (limit : ℕ) → before ≡ Some text → length text ≤ limit → LosesMore limit before after → ⊥
not_longer None after text limit told within loses = cc (told)
not_longer (Some left) None text limit told within loses = loses.2
not_longer (Some left) (Some rest) text limit told within loses =
    let same : left ≡ text = cc (told) in
    let parts : length left ≡ length loses.0 + length rest = ap length loses.2 ∙ length-append loses.0 rest in
    let whole : length left ≡ length text = ap length same in
    let more = loses.1 in
    absurd (omega arith)

module _ {Value : Type 0} (format : Format Value) (Means : Value → Saying → Type 0) (told : Told) where
  -- a right answer about `value` was told, so it has the status of the call
  pub record IsDueBy (value : Value) : Type 0 where
    pub answer : Saying
    pub right : Means value answer
    pub tells : IsTold answer told
    pub status : told.status ≡ status_of answer

  due_of : (value : Value) (text : List ℕ) → format.read text ≡ Ok value → ToldText told.source text → (answer : Saying) → IsTold answer told →
      (right : IsAboutSource (About format Means) told.source answer) → About format Means right.bytes answer → IsDueBy value
  due_of value text reads_so from answer is right (AboutValue own reads spells means) =
      let bytes = same_text told.source.before told.source.after text right.bytes from.told right.held in
      let same : own ≡ value = cc (reads, reads_so, bytes) in
      record { answer = answer; right = subst (λ v. Means v answer) same means; tells = is; status = its_status answer told is }
  due_of value text reads_so from answer is right (AboutFault fault fails e) =
      let bytes = same_text told.source.before told.source.after text right.bytes from.told right.held in
      absurd (cc (fails, reads_so, bytes))

  pub due_by : (value : Value) (text : List ℕ) → format.read text ≡ Ok value → ToldText told.source text → told.status ≢ 8 → told.status ≢ 12 → TextOutcome (About format Means) told → IsDueBy value
  due_by value text reads_so from n8 n12 (Ends (Answered answer right is)) = due_of value text reads_so from answer is right right.means
  due_by value text reads_so from n8 n12 (Ends (WriteFault printed cut_text right cut)) = absurd (n8 cut.status)
  due_by value text reads_so from n8 n12 (Ends (WantOfMemory want)) = absurd (n12 want.status)
  due_by value text reads_so from n8 n12 (TooLong long) = absurd (not_longer told.source.before told.source.after text input_limit from.told from.within long.held)
  due_by value text reads_so from n8 n12 (ReadFault fault) = absurd (from.no_fault fault.faulted)

module _ {Value : Type 0} (format : Format Value) (Means : Value → RightAnswers) (told : Told) where
  -- there is a right answer about `value` with the status of the call
  pub record IsDue (value : Value) : Type 0 where
    pub answer : Saying
    pub right : IsRight (Means value) answer
    pub status : told.status ≡ status_of answer

  pub due : (value : Value) (text : List ℕ) → format.read text ≡ Ok value → ToldText told.source text → told.status ≢ 8 → told.status ≢ 12 → Answers format Means told → IsDue value
  due value text reads_so from n8 n12 right =
      let it = due_by format (λ v. IsTheAnswer (Means v)) told value text reads_so from n8 n12 right in record { answer = it.answer; right = it.right.right; status = it.status }

-- if no budget is spent, the status of `check` is 0 exactly if the certificate holds
certified : (nodes status : ℕ) (bundle : Bundle) (answer : Saying) → IsRight (CheckMeans nodes bundle) answer → status ≡ status_of answer → status ≢ 5 →
    status ≡ 0 ↔ Certifies bundle.pool bundle.answer.lottery bundle.answer.stages
certified nodes status bundle (Prints Done text) right is n5 = (λ s. right.greatest.certified, λ holds. is)
certified nodes status bundle (Prints Rejected text) right is n5 = (λ s. absurd (cc (is, s)), λ holds. absurd (right.fails holds))
certified nodes status bundle (Stops Spent text) right is n5 = absurd (n5 is)
certified nodes status bundle answer right is n5 = absurd right

check_is_exact : (nodes : ℕ) (told : Told) → Answers bundle_format (CheckMeans nodes) told → (bundle : Bundle) → IsBundle bundle → ToldText told.source (bundle_spelling bundle) →
    told.status ≢ 5 → told.status ≢ 8 → told.status ≢ 12 → told.status ≡ 0 ↔ Certifies bundle.pool bundle.answer.lottery bundle.answer.stages
check_is_exact nodes told outcome bundle is from n5 n8 n12 =
    let it = due bundle_format (CheckMeans nodes) told bundle (bundle_spelling bundle) (bundle_is_read bundle is) from n8 n12 outcome in
    certified nodes told.status bundle it.answer it.right it.status n5

-- if no budget is spent, the status of `cover` is 0 exactly if the certificate holds
covers_certified : (nodes status : ℕ) (bundle : Bundle) (answer : Saying) → IsRight (CoverMeans nodes bundle) answer → status ≡ status_of answer → status ≢ 5 →
    status ≡ 0 ↔ Certifies bundle.pool bundle.answer.lottery bundle.answer.stages
covers_certified nodes status bundle (Prints Done text) right is n5 = (λ s. right.greatest.certified, λ holds. is)
covers_certified nodes status bundle (Prints Rejected text) right is n5 = (λ s. absurd (cc (is, s)), λ holds. absurd (right.fails holds))
covers_certified nodes status bundle (Stops Spent text) right is n5 = absurd (n5 is)
covers_certified nodes status bundle answer right is n5 = absurd right

pub certificate_is_exact : (it : Option Asked) (told : StoreTold) (nodes : ℕ) → AnswersRightly it told → searches_of it ≡ Some nodes → (bundle : Bundle) → IsBundle bundle →
    ToldText told.call.source (bundle_spelling bundle) → told.call.status ≢ 5 → told.call.status ≢ 8 → told.call.status ≢ 12 →
    told.call.status ≡ 0 ↔ Certifies bundle.pool bundle.answer.lottery bundle.answer.stages
certificate_is_exact (Some (asks.Text (texts.Check check))) told nodes right has bundle is from n5 n8 n12 = check_is_exact check.nodes told.call right.call bundle is from n5 n8 n12
certificate_is_exact (Some (asks.Text (texts.Cover cover))) told nodes right has bundle is from n5 n8 n12 =
    let it = due bundle_format (CoverMeans cover.nodes) told.call bundle (bundle_spelling bundle) (bundle_is_read bundle is) from n8 n12 right.call in
    covers_certified cover.nodes told.call.status bundle it.answer it.right it.status n5
certificate_is_exact other told nodes right has bundle is from n5 n8 n12 = absurd (cc (has))

-- the status of `verify` is 0 exactly if the proof is valid
proved : (status : ℕ) (proof : Proof) (answer : Saying) → IsRight (VerifyMeans proof) answer → status ≡ status_of answer → status ≡ 0 ↔ verdict proof ≡ Valid
proved status proof (Prints Done text) right is = (λ s. right.valid, λ holds. is)
proved status proof (Prints Rejected text) right is = (λ s. absurd (cc (is, s)), λ holds. absurd (cc (right.refuses, holds)))
proved status proof (Stops Input text) right is = absurd right
proved status proof answer right is = absurd right

pub verify_is_exact : (told : Told) → Answers proof_format VerifyMeans told → (proof : Proof) → IsProof proof → ToldText told.source (proof_spelling proof) →
    told.status ≢ 8 → told.status ≢ 12 → told.status ≡ 0 ↔ verdict proof ≡ Valid
verify_is_exact told outcome proof is from n8 n12 =
    let it = due proof_format VerifyMeans told proof (proof_spelling proof) (proof_is_read proof is) from n8 n12 outcome in
    proved told.status proof it.answer it.right it.status

-- the cover is valid exactly if the status of `check-cover` is 0, and then its lottery is leximin greatest
abbrev pub IsCoverExact : ℕ → Cover → Type 0
IsCoverExact status cover = (status ≡ 0 ↔ cover_verdict cover ≡ Valid) × (status ≡ 0 → IsLeximin cover.bundle.pool cover.bundle.answer.lottery)

covered : (status : ℕ) (cover : Cover) (answer : Saying) → IsRight (CheckCoverMeans cover) answer → status ≡ status_of answer → IsCoverExact status cover
covered status cover (Prints Done text) right is = ((λ s. right.valid, λ holds. is), λ s. leximin cover.bundle.pool cover.bundle.answer.lottery right.greatest.greatest)
covered status cover (Prints Rejected text) right is = ((λ s. absurd (cc (is, s)), λ holds. absurd (cc (right.refuses, holds))), λ s. absurd (cc (is, s)))
covered status cover (Stops Input text) right is = absurd right
covered status cover answer right is = absurd right

pub cover_is_exact : (told : Told) → Answers cover_format CheckCoverMeans told → (cover : Cover) → IsCover cover → ToldText told.source (cover_spelling cover) →
    told.status ≢ 8 → told.status ≢ 12 → IsCoverExact told.status cover
cover_is_exact told outcome cover is from n8 n12 =
    let it = due cover_format CheckCoverMeans told cover (cover_spelling cover) (cover_is_read cover is) from n8 n12 outcome in
    covered told.status cover it.answer it.right it.status
