-- Each right text of a command of this crate begins with a line, so none is empty.
use Rattle.std.proofs.Common.{◌≡◌, ℕ, ◌≤◌, List, [], ◌∷◌, ◌++◌, length, ap, arith, length-append}
use Rattle.std.specs.Prelude.{Option, Some, None, codes, map}
use Rattle.std.specs.Fmt.{decimal}
use Rattle.define_proofs.specs.ProofVerdict.{OfLottery, OfNoPanel, Proof}
use Rattle.define_bundles.specs.BundleText.{Bundle, done_line, lines_before_done}
use Rattle.define_covers.specs.Covers.{Cover}
use Rattle.define_draws.specs.Draw.{Drawn, Refused}
use Rattle.define_draws.specs.declared.DiceStop.TheVariants.{BadDigit, MoreDigits}
use Rattle.define_lines.specs.Lines.{line_of, text_of}
use Rattle.define_pools.specs.Lottery.{counts}
use Rattle.bundle_page.specs.Numbers.{sizes_of}
use Rattle.bundle_page.specs.Page.{drawn_part, lead, lower_lines, page_with, plain_head}
use Rattle.command_shell.specs.declared.status.Printed.TheVariants.{Done, Refused as Rejected}
use Rattle.command_shell.specs.declared.status.Cause.TheVariants.{Input, Rule}
use Rattle.command_shell.specs.Answers.{IsRight, IsTheAnswer, Prints, RightAnswers, Saying, Stops, bytes_of}
use Rattle.command_shell.specs.Lines.{line}
use Rattle.command_shell.specs.Subjects.{About, AboutFault, AboutValue, Format}
use Rattle.command_meanings.specs.CheckCover.{CheckCoverMeans}
use Rattle.command_meanings.specs.Draw.{DrawMeans, drawn_lines, refused_draw_line, ticket_line, wrong_total_line}
use Rattle.command_meanings.specs.ItsBundle.{BundleMeans, no_lottery_line}
use Rattle.command_meanings.specs.Lines.{panel_line}
use Rattle.command_meanings.specs.Seal.{SealMeans}
use Rattle.define_draws.specs.Lines.{bundle_seal}
use Rattle.command_meanings.specs.Verify.{VerifyMeans}
use Rattle.command_shell.specs.BundlesOrProofs.{bundle_in}
use Rattle.command_meanings.specs.Page.{DrawnPageMeans, DrawnPageOfBundle, PageMeans, PageOfBundle, about}
use Rattle.command_shell.specs.declared.bundle_or_proof.BundleOrProof.{BundleOrProof}
use Rattle.command_questions.specs.Chances.{lines_of_chances}
use Rattle.command_meanings.specs.Question.{QuestionMeans}
use Rattle.command_questions.specs.Questions.{question_text}
use Rattle.command_questions.specs.declared.questions.Question.TheVariants.{Chances}
use Rattle.command_browser.specs.Told.{Answers, NotUtf8, Read, TextOf, TooLong, WithWords}

-- ---- a text of at least one line has bytes

line_some : (line : List ℕ) (rest : List (List ℕ)) → 1 ≤ length (text_of (line ∷ rest))
line_some line rest = grind (arith, length-append)

lines_some : (lines : List (List ℕ)) → 1 ≤ length lines → 1 ≤ length (text_of lines)
lines_some (line ∷ rest) some = line_some line rest
lines_some [] some = absurd (omega (arith, some))

fields_some : (fields : List (List ℕ)) → 1 ≤ length (line fields)
fields_some fields = line_some (line_of fields) []

left_some : (first second : List ℕ) → 1 ≤ length first → 1 ≤ length (first ++ second)
left_some first second some = grind (arith, length-append)

-- if a text equals one that has bytes, it has bytes
so : (text other : List ℕ) → text ≡ other → 1 ≤ length other → 1 ≤ length text
so text other is some = rw is some

-- ---- the right answers of each command have bytes

abbrev pub HasBytes : RightAnswers → Type 0
HasBytes meaning = (answer : Saying) → IsRight meaning answer → 1 ≤ length (bytes_of answer)

pub verify_some : (proof : Proof) → HasBytes (VerifyMeans proof)
verify_some (OfLottery pool its trees) (Prints Done text) right = so _ _ right.line (fields_some (codes "valid" ∷ []))
verify_some (OfNoPanel pool lines) (Prints Done text) right = so _ _ right.line (fields_some (codes "valid" ∷ codes "none" ∷ []))
verify_some proof (Prints Rejected text) right =
    let refusal = right.refusal in
    so _ _ right.line (fields_some (codes "refused" ∷ decimal refusal.stage ∷ decimal refusal.reason ∷ map decimal refusal.who))
verify_some proof (Stops Input line) right = absurd right
verify_some proof answer right = absurd right

pub check_cover_some : (cover : Cover) → HasBytes (CheckCoverMeans cover)
check_cover_some cover (Prints Done text) right = so _ _ right.line (fields_some (codes "valid" ∷ []))
check_cover_some cover (Prints Rejected text) right =
    let refusal = right.refusal in
    so _ _ right.line (fields_some (codes "refused" ∷ decimal refusal.stage ∷ decimal refusal.reason ∷ map decimal refusal.who))
check_cover_some cover (Stops Input line) right = absurd right
check_cover_some cover answer right = absurd right

no_lottery_some : 1 ≤ length no_lottery_line
no_lottery_some = fields_some (codes "rule" ∷ codes "NoLottery" ∷ [])

pub bundle_some : (proof : Proof) → HasBytes (BundleMeans proof)
bundle_some (OfLottery pool its trees) (Prints Done text) right =
    so _ _ right (lines_some (lines_before_done pool its ++ done_line ∷ []) (grind (arith, length-append)))
bundle_some (OfNoPanel pool lines) (Stops Rule text) right = so _ _ right no_lottery_some
bundle_some (OfLottery pool its trees) (Stops Input line) right = absurd right
bundle_some (OfLottery pool its trees) answer right = absurd right
bundle_some (OfNoPanel pool lines) (Prints Done text) right = absurd right
bundle_some (OfNoPanel pool lines) answer right = absurd right

pub seal_some : (bundle : Bundle) → HasBytes (SealMeans bundle)
seal_some bundle (Prints Done text) right = so _ _ right (fields_some (codes "seal" ∷ bundle_seal bundle ∷ []))
seal_some bundle (Stops Input line) right = absurd right
seal_some bundle answer right = absurd right

wrong_total_some : 1 ≤ length wrong_total_line
wrong_total_some = fields_some (codes "input" ∷ decimal 0 ∷ decimal 14 ∷ [])

refused_some : (given kept : List ℕ) (refused : Refused) → 1 ≤ length (refused_draw_line given kept refused)
refused_some given kept Refused.SealDiffers = fields_some (codes "rule" ∷ codes "SealDiffers" ∷ given ∷ kept ∷ [])
refused_some given kept (Refused.NoTicket (BadDigit place)) = fields_some (codes "rule" ∷ codes "BadDigit" ∷ decimal place ∷ [])
refused_some given kept (Refused.NoTicket (MoreDigits read)) = fields_some (codes "rule" ∷ codes "MoreDigits" ∷ decimal read ∷ [])

drawn_some : (bundle : Bundle) (drawn : Drawn) → 1 ≤ length (drawn_lines bundle drawn)
drawn_some bundle drawn =
    left_some (ticket_line drawn) (panel_line bundle.pool drawn.panel)
    (fields_some (codes "ticket" ∷ decimal drawn.ticket ∷ decimal drawn.used ∷ []))

pub draw_some : (given digits : List ℕ) (bundle : Bundle) → HasBytes (DrawMeans given digits bundle)
draw_some given digits bundle (Prints Done text) right = so _ _ right.lines (drawn_some bundle right.drawn)
draw_some given digits bundle (Stops Input line) right = so _ _ right.line wrong_total_some
draw_some given digits bundle (Stops Rule line) right = so _ _ right.line (refused_some given (bundle_seal bundle) right.refused)
draw_some given digits bundle answer right = absurd right

pub chances_some : (bundle : Bundle) → HasBytes (QuestionMeans (question_text Chances) bundle)
chances_some bundle (Prints Done text) right = so _ _ right.answers (lines_some (lines_of_chances bundle) (grind (arith, length-append)))
chances_some bundle (Stops Input line) right = so _ _ right.line wrong_total_some
chances_some bundle answer right = absurd right

about_some : (Means : Bundle → RightAnswers) → ((bundle : Bundle) → HasBytes (Means bundle)) → (it : Option Bundle) → HasBytes (about Means it)
about_some Means some (Some bundle) answer right = some bundle answer right
about_some Means some None (Stops Rule line) right = so _ _ right no_lottery_some
about_some Means some None (Prints Done text) right = absurd right
about_some Means some None answer right = absurd right

page_with_some : (bundle : Bundle) (seal drawn : List ℕ) → 1 ≤ length (page_with (plain_head (sizes_of bundle.pool)) bundle seal drawn)
page_with_some bundle seal drawn =
    let lottery = bundle.answer.lottery in
    let sizes = sizes_of bundle.pool in
    let head = plain_head sizes in
    let first = text_of (lead sizes (length lottery.rows) lottery.total ∷ []) in
    left_some (head ++ first ++ drawn) (text_of (lower_lines bundle.pool (counts bundle.pool lottery) lottery.total seal))
    (left_some (head ++ first) drawn (left_some head first (line_some _ [])))

page_of_bundle_some : (bundle : Bundle) → HasBytes (PageOfBundle bundle)
page_of_bundle_some bundle (Prints Done text) right = so _ _ right.page (page_with_some bundle (bundle_seal bundle) [])
page_of_bundle_some bundle (Stops Input line) right = so _ _ right.line wrong_total_some
page_of_bundle_some bundle answer right = absurd right

pub page_some : (input : BundleOrProof) → HasBytes (PageMeans input)
page_some input = about_some PageOfBundle page_of_bundle_some (bundle_in input)

drawn_page_of_bundle_some : (digits : List ℕ) (bundle : Bundle) → HasBytes (DrawnPageOfBundle None digits bundle)
drawn_page_of_bundle_some digits bundle (Prints Done text) right =
    so _ _ right.page (page_with_some bundle (bundle_seal bundle) (drawn_part bundle (bundle_seal bundle) digits bundle.answer.lottery.total right.drawn))
drawn_page_of_bundle_some digits bundle (Stops Input line) right = so _ _ right.line wrong_total_some
drawn_page_of_bundle_some digits bundle (Stops Rule line) right = so _ _ right.line (refused_some (bundle_seal bundle) (bundle_seal bundle) right.refused)
drawn_page_of_bundle_some digits bundle answer right = absurd right

pub drawn_page_some : (digits : List ℕ) (input : BundleOrProof) → HasBytes (DrawnPageMeans None digits input)
drawn_page_some digits input = about_some (DrawnPageOfBundle None digits) (drawn_page_of_bundle_some digits) (bundle_in input)

-- ---- the texts that exported calls give have bytes

about_bytes_some : {Value : Type 0} (format : Format Value) (meaning : Value → RightAnswers) → ((value : Value) → HasBytes (meaning value)) →
    (bytes : List ℕ) (answer : Saying) → About format (λ value. IsTheAnswer (meaning value)) bytes answer → 1 ≤ length (bytes_of answer)
about_bytes_some format meaning some bytes answer (AboutValue value read spells right) = some value answer right.right
about_bytes_some format meaning some bytes answer (AboutFault fault fails told) =
    so _ _ (ap bytes_of told) (fields_some (codes "input" ∷ decimal fault.line ∷ decimal fault.kind ∷ []))

pub text_some : {Value : Type 0} (format : Format Value) (meaning : Value → RightAnswers) → ((value : Value) → HasBytes (meaning value)) →
    (bytes text : List ℕ) → TextOf format meaning bytes text → 1 ≤ length text
text_some format meaning some bytes text (Answers answer within about is) = so _ _ is (about_bytes_some format meaning some bytes answer about)
text_some format meaning some bytes text (TooLong many is) = so _ _ is (fields_some (codes "input" ∷ codes "0" ∷ codes "10" ∷ []))

pub with_words_some : (AreUtf8 : Type 0) (Right : List ℕ → Type 0) → ((text : List ℕ) → Right text → 1 ≤ length text) →
    (text : List ℕ) → WithWords AreUtf8 Right text → 1 ≤ length text
with_words_some AreUtf8 Right some text (Read are right) = some text right
with_words_some AreUtf8 Right some text (NotUtf8 not is) = so _ _ is (grind arith)
