-- The answers of `cover` for a cover that was made, for a refusal and for a stop are right by its meaning, and no others are.
use Rattle.std.proofs.Common.{◌≡◌, ◌∙◌, ℕ, List, [], length, Result, Ok, ap, ap₂, refl, sym, subst}
use Rattle.std.specs.Prelude.{Err, MatchResult, Some, false}
use Rattle.define_bundles.specs.BundleText.{Bundle, IsBundle}
use Rattle.define_checks.specs.Reasons as check
use Rattle.define_checks.specs.Reasons.{Valid, Verdict}
use Rattle.define_checks.specs.Visits.{check_answer, first_spent, is_ahead}
use Rattle.define_checks.proofs.Budget.{answer_cases}
use Rattle.define_checks.proofs.ReasonsStand.{certified_where_valid, valid_where_certified}
use Rattle.define_covers.specs.CoverText.{IsCover, cover_spelling}
use Rattle.define_covers.specs.Covers as covers
use Rattle.define_covers.specs.CoverVerdict.{verdict}
use Rattle.define_pools.specs.Certificate.{Answer, Certifies}
use Rattle.define_pools.specs.Pool.{Pool}
use Rattle.define_pools.proofs.Greatest.{greatest_from_Certifies}
use Rattle.define_covers.proofs.Once.{trees_searched_once}
use Rattle.cert_check.specs.declared.stops.CheckStop.{CheckStop}
use Rattle.cert_check.specs.declared.stops.CheckStop.TheVariants.{NodesSpent, OutOfMemory}
use Rattle.cover_cert.specs.Covering.{AnswersCheck, IfCover}
use Rattle.define_covers.specs.Made.{IsMadeOf}
use Rattle.cover_cert.specs.declared.making.Covered.{Covered}
use Rattle.cover_cert.specs.declared.making.Covered.TheVariants.{Cover, Refused}
use Rattle.command_bundles.specs.Checked.{TellsStop}
use Rattle.command_meanings.specs.Check.{IsGreatest}
use Rattle.command_meanings.proofs.OneAnswer.{check_once}
use Rattle.command_shell.specs.declared.status.Printed.TheVariants.{Done, Refused as Rejected}
use Rattle.command_shell.specs.declared.status.Cause.TheVariants.{Spent}
use Rattle.command_shell.specs.Answers.{HasOneAnswer, IsRight, Prints, Saying, Stops}
use Rattle.command_bundles.specs.Covered.{TellsCovered}
use Rattle.command_meanings.specs.ItsCover.{CoverMeans}

-- if a check returns a verdict, it is the verdict of the definition
said_is : (pool : Pool) (answer : Answer) (nodes : ℕ) (said : Verdict) → check_answer pool answer nodes ≡ Ok said → said ≡ check.verdict pool answer
said_is pool answer nodes said e =
    let P : Result Verdict ℕ → Type 0 = λ given. MatchResult given (λ said. said ≡ check.verdict pool answer) (λ stage. (first_spent pool nodes [] answer.stages ≡ Some stage) × (is_ahead stage (check.verdict pool answer) ≡ false)) in
    subst P e (answer_cases pool answer nodes)

greatest_of : (nodes : ℕ) (bundle : Bundle) → IsBundle bundle → check_answer bundle.pool bundle.answer nodes ≡ Ok Valid → IsGreatest bundle
greatest_of nodes bundle is said =
    let holds = certified_where_valid bundle.pool bundle.answer is.in_ranges (sym (said_is bundle.pool bundle.answer nodes Valid said)) in
    record { certified = holds; greatest = greatest_from_Certifies bundle.pool bundle.answer.lottery bundle.answer.stages holds }

never_both : (said : Verdict) (refusal : check.Refusal) → check.Refused refusal ≡ said → said ≡ Valid → ⊥
never_both said refusal e f = cc

fails : (nodes : ℕ) (bundle : Bundle) (refusal : check.Refusal) → check_answer bundle.pool bundle.answer nodes ≡ Ok (check.Refused refusal) →
    Certifies bundle.pool bundle.answer.lottery bundle.answer.stages → ⊥
fails nodes bundle refusal said holds =
    never_both (check.verdict bundle.pool bundle.answer) refusal (said_is bundle.pool bundle.answer nodes (check.Refused refusal) said) (valid_where_certified bundle.pool bundle.answer holds)

pub covered_is_told : (nodes : ℕ) (bundle : Bundle) (covered : Covered) (answer : Saying) → IsBundle bundle → AnswersCheck (check_answer bundle.pool bundle.answer nodes) (Ok covered) →
    IfCover covered (λ cover. IsMadeOf bundle cover) → IfCover covered (λ cover. verdict cover ≡ Valid) → TellsCovered covered answer → IsRight (CoverMeans nodes bundle) answer
covered_is_told nodes bundle (Cover cover) answer is said made accepted tells =
    subst (IsRight (CoverMeans nodes bundle)) (sym tells.1)
    (record { verdict = said; greatest = greatest_of nodes bundle is said; cover = cover; is_cover = tells.0; made = made; accepted = accepted; tells = refl })
covered_is_told nodes bundle (Refused stage reason who) answer is said made accepted tells =
    subst (IsRight (CoverMeans nodes bundle)) (sym tells)
    (record { refusal = record { stage = stage; reason = reason; who = who.items }; verdict = said; fails = fails nodes bundle (record { stage = stage; reason = reason; who = who.items }) said; line = refl })

pub cover_stop_is_told : (nodes : ℕ) (bundle : Bundle) (stop : CheckStop) (answer : Saying) →
    AnswersCheck (check_answer bundle.pool bundle.answer nodes) (Err stop) → TellsStop nodes stop answer → IsRight (CoverMeans nodes bundle) answer
cover_stop_is_told nodes bundle (NodesSpent stage) answer says tells =
    subst (IsRight (CoverMeans nodes bundle)) (sym tells) (record { stage = stage; verdict = says; line = refl })
cover_stop_is_told nodes bundle OutOfMemory answer says tells = absurd tells

abbrev cover_with : Bundle → List (List covers.FrontLine) → covers.Cover
cover_with bundle trees = record { bundle = bundle; trees = trees }

-- covers of one bundle with the lines of its searches are the same
same_cover : (bundle : Bundle) (first second : covers.Cover) → IsCover first → IsCover second → IsMadeOf bundle first → IsMadeOf bundle second → first ≡ second
same_cover bundle first second is also one two =
    let many = is.one_each ∙ ap (λ (b : Bundle). length b.answer.stages) one.same in
    let others = also.one_each ∙ ap (λ (b : Bundle). length b.answer.stages) two.same in
    let trees = trees_searched_once bundle.pool [] bundle.answer.stages first.trees second.trees many others one.searched two.searched in
    ap₂ cover_with (one.same ∙ sym two.same) trees

pub cover_once : (nodes : ℕ) (bundle : Bundle) → HasOneAnswer (CoverMeans nodes bundle)
cover_once nodes bundle (Prints Done one) (Prints Done two) first second =
    let same = same_cover bundle first.cover second.cover first.is_cover second.is_cover first.made second.made in
    ap (Prints Done) (first.tells ∙ (ap cover_spelling same ∙ sym second.tells))
cover_once nodes bundle (Prints Done one) (Prints Rejected two) first second = absurd (cc (first.verdict, second.verdict))
cover_once nodes bundle (Prints Done one) (Stops Spent two) first second = absurd (cc (first.verdict, second.verdict))
cover_once nodes bundle (Prints Done one) other first second = absurd second
cover_once nodes bundle (Prints Rejected one) (Prints Done two) first second = absurd (cc (first.verdict, second.verdict))
cover_once nodes bundle (Stops Spent one) (Prints Done two) first second = absurd (cc (first.verdict, second.verdict))
cover_once nodes bundle other (Prints Done two) first second = absurd first
cover_once nodes bundle one two first second = check_once nodes bundle one two first second
