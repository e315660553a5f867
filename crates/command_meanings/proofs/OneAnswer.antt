-- Each command has at most one right answer. For a command whose answer the definitions compute, each right answer is the computed one.
use Rattle.std.proofs.Common.{◌≡◌, ◌∙◌, ℕ, List, [], Option, Some, None, Result, Ok, Err, ap, sym, subst, arith, rules}
use Rattle.std.specs.List.{AllByRecursion}
use Rattle.define_proofs.specs.ProofVerdict.{OfLottery, OfNoPanel, Proof, verdict}
use Rattle.define_bundles.specs.BundleText.{Bundle, bundle_spelling}
use Rattle.define_checks.specs.Reasons.{Refused, Valid, Verdict}
use Rattle.define_checks.specs.Visits.{check_answer}
use Rattle.define_draws.specs.Draw as draws
use Rattle.define_pools.specs.Pool.{Pool, panels}
use Rattle.define_pools.proofs.AllPanels.{each_panel}
use Rattle.define_searches.specs.Classes.{classes_of}
use Rattle.define_searches.specs.Compositions.{first_panel}
use Rattle.command_shell.specs.declared.status.Printed.TheVariants.{Done, NoPanel, Refused as Rejected}
use Rattle.command_shell.specs.declared.status.Cause.TheVariants.{Input, Spent, Rule}
use Rattle.command_shell.specs.Answers.{HasOneAnswer, IsRight, RightAnswers, Saying, Prints, Stops}
use Rattle.command_meanings.specs.Check.{CheckMeans, refused_line, valid_line, visits_spent_line}
use Rattle.command_meanings.specs.Draw.{DrawMeans, drawn_lines, refused_draw_line}
use Rattle.command_meanings.specs.ItsBundle.{BundleMeans, no_lottery_line}
use Rattle.command_meanings.specs.Lines.{panel_line}
use Rattle.command_meanings.specs.Panel.{IsFirstPanel, PanelMeans}
use Rattle.command_meanings.specs.Seal.{SealMeans, seal_line}
use Rattle.define_draws.specs.Lines.{bundle_seal}
use Rattle.command_meanings.specs.Verify.{VerifyMeans, shown_line}

-- if each right answer equals `due`, at most one answer is right
pub one_by : (meaning : RightAnswers) (due : Saying) → ((answer : Saying) → IsRight meaning answer → answer ≡ due) → HasOneAnswer meaning
one_by meaning due is first second a b = is first a ∙ sym (is second b)

-- ---- seal, check, verify, bundle: the answer is computed

pub seal_once : (bundle : Bundle) → HasOneAnswer (SealMeans bundle)
seal_once bundle = one_by (SealMeans bundle) (Prints Done (seal_line bundle)) is
  where
    is : (answer : Saying) → IsRight (SealMeans bundle) answer → answer ≡ Prints Done (seal_line bundle)
    is (Prints Done text) right = ap (Prints Done) right
    is (Stops Input line) right = absurd right
    is answer right = absurd right

abbrev check_said : ℕ → Result Verdict ℕ → Saying
check_said nodes (Ok Valid) = Prints Done valid_line
check_said nodes (Ok (Refused refusal)) = Prints Rejected (refused_line refusal)
check_said nodes (Err stage) = Stops Spent (visits_spent_line nodes stage)

pub check_once : (nodes : ℕ) (bundle : Bundle) → HasOneAnswer (CheckMeans nodes bundle)
check_once nodes bundle = one_by (CheckMeans nodes bundle) (check_said nodes (check_answer bundle.pool bundle.answer nodes)) is
  where
    is : (answer : Saying) → IsRight (CheckMeans nodes bundle) answer → answer ≡ check_said nodes (check_answer bundle.pool bundle.answer nodes)
    is (Prints Done text) right = ap (Prints Done) right.line ∙ ap (check_said nodes) (sym right.verdict)
    is (Prints Rejected text) right = ap (Prints Rejected) right.line ∙ ap (check_said nodes) (sym right.verdict)
    is (Stops Spent text) right = ap (Stops Spent) right.line ∙ ap (check_said nodes) (sym right.verdict)
    is answer right = absurd right

abbrev verify_said : Proof → Verdict → Saying
verify_said proof Valid = Prints Done (shown_line proof)
verify_said proof (Refused refusal) = Prints Rejected (refused_line refusal)

pub verify_once : (proof : Proof) → HasOneAnswer (VerifyMeans proof)
verify_once proof = one_by (VerifyMeans proof) (verify_said proof (verdict proof)) is
  where
    is : (answer : Saying) → IsRight (VerifyMeans proof) answer → answer ≡ verify_said proof (verdict proof)
    is (Prints Done text) right = ap (Prints Done) right.line ∙ ap (verify_said proof) (sym right.valid)
    is (Prints Rejected text) right = ap (Prints Rejected) right.line ∙ ap (verify_said proof) (sym right.refuses)
    is (Stops Input line) right = absurd right
    is answer right = absurd right

abbrev bundle_said : Proof → Saying
bundle_said (OfLottery pool its trees) = Prints Done (bundle_spelling (record { pool = pool; answer = its }))
bundle_said (OfNoPanel pool lines) = Stops Rule no_lottery_line

bundle_is : (proof : Proof) (answer : Saying) → IsRight (BundleMeans proof) answer → answer ≡ bundle_said proof
bundle_is (OfLottery pool its trees) (Prints Done text) right = ap (Prints Done) right
bundle_is (OfNoPanel pool lines) (Stops Rule text) right = ap (Stops Rule) right
bundle_is (OfLottery pool its trees) (Stops Input line) right = absurd right
bundle_is (OfLottery pool its trees) answer right = absurd right
bundle_is (OfNoPanel pool lines) (Prints Done text) right = absurd right
bundle_is (OfNoPanel pool lines) answer right = absurd right

pub bundle_once : (proof : Proof) → HasOneAnswer (BundleMeans proof)
bundle_once proof = one_by (BundleMeans proof) (bundle_said proof) (bundle_is proof)

-- ---- panel and draw: any two right answers are equal

pub none_has_no_first : (pool : Pool) (panel : List ℕ) → IsFirstPanel pool panel → panels pool ≡ [] → ⊥
none_has_no_first pool panel is none = each_panel (λ _. ⊥) pool (subst (AllByRecursion (λ _. ⊥)) (sym none) tt) panel is.fits

abbrev counts_in : Option (List ℕ) → List ℕ
counts_in (Some counts) = counts
counts_in None = []

one_first : (pool : Pool) (a b : List ℕ) → IsFirstPanel pool a → IsFirstPanel pool b → a ≡ b
one_first pool a b x y =
    let counts : x.counts ≡ y.counts = ap counts_in (sym x.first ∙ y.first) in
    x.members ∙ (ap (first_panel (classes_of pool)) counts ∙ sym y.members)

pub panel_once : (nodes : ℕ) (pool : Pool) → HasOneAnswer (PanelMeans nodes pool)
panel_once nodes pool (Prints Done a) (Prints Done b) x y =
    ap (Prints Done) (x.line ∙ (ap (panel_line pool) (one_first pool x.panel y.panel x.first y.first) ∙ sym y.line))
panel_once nodes pool (Prints Done a) (Prints NoPanel b) x y = absurd (none_has_no_first pool x.panel x.first y.none)
panel_once nodes pool (Prints Done a) (Stops Spent b) x y = let one = x.within in let two = y.more in absurd (omega arith)
panel_once nodes pool (Prints NoPanel a) (Prints Done b) x y = absurd (none_has_no_first pool y.panel y.first x.none)
panel_once nodes pool (Prints NoPanel a) (Prints NoPanel b) x y = ap (Prints NoPanel) (x.line ∙ sym y.line)
panel_once nodes pool (Prints NoPanel a) (Stops Spent b) x y = let one = x.within in let two = y.more in absurd (omega arith)
panel_once nodes pool (Stops Spent a) (Prints Done b) x y = let one = x.more in let two = y.within in absurd (omega arith)
panel_once nodes pool (Stops Spent a) (Prints NoPanel b) x y = let one = x.more in let two = y.within in absurd (omega arith)
panel_once nodes pool (Stops Spent a) (Stops Spent b) x y = ap (Stops Spent) (x.line ∙ sym y.line)
panel_once nodes pool first second x y = search rules

abbrev draw_said : List ℕ → Bundle → Result draws.Drawn draws.Refused → Saying
draw_said given bundle (Ok drawn) = Prints Done (drawn_lines bundle drawn)
draw_said given bundle (Err refused) = Stops Rule (refused_draw_line given (bundle_seal bundle) refused)

pub draw_once : (given digits : List ℕ) (bundle : Bundle) → HasOneAnswer (DrawMeans given digits bundle)
draw_once given digits bundle = two
  where
    said : Saying
    said = draw_said given bundle (draws.draw bundle.answer.lottery (bundle_seal bundle) given digits)

    two : HasOneAnswer (DrawMeans given digits bundle)
    two (Prints Done a) (Stops Input b) x y = absurd (y.total x.total)
    two (Stops Rule a) (Stops Input b) x y = absurd (y.total x.total)
    two (Stops Input a) (Prints Done b) x y = absurd (x.total y.total)
    two (Stops Input a) (Stops Rule b) x y = absurd (x.total y.total)
    two (Stops Input a) (Stops Input b) x y = ap (Stops Input) (x.line ∙ sym y.line)
    two (Prints Done a) (Prints Done b) x y = (ap (Prints Done) x.lines ∙ ap (draw_said given bundle) (sym x.draws)) ∙ sym (ap (Prints Done) y.lines ∙ ap (draw_said given bundle) (sym y.draws))
    two (Prints Done a) (Stops Rule b) x y = absurd (cc (x.draws, y.draws))
    two (Stops Rule a) (Prints Done b) x y = absurd (cc (x.draws, y.draws))
    two (Stops Rule a) (Stops Rule b) x y = (ap (Stops Rule) x.line ∙ ap (draw_said given bundle) (sym x.draws)) ∙ sym (ap (Stops Rule) y.line ∙ ap (draw_said given bundle) (sym y.draws))
    two first second x y = search rules
