-- `page` has at most one right answer, with digits and without: a page, the line of a wrong total, the line of a refused draw, or the line
-- of a proof without a lottery.
use Rattle.std.proofs.Common.{◌≡◌, ◌∙◌, ℕ, List, Option, Some, None, Result, Ok, Err, ap, sym, rules}
use Rattle.define_bundles.specs.BundleText.{Bundle}
use Rattle.define_draws.specs.Draw.{Drawn, Refused, draw}
use Rattle.define_pools.specs.Lottery.{TotalAgrees}
use Rattle.bundle_page.specs.Page.{drawn_page_text}
use Rattle.command_shell.specs.declared.status.Printed.TheVariants.{Done}
use Rattle.command_shell.specs.declared.status.Cause.TheVariants.{Input, Rule}
use Rattle.command_shell.specs.Answers.{HasOneAnswer, Prints, RightAnswers, Saying, Stops}
use Rattle.command_meanings.specs.Draw.{refused_draw_line}
use Rattle.define_draws.specs.Lines.{bundle_seal}
use Rattle.command_shell.specs.declared.bundle_or_proof.BundleOrProof.{BundleOrProof}
use Rattle.command_shell.specs.BundlesOrProofs.{bundle_in}
use Rattle.command_meanings.specs.Page.{DrawnPageMeans, DrawnPageOfBundle, PageMeans, PageOfBundle, WithoutLottery, about, draw_means}
use Rattle.define_offices.specs.Pools.{lottery_in}

about_once : (Means : Bundle → RightAnswers) → ((bundle : Bundle) → HasOneAnswer (Means bundle)) → (it : Option Bundle) → HasOneAnswer (about Means it)
about_once Means once (Some bundle) = once bundle
about_once Means once None = none
  where
    none : HasOneAnswer WithoutLottery
    none (Stops Rule a) (Stops Rule b) x y = ap (Stops Rule) (x ∙ sym y)
    none first second x y = search rules

bundle_once : (bundle : Bundle) → HasOneAnswer (PageOfBundle bundle)
bundle_once bundle (Prints Done a) (Prints Done b) x y = ap (Prints Done) (x.page ∙ sym y.page)
bundle_once bundle (Prints Done a) (Stops Input b) x y = absurd (y.total x.total)
bundle_once bundle (Stops Input a) (Prints Done b) x y = absurd (x.total y.total)
bundle_once bundle (Stops Input a) (Stops Input b) x y = ap (Stops Input) (x.line ∙ sym y.line)
bundle_once bundle first second x y = search rules

pub page_once : (input : BundleOrProof) → HasOneAnswer (PageMeans input)
page_once input = about_once PageOfBundle bundle_once (bundle_in input)

-- the answer about a draw from `tickets` tickets: the page with the draw, or the line of the refusal
abbrev said : Bundle → List ℕ → ℕ → Result Drawn Refused → Saying
said bundle digits tickets (Ok drawn) = Prints Done (drawn_page_text bundle (bundle_seal bundle) digits tickets drawn)
said bundle digits tickets (Err refused) = Stops Rule (refused_draw_line (bundle_seal bundle) (bundle_seal bundle) refused)

-- the weights sum to the total, the draw is refused, and the text is the line of the refusal
pub record Refuses (tickets : Option ℕ) (digits : List ℕ) (bundle : Bundle) (text : List ℕ) : Type 0 where
  pub refused : Refused
  pub total : TotalAgrees bundle.answer.lottery
  pub draws : draw (lottery_in tickets bundle.answer.lottery) (bundle_seal bundle) (bundle_seal bundle) digits ≡ Err refused
  pub line : text ≡ refused_draw_line (bundle_seal bundle) (bundle_seal bundle) refused

refuses : (tickets : Option ℕ) (digits : List ℕ) (bundle : Bundle) (text : List ℕ) → (draw_means tickets (bundle_seal bundle) digits bundle).rule text → Refuses tickets digits bundle text
refuses None digits bundle text it = record { refused = it.refused; total = it.total; draws = it.draws; line = it.line }
refuses (Some tickets) digits bundle text it = record { refused = it.refused; total = it.total; draws = it.draws; line = it.line }

drawn_once : (tickets : Option ℕ) (digits : List ℕ) (bundle : Bundle) → HasOneAnswer (DrawnPageOfBundle tickets digits bundle)
drawn_once tickets digits bundle (Prints Done a) (Stops Input b) x y = absurd (y.total x.total)
drawn_once tickets digits bundle (Stops Rule a) (Stops Input b) x y = absurd (y.total (refuses tickets digits bundle a x).total)
drawn_once tickets digits bundle (Stops Input a) (Prints Done b) x y = absurd (x.total y.total)
drawn_once tickets digits bundle (Stops Input a) (Stops Rule b) x y = absurd (x.total (refuses tickets digits bundle b y).total)
drawn_once tickets digits bundle (Stops Input a) (Stops Input b) x y = ap (Stops Input) (x.line ∙ sym y.line)
drawn_once tickets digits bundle (Prints Done a) (Prints Done b) x y =
    let says = said bundle digits (lottery_in tickets bundle.answer.lottery).total in
    (ap (Prints Done) x.page ∙ ap says (sym x.draws)) ∙ sym (ap (Prints Done) y.page ∙ ap says (sym y.draws))
drawn_once tickets digits bundle (Prints Done a) (Stops Rule b) x y = let other = refuses tickets digits bundle b y in absurd (cc (x.draws, other.draws))
drawn_once tickets digits bundle (Stops Rule a) (Prints Done b) x y = let one = refuses tickets digits bundle a x in absurd (cc (one.draws, y.draws))
drawn_once tickets digits bundle (Stops Rule a) (Stops Rule b) x y =
    let one = refuses tickets digits bundle a x in
    let other = refuses tickets digits bundle b y in
    let says = said bundle digits 0 in
    (ap (Stops Rule) one.line ∙ ap says (sym one.draws)) ∙ sym (ap (Stops Rule) other.line ∙ ap says (sym other.draws))
drawn_once tickets digits bundle first second x y = search rules

pub drawn_page_once : (tickets : Option ℕ) (digits : List ℕ) (input : BundleOrProof) → HasOneAnswer (DrawnPageMeans tickets digits input)
drawn_page_once tickets digits input = about_once (DrawnPageOfBundle tickets digits) (drawn_once tickets digits) (bundle_in input)
