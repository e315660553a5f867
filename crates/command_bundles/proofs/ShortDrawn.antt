-- At most one answer of `short-draw` is right, and the line of a refused draw is a right answer.
use Rattle.std.proofs.Common.{true, ◌≡◌, ◌≤◌, ◌^◌, ◌∙◌, ℕ, List, Result, Ok, Err, length, ltb, refl, ap, ap₂, sym, subst, rules}
use Rattle.std.specs.List.{list_all}
use Rattle.define_pools.specs.Lottery.{TotalAgrees}
use Rattle.define_pools.specs.Pool.{Pool}
use Rattle.define_bundles.specs.BundleText.{Bundle, IsBundle}
use Rattle.define_draws.specs.declared.DiceStop.TheVariants as dice
use Rattle.define_draws.specs.Draw as draws
use Rattle.define_draws.specs.Draw.{Refused, draw}
use Rattle.define_draws.specs.Short.{shortened}
use Rattle.define_draws.proofs.ShortRanges.{short_in_ranges, total_from_ranges}
use Rattle.define_draws.proofs.Shortened.{agrees_shortened}
use Rattle.sealed_draw.specs.Answers.{DrawSays, IsOfRow}
use Rattle.sealed_draw.specs.declared.drawn.DrawStop.{DrawStop}
use Rattle.sealed_draw.specs.declared.drawn.DrawStop.TheVariants.{SealDiffers, BadDigit, MoreDigits, OutOfMemory}
use Rattle.command_shell.specs.declared.status.Printed.TheVariants.{Done}
use Rattle.command_shell.specs.declared.status.Cause.TheVariants.{Input, Rule}
use Rattle.command_shell.specs.Answers.{HasOneAnswer, IsRight, Prints, Saying, Stops}
use Rattle.command_meanings.specs.Draw.{drawn_lines, refused_draw_line}
use Rattle.define_draws.specs.Lines.{bundle_seal}
use Rattle.command_meanings.specs.ShortDraw.{ShortDrawMeans}
use Rattle.command_bundles.specs.Stopped.{TellsStop}
use Rattle.command_bundles.proofs.Members.{panel_in_range}

-- the members of a panel that a ticket draws from a shortened bundle are numbers of the pool's volunteers
pub short_drawn_in_range : (bundle : Bundle) (pool : Pool) (tickets ticket : ℕ) (panel : List ℕ) → IsBundle bundle → pool ≡ bundle.pool → TotalAgrees bundle.answer.lottery →
    1 ≤ tickets → tickets ≤ 10 ^ 9 → IsOfRow (shortened bundle.answer.lottery tickets) ticket panel → list_all (λ i. ltb i (length pool.volunteers)) panel ≡ true
short_drawn_in_range bundle pool tickets ticket panel is same agrees some few row =
    let volunteers = length bundle.pool.volunteers in
    let total = total_from_ranges bundle.pool bundle.answer is.in_ranges in
    let short = short_in_ranges bundle.pool bundle.answer tickets is.in_ranges some few (agrees_shortened bundle.answer.lottery tickets agrees total.0) in
    ap (λ (p : Pool). list_all (λ i. ltb i (length p.volunteers)) panel) same
    ∙ (ap (list_all (λ i. ltb i volunteers)) row.panel_is ∙ panel_in_range volunteers (shortened bundle.answer.lottery tickets).rows row.row short.rows)

-- ---- a refused draw

is_right : (tickets : ℕ) (bundle : Bundle) (given digits : List ℕ) (answer : Saying) (refused : Refused) → TotalAgrees bundle.answer.lottery →
    draw (shortened bundle.answer.lottery tickets) (bundle_seal bundle) given digits ≡ Err refused → answer ≡ Stops Rule (refused_draw_line given (bundle_seal bundle) refused) →
    IsRight (ShortDrawMeans tickets given digits bundle) answer
is_right tickets bundle given digits answer refused agrees draws is =
    subst (IsRight (ShortDrawMeans tickets given digits bundle)) (sym is) (record { refused = refused; total = agrees; draws = draws; line = refl })

told : (tickets : ℕ) (bundle : Bundle) (given digits : List ℕ) (stop : DrawStop) (answer : Saying) → TotalAgrees bundle.answer.lottery →
    DrawSays (shortened bundle.answer.lottery tickets) (bundle_seal bundle) given digits (Err stop) → TellsStop stop answer → IsRight (ShortDrawMeans tickets given digits bundle) answer
told tickets bundle given digits (SealDiffers as_given as_kept) answer agrees says tells =
    is_right tickets bundle given digits answer Refused.SealDiffers agrees says.0 (tells ∙ ap₂ (λ g k. Stops Rule (refused_draw_line g k Refused.SealDiffers)) says.1 says.2)
told tickets bundle given digits (BadDigit place) answer agrees says tells = is_right tickets bundle given digits answer (Refused.NoTicket (dice.BadDigit place)) agrees says tells
told tickets bundle given digits (MoreDigits read) answer agrees says tells = is_right tickets bundle given digits answer (Refused.NoTicket (dice.MoreDigits read)) agrees says tells
told tickets bundle given digits OutOfMemory answer agrees says tells = absurd tells

pub short_refusal_is_told : (tickets : ℕ) (bundle : Bundle) (kept given digits : List ℕ) (stop : DrawStop) (answer : Saying) → TotalAgrees bundle.answer.lottery →
    kept ≡ bundle_seal bundle → DrawSays (shortened bundle.answer.lottery tickets) kept given digits (Err stop) → TellsStop stop answer →
    IsRight (ShortDrawMeans tickets given digits bundle) answer
short_refusal_is_told tickets bundle kept given digits stop answer agrees same says tells =
    told tickets bundle given digits stop answer agrees (subst (λ k. DrawSays (shortened bundle.answer.lottery tickets) k given digits (Err stop)) same says) tells

-- ---- at most one answer is right

abbrev draw_said : List ℕ → Bundle → Result draws.Drawn draws.Refused → Saying
draw_said given bundle (Ok drawn) = Prints Done (drawn_lines bundle drawn)
draw_said given bundle (Err refused) = Stops Rule (refused_draw_line given (bundle_seal bundle) refused)

pub short_draw_once : (tickets : ℕ) (given digits : List ℕ) (bundle : Bundle) → HasOneAnswer (ShortDrawMeans tickets given digits bundle)
short_draw_once tickets given digits bundle = two
  where
    two : HasOneAnswer (ShortDrawMeans tickets given digits bundle)
    two (Prints Done a) (Stops Input b) x y = absurd (y.total x.total)
    two (Stops Rule a) (Stops Input b) x y = absurd (y.total x.total)
    two (Stops Input a) (Prints Done b) x y = absurd (x.total y.total)
    two (Stops Input a) (Stops Rule b) x y = absurd (x.total y.total)
    two (Stops Input a) (Stops Input b) x y = ap (Stops Input) (x.line ∙ sym y.line)
    two (Prints Done a) (Prints Done b) x y = (ap (Prints Done) x.lines ∙ ap (draw_said given bundle) (sym x.draws)) ∙ sym (ap (Prints Done) y.lines ∙ ap (draw_said given bundle) (sym y.draws))
    two (Prints Done a) (Stops Rule b) x y = absurd (cc (x.draws, y.draws))
    two (Stops Rule a) (Prints Done b) x y = absurd (cc (x.draws, y.draws))
    two (Stops Rule a) (Stops Rule b) x y = (ap (Stops Rule) x.line ∙ ap (draw_said given bundle) (sym x.draws)) ∙ sym (ap (Stops Rule) y.line ∙ ap (draw_said given bundle) (sym y.draws))
    two first second x y = search rules
