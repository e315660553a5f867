-- If a draw is refused, the answer for its stop is right by `DrawMeans`.
use Rattle.std.proofs.Common.{◌≡◌, ◌∙◌, ℕ, List, refl, ap₂, sym, subst}
use Rattle.std.specs.Prelude.{Err}
use Rattle.define_pools.specs.Lottery.{TotalAgrees}
use Rattle.define_bundles.specs.BundleText.{Bundle}
use Rattle.define_draws.specs.declared.DiceStop.TheVariants as dice
use Rattle.define_draws.specs.Draw.{Refused, draw}
use Rattle.sealed_draw.specs.Answers.{DrawSays}
use Rattle.sealed_draw.specs.declared.drawn.DrawStop.{DrawStop}
use Rattle.sealed_draw.specs.declared.drawn.DrawStop.TheVariants.{SealDiffers, BadDigit, MoreDigits, OutOfMemory}
use Rattle.command_shell.specs.declared.status.Cause.TheVariants.{Rule}
use Rattle.command_shell.specs.Answers.{IsRight, Saying, Stops}
use Rattle.command_meanings.specs.Draw.{DrawMeans, refused_draw_line}
use Rattle.define_draws.specs.Lines.{bundle_seal}
use Rattle.command_bundles.specs.Stopped.{TellsStop}

is_right : (bundle : Bundle) (given digits : List ℕ) (answer : Saying) (refused : Refused) → TotalAgrees bundle.answer.lottery →
    draw bundle.answer.lottery (bundle_seal bundle) given digits ≡ Err refused → answer ≡ Stops Rule (refused_draw_line given (bundle_seal bundle) refused) →
    IsRight (DrawMeans given digits bundle) answer
is_right bundle given digits answer refused agrees draws is =
    subst (IsRight (DrawMeans given digits bundle)) (sym is) (record { refused = refused; total = agrees; draws = draws; line = refl })

told : (bundle : Bundle) (given digits : List ℕ) (stop : DrawStop) (answer : Saying) → TotalAgrees bundle.answer.lottery →
    DrawSays bundle.answer.lottery (bundle_seal bundle) given digits (Err stop) → TellsStop stop answer → IsRight (DrawMeans given digits bundle) answer
told bundle given digits (SealDiffers as_given as_kept) answer agrees says tells =
    is_right bundle given digits answer Refused.SealDiffers agrees says.0 (tells ∙ ap₂ (λ g k. Stops Rule (refused_draw_line g k Refused.SealDiffers)) says.1 says.2)
told bundle given digits (BadDigit place) answer agrees says tells = is_right bundle given digits answer (Refused.NoTicket (dice.BadDigit place)) agrees says tells
told bundle given digits (MoreDigits read) answer agrees says tells = is_right bundle given digits answer (Refused.NoTicket (dice.MoreDigits read)) agrees says tells
told bundle given digits OutOfMemory answer agrees says tells = absurd tells

pub refusal_is_told : (bundle : Bundle) (kept given digits : List ℕ) (stop : DrawStop) (answer : Saying) → TotalAgrees bundle.answer.lottery → kept ≡ bundle_seal bundle →
    DrawSays bundle.answer.lottery kept given digits (Err stop) → TellsStop stop answer → IsRight (DrawMeans given digits bundle) answer
refusal_is_told bundle kept given digits stop answer agrees same says tells =
    told bundle given digits stop answer agrees (subst (λ k. DrawSays bundle.answer.lottery k given digits (Err stop)) same says) tells
