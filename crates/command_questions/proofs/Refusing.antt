-- What `draw` or `short-draw` refuses, `page` refuses with the same line.
use Rattle.std.proofs.Common.{◌≡◌, ℕ, List, Option, Some, None, Result, Ok, Err, refl, subst, rules}
use Rattle.std.specs.Prelude.{IfOk}
use Rattle.std.specs.declared.alloc.AllocError.{AllocError}
use Rattle.define_bundles.specs.BundleText.{Bundle}
use Rattle.define_pools.specs.Lottery.{Lottery}
use Rattle.define_draws.specs.declared.DiceStop.TheVariants as dice
use Rattle.define_draws.specs.Draw.{Refused, draw}
use Rattle.sealed_draw.specs.Answers.{DrawSays}
use Rattle.sealed_draw.specs.declared.drawn.DrawStop.{DrawStop}
use Rattle.sealed_draw.specs.declared.drawn.DrawStop.TheVariants.{SealDiffers, BadDigit, MoreDigits, OutOfMemory}
use Rattle.command_shell.specs.declared.answer.Answer.{Answer}
use Rattle.command_shell.specs.declared.status.Cause.TheVariants.{Input, Rule}
use Rattle.command_shell.specs.declared.status.Printed.TheVariants.{Done}
use Rattle.command_shell.specs.Answers.{IsRight, Prints, Saying, Stops, saying}
use Rattle.define_draws.specs.Lines.{bundle_seal}
use Rattle.command_meanings.specs.Page.{DrawnPageOfBundle, draw_means}
use Rattle.define_offices.specs.Pools.{lottery_in}

refuses_alike : (tickets : Option ℕ) (digits : List ℕ) (bundle : Bundle) (why : Refused) → draw (lottery_in tickets bundle.answer.lottery) (bundle_seal bundle) (bundle_seal bundle) digits ≡ Err why →
    (answer : Saying) → IsRight (draw_means tickets (bundle_seal bundle) digits bundle) answer → IsRight (DrawnPageOfBundle tickets digits bundle) answer
refuses_alike None digits bundle why none (Prints Done text) right = absurd (cc (none, right.draws))
refuses_alike None digits bundle why none (Stops Input line) right = right
refuses_alike None digits bundle why none (Stops Rule line) right = right
refuses_alike None digits bundle why none answer right = search rules
refuses_alike (Some tickets) digits bundle why none (Prints Done text) right = absurd (cc (none, right.draws))
refuses_alike (Some tickets) digits bundle why none (Stops Input line) right = right
refuses_alike (Some tickets) digits bundle why none (Stops Rule line) right = right
refuses_alike (Some tickets) digits bundle why none answer right = search rules

-- If the draw from a bundle under its own seal stops, but not for want of memory, an answer that is right for `draw` or `short-draw` is
-- right for `page`.
pub refused_so : (tickets : Option ℕ) (digits seal : List ℕ) (bundle : Bundle) (stop : DrawStop) (made : Result Answer AllocError) → seal ≡ bundle_seal bundle →
    DrawSays (lottery_in tickets bundle.answer.lottery) seal seal digits (Err stop) → (stop ≡ OutOfMemory → ⊥) →
    IfOk made (λ answer. IsRight (draw_means tickets seal digits bundle) (saying answer)) → IfOk made (λ answer. IsRight (DrawnPageOfBundle tickets digits bundle) (saying answer))
refused_so tickets digits seal bundle stop (Err error) its says other right = tt
refused_so tickets digits seal bundle stop (Ok answer) its says other right =
    so stop other (subst (λ (k : List ℕ). DrawSays lottery k k digits (Err stop)) its says) (subst (λ (k : List ℕ). IsRight (draw_means tickets k digits bundle) (saying answer)) its right)
  where
    lottery : Lottery
    lottery = lottery_in tickets bundle.answer.lottery

    so : (why : DrawStop) → (why ≡ OutOfMemory → ⊥) → DrawSays lottery (bundle_seal bundle) (bundle_seal bundle) digits (Err why) →
        IsRight (draw_means tickets (bundle_seal bundle) digits bundle) (saying answer) → IsRight (DrawnPageOfBundle tickets digits bundle) (saying answer)
    so (SealDiffers given kept) none draws it = refuses_alike tickets digits bundle Refused.SealDiffers draws.0 (saying answer) it
    so (BadDigit place) none draws it = refuses_alike tickets digits bundle (Refused.NoTicket (dice.BadDigit place)) draws (saying answer) it
    so (MoreDigits read) none draws it = refuses_alike tickets digits bundle (Refused.NoTicket (dice.MoreDigits read)) draws (saying answer) it
    so OutOfMemory none draws it = absurd (none refl)
