use Rattle.std.proofs.Common.{◌≡◌, ◌+◌, ◌*◌, ◌∙◌, List, ap, sym, subst, length, ◌∷◌, []}
use Rattle.std.specs.Prelude.{slice_get}
use Rattle.std.proofs.lemmas.List.{length-append}
use Rattle.pricing_pool.specs.Outcomes.{Told}
use Rattle.pricing_pool.proofs.Answered.{each_pushed, next_place}
use Rattle.pricing_pool.proofs.workers.work.Goals as goal

pub loop-place-preserved : goal.loop-place-preserved
loop-place-preserved g c =
    let answers = g.P.Pieces.answers c.args.pieces.now in
    let old = c.loop-place.outcomes.items in
    let told : Told = (c.searched-outcome.result, c.searched-outcome.new.word) in
    let items = c.in_ok-push.ensures.items in
    let new = subst (λ p. answers p told) c.loop-place.invariant.place c.searched-outcome.ensures.answers in
    let long : length c.push.new.self.items ≡ length old + 1 = ap (λ (xs : List Told). length xs) items ∙ length-append old (told ∷ []) in
    record {
      place = next_place c.args.workers c.args.worker c.loop-place.place (length old) (length c.push.new.self.items) c.loop-place.invariant.place long;
      each = λ i one e. each_pushed (λ j o. answers (c.args.worker + j * c.args.workers) o) old told c.loop-place.invariant.each new i one (ap (λ (xs : List Told). slice_get xs i) (sym items) ∙ e);
      stands = c.searched-outcome.ensures.stands;
    }
