use Rattle.std.proofs.Common.{◌≡◌, ◌+◌, ◌<◌, ◌++◌, [], ◌∷◌, List, cond, length, map, Vec, Global, ap, ◌∙◌}
use Rattle.std.proofs.lemmas.List.{map-append}
use Rattle.serde_json.specs.Data.{Data}
use Rattle.serde_json.specs.View.{view}
use Rattle.serde_json.specs.declared.value.Value.{Value}
use Rattle.define_desk.specs.Views.{dropped_from}
use Rattle.office_desk.specs.Bodies.{number_data}
use Rattle.office_desk.proofs.Dropouts.{told_all, told_more, with_value, without_value}
use Rattle.office_desk.proofs.seat_page.dropped_rounds.Goals as goal
use Rattle.office_desk.proofs.seat_page.dropped_rounds.Goals.{then-has_dropped+in_ok-push, else-has_dropped}

pub loop-place-preserved : goal.loop-place-preserved
loop-place-preserved c =
    let rounds = c.args.rounds.now in
    let id = c.args.id.now in
    let place = c.loop-place.place in
    let has = c.has_dropped.result in
    let before = map view c.loop-place.numbers.items in
    let after = map view c.if-has_dropped.numbers.items in
    let below : place < length rounds = c.loop-place-test.true in
    let more : after ≡ before ++ cond has (number_data (place + 1) ∷ []) [] =
    elim c.if-has_dropped.branch [
      | then-has_dropped+in_ok-push w ↦
          with_value has (number_data (place + 1)) before after w.if-has_dropped.true
          (ap (λ (all : Vec Value Global). map view all.items) w.numbers-is ∙ (ap (λ (all : List Value). map view all) w.in_ok-push.ensures.items
          ∙ (map-append view c.loop-place.numbers.items (w.from.result ∷ []) ∙ ap (λ (d : Data). before ++ d ∷ []) w.from.ensures)))
      | else-has_dropped w ↦ without_value has (number_data (place + 1)) before after w.if-has_dropped.false (ap (λ (all : Vec Value Global). map view all.items) w.numbers-is)
    ] in
    told_more id rounds place c.index-rounds-place.result has before after (map number_data (dropped_from id rounds 1)) below c.index-rounds-place.is c.has_dropped.ensures more c.loop-place.invariant

pub returns : goal.returns
returns c = told_all c.args.id.now c.args.rounds.now c.loop-place.place (map view c.loop-place.numbers.items) c.loop-place-test.false c.loop-place.invariant
