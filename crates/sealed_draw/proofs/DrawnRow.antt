-- What is drawn is the panel of the ticket's row.
use Rattle.std.proofs.Common.{◌≡◌, ◌^◌, ℕ, List, Ok, Err, true, leb, unsigned_abs}
use Rattle.std.specs.Prelude.{Result, IfOk}
use Rattle.std.proofs.lemmas.Bool.{and_parts, leb-true}
use Rattle.define_pools.specs.Lottery.{Lottery, TotalAgrees}
use Rattle.define_bundles.specs.Ranges.{is_weight}
use Rattle.define_draws.specs.Draw.{Drawn}
use Rattle.define_draws.proofs.DrawLemmas.{draw-row}
use Rattle.sealed_draw.specs.Answers.{DrawSays, IsOfRow}
use Rattle.sealed_draw.specs.declared.drawn.Draw.{Draw}
use Rattle.sealed_draw.specs.declared.drawn.DrawStop.{DrawStop}

pub drawn_row : (lottery : Lottery) (kept given digits : List ℕ) (result : Result Draw DrawStop) → TotalAgrees lottery → is_weight lottery.total ≡ true → DrawSays lottery kept given digits result →
    IfOk result (λ drawn. IsOfRow lottery (unsigned_abs drawn.ticket) drawn.panel)
drawn_row lottery kept given digits (Ok drawn) agrees range says =
    let some = leb-true 1 lottery.total (and_parts (leb 1 lottery.total) (leb lottery.total (10 ^ 38)) range).0 in
    let made : Drawn = record { ticket = unsigned_abs drawn.ticket; used = drawn.used; panel = drawn.panel } in
    let row = draw-row lottery kept given digits made agrees some says.0 in
    record { row = row.0; holds = row.1.0; panel_is = row.1.1 }
drawn_row lottery kept given digits (Err stop) agrees range says = tt
