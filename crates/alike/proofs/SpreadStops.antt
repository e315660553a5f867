-- If there is a common total, the lottery that is made of it is the one that `spread` returns. If not, `IsStop` allows the same stops for
-- `spread` as for the common total.
use Rattle.std.proofs.Common.{◌≡◌, ℕ, List, Ok, sym, ap, ◌∙◌}
use Rattle.std.specs.List.{flat_map}
use Rattle.frac128.specs.Fractions.{Fraction}
use Rattle.define_pools.specs.Lottery.{LotteryRow, Lottery}
use Rattle.define_searches.specs.Classes.{Classes}
use Rattle.define_runs.specs.Spreading.{lottery_of, rows_of, spread, total_from}
use Rattle.alike.specs.declared.spreading.SpreadStop.{SpreadStop}
use Rattle.alike.specs.declared.spreading.SpreadStop.TheVariants.{TotalPasses, OutOfMemory}
use Rattle.alike.specs.Spreads.{IsStop}

pub stop_told : (all : Classes) (parts : List (List ℕ × Fraction)) (stop : SpreadStop) → IsStop stop (total_from all 0 1 parts) → IsStop stop (spread all parts)
unfolding spread
stop_told all parts (TotalPasses place before den) (pass, e, f, g, h) = (pass, ap (lottery_of all parts) e, f, g, h)
stop_told all parts OutOfMemory told = tt

-- the lottery made of the common total and the rows for it is the one that the definition `spread` returns
pub lottery_made : (all : Classes) (parts : List (List ℕ × Fraction)) (total z : ℕ) (rows : List LotteryRow) (lottery : Lottery) → total_from all 0 1 parts ≡ Ok total →
    rows ≡ flat_map (rows_of all total) parts → z ≡ total → lottery ≡ (let made : Lottery = record { total = z; rows = rows } in made) → spread all parts ≡ Ok lottery
unfolding spread
lottery_made all parts total z rows lottery e f g h =
    ap (lottery_of all parts) e
    ∙ ap Ok (sym (h ∙ ap (λ (n : ℕ). let made : Lottery = record { total = n; rows = rows } in made) g ∙ ap (λ (rows : List LotteryRow). let made : Lottery = record { total = total; rows = rows } in made) f))
