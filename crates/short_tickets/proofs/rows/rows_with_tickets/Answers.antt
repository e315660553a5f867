use Rattle.std.proofs.Common.{◌≡◌, ◌+◌, ◌-◌, ◌<◌, ◌≤◌, ◌++◌, ◌∷◌, [], ◌||◌, ◌&&◌, ℕ, List, Bool, cond, eqb, ltb, get_or, length, map, take, ap, ap₂, sym, ◌∙◌, arith}
use Rattle.std.proofs.lemmas.List.{get_or-map, length-map}
use Rattle.std.proofs.lemmas.List.Sums.{sum_by_more}
use Rattle.define_pools.proofs.Sums.{one_if}
use Rattle.define_pools.specs.Lottery.{LotteryRow}
use Rattle.define_draws.proofs.TicketLemmas.{weight_at}
use Rattle.define_draws.specs.Short.{is_among_first, remainder, rows_with_tickets, tickets_by_weight, tickets_left, whole_tickets}
use Rattle.define_draws.proofs.Ranks.{on}
use Rattle.short_tickets.specs.Parts.{weights_in}
use Rattle.short_tickets.proofs.LineLemmas.{gives_is}
use Rattle.short_tickets.proofs.RowLemmas.{all_rows, length-tickets, rows_more, tickets_are, with_count}
use Rattle.short_tickets.proofs.rows.rows_with_tickets.Goals as goal

-- after row `j` one tie fewer is left if the row is on the line, else the same number
counted : (line : ℕ) (xs : List ℕ) (j ties own : ℕ) → j < length xs → own ≡ get_or xs j 0 →
    (ties - on line (take j xs)) - one_if (eqb own line) ≡ ties - on line (take (j + 1) xs)
counted line xs j ties own l at = omega (arith, sum_by_more (λ x. one_if (eqb x line)) xs j 0 l, ap (λ x. one_if (eqb x line)) at)

pub loop-row-preserved : goal.loop-row-preserved
loop-row-preserved c =
    let total = c.args.total in
    let tickets = c.args.tickets in
    let rows = c.args.rows.now in
    let weights = weights_in rows in
    let j = c.loop-row.row-index in
    let row = c.row-item.result in
    let line = c.args.line in
    let left = tickets_left total tickets weights in
    let remainders = map (remainder total tickets) weights in
    let counts = tickets_by_weight total tickets weights in
    let share = c.share_of.result in
    let before = c.loop-row.line in
    let count = c.tickets_by-count.result in
    let inside : j < length rows = omega arith in
    let room : j < length weights = omega (arith, length-map rows (λ (r : LotteryRow). r.weight)) in
    let placed : j < length remainders = omega (arith, length-map weights (remainder total tickets)) in
    let weight : get_or weights j 0 ≡ row.weight = weight_at rows j row inside c.row-item.is in
    let whole : share.whole ≡ whole_tickets total tickets (get_or weights j 0) = c.share_of.ensures.whole ∙ ap (whole_tickets total tickets) (sym weight) in
    let own : share.remainder ≡ get_or remainders j 0 =
    c.share_of.ensures.remainder ∙ (ap (remainder total tickets) (sym weight) ∙ sym (get_or-map (remainder total tickets) weights j 0 0 room)) in
    let gives : (ltb line.remainder share.remainder || (eqb share.remainder line.remainder && ltb 0 before.ties)) ≡ is_among_first left remainders j =
    gives_is left remainders line c.requires.line j share.remainder before.ties placed own c.loop-row.invariant.ties in
    let same_line : (ltb before.remainder share.remainder || (eqb share.remainder before.remainder && ltb 0 before.ties))
    ≡ (ltb line.remainder share.remainder || (eqb share.remainder line.remainder && ltb 0 before.ties)) =
    ap (λ r. ltb r share.remainder || (eqb share.remainder r && ltb 0 before.ties)) c.loop-row.invariant.line in
    let is : count ≡ get_or counts j 0 =
    c.tickets_by-count.ensures.count ∙ (ap₂ (λ (w : ℕ) (b : Bool). w + one_if b) whole (same_line ∙ gives) ∙ sym (tickets_are total tickets weights j room)) in
    let pushed : cond (eqb count 0) c.loop-row.kept.items (c.loop-row.kept.items ++ with_count row count ∷ [])
    ≡ cond (eqb (get_or counts j 0) 0) (rows_with_tickets (take j rows) (take j counts)) (rows_with_tickets (take j rows) (take j counts) ++ with_count row (get_or counts j 0) ∷ []) =
    ap₂ (λ (n : ℕ) (done : List LotteryRow). cond (eqb n 0) done (done ++ with_count row n ∷ [])) is c.loop-row.invariant.kept in
    let ties : (before.ties - one_if (eqb share.remainder before.remainder)) ≡ line.ties - on line.remainder (take (j + 1) remainders) =
    ap₂ (λ (t r : ℕ). t - one_if (eqb share.remainder r)) c.loop-row.invariant.ties c.loop-row.invariant.line ∙ counted line.remainder remainders j line.ties share.remainder placed own in
    record {
      kept = c.in_ok-push_row.ensures ∙ (pushed ∙ sym (rows_more rows counts j row inside (omega (arith, length-tickets total tickets weights)) c.row-item.is));
      line = c.tickets_by-count.ensures.remainder ∙ c.loop-row.invariant.line;
      ties = c.tickets_by-count.ensures.ties ∙ ties;
    }

pub returns : goal.returns
returns c =
    let rows = c.args.rows.now in
    let weights = weights_in rows in
    let size = length-map rows (λ (r : LotteryRow). r.weight) in
    c.loop-row.invariant.kept
    ∙ all_rows rows (tickets_by_weight c.args.total c.args.tickets weights) c.loop-row.row-index (omega arith) (omega (arith, size, length-tickets c.args.total c.args.tickets weights))
