use Rattle.std.proofs.Common.{ℕ, Bool, List, Err, arith}
use Rattle.std.proofs.lemmas.Result.{err_from_is_err_and}
use Rattle.define_rows.specs.Row.{Row}
use Rattle.define_searches.specs.Classes.{Classes}
use Rattle.define_searches.specs.Compositions.{price}
use Rattle.define_searches.specs.Waves.{best_in_waves}
use Rattle.panel_search.specs.Answers.{AnswersBest}
use Rattle.panel_search.specs.declared.searching.SearchStop.{SearchStop}
use Rattle.panel_search.specs.declared.searching.SearchStop.TheVariants.{Spent, OutOfMemory}
use Rattle.pricing_pool.specs.Sharing.{AnswersSharing}
use Rattle.leximin_run.specs.Advancing.{Prices}
use Rattle.leximin_run.proofs.Turns.{visits_are}
use Rattle.leximin_run.proofs.running.priced_by.Goals as goal

shared_stop : (share : Bool) (all : Classes) (closed : List Row) (row : Row) (nodes : ℕ) (stop : SearchStop) →
    AnswersSharing (price all closed row) (best_in_waves all closed row).visits nodes (Err stop) → Prices share all closed row nodes (Err stop)
shared_stop share all closed row nodes Spent answers = omega (arith, visits_are all closed row, answers)
shared_stop share all closed row nodes OutOfMemory answers = tt

alone_stop : (share : Bool) (all : Classes) (closed : List Row) (row : Row) (nodes : ℕ) (stop : SearchStop) → AnswersBest (best_in_waves all closed row) nodes (Err stop) → Prices share all closed row nodes (Err stop)
alone_stop share all closed row nodes Spent answers = omega (arith, visits_are all closed row, answers)
alone_stop share all closed row nodes OutOfMemory answers = tt

pub returns-in_err-found : goal.returns-in_err-found
returns-in_err-found g c =
    let out = err_from_is_err_and c.from_residual.result c.from_residual.ensures.1 in
    rw (out.1, out.2) (shared_stop c.args.share c.args.pricer.now.classes c.args.pricer.now.closed c.args.row.now c.args.nodes c.in_err-found.field-0.0 c.in_err-found.ensures)

pub returns-in_err-found-2 : goal.returns-in_err-found-2
returns-in_err-found-2 g c =
    let out = err_from_is_err_and c.from_residual-in_err-found-2.result c.from_residual-in_err-found-2.ensures.1 in
    rw (out.1, out.2) (alone_stop c.args.share c.args.pricer.now.classes c.args.pricer.now.closed c.args.row.now c.args.nodes c.in_err-found-2.field-0.0 c.in_err-found-2.ensures.answers)

pub returns-in_ok-found-2 : goal.returns-in_ok-found-2
returns-in_ok-found-2 g c =
    (c.in_ok-found-2.ensures.best, λ apart. omega (arith, visits_are c.args.pricer.now.classes c.args.pricer.now.closed c.args.row.now, c.in_ok-found-2.ensures.answers.0))
