use Rattle.std.proofs.Common.{sym, ap, ◌∙◌, arith}
use Rattle.std.specs.List.{flat_map}
use Rattle.define_searches.specs.Waves.{pieces}
use Rattle.define_searches.proofs.Pieces.{depth_within}
use Rattle.panel_search.specs.Pieces.{live_children}
use Rattle.panel_search.proofs.Division.{goes_last, goes_next, goes_too_far, pieces_spent}
use Rattle.define_searches.proofs.WeightLaws.{element_at}
use Rattle.panel_search.proofs.dividing.pieces.Goals as goal

pub returns-in_err-visits : goal.returns-in_err-visits
returns-in_err-visits c =
    let all = c.args.terms.now.classes.now in let closed = c.args.terms.now.closed.now in let row = c.args.terms.now.row.now in
    let end = c.piece_depth-depth-end.ensures in
    let class = element_at all.classes c.loop-depth.depth (omega (arith, c.loop-depth-test.true, end, depth_within all)) in
    pieces_spent (pieces all closed row) c.args.nodes _ c.from_residual-in_err-visits.ensures.1
    (goes_too_far all closed row c.loop-depth.depth c.loop-depth.visits c.args.nodes class.0 c.loop-depth.fronts.items
    (record { below = omega (arith, c.loop-depth-test.true, end, depth_within all); is = class.1 }) (omega (arith, c.loop-depth-test.true, end)) c.loop-depth.invariant.1
    (omega (arith, c.in_err-visits.ensures.err, c.len.ensures)))

pub next_fronts-requires-clause-below : goal.next_fronts-requires-clause-below
next_fronts-requires-clause-below c = omega (arith, c.loop-depth-test.true, c.piece_depth-depth-end.ensures, depth_within c.args.terms.now.classes.now)

pub loop-depth-preserved : goal.loop-depth-preserved
loop-depth-preserved c =
    let all = c.args.terms.now.classes.now in let closed = c.args.terms.now.closed.now in let row = c.args.terms.now.row.now in
    let end = c.piece_depth-depth-end.ensures in
    let class = element_at all.classes c.loop-depth.depth (omega (arith, c.loop-depth-test.true, end, depth_within all)) in (
      omega (arith, c.in_ok-visits.ensures.ok, c.in_ok-visits.ensures.visits),
      goes_next all closed row c.loop-depth.depth c.loop-depth.visits c.in_ok-visits.visits class.0 c.loop-depth.fronts.items _ c.facts.ensures
          (record { below = omega (arith, c.loop-depth-test.true, end, depth_within all); is = class.1 }) (omega (arith, c.loop-depth-test.true, end)) c.loop-depth.invariant.1
          (c.in_ok-fronts-2.ensures ∙ ap (flat_map (live_children all closed row)) c.deref.ensures.value) (omega (arith, c.in_ok-visits.ensures.visits, c.len.ensures)),
    )

pub returns : goal.returns
returns c =
    let all = c.args.terms.now.classes.now in let closed = c.args.terms.now.closed.now in let row = c.args.terms.now.row.now in
    let done = goes_last all closed row c.loop-depth.depth c.loop-depth.visits c.loop-depth.fronts.items (omega (arith, c.loop-depth-test.false, c.piece_depth-depth-end.ensures)) c.loop-depth.invariant.1 in
    (omega (arith, done.0, c.loop-depth.invariant.0), sym done.1, sym done.0)
