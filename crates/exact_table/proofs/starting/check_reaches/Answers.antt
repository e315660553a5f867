use Rattle.std.proofs.Common.{◌≡◌, [], get_or, Ok, Err, pos, sym, ap, ◌∙◌, arith, FitsSigned}
use Rattle.std.specs.Prelude.{unsigned_abs}
use Rattle.std.specs.Int.{w128}
use Rattle.std.proofs.lemmas.Int.{to_z-of_z}
use Rattle.std.proofs.lemmas.List.{get_or_read}
use Rattle.define_rows.specs.Width.{reach_operations}
use Rattle.define_rows.proofs.InTurnLaws.{IsMadeUpTo, IsMadeUpTo-more, IsMadeUpTo-pass, IsMadeUpTo-all}
use Rattle.exact_table.proofs.starting.check_reaches.Goals as goal

pub returns-in-Err : goal.returns-in-Err
returns-in-Err c =
    let fm : FitsSigned w128 c.args.most = c.ranges.most in
    let inv : IsMadeUpTo (reach_operations (unsigned_abs c.args.most) c.args.sizes.now) c.args.rows.now c.loop-place.place = simp to_z-of_z at c.loop-place.invariant in
    let row : c.index-rows-place.result ≡ get_or c.args.rows.now c.loop-place.place (record { b = pos 0; a = [] }) = get_or_read c.args.rows.now c.loop-place.place c.index-rows-place.result (omega arith) c.index-rows-place.is (record { b = pos 0; a = [] }) in
    let e : Err c.in-Err.pass ≡ reach_operations (unsigned_abs c.args.most) c.args.sizes.now c.loop-place.place c.index-rows-place.result = simp to_z-of_z at c.in-Err.ensures in
    IsMadeUpTo-pass (reach_operations (unsigned_abs c.args.most) c.args.sizes.now) c.args.rows.now c.loop-place.place (record { b = pos 0; a = [] }) c.in-Err.pass inv (omega arith)
    (sym (e ∙ ap (reach_operations (unsigned_abs c.args.most) c.args.sizes.now c.loop-place.place) row))

pub loop-place-preserved : goal.loop-place-preserved
loop-place-preserved c =
    let fm : FitsSigned w128 c.args.most = c.ranges.most in
    let inv : IsMadeUpTo (reach_operations (unsigned_abs c.args.most) c.args.sizes.now) c.args.rows.now c.loop-place.place = simp to_z-of_z at c.loop-place.invariant in
    let row : c.index-rows-place.result ≡ get_or c.args.rows.now c.loop-place.place (record { b = pos 0; a = [] }) = get_or_read c.args.rows.now c.loop-place.place c.index-rows-place.result (omega arith) c.index-rows-place.is (record { b = pos 0; a = [] }) in
    let e : Ok c.in-Ok.field-0 ≡ reach_operations (unsigned_abs c.args.most) c.args.sizes.now c.loop-place.place c.index-rows-place.result = simp to_z-of_z at c.in-Ok.ensures in
    simp to_z-of_z (IsMadeUpTo-more (reach_operations (unsigned_abs c.args.most) c.args.sizes.now) c.args.rows.now c.loop-place.place (record { b = pos 0; a = [] }) c.in-Ok.field-0 inv (omega arith)
    (sym (e ∙ ap (reach_operations (unsigned_abs c.args.most) c.args.sizes.now c.loop-place.place) row)))

pub returns : goal.returns
returns c =
    let fm : FitsSigned w128 c.args.most = c.ranges.most in
    let inv : IsMadeUpTo (reach_operations (unsigned_abs c.args.most) c.args.sizes.now) c.args.rows.now c.loop-place.place = simp to_z-of_z at c.loop-place.invariant in
    IsMadeUpTo-all (reach_operations (unsigned_abs c.args.most) c.args.sizes.now) c.args.rows.now c.loop-place.place inv (omega arith)
