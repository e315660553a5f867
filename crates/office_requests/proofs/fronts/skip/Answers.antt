use Rattle.std.proofs.Common.{[], ◌++◌, ◌<◌, ◌≤◌, length, refl, take, rules, arith}
use Rattle.std.proofs.KnownBytes.{Consumes-trans}
use Rattle.std.proofs.lemmas.List.{length-take}
use Rattle.office_requests.specs.Needs.{LacksBytes}
use Rattle.office_requests.proofs.Chains.{come_full, come_on, none_taken, reads_more, some_taken}
use Rattle.office_requests.proofs.Skips.{count_after}
use Rattle.office_requests.proofs.fronts.skip.Goals as goal

pub loop-left-preserved : goal.loop-left-preserved
loop-left-preserved g c =
    let few : c.in_ok-taken.taken ≤ c.loop-left.left = omega (arith, c.in_ok-taken.ensures.fits.0, c.min-size.ensures, c.read.auto.room, length-take c.min-size.result c.loop-left.room) in
    record {
      read = (
        c.loop-left.invariant.read.0 ++ take c.in_ok-taken.taken c.read.new.room,
        Consumes-trans _ _ _ _ _ c.loop-left.invariant.read.1 c.in_ok-taken.ensures.given.0,
        count_after c.loop-left.invariant.read.0 c.read.new.room c.in_ok-taken.taken c.loop-left.left c.args.count c.in_ok-taken.ensures.fits.0 few c.loop-left.invariant.read.2,
        come_on g.L.Link.left g.L.Link.reads (LacksBytes c.args.count) _ _ _ c.loop-left.invariant.read.0 (take c.in_ok-taken.taken c.read.new.room) _ c.loop-left.invariant.read.3
            (let lacks : length c.loop-left.invariant.read.0 < c.args.count = omega (arith, c.loop-left.invariant.read.2) in lacks)
            c.in_ok-taken.ensures.given.0 (some_taken c.in_ok-taken.taken c.read.new.room (omega arith) c.in_ok-taken.ensures.fits.0) refl c.read.ensures.one,
      );
      reads = omega (arith, c.loop-left.invariant.reads, c.read.ensures.one, few);
      written = search rules;
      none = search rules;
    }

pub returns-in_err-taken-clause-came : goal.returns-in_err-taken-clause-came
returns-in_err-taken-clause-came g c =
    let lacks : length c.loop-left.invariant.read.0 < c.args.count = omega (arith, c.loop-left.invariant.read.2) in
    reads_more g.L.Link.left g.L.Link.reads (LacksBytes c.args.count) _ _ _ c.loop-left.invariant.read.0 [] c.loop-left.invariant.read.3 lacks (none_taken _ _ c.in_err-taken.ensures.given) c.read.ensures.one

pub returns-then-taken-eq0-clause-came : goal.returns-then-taken-eq0-clause-came
returns-then-taken-eq0-clause-came g c =
    let lacks : length c.loop-left.invariant.read.0 < c.args.count = omega (arith, c.loop-left.invariant.read.2) in
    reads_more g.L.Link.left g.L.Link.reads (LacksBytes c.args.count) _ _ _ c.loop-left.invariant.read.0 (take c.in_ok-taken.taken c.read.new.room) c.loop-left.invariant.read.3 lacks
    c.in_ok-taken.ensures.given.0 c.read.ensures.one

pub returns-clause-came : goal.returns-clause-came
returns-clause-came g c =
    (c.loop-left.invariant.read.0, come_full g.L.Link.left g.L.Link.reads (LacksBytes c.args.count) _ _ c.loop-left.invariant.read.0 c.loop-left.invariant.read.3)
