use Rattle.std.proofs.Common.{List, length, Some, None, ap, arith}
use Rattle.define_searches.specs.Classes.{Class}
use Rattle.cover_text.specs.Causes.{seen_cause}
use Rattle.define_covers.proofs.Counts.{fits_few, fits_within}
use Rattle.cover_cert.proofs.MadeLines.{done, down, first_is, next_is, on, read_fits, short}
use Rattle.cover_cert.proofs.making.lines_of.Goals as goal
use Rattle.cover_cert.proofs.making.lines_of.Goals.{in-None+in_ok-push-in-None, in-Some+in_ok-next-in-Some+in_ok-push-in-Some+in-Some-next}

pub first_cause-requires-clause-fits : goal.first_cause-requires-clause-fits
first_cause-requires-clause-fits c =
    let all = c.args.terms.now.classes in
    fits_few all.classes c.deref.result.now (read_fits all c.args.terms.now.closed.items c.args.terms.now.row c.fronts.lines.items c.fronts.front.items c.fronts.invariant.tries c.facts.ensures c.deref.result.now c.deref.ensures.value)

pub first_cause-requires-clause-within : goal.first_cause-requires-clause-within
first_cause-requires-clause-within c =
    let all = c.args.terms.now.classes in
    fits_within all c.deref.result.now (read_fits all c.args.terms.now.closed.items c.args.terms.now.row c.fronts.lines.items c.fronts.front.items c.fronts.invariant.tries c.facts.ensures c.deref.result.now c.deref.ensures.value)

pub class_at-requires : goal.class_at-requires
class_at-requires c =
    let all = c.args.terms.now.classes in let closed = c.args.terms.now.closed.items in let row = c.args.terms.now.row in
    let live = first_is all closed row c.fronts.lines.items c.fronts.front.items c.fronts.invariant.tries c.facts.ensures c.deref.result.now c.first_cause.result None c.deref.ensures.value c.first_cause.ensures.cause c.in-None.is in
    let few = short all closed row c.fronts.lines.items c.fronts.front.items c.fronts.invariant.tries c.facts.ensures c.requires.none live in
    omega (arith, few, c.len.ensures, c.fronts.front.ok.0)

pub turned-requires : goal.turned-requires
turned-requires c =
    let all = c.args.terms.now.classes in
    let few = fits_few all.classes c.deref-in-Some.result.now
    (read_fits all c.args.terms.now.closed.items c.args.terms.now.row c.fronts.lines.items c.fronts.front.items c.fronts.invariant.tries c.facts.ensures c.deref-in-Some.result.now c.deref-in-Some.ensures.value) in
    omega (arith, few, ap (λ (those : List Class). length those) c.classes.ensures)

pub returns-in-None-next : goal.returns-in-None-next
returns-in-None-next c =
    let all = c.args.terms.now.classes in let closed = c.args.terms.now.closed.items in let row = c.args.terms.now.row in
    let lines = c.fronts.lines.items in let front = c.fronts.front.items in let tries = c.fronts.invariant.tries in let limits = c.facts.ensures in
    let first = first_is all closed row lines front tries limits c.deref.result.now c.first_cause.result (Some c.in-Some.cause) c.deref.ensures.value c.first_cause.ensures.cause c.in-Some.is in
    let next = next_is all closed row lines front tries limits c.classes.result.now c.deref-in-Some.result.now None c.classes.ensures c.deref-in-Some.ensures.value (rw c.in-None-next.is at c.in_ok-next-in-Some.ensures) in
    done all closed row lines front tries limits (seen_cause c.in-Some.cause) first c.push-in-Some.new.self.items c.new-in-Some.result c.new-in-Some.ensures c.in_ok-push-in-Some.ensures.items next

pub fronts-preserved : goal.fronts-preserved
fronts-preserved c =
    let all = c.args.terms.now.classes in let closed = c.args.terms.now.closed.items in let row = c.args.terms.now.row in
    let lines = c.fronts.lines.items in let front = c.fronts.front.items in let tries = c.fronts.invariant.tries in let limits = c.facts.ensures in
    record {
      begins = c.first_cause.ensures.again;
      tries =
          elim c.match-first_cause.branch [
            | in-None+in_ok-push-in-None w ↦
                let live = first_is all closed row lines front tries limits c.deref.result.now c.first_cause.result None c.deref.ensures.value c.first_cause.ensures.cause w.in-None.is in
                rw (w.lines-is, w.front-is)
                (down all closed row lines front tries limits c.requires.none live w.len.result w.class_at.result.now w.most.result w.push.new.self.items
                (omega (arith, w.len.ensures, c.fronts.front.ok.0)) w.class_at.ensures.stands.is w.most.ensures w.in_ok-push-in-None.ensures.items)
            | in-Some+in_ok-next-in-Some+in_ok-push-in-Some+in-Some-next w ↦
                let first = first_is all closed row lines front tries limits c.deref.result.now c.first_cause.result (Some w.in-Some.cause) c.deref.ensures.value c.first_cause.ensures.cause w.in-Some.is in
                let next = next_is all closed row lines front tries limits w.classes.result.now w.deref-in-Some.result.now (Some w.in-Some-next.next.items) w.classes.ensures w.deref-in-Some.ensures.value (rw w.in-Some-next.is at w.in_ok-next-in-Some.ensures) in
                rw (w.lines-is, w.front-is)
                (on all closed row lines front tries limits (seen_cause w.in-Some.cause) first w.push-in-Some.new.self.items w.new-in-Some.result w.new-in-Some.ensures w.in_ok-push-in-Some.ensures.items w.in-Some-next.next.items next)
          ];
    }
