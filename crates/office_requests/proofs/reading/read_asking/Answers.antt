use Rattle.std.proofs.Common.{◌≡◌, ◌-◌, length, subst, sym, take, rules, arith}
use Rattle.define_desk.specs.Requests as desk
use Rattle.office_requests.specs.Askings.{IsAskedOver}
use Rattle.office_requests.proofs.AskingLaws.{asked_cut, asked_headless, asked_large, asked_no, asked_whole, fits_at, lost_twice, none_left, small_body, wanted_ok}
use Rattle.office_requests.proofs.NeedLaws.{needed_before, needed_body, needed_front, stops_before, stops_body}
use Rattle.office_requests.proofs.reading.read_asking.Goals as goal

pub returns-in_default-clause-asking : goal.returns-in_default-clause-asking
returns-in_default-clause-asking g c =
    let P : desk.Asking → Type 0 = λ asking. IsAskedOver (g.L.Link.left c.args.link.now) asking in
    let none = none_left c.in_ok-front.front.head c.in_default.not-Some in
    subst P (sym c.without_head.ensures)
    (asked_headless (g.L.Link.left c.args.link.now) (g.L.Link.left c.read_front.new.link) c.in_ok-front.front.bytes.items c.deref.result.now c.in_ok-front.front.head c.in_ok-front.ensures.front none c.deref.ensures.value)

pub returns-in-TooLarge-clause-asking : goal.returns-in-TooLarge-clause-asking
returns-in-TooLarge-clause-asking g c =
    let asks = wanted_ok c.wanted_by.result (take c.in-Some.size c.deref-2.result.now) c.in-Ok.wanted c.in-Ok.is c.wanted_by.ensures.asks in
    asked_large (g.L.Link.left c.args.link.now) (g.L.Link.left c.read_front.new.link) c.in_ok-front.front.bytes.items c.deref-2.result.now c.in-Some.size c.in_ok-front.front.head c.in-Ok.wanted
    c.in_ok-front.ensures.front c.in-Some.is c.deref-2.ensures.value asks c.in-TooLarge.is

pub returns-in-NoRequest-clause-asking : goal.returns-in-NoRequest-clause-asking
returns-in-NoRequest-clause-asking g c =
    let asks = wanted_ok c.wanted_by.result (take c.in-Some.size c.deref-2.result.now) c.in-Ok.wanted c.in-Ok.is c.wanted_by.ensures.asks in
    asked_no (g.L.Link.left c.args.link.now) (g.L.Link.left c.read_front.new.link) c.in_ok-front.front.bytes.items c.deref-2.result.now c.in-Some.size c.in_ok-front.front.head c.in-Ok.wanted
    c.in_ok-front.ensures.front c.in-Some.is c.deref-2.ensures.value asks c.in-NoRequest.is

pub overflow_sub-come : goal.overflow_sub-come
overflow_sub-come g c =
    let fits = fits_at (g.L.Link.left c.args.link.now) (g.L.Link.left c.read_front.new.link) c.in_ok-front.front.bytes.items c.in_ok-front.front.head c.in-Some.size c.in_ok-front.ensures.front c.in-Some.is in
    omega (arith, fits, c.len.ensures, c.in_ok-front.front.bytes.ok)

pub returns-in-Ok-true-clause-asking : goal.returns-in-Ok-true-clause-asking
returns-in-Ok-true-clause-asking g c =
    let missing : c.saturating_sub.result ≡ c.in-Asks.body - (length c.in_ok-front.front.bytes.items - c.in-Some.size) = omega (arith, c.saturating_sub.ensures, c.len.ensures, c.in_ok-front.front.bytes.ok) in
    let asks = wanted_ok c.wanted_by.result (take c.in-Some.size c.deref-2.result.now) c.in-Ok.wanted c.in-Ok.is c.wanted_by.ensures.asks in
    asked_whole (g.L.Link.left c.args.link.now) (g.L.Link.left c.read_front.new.link) _ c.in_ok-front.front.bytes.items c.deref-2.result.now c.in-Some.size c.in_ok-front.front.head
    c.in-Ok.wanted c.in-Asks.request c.in-Asks.body c.saturating_sub.result c.in-Ok-true.field-0 c.in_ok-front.ensures.front c.in-Some.is c.deref-2.ensures.value asks c.in-Asks.is missing
    c.in-Ok-true.ensures.skips c.in-Ok-true.field-0-test

pub returns-in-Ok-true-clause-front : goal.returns-in-Ok-true-clause-front
returns-in-Ok-true-clause-front g c =
    let missing : c.saturating_sub.result ≡ c.in-Asks.body - (length c.in_ok-front.front.bytes.items - c.in-Some.size) = omega (arith, c.saturating_sub.ensures, c.len.ensures, c.in_ok-front.front.bytes.ok) in
    lost_twice _ _ _ c.saturating_sub.result c.in-Asks.body (length c.in_ok-front.front.bytes.items - c.in-Some.size) c.in_ok-front.ensures.lost c.in-Ok-true.ensures.lost missing
    (small_body c.wanted_by.result c.in-Ok.wanted c.in-Asks.request c.in-Asks.body c.in-Ok.is c.wanted_by.ensures.small c.in-Asks.is)

pub returns-in-Ok-false-clause-asking : goal.returns-in-Ok-false-clause-asking
returns-in-Ok-false-clause-asking g c =
    let missing : c.saturating_sub.result ≡ c.in-Asks.body - (length c.in_ok-front.front.bytes.items - c.in-Some.size) = omega (arith, c.saturating_sub.ensures, c.len.ensures, c.in_ok-front.front.bytes.ok) in
    let asks = wanted_ok c.wanted_by.result (take c.in-Some.size c.deref-2.result.now) c.in-Ok.wanted c.in-Ok.is c.wanted_by.ensures.asks in
    asked_cut (g.L.Link.left c.args.link.now) (g.L.Link.left c.read_front.new.link) _ c.in_ok-front.front.bytes.items c.deref-2.result.now c.in-Some.size c.in_ok-front.front.head
    c.in-Ok.wanted c.in-Asks.request c.in-Asks.body c.saturating_sub.result c.in-Ok-false.field-0 c.in_ok-front.ensures.front c.in-Some.is c.deref-2.ensures.value asks c.in-Asks.is missing
    c.in-Ok-false.ensures.skips c.in-Ok-false.field-0-test

pub returns-in-Ok-false-clause-front : goal.returns-in-Ok-false-clause-front
returns-in-Ok-false-clause-front g c =
    let missing : c.saturating_sub.result ≡ c.in-Asks.body - (length c.in_ok-front.front.bytes.items - c.in-Some.size) = omega (arith, c.saturating_sub.ensures, c.len.ensures, c.in_ok-front.front.bytes.ok) in
    lost_twice _ _ _ c.saturating_sub.result c.in-Asks.body (length c.in_ok-front.front.bytes.items - c.in-Some.size) c.in_ok-front.ensures.lost c.in-Ok-false.ensures.lost missing
    (small_body c.wanted_by.result c.in-Ok.wanted c.in-Asks.request c.in-Asks.body c.in-Ok.is c.wanted_by.ensures.small c.in-Asks.is)

pub returns-clause-front : goal.returns-clause-front
returns-clause-front g c =
    let missing : c.saturating_sub.result ≡ c.in-Asks.body - (length c.in_ok-front.front.bytes.items - c.in-Some.size) = omega (arith, c.saturating_sub.ensures, c.len.ensures, c.in_ok-front.front.bytes.ok) in
    lost_twice _ _ _ c.saturating_sub.result c.in-Asks.body (length c.in_ok-front.front.bytes.items - c.in-Some.size) c.in_ok-front.ensures.lost c.in-Err.ensures.lost missing
    (small_body c.wanted_by.result c.in-Ok.wanted c.in-Asks.request c.in-Asks.body c.in-Ok.is c.wanted_by.ensures.small c.in-Asks.is)

pub returns-in-Ok-true-clause-needed : goal.returns-in-Ok-true-clause-needed
returns-in-Ok-true-clause-needed g c =
    let missing : c.saturating_sub.result ≡ c.in-Asks.body - (length c.in_ok-front.front.bytes.items - c.in-Some.size) = omega (arith, c.saturating_sub.ensures, c.len.ensures, c.in_ok-front.front.bytes.ok) in
    let asks = wanted_ok c.wanted_by.result (take c.in-Some.size c.deref-2.result.now) c.in-Ok.wanted c.in-Ok.is c.wanted_by.ensures.asks in
    needed_body g.L.Link.left g.L.Link.reads _ c.read_front.new.link _ c.in_ok-front.front.bytes.items c.deref-2.result.now c.in-Some.size c.in_ok-front.front.head c.in-Ok.wanted c.in-Asks.request c.in-Asks.body
    c.saturating_sub.result c.in_ok-front.ensures.front c.in-Some.is c.deref-2.ensures.value asks c.in-Asks.is missing c.in_ok-front.ensures.came c.in-Ok-true.ensures.came

pub returns-in-Ok-false-clause-needed : goal.returns-in-Ok-false-clause-needed
returns-in-Ok-false-clause-needed g c =
    let missing : c.saturating_sub.result ≡ c.in-Asks.body - (length c.in_ok-front.front.bytes.items - c.in-Some.size) = omega (arith, c.saturating_sub.ensures, c.len.ensures, c.in_ok-front.front.bytes.ok) in
    let asks = wanted_ok c.wanted_by.result (take c.in-Some.size c.deref-2.result.now) c.in-Ok.wanted c.in-Ok.is c.wanted_by.ensures.asks in
    needed_body g.L.Link.left g.L.Link.reads _ c.read_front.new.link _ c.in_ok-front.front.bytes.items c.deref-2.result.now c.in-Some.size c.in_ok-front.front.head c.in-Ok.wanted c.in-Asks.request c.in-Asks.body
    c.saturating_sub.result c.in_ok-front.ensures.front c.in-Some.is c.deref-2.ensures.value asks c.in-Asks.is missing c.in_ok-front.ensures.came c.in-Ok-false.ensures.came

pub returns-clause-needed : goal.returns-clause-needed
returns-clause-needed g c =
    let missing : c.saturating_sub.result ≡ c.in-Asks.body - (length c.in_ok-front.front.bytes.items - c.in-Some.size) = omega (arith, c.saturating_sub.ensures, c.len.ensures, c.in_ok-front.front.bytes.ok) in
    let asks = wanted_ok c.wanted_by.result (take c.in-Some.size c.deref-2.result.now) c.in-Ok.wanted c.in-Ok.is c.wanted_by.ensures.asks in
    needed_body g.L.Link.left g.L.Link.reads _ c.read_front.new.link _ c.in_ok-front.front.bytes.items c.deref-2.result.now c.in-Some.size c.in_ok-front.front.head c.in-Ok.wanted c.in-Asks.request c.in-Asks.body
    c.saturating_sub.result c.in_ok-front.ensures.front c.in-Some.is c.deref-2.ensures.value asks c.in-Asks.is missing c.in_ok-front.ensures.came c.in-Err.ensures.came

pub returns-in-TooLarge-clause-needed : goal.returns-in-TooLarge-clause-needed
returns-in-TooLarge-clause-needed g c = needed_front g.L.Link.left g.L.Link.reads _ _ c.in_ok-front.front.bytes.items c.in_ok-front.ensures.came

pub returns-in-NoRequest-clause-needed : goal.returns-in-NoRequest-clause-needed
returns-in-NoRequest-clause-needed g c = needed_front g.L.Link.left g.L.Link.reads _ _ c.in_ok-front.front.bytes.items c.in_ok-front.ensures.came

pub returns-in_default-clause-needed : goal.returns-in_default-clause-needed
returns-in_default-clause-needed g c = needed_front g.L.Link.left g.L.Link.reads _ _ c.in_ok-front.front.bytes.items c.in_ok-front.ensures.came

pub returns-clause-undecided : goal.returns-clause-undecided
returns-clause-undecided g c =
    let missing : c.saturating_sub.result ≡ c.in-Asks.body - (length c.in_ok-front.front.bytes.items - c.in-Some.size) = omega (arith, c.saturating_sub.ensures, c.len.ensures, c.in_ok-front.front.bytes.ok) in
    let asks = wanted_ok c.wanted_by.result (take c.in-Some.size c.deref-2.result.now) c.in-Ok.wanted c.in-Ok.is c.wanted_by.ensures.asks in
    λ _. stops_body _ (g.L.Link.left c.read_front.new.link) _ c.in_ok-front.front.bytes.items c.deref-2.result.now c.in-Some.size c.in_ok-front.front.head c.in-Ok.wanted c.in-Asks.request c.in-Asks.body
    c.saturating_sub.result c.in_ok-front.ensures.front c.in-Some.is c.deref-2.ensures.value asks c.in-Asks.is missing c.in-Err.ensures.lacking

pub returns-in_default-wanted_by-clause-needed : goal.returns-in_default-wanted_by-clause-needed
returns-in_default-wanted_by-clause-needed g c = needed_front g.L.Link.left g.L.Link.reads _ _ c.in_ok-front.front.bytes.items c.in_ok-front.ensures.came

pub returns-in_err-front-clause-needed : goal.returns-in_err-front-clause-needed
returns-in_err-front-clause-needed g c = needed_before g.L.Link.left g.L.Link.reads _ _ c.in_err-front.ensures.stopped

pub returns-in_err-front-clause-undecided : goal.returns-in_err-front-clause-undecided
returns-in_err-front-clause-undecided g c = λ is. stops_before _ _ (c.in_err-front.ensures.lacking (first_of (cc, search rules)))
