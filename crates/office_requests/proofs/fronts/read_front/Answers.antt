use Rattle.std.proofs.Common.{◌≡◌, ℕ, List, [], ◌++◌, ◌+◌, ◌-◌, ◌<◌, ◌≤◌, append-nil, ◌∙◌, ap, length, refl, sym, subst, take, rules, arith, length-append}
use Rattle.std.proofs.KnownBytes.{Consumes-trans}
use Rattle.std.proofs.lemmas.Grind.{common_steps}
use Rattle.std.proofs.lemmas.List.{length-take, length-take-le}
use Rattle.std.specs.Io.KnownBytes.{Consumes}
use Rattle.define_desk.specs.Requests.{most_of_head}
use Rattle.office_requests.specs.Needs.{LacksHead}
use Rattle.office_requests.proofs.HeadSizes.{further, head_size-le, search_resumed}
use Rattle.office_requests.proofs.AskingLaws.{none_left}
use Rattle.office_requests.proofs.Chains.{come_full, come_more, come_on, none_taken, reads_more, some_taken}
use Rattle.office_requests.proofs.Skips.{within_after}
use Rattle.office_requests.proofs.fronts.read_front.Goals as goal

pub returns-then-is_err-clause-lost : goal.returns-then-is_err-clause-lost
returns-then-is_err-clause-lost g c =
    let all = c.loop-room.bytes.items ++ take c.in-Ok.count c.read.new.room in
    let few : length c.read.new.room ≤ c.min-size.result = omega (arith, c.read.auto.room, length-take c.min-size.result c.loop-room.room) in
    let left : c.min-size.result ≤ most_of_head - length c.loop-room.bytes.items = omega (arith, c.min-size.ensures, c.len-in-loop-room.ensures, c.loop-room.bytes.ok) in
    let before : length c.loop-room.bytes.items ≤ most_of_head = omega (arith, c.loop-room.invariant.within, c.loop-room.bytes.ok) in (
      all,
      Consumes-trans _ _ _ _ _ c.loop-room.invariant.read c.in-Ok.ensures.given.0,
      within_after c.loop-room.bytes.items c.read.new.room all c.in-Ok.count c.min-size.result most_of_head refl c.in-Ok.ensures.fits.0 few left before,
    )

pub overflow_add-head : goal.overflow_add-head
overflow_add-head g c =
    let more = take c.in-Ok.count c.read.new.room in
    let all : c.extend_from_slice.new.self.items ≡ c.loop-room.bytes.items ++ take c.in-Ok.count c.read.new.room = grind (arith, common_steps) in
    let from : c.saturating_sub-from.result ≡ length c.loop-room.bytes.items - 2 = omega (arith, c.saturating_sub-from.ensures, c.len-in-loop-room-2.ensures, c.loop-room.bytes.ok) in
    let found = search_resumed c.loop-room.bytes.items more _ c.deref.result.now c.saturating_sub-from.result c.head_size.result c.loop-room.invariant.headless all from c.deref.ensures.value c.head_size.ensures
    ∙ ap (further c.saturating_sub-from.result) c.in-Some.is in
    let fits = head_size-le c.extend_from_slice.new.self.items (c.saturating_sub-from.result + c.in-Some.size) found in
    let sizes = ap length all in
    omega (arith, fits, sizes, length-append c.loop-room.bytes.items (take c.in-Ok.count c.read.new.room), length-take-le c.in-Ok.count c.read.new.room c.in-Ok.ensures.fits.0, c.in-Ok.ensures.fits.0, c.min-size.ensures, c.loop-room.bytes.ok, c.loop-room.bytes.small)

pub returns-in-Some-clause-front : goal.returns-in-Some-clause-front
returns-in-Some-clause-front g c =
    let more = take c.in-Ok.count c.read.new.room in
    let all : c.extend_from_slice.new.self.items ≡ c.loop-room.bytes.items ++ take c.in-Ok.count c.read.new.room = grind (arith, common_steps) in
    let from : c.saturating_sub-from.result ≡ length c.loop-room.bytes.items - 2 = omega (arith, c.saturating_sub-from.ensures, c.len-in-loop-room-2.ensures, c.loop-room.bytes.ok) in
    let found = search_resumed c.loop-room.bytes.items more _ c.deref.result.now c.saturating_sub-from.result c.head_size.result c.loop-room.invariant.headless all from c.deref.ensures.value c.head_size.ensures
    ∙ ap (further c.saturating_sub-from.result) c.in-Some.is in
    let P : List ℕ → Type 0 = λ xs. Consumes (g.L.Link.left c.args.link.now) (g.L.Link.left c.read.new.self) xs in
    let few : length c.read.new.room ≤ c.min-size.result = omega (arith, c.read.auto.room, length-take c.min-size.result c.loop-room.room) in
    let left : c.min-size.result ≤ most_of_head - length c.loop-room.bytes.items = omega (arith, c.min-size.ensures, c.len-in-loop-room.ensures, c.loop-room.bytes.ok) in
    let before : length c.loop-room.bytes.items ≤ most_of_head = omega (arith, c.loop-room.invariant.within, c.loop-room.bytes.ok) in
    let within = within_after c.loop-room.bytes.items c.read.new.room c.extend_from_slice.new.self.items c.in-Ok.count c.min-size.result most_of_head all c.in-Ok.ensures.fits.0 few left before in
    record {
      read = subst P (sym all) (Consumes-trans _ _ _ _ _ c.loop-room.invariant.read c.in-Ok.ensures.given.0);
      head_is = sym found;
      within = within;
      fits = head_size-le c.extend_from_slice.new.self.items (c.saturating_sub-from.result + c.in-Some.size) found;
      ended = λ none _. absurd (let clash : ⊥ = cc in clash);
    }

pub loop-room-preserved : goal.loop-room-preserved
loop-room-preserved g c =
    let more = take c.in-Ok.count c.read.new.room in
    let all : c.extend_from_slice.new.self.items ≡ c.loop-room.bytes.items ++ take c.in-Ok.count c.read.new.room = grind (arith, common_steps) in
    let from : c.saturating_sub-from.result ≡ length c.loop-room.bytes.items - 2 = omega (arith, c.saturating_sub-from.ensures, c.len-in-loop-room-2.ensures, c.loop-room.bytes.ok) in
    let P : List ℕ → Type 0 = λ xs. Consumes (g.L.Link.left c.args.link.now) (g.L.Link.left c.read.new.self) xs in
    let few : length c.read.new.room ≤ c.min-size.result = omega (arith, c.read.auto.room, length-take c.min-size.result c.loop-room.room) in
    let left : c.min-size.result ≤ most_of_head - length c.loop-room.bytes.items = omega (arith, c.min-size.ensures, c.len-in-loop-room.ensures, c.loop-room.bytes.ok) in
    let before : length c.loop-room.bytes.items ≤ most_of_head = omega (arith, c.loop-room.invariant.within, c.loop-room.bytes.ok) in
    let within = within_after c.loop-room.bytes.items c.read.new.room c.extend_from_slice.new.self.items c.in-Ok.count c.min-size.result most_of_head all c.in-Ok.ensures.fits.0 few left before in
    let none = none_left c.head_size.result c.in_default-head_size.not-Some in
    let room : length c.loop-room.bytes.items < most_of_head = omega (arith, c.len-in-loop-room.ensures, c.loop-room.bytes.ok) in
    record {
      read = subst P (sym all) (Consumes-trans _ _ _ _ _ c.loop-room.invariant.read c.in-Ok.ensures.given.0);
      headless = search_resumed c.loop-room.bytes.items more _ c.deref.result.now c.saturating_sub-from.result c.head_size.result c.loop-room.invariant.headless all from c.deref.ensures.value c.head_size.ensures
          ∙ ap (further c.saturating_sub-from.result) none;
      within = omega (arith, within, c.extend_from_slice.new.self.ok);
      reads = omega (arith, c.loop-room.invariant.reads, c.read.ensures.one, ap length all, length-append c.loop-room.bytes.items more, length-take-le c.in-Ok.count c.read.new.room c.in-Ok.ensures.fits.0, c.loop-room.bytes.ok, c.extend_from_slice.new.self.ok);
      came = come_on g.L.Link.left g.L.Link.reads LacksHead _ _ _ c.loop-room.bytes.items more c.extend_from_slice.new.self.items c.loop-room.invariant.came (room, c.loop-room.invariant.headless)
          c.in-Ok.ensures.given.0 (some_taken c.in-Ok.count c.read.new.room (omega arith) c.in-Ok.ensures.fits.0) all c.read.ensures.one;
      written = search rules;
      none = search rules;
    }

pub returns-then-is_err-clause-stopped : goal.returns-then-is_err-clause-stopped
returns-then-is_err-clause-stopped g c =
    let room : length c.loop-room.bytes.items < most_of_head = omega (arith, c.len-in-loop-room.ensures, c.loop-room.bytes.ok) in
    reads_more g.L.Link.left g.L.Link.reads LacksHead _ _ _ c.loop-room.bytes.items (take c.in-Ok.count c.read.new.room) c.loop-room.invariant.came
    (room, c.loop-room.invariant.headless) c.in-Ok.ensures.given.0 c.read.ensures.one

pub returns-in-Some-clause-came : goal.returns-in-Some-clause-came
returns-in-Some-clause-came g c =
    let all : c.extend_from_slice.new.self.items ≡ c.loop-room.bytes.items ++ take c.in-Ok.count c.read.new.room = grind (arith, common_steps) in
    let room : length c.loop-room.bytes.items < most_of_head = omega (arith, c.len-in-loop-room.ensures, c.loop-room.bytes.ok) in
    come_more g.L.Link.left g.L.Link.reads LacksHead _ _ _ c.loop-room.bytes.items (take c.in-Ok.count c.read.new.room) c.extend_from_slice.new.self.items c.loop-room.invariant.came
    (room, c.loop-room.invariant.headless) c.in-Ok.ensures.given.0 all c.read.ensures.one

pub returns-in_default-clause-stopped : goal.returns-in_default-clause-stopped
returns-in_default-clause-stopped g c =
    let room : length c.loop-room.bytes.items < most_of_head = omega (arith, c.len-in-loop-room.ensures, c.loop-room.bytes.ok) in
    reads_more g.L.Link.left g.L.Link.reads LacksHead _ _ _ c.loop-room.bytes.items [] c.loop-room.invariant.came
    (room, c.loop-room.invariant.headless) (none_taken _ _ c.in_default.ensures.given) c.read.ensures.one

pub returns-then-count-eq0-clause-came : goal.returns-then-count-eq0-clause-came
returns-then-count-eq0-clause-came g c =
    let room : length c.loop-room.bytes.items < most_of_head = omega (arith, c.len-in-loop-room.ensures, c.loop-room.bytes.ok) in
    come_more g.L.Link.left g.L.Link.reads LacksHead _ _ _ c.loop-room.bytes.items (take c.in-Ok.count c.read.new.room) c.loop-room.bytes.items c.loop-room.invariant.came
    (room, c.loop-room.invariant.headless) c.in-Ok.ensures.given.0 (let zero : c.in-Ok.count ≡ 0 = search rules in sym (append-nil c.loop-room.bytes.items) ∙ ap (λ n. c.loop-room.bytes.items ++ take n c.read.new.room) (sym zero)) c.read.ensures.one

pub returns-clause-came : goal.returns-clause-came
returns-clause-came g c = come_full g.L.Link.left g.L.Link.reads LacksHead _ _ c.loop-room.bytes.items c.loop-room.invariant.came
