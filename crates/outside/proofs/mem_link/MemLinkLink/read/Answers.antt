use Rattle.std.proofs.Common.{◌≡◌, ap, drop, sym, ◌∙◌}
use Rattle.outside.specs.Links.{LinkState}
use Rattle.outside.proofs.ReadingLaws.{front_and_rest, none_left}
use Rattle.outside.proofs.mem_link.MemLinkLink.read.Goals as goal

pub returns-clause-given : goal.returns-clause-given
returns-clause-given c =
    let copied = c.copy_front-count.ensures in
    let was : drop c.self.inside.at c.self.inside.bytes.items ≡ c.args.self.now.left = ap (λ (l : LinkState). l.left) c.self.view_is in (
      sym was ∙ front_and_rest c.deref.result.now _ _ _ _ c.deref.ensures.value copied.front,
      none_left c.deref.result.now _ _ _ _ _ c.deref.ensures.value copied.count c.copy_front-count.auto.room,
    )
