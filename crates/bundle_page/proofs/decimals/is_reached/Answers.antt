use Rattle.std.proofs.Common.{refl}
use Rattle.bundle_page.proofs.Numbers.{reached}
use Rattle.bundle_page.proofs.decimals.is_reached.Goals as goal

pub returns-in_default : goal.returns-in_default
returns-in_default c =
    (λ _. reached c.args.count c.args.part c.args.whole c.compared.result c.requires.from c.compared.ensures c.in_default.not-Greater, λ _. refl)
