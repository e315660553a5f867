use Rattle.office_desk.proofs.Isolation.{bundle_is_public, draw_is_public}
use Rattle.office_desk.proofs.laws.public_pages_are_public.Goals as goal

pub returns-clause-bundle : goal.returns-clause-bundle
returns-clause-bundle c = bundle_is_public

pub returns-clause-draw : goal.returns-clause-draw
returns-clause-draw c = draw_is_public
