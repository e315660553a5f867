use Rattle.cover_cert.proofs.Shown.{accepted, caps_hold}
use Rattle.cover_cert.proofs.making.cover.Goals as goal

pub cover_of-requires : goal.cover_of-requires
cover_of-requires c = caps_hold c.args.bundle.now (c.in_ok-verdict.ensures.valid.0 c.in-None.ensures)

pub returns-clause-accepted : goal.returns-clause-accepted
returns-clause-accepted c =
    accepted c.args.bundle.now (c.in_ok-verdict.ensures.valid.0 c.in-None.ensures) c.in_ok-cover_of-in-None.field-0 c.in_ok-cover_of-in-None.ensures
