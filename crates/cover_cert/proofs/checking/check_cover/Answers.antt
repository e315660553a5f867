use Rattle.cover_cert.proofs.Shown.{certified, greatest}
use Rattle.cover_cert.proofs.checking.check_cover.Goals as goal

pub returns-clause-certified : goal.returns-clause-certified
returns-clause-certified g c = certified c.args.cover.now c.facts.ensures.is_bundle.in_ranges c.cover_verdict.result c.cover_verdict.ensures.answer

pub returns-clause-greatest : goal.returns-clause-greatest
returns-clause-greatest g c = greatest c.args.cover.now c.facts.ensures.is_bundle.in_ranges c.cover_verdict.result c.cover_verdict.ensures.answer
