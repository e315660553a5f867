use Rattle.office_requests.proofs.Paths.{path_text}
use Rattle.office_requests.proofs.heads.path_of.Goals as goal

pub returns : goal.returns
returns c = path_text c.from_utf8_lossy.result c.args.target.now c.path_size.result c.requires c.path_size.ensures.path c.path_size.ensures.cut c.from_utf8_lossy.ensures.ok
