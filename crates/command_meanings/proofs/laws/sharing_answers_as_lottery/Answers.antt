use Rattle.command_meanings.proofs.SharedEndings.{shared_as_lottery}
use Rattle.command_meanings.proofs.laws.sharing_answers_as_lottery.Goals as goal

pub returns : goal.returns
returns c = λ limits pool ending answer is_pool ranges ends kept right. shared_as_lottery limits pool ending is_pool ranges ends kept answer right
