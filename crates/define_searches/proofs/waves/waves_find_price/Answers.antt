use Rattle.define_searches.proofs.WavesFind.{waves_keep_price}
use Rattle.define_searches.proofs.waves.waves_find_price.Goals as goal

pub returns : goal.returns
returns c = waves_keep_price
