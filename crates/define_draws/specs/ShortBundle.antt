-- A bundle whose lottery is shortened. Its stages are those of the original bundle, and need not certify the shortened lottery. Builds on
-- Short, and on BundleText of `define_bundles`.
use Rattle.std.specs.Prelude.{ℕ}
use Rattle.define_bundles.specs.BundleText.{Bundle}
use Rattle.define_draws.specs.Short.{shortened}

abbrev pub shortened_bundle : Bundle → ℕ → Bundle
shortened_bundle bundle tickets = record {
  pool = bundle.pool;
  answer = record { lottery = shortened bundle.answer.lottery tickets; stages = bundle.answer.stages };
}
