use Rattle.std.proofs.Common.{◌≡◌, ◌<◌, ◌*◌, ◌/◌, true, false, length, sym, ◌∙◌, subst}
use Rattle.std.specs.Int.{◌∣◌}
use Rattle.define_runs.specs.Spreading.{is_partly_taken}
use Rattle.alike.proofs.Starts.{any_start, start_within, some_size}
use Rattle.alike.proofs.arcs.window_start.Goals as goal

pub turns-requires : goal.turns-requires
turns-requires c =
    let class = c.args.class.now in
    let taken : is_partly_taken class c.args.count ≡ true = sym c.is_partly_taken.ensures ∙ c.if-is_partly_taken.true in
    let size = sym c.size.ensures in
    record {
      size = (subst (λ n. 0 < n) size (some_size class c.args.count taken), subst (λ n. n ∣ c.args.places) size (c.requires.places taken));
      at = c.requires.at;
    }

pub returns-else-is_partly_taken-clause-same : goal.returns-else-is_partly_taken-clause-same
returns-else-is_partly_taken-clause-same c =
    let class = c.args.class.now in
    let taken : is_partly_taken class c.args.count ≡ false = sym c.is_partly_taken.ensures ∙ c.if-is_partly_taken.false in
    λ i. any_start class c.args.count (c.args.at * length class.members / c.args.places) i taken (start_within (length class.members) c.args.places c.args.at c.requires.at)
