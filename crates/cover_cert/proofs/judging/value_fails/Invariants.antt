use Rattle.std.proofs.Common.{◌≡◌, ◌-◌, ◌<◌, drop}
use Rattle.define_covers.specs.Causes.{value_fails}
use Rattle.define_covers.proofs.Numbered.{fails_from}
use Rattle.cover_cert.proofs.judging.value_fails.Given as goal

-- the categories that are left begin with value `number - place`
abbrev pub invariant-loop-category : goal.invariant-loop-category
invariant-loop-category l = record {
  below : l.place < l.number;
  same : value_fails l.classes l.front l.number ≡ fails_from l.classes l.front l.number (l.number - l.place) l.category (drop l.category l.classes.bounds);
}
