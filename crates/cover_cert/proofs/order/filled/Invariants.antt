use Rattle.std.proofs.Common.{◌≡◌, ◌++◌, drop, length, map, take}
use Rattle.define_searches.specs.Classes.{Class}
use Rattle.cover_cert.proofs.order.filled.Given as goal

abbrev pub invariant-loop-class : goal.invariant-loop-class
invariant-loop-class l = l.counts.items ≡ l.beginning ++ map (λ (class : Class). class.most) (take l.class-index (drop (length l.beginning) l.classes))
