use Rattle.define_runs.proofs.Shared.{apart_allowed, one_besides_spent, sharing_keeps}
use Rattle.define_runs.proofs.sharing.sharing_keeps_endings.Goals as goal

pub returns : goal.returns
returns c = record {
  apart = λ all limits apart shared ends kept may. sharing_keeps all limits apart shared ends kept may;
  one = λ all limits first second a b kept kept_too. one_besides_spent all limits first second a b kept kept_too;
  allowed = λ all limits ending ends. apart_allowed all limits ending ends;
}
