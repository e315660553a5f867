use Rattle.define_proofs.proofs.NarrowSums.{bound_narrow, charges_narrow, products_narrow, rest_narrow, total_narrow}
use Rattle.define_proofs.proofs.leaf_sums_are_narrow.Goals as goal

pub returns : goal.returns
returns c = record {
  rest = λ problem leaf many i near is. rest_narrow problem near leaf is many i;
  charges = λ problem leaf many near is. charges_narrow problem near leaf is many;
  total = λ problem leaf all many near is. total_narrow problem near leaf is all many;
  products = λ problem leaf i near is. products_narrow problem near leaf is i;
  bound = λ problem leaf near is. bound_narrow problem near leaf is;
}
