use Rattle.std.proofs.Common.{◌≡◌, suc, ◌+◌, sym, arith}
use Rattle.define_rows.proofs.BinomialLaws.{choose_doubles, choose_others, choose_product, choose_rises}
use Rattle.define_rows.proofs.binomials.binomials_are_products.Goals as goal

pub returns : goal.returns
returns c = record {
  others = choose_others;
  product = λ n size. let more : suc n ≡ n + 1 = omega arith in let chosen : suc size ≡ size + 1 = omega arith in rw (sym more, sym chosen) (choose_product n size);
  rises = choose_rises;
  doubles = choose_doubles;
}
