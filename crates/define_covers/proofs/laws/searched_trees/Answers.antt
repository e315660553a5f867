use Rattle.define_covers.proofs.Made.{covers_where_searched, trees_cover_where_searched}
use Rattle.define_covers.proofs.MadeRanges.{in_ranges_where_searched, same_value_count}
use Rattle.define_covers.proofs.laws.searched_trees.Goals as goal

pub returns-clause-lines : goal.returns-clause-lines
returns-clause-lines c = covers_where_searched

pub returns-clause-trees : goal.returns-clause-trees
returns-clause-trees c = trees_cover_where_searched

pub returns-clause-values : goal.returns-clause-values
returns-clause-values c = same_value_count

pub returns-clause-in_ranges : goal.returns-clause-in_ranges
returns-clause-in_ranges c = in_ranges_where_searched
