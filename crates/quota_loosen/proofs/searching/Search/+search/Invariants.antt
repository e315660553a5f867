use Rattle.std.proofs.Common.{◌-◌, ◌+◌, ◌*◌, length}
use Rattle.quota_loosen.proofs.searching.Search.+search.Given as goal

abbrev pub decreases-enter : goal.decreases-enter
decreases-enter l = 10000 * (length l.classes.now.classes - l.depth) + 6000

abbrev pub decreases-enter_live : goal.decreases-enter_live
decreases-enter_live l = 10000 * (length l.classes.now.classes - l.depth) + 7000

abbrev pub decreases-children : goal.decreases-children
decreases-children l = 10000 * (length l.classes.now.classes - l.depth) + l.more + 1

abbrev pub decreases-try_child : goal.decreases-try_child
decreases-try_child l = 10000 * (length l.classes.now.classes - l.depth)
