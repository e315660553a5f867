use Rattle.std.proofs.Common.{◌-◌, ◌+◌, ◌*◌, length}
use Rattle.panel_search.proofs.sharing.SharingSearch.+sharing.Given as goal

abbrev pub decreases-enter : goal.decreases-enter
decreases-enter g l = 10000 * (length l.terms.now.classes.now.classes - l.depth) + 5000

abbrev pub decreases-children : goal.decreases-children
decreases-children g l = 10000 * (length l.terms.now.classes.now.classes - l.depth) + l.end + 1

abbrev pub decreases-try_child : goal.decreases-try_child
decreases-try_child g l = 10000 * (length l.terms.now.classes.now.classes - l.depth)
