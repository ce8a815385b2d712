-- what is left of the text falls at each letter, and within a byte the readers call downwards
use Prim.Native.Nat.{◌+◌, ◌-◌, ◌*◌}
use lib.ListN.{length}
use Rattle.compositor.proofs.reader.+read_branch_read_group_read_item.Given as goal

abbrev pub decreases-read_branch : goal.decreases-read_branch
decreases-read_branch l = (length l.s.now - l.at) * 3 + 1

abbrev pub decreases-read_group : goal.decreases-read_group
decreases-read_group l = (length l.s.now - l.at) * 3 + 2

abbrev pub decreases-read_item : goal.decreases-read_item
decreases-read_item l = (length l.s.now - l.at) * 3
