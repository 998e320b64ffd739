use Rattle.std.proofs.Common.{◌≡◌, length, take}
use Rattle.dataset.proofs.Beside.{AreKept}
use Rattle.dataset.proofs.told_index.put_objects.Given as goal

abbrev pub invariant-loop-key : goal.invariant-loop-key
invariant-loop-key l = (length l.lists.users.items ≡ length l.told.order) × AreKept l.told (take l.key-index l.keys) l.lists.users.items l.lists.others
