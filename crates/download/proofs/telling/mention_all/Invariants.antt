use Rattle.std.proofs.Common.{take, drop}
use Rattle.download.specs.TellCode.{keys_in, ArePositive, AreMentioned}
use Rattle.download.proofs.telling.mention_all.Given as goal

abbrev pub invariant-loop-list : goal.invariant-loop-list
invariant-loop-list l = record {
  positive : ArePositive (keys_in (drop l.list-index l.lists));
  mentioned : AreMentioned l.fn.told l.told (keys_in (take l.list-index l.lists)) l.there;
}
