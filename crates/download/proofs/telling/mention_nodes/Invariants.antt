use Rattle.std.proofs.Common.{map, take, drop}
use Rattle.osm_base.specs.Content.{node}
use Rattle.download.specs.TellCode.{ArePositive, AreMentioned}
use Rattle.download.proofs.telling.mention_nodes.Given as goal

abbrev pub invariant-loop-id : goal.invariant-loop-id
invariant-loop-id l = record {
  positive : ArePositive (map node (drop l.id-index l.ids));
  mentioned : AreMentioned l.fn.told l.told (map node (take l.id-index l.ids)) l.there;
}
