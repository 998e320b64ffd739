use Rattle.merge_tool.proofs.HeldEnds.{going_are}
use Rattle.merge_tool.proofs.merge.merged.Goals as goal

pub merge_onto-requires : goal.merge_onto-requires
merge_onto-requires c = record {
  sound = c.requires.sound;
  entries = c.requires.entries;
  names = c.requires.names;
  going = going_are c.args.ds.now c.args.told.now c.requires.sound c.sound.ensures.each c.args.candidates.now c.in_ok-candidates.candidates c.requires.candidates c.in_ok-candidates.ensures;
}

pub returns : goal.returns
returns c = record { entries = c.in_ok-merge_onto.ensures.entries; number = c.in_ok-merge_onto.ensures.number }
