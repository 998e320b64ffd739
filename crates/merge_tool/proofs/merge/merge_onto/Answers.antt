use Rattle.std.proofs.Common.{◌∙◌, ap, List}
use Rattle.std.proofs.lemmas.Result.{on_ok_weaker}
use Rattle.osm_base.specs.Rank.{is_key}
use Rattle.osm_base.specs.declared.key.Key.{Key}
use Rattle.closure.specs.Closure.{has}
use Rattle.dataset.specs.Draft.{drafted}
use Rattle.merge_tool.proofs.Finals.{finally}
use Rattle.merge_tool.proofs.merge.merge_onto.Goals as goal

pub want-requires : goal.want-requires
want-requires c = record { sound = c.requires.sound; entries = c.requires.entries; names = c.requires.names }

pub hold-requires : goal.hold-requires
hold-requires c = record {
  sound = c.requires.sound;
  candidates = c.requires.going;
  names = c.requires.names;
  late = λ k. ap (λ (ks : List Key). has is_key ks k) c.deref.ensures.value ∙ c.in_ok-wanted.ensures.names k;
}

pub write-requires : goal.write-requires
write-requires c = record { going = c.requires.going }

pub returns-clause-entries : goal.returns-clause-entries
returns-clause-entries c =
    let t = c.args.ds.now in
    let m = c.args.told.now in
    on_ok_weaker c.write.result (λ ended. finally t m c.requires.sound c.sound.ensures.each (drafted c.args.draft.now t) (drafted c.want.new.draft t) (drafted c.hold.new.draft t) (drafted c.write.new.draft t)
    c.args.names.now c.args.candidates.now c.in_ok-wanted.wanted.keys c.in_ok-wanted.wanted.names.items c.in_ok-held.held
    (record {
      staged = c.requires.entries;
      names = c.requires.names;
      going = c.requires.going;
      wants = c.in_ok-wanted.ensures.wanted;
      late = c.in_ok-wanted.ensures.names;
      came = c.in_ok-wanted.ensures.entries;
      holds = c.in_ok-held.ensures.held;
      stood = c.in_ok-held.ensures.entries;
      ended = ended;
    })) c.write.ensures.entries

pub returns-clause-number : goal.returns-clause-number
returns-clause-number c = on_ok_weaker c.write.result (λ is. is ∙ c.in_ok-held.ensures.number ∙ c.in_ok-wanted.ensures.number) c.write.ensures.number
