use Rattle.std.proofs.Common.{◌≡◌, Option, Some, List, sym, subst, ap, ◌∙◌}
use Rattle.std.specs.Option.{option_copied}
use Rattle.std.specs.Map.{lookup}
use Rattle.std.specs.FinMap as fin
use Rattle.std.proofs.lemmas.Result.{err_from_is_err_and}
use Rattle.osm_base.specs.KeyEq.{eq}
use Rattle.osm_base.specs.declared.key.Key.{Key}
use Rattle.osm_base.specs.Rank.{rank_cmp}
use Rattle.osm_base.specs.RankLaws.{rank_total, rank_exact, rank_ties}
use Rattle.osm_base.proofs.MapViews.{get_view, inserted}
use Rattle.upload_order.specs.World.{WorldEntry}
use Rattle.server_world.specs.Codes.{Objects}
use Rattle.server_world.specs.Indexed.{pairs_of}
use Rattle.server_world.specs.Kept.{IsKept}
use Rattle.server_world.proofs.Indexing.{still_there, put_exact, same_indexed}
use Rattle.server_world.proofs.Starting.{put_starts}
use Rattle.server_world.proofs.objects.Objects.put.Goals as goal

-- entries in which each key finds what it found make the same map
reordered : (old new : List (Key × WorldEntry)) → ((q : Key) → lookup (eq q) new ≡ lookup (eq q) old) → fin.from_entries {R = rank_cmp} new ≡ fin.from_entries old
reordered old new same = fin.same_map rank_total rank_exact _ _ (λ q. sym (get_view rank_total rank_exact rank_ties new q) ∙ same q ∙ get_view rank_total rank_exact rank_ties old q)

-- so a look-up answers what stood there before
stood : (old new : List (Key × WorldEntry)) (k : Key) (o : Option WorldEntry) → ((q : Key) → lookup (eq q) new ≡ lookup (eq q) old) → o ≡ lookup (eq k) new → o ≡ fin.get (fin.from_entries {R = rank_cmp} old) k
stood old new k o same is = is ∙ same k ∙ get_view rank_total rank_exact rank_ties old k

pub take_object-requires : goal.take_object-requires
take_object-requires c =
    still_there (fin.from_entries c.self.inside.entries.entries) c.self.inside.index c.add_object.new.index c.args.key (option_copied c.get.result) (pairs_of c.args.key (Some c.args.entry)) c.self.invariant.index
    (stood c.self.inside.entries.entries c.reserve.new.self.entries c.args.key (option_copied c.get.result) c.in_ok-reserve.ensures.entries.2 c.get.ensures.value)
    c.in_ok-add_object.ensures.ok

pub invariant_of-self-in_err-add_object : goal.invariant_of-self-in_err-add_object
invariant_of-self-in_err-add_object c =
    subst (λ (m : Objects). IsKept m c.add_object.new.index c.self.inside.starts) (sym (reordered c.self.inside.entries.entries c.reserve.new.self.entries c.in_ok-reserve.ensures.entries.2)) (record {
      index = same_indexed (fin.from_entries c.self.inside.entries.entries) c.self.inside.index c.add_object.new.index c.self.invariant.index c.in_err-add_object.ensures.err;
      starts = c.self.invariant.starts;
    })

pub invariant_of-self-2 : goal.invariant_of-self-2
invariant_of-self-2 c =
    let now : fin.from_entries {R = rank_cmp} c.set.new.entries.entries ≡ fin.insert (fin.from_entries c.self.inside.entries.entries) c.args.key c.args.entry =
    inserted rank_total rank_exact rank_ties c.reserve.new.self.entries c.set.new.entries.entries c.args.key c.args.entry c.set.ensures.0
    ∙ ap (λ (m : Objects). fin.insert m c.args.key c.args.entry) (reordered c.self.inside.entries.entries c.reserve.new.self.entries c.in_ok-reserve.ensures.entries.2) in
    subst (λ (m : Objects). IsKept m c.take_object.new.index c.self.inside.starts) (sym now) (record {
      index =
          put_exact (fin.from_entries c.self.inside.entries.entries) c.self.inside.index c.add_object.new.index c.take_object.new.index c.args.key (option_copied c.get.result) c.args.entry c.self.invariant.index
          (stood c.self.inside.entries.entries c.reserve.new.self.entries c.args.key (option_copied c.get.result) c.in_ok-reserve.ensures.entries.2 c.get.ensures.value) c.in_ok-add_object.ensures.ok c.take_object.ensures;
      starts = put_starts (fin.from_entries c.self.inside.entries.entries) c.args.key c.args.entry c.self.inside.starts c.self.invariant.starts;
    })

pub returns-clause-ok : goal.returns-clause-ok
returns-clause-ok c =
    inserted rank_total rank_exact rank_ties c.reserve.new.self.entries c.set.new.entries.entries c.args.key c.args.entry c.set.ensures.0
    ∙ ap (λ (m : Objects). fin.insert m c.args.key c.args.entry) (reordered c.self.inside.entries.entries c.reserve.new.self.entries c.in_ok-reserve.ensures.entries.2)
    ∙ ap (λ (m : Objects). fin.insert m c.args.key c.args.entry) c.self.view_is

pub returns-in_err-add_object-clause-err : goal.returns-in_err-add_object-clause-err
returns-in_err-add_object-clause-err c =
    let p = err_from_is_err_and c.from_residual-in_err-add_object.result c.from_residual-in_err-add_object.ensures.1 in
    rw p.1 (reordered c.self.inside.entries.entries c.reserve.new.self.entries c.in_ok-reserve.ensures.entries.2 ∙ c.self.view_is)
