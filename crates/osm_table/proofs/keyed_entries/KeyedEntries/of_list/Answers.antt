use Rattle.std.proofs.Common.{◌≡◌, ◌∙◌, List, [], ap}
use Rattle.osm_table.specs.InOrder.{insert_all}
use Rattle.osm_base.specs.KeyEq.{eq}
use Rattle.osm_base.specs.declared.key.Key.{Key}
use Rattle.osm_table.specs.declared.entry.Entry.{Entry}
use Rattle.osm_table.proofs.ListedLaws.{all_new}
use Rattle.osm_table.proofs.OrderLaws.{and_ok}
use Rattle.osm_table.proofs.keyed_entries.KeyedEntries.of_list.Goals as goal

pub returns : goal.returns
returns c =
    let none = ap (λ (es : List (Key × Entry)). insert_all eq es c.args.list.items) c.in_ok-entries.ensures in
    let all = all_new [] c.args.list.items c.requires in
    rw c.and.ensures (and_ok (λ (es : List (Key × Entry)). es ≡ c.args.list.items) c.put_all.result c.put_all.new.entries (λ put. put ∙ none ∙ all) c.put_all.ensures)
