-- Edits by their sides: which keys they bring, which they take out, and which get another entry.
use Rattle.std.specs.Prelude.{◌&&◌, Bool, not, cond, is_some, Option, None, List, [], ◌∷◌}
use Rattle.std.specs.List.{filter, filter_map}
use Rattle.std.specs.Option.{option_map}
use Rattle.osm_table.specs.declared.entry.Entry.{Entry}
use Rattle.osm_table.specs.Table.{TableValue, with_entry}
use Rattle.dataset.specs.Edit.{Edit}
use Rattle.dataset.specs.declared.writes.Write.{Write}
use Rattle.dataset.specs.Patch.{edited}

-- one side of an edit: what comes with `forth`, and else what was
abbrev pub side : Bool → Edit → Option Entry
side forth e = cond forth e.after e.before

-- the table led by one side of edits
abbrev pub led : (Edit → Option Entry) → List Edit → TableValue → TableValue
led side es t = record { entries = edited side es t.entries; next = t.next }

-- the edits that bring their keys: only the side that they lead to has an entry
abbrev pub is_fresh : Bool → Edit → Bool
is_fresh forth e = is_some (side forth e) && not (is_some (side (not forth) e))

abbrev pub fresh : Bool → List Edit → List Edit
fresh forth es = filter (is_fresh forth) es

-- those that take their keys out: the side that they lead to has none
abbrev pub is_gone : Bool → Edit → Bool
is_gone forth e = not (is_some (side forth e))

abbrev pub gone : Bool → List Edit → List Edit
gone forth es = filter (is_gone forth) es

-- what an edit writes over the entry of its key, where both sides have one
abbrev pub write_of : Bool → Edit → Option Write
write_of forth e = cond (is_some (side (not forth) e)) (option_map (λ entry. record { key = e.key; entry = entry }) (side forth e)) None

abbrev pub writes_of : Bool → List Edit → List Write
writes_of forth es = filter_map (write_of forth) es

-- the table with the writes made
abbrev pub written : List Write → TableValue → TableValue
written [] t = t
written (w ∷ ws) t = with_entry (written ws t) w.key w.entry
