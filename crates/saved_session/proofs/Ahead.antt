-- Lines that were read so far can go on to a whole session, whatever is awaited.
use Rattle.std.proofs.Common.{◌≡◌, ℕ, pos, Bool, true, false, List, [], ◌∷◌, ◌++◌, Option, Some, None, refl, sym, ap, ◌∙◌}
use Rattle.std.specs.Prelude.{codes}
use Rattle.std.proofs.lemmas.List.Elements.{All-cons, All-nil}
use lib.Utf8.{encode}
use Rattle.osm_base.specs.Content.{kind_of_content}
use Rattle.osm_base.specs.Meta.{empty_meta}
use Rattle.osm_base.specs.Number.{IsId}
use Rattle.osm_base.specs.Tags.{Pair}
use Rattle.osm_base.specs.declared.key.Kind.{Kind}
use Rattle.osm_base.specs.declared.key.Kind.TheVariants as kind
use Rattle.osm_base.specs.declared.key.Key.{Key}
use Rattle.osm_base.specs.declared.content.Content.{Content}
use Rattle.osm_base.specs.declared.content.Content.TheVariants.{Node, Way, Relation}
use Rattle.osm_table.specs.Same.{same_mine}
use Rattle.osm_table.specs.Table.{held_by}
use Rattle.osm_table.proofs.SameLaws.{same_mine_decides}
use Rattle.osm_table.specs.declared.entry.Base.{Base}
use Rattle.osm_table.specs.declared.entry.Base.TheVariants as bases
use Rattle.osm_table.specs.declared.entry.Why.{Why}
use Rattle.osm_table.specs.declared.entry.Conflict.{Conflict}
use Rattle.osm_table.specs.declared.entry.Entry.TheVariants as entry
use Rattle.opl_line.specs.Writable.{AreTags, IsContent, IsMember, IsText}
use Rattle.saved_session.specs.Words.{head_written}
use Rattle.saved_session.specs.Saved.{mine_version, own_written, server_written, theirs_lines}
use Rattle.saved_session.specs.Reading.{Entries, step, with_base, with_mine}
use Rattle.saved_session.specs.declared.words.BaseWord.{BaseWord}
use Rattle.saved_session.specs.declared.words.BaseWord.TheVariants.{New, Live, Gone}
use Rattle.saved_session.specs.declared.words.MineWord.{MineWord}
use Rattle.saved_session.specs.declared.words.MineWord.TheVariants.{Same, Absent, Own}
use Rattle.saved_session.specs.declared.words.Words.{Words}
use Rattle.saved_session.specs.declared.words.Head.TheVariants.{End}
use Rattle.saved_session.specs.declared.place.Place.{Place}
use Rattle.saved_session.specs.declared.place.Place.TheVariants as place
use Rattle.saved_session.specs.declared.place.Step.{Step}
use Rattle.saved_session.proofs.EntryAgain.{Follows, Reads, behind_skipped, entries_again, gone_step, live_step, mine_follows, mine_step, one_line}
use Rattle.saved_session.proofs.Fitting.{Fits, IsOwn}
use Rattle.saved_session.proofs.Plain.{base_plain, mine_plain}
use Rattle.saved_session.proofs.Writable.{none_known, own_version}

-- ---- two contents of each kind

abbrev tagged : Bool → List Pair
tagged true = (codes "a", []) ∷ []
tagged false = []

abbrev plain : Kind → Bool → Content
plain kind.Node b = Node (tagged b) (record { lon = pos 0; lat = pos 0; on_map = refl })
plain kind.Way b = Way (tagged b) []
plain kind.Relation b = Relation (tagged b) []

one_text : IsText (codes "a")
unfolding encode
one_text = ((97 ∷ [], (refl, refl)), refl)

no_text : IsText []
no_text = (([], (refl, refl)), refl)

abbrev IsTag : Pair → Type 0
IsTag tag = IsText tag.0 × IsText tag.1

are_tags : (b : Bool) → AreTags (tagged b)
are_tags true = (tt, All-cons IsTag (codes "a", []) [] (one_text, no_text) (All-nil IsTag))
are_tags false = (tt, All-nil IsTag)

plain_content : (k : Kind) (b : Bool) → (kind_of_content (plain k b) ≡ k) × IsContent (plain k b)
plain_content kind.Node b = (refl, are_tags b)
plain_content kind.Way b = (refl, (are_tags b, All-nil IsId))
plain_content kind.Relation b = (refl, (are_tags b, All-nil IsMember))

plain_own : (key : Key) (b : Bool) → IsId key.id → IsOwn key (plain key.kind b)
plain_own key b id = record { id = id; version_fits = own_version key.id; content = plain_content key.kind b; known = none_known }

plain_other : (k : Kind) → same_mine (Some (plain k true)) (Some (plain k false)) ≡ false
plain_other kind.Node = refl
plain_other kind.Way = refl
plain_other kind.Relation = refl

-- another content than that which is held
record IsOther (key : Key) (held : Option Content) : Type 0 where
  content : Content
  own : IsOwn key content
  other : same_mine (Some content) held ≡ false

other_by : (b : Bool) (key : Key) (held : Option Content) → IsId key.id → same_mine (Some (plain key.kind false)) held ≡ b → IsOther key held
other_by true key held id e =
    let is : Some (plain key.kind false) ≡ held = (same_mine_decides (Some (plain key.kind false)) held).0 e in
    record { content = plain key.kind true; own = plain_own key true id; other = ap (same_mine (Some (plain key.kind true))) (sym is) ∙ plain_other key.kind }
other_by false key held id e = record { content = plain key.kind false; own = plain_own key false id; other = e }

-- ---- from a place on, and from a step on

pub record GoesOn (here : Place) : Type 0 where
  pub more : List (List ℕ)
  pub entries : Entries
  pub reads : Reads here more entries

record GoesOnBehind (s : Step) : Type 0 where
  more : List (List ℕ)
  entries : Entries
  follows : Follows s more entries

abbrev last_line : List (List ℕ)
last_line = head_written End ∷ []

ends : (last : Option Key) → Reads (place.Head last) last_line []
ends last = entries_again last [] [] tt refl tt

theirs_on : (key : Key) (base : Base) (mine : Option Content) (why : Why) → IsId key.id → GoesOn (place.Theirs key base mine why)
theirs_on key base mine why id =
    let c : Conflict = record { why = why; theirs = bases.Gone (mine_version key.id) empty_meta } in
    record {
      more = theirs_lines key (Some c) ++ last_line;
      entries = (key, entry.Known base mine (Some c)) ∷ [];
      reads = mine_follows key base mine (Some c) last_line [] (record { id = id; version_fits = own_version key.id; content = tt; known = none_known }) (ends (Some key));
    }

mine_on : (key : Key) (base : Base) (mine : Option Content) (why : Option Why) → IsId key.id → GoesOnBehind (with_mine key base mine why)
mine_on key base mine None id = record { more = last_line; entries = (key, entry.Known base mine None) ∷ []; follows = mine_follows key base mine None last_line [] tt (ends (Some key)) }
mine_on key base mine (Some why) id = let on = theirs_on key base mine why id in record { more = on.more; entries = on.entries; follows = on.reads }

own_on : (key : Key) (base : Base) (why : Option Why) → IsId key.id → GoesOn (place.Mine key base why)
own_on key base why id =
    let c = other_by (same_mine (Some (plain key.kind false)) (held_by base)) key (held_by base) id refl in
    let on = mine_on key base (Some c.content) why id in
    let line = codes "mine " ++ own_written key (Some c.content) in
    record {
      more = line ∷ on.more;
      entries = on.entries;
      reads = one_line (place.Mine key base why) line (with_mine key base (Some c.content) why) on.more on.entries (mine_plain key (Some c.content)) (mine_step key base c.content why c.own c.other) on.follows;
    }

base_on : (key : Key) (base : Base) (word : MineWord) (why : Option Why) → IsId key.id → GoesOnBehind (with_base key base word why)
base_on key base Same why id = mine_on key base (held_by base) why id
base_on key base Absent why id = mine_on key base None why id
base_on key base Own why id = let on = own_on key base why id in record { more = on.more; entries = on.entries; follows = on.reads }

-- by the line of a base
by_base : (key : Key) (words : Words) (base : Base) → IsId key.id → step (place.Base key words) (codes "base " ++ server_written key base) ≡ Some (with_base key base words.mine words.why) → GoesOn (place.Base key words)
by_base key words base id e =
    let on = base_on key base words.mine words.why id in
    let line = codes "base " ++ server_written key base in
    record { more = line ∷ on.more; entries = on.entries; reads = one_line (place.Base key words) line (with_base key base words.mine words.why) on.more on.entries (base_plain key base) e on.follows }

with_word : (key : Key) (words : Words) (word : BaseWord) (line : List ℕ) (s : Step) → words.base ≡ word → step (place.Base key (record { base = word; mine = words.mine; why = words.why })) line ≡ Some s → step (place.Base key words) line ≡ Some s
with_word key words word line s is e = (λ i. step (place.Base key (record { base = is i; mine = words.mine; why = words.why })) line) ∙ e

words_on : (key : Key) (words : Words) (word : BaseWord) → IsId key.id → words.base ≡ word → (word ≡ New → ⊥) → GoesOn (place.Base key words)
words_on key words New id is other = absurd (other refl)
words_on key words Live id is other =
    let c = plain key.kind false in
    let base = bases.Live (mine_version key.id) c empty_meta in
    by_base key words base id
    (with_word key words Live (codes "base " ++ server_written key base) (with_base key base words.mine words.why) is
    (live_step key (mine_version key.id) c empty_meta words.mine words.why (plain_own key false id)))
words_on key words Gone id is other =
    let base = bases.Gone (mine_version key.id) empty_meta in
    by_base key words base id
    (with_word key words Gone (codes "base " ++ server_written key base) (with_base key base words.mine words.why) is
    (gone_step key (mine_version key.id) empty_meta words.mine words.why (record { id = id; version_fits = own_version key.id; content = tt; known = none_known })))

pub goes_on : (here : Place) → Fits here → GoesOn here
goes_on (place.Head last) h = record { more = last_line; entries = []; reads = ends last }
goes_on (place.Base key words) h = words_on key words words.base h.0 refl h.1
goes_on (place.Mine key base why) h = own_on key base why h.0
goes_on (place.Theirs key base mine why) h = theirs_on key base mine why h.0
goes_on place.Behind h = record { more = []; entries = []; reads = behind_skipped [] }
