-- The lines of entries, read again.
use Rattle.std.proofs.Common.{◌≡◌, ℕ, ◌+◌, Bool, true, false, cond, ◌&&◌, T, List, [], ◌∷◌, ◌++◌, Option, Some, None, Ok, is_some, refl, sym, ap, subst, ◌∙◌, arith}
use Rattle.std.specs.Prelude.{codes}
use Rattle.std.specs.Ordering.{is_lt}
use Rattle.std.specs.FinMap.Entries.{is_sorted, below_all}
use Rattle.std.proofs.lemmas.List.{append_assoc}
use Rattle.std.proofs.lemmas.Bool.Decides.{nat_tests}
use Rattle.osm_base.specs.Rank.{rank_cmp}
use Rattle.osm_base.specs.Number.{IsId}
use Rattle.osm_base.specs.Meta.{empty_meta}
use Rattle.osm_base.specs.declared.key.Key.{Key}
use Rattle.osm_base.specs.declared.content.Content.{Content}
use Rattle.osm_base.specs.declared.meta.Meta.{Meta}
use Rattle.osm_table.specs.declared.entry.Why.{Why}
use Rattle.osm_table.specs.Same.{same_mine}
use Rattle.osm_table.specs.Table.{IfContent, held_by}
use Rattle.osm_table.proofs.SameLaws.{same_mine_decides}
use Rattle.osm_table.specs.declared.entry.Base.{Base}
use Rattle.osm_table.specs.declared.entry.Base.TheVariants as bases
use Rattle.osm_table.specs.declared.entry.Conflict.{Conflict}
use Rattle.osm_table.specs.declared.entry.Entry.{Entry}
use Rattle.osm_table.specs.declared.entry.Entry.TheVariants as entry
use Rattle.dataset.specs.Sound.{IfTheirs}
use Rattle.opl_line.specs.Field.{is}
use Rattle.opl_line.specs.Line.{freed}
use Rattle.opl_line.specs.Writable.{IsWritable}
use Rattle.opl_line.proofs.Unbroken.{Unbroken, unbroken_fewer, freed_same}
use Rattle.saved_session.specs.Words.{words_of, base_word, mine_word, why_word, head_written}
use Rattle.saved_session.specs.Saved.{base_lines, mine_lines, theirs_lines, entry_lines, entries_lines, server_written, own_written, mine_version}
use Rattle.saved_session.specs.Reading.{step, entries_from, onto, awaiting, ending, with_mine, with_base, with_words, is_behind, may_stand, Entries}
use Rattle.saved_session.proofs.Writable.{IsServerWritable, IsSavable, IsSavableEntry}
use Rattle.saved_session.specs.declared.words.BaseWord.TheVariants.{Live, Gone}
use Rattle.saved_session.specs.declared.words.MineWord.{MineWord}
use Rattle.saved_session.specs.declared.words.MineWord.TheVariants.{Same, Absent, Own}
use Rattle.saved_session.specs.declared.words.Head.TheVariants.{Incomplete, Known, End}
use Rattle.saved_session.specs.declared.place.Place.{Place}
use Rattle.saved_session.specs.declared.place.Place.TheVariants as place
use Rattle.saved_session.specs.declared.place.Step.{Step}
use Rattle.saved_session.proofs.ByKey.{Every}
use Rattle.saved_session.proofs.Plain.{base_plain, head_plain, is_end, mine_plain, theirs_plain}
use Rattle.saved_session.proofs.ReadBack.{is_first_behind}
use Rattle.saved_session.proofs.WordsAgain.{head_again}
use Rattle.saved_session.proofs.ObjectAgain.{live_again, gone_again, own_again, theirs_again}

-- whatever its number, the lines from that place give these entries
abbrev pub Reads : Place → List (List ℕ) → Entries → Type 0
Reads here lines es = (n : ℕ) → entries_from n here lines ≡ Ok es

-- so do the lines behind a step, with the entry that it ended
abbrev pub Follows : Step → List (List ℕ) → Entries → Type 0
Follows s lines es = (n : ℕ) → onto s.entry (entries_from n s.place lines) ≡ Ok es

pub freed_plain : (line : List ℕ) → Unbroken is_end line → freed line ≡ line
freed_plain line h = freed_same line (unbroken_fewer is_end (is 13) line (λ b h. grind (arith, nat_tests)) h)

-- a line that makes a step
pub one_line : (here : Place) (line : List ℕ) (s : Step) (lines : List (List ℕ)) (es : Entries) → Unbroken is_end line → step here line ≡ Some s → Follows s lines es → Reads here (line ∷ lines) es
one_line here line s lines es h e rest n = rw (freed_plain line h, e) (rest (n + 1))

-- an entry that ends
ends : (key : Key) (e : Entry) (lines : List (List ℕ)) (es : Entries) → Reads (place.Head (Some key)) lines es → Follows (ending key e) lines ((key, e) ∷ es)
ends key e lines es rest n = rw (rest n) refl

theirs_step : (key : Key) (base : Base) (mine : Option Content) (c : Conflict) → IsServerWritable key c.theirs →
    step (place.Theirs key base mine c.why) (codes "theirs " ++ server_written key c.theirs) ≡ Some (ending key (entry.Known base mine (Some c)))
unfolding step
theirs_step key base mine c good = rw (theirs_again key c.theirs good) refl

pub mine_follows : (key : Key) (base : Base) (mine : Option Content) (conflict : Option Conflict) (lines : List (List ℕ)) (es : Entries) → IfTheirs conflict (IsServerWritable key) → Reads (place.Head (Some key)) lines es →
    Follows (with_mine key base mine (why_word conflict)) (theirs_lines key conflict ++ lines) ((key, entry.Known base mine conflict) ∷ es)
mine_follows key base mine None lines es good rest = ends key (entry.Known base mine None) lines es rest
mine_follows key base mine (Some c) lines es good rest =
    one_line (place.Theirs key base mine c.why) (codes "theirs " ++ server_written key c.theirs) (ending key (entry.Known base mine (Some c))) lines ((key, entry.Known base mine (Some c)) ∷ es)
    (theirs_plain key c.theirs) (theirs_step key base mine c good) (ends key (entry.Known base mine (Some c)) lines es rest)

pub mine_step : (key : Key) (base : Base) (c : Content) (why : Option Why) → IsWritable key (mine_version key.id) (Some c) empty_meta → same_mine (Some c) (held_by base) ≡ false →
    step (place.Mine key base why) (codes "mine " ++ own_written key (Some c)) ≡ Some (with_mine key base (Some c) why)
unfolding step
mine_step key base c why good other = rw (own_again key base c good other) refl

-- what the word for mine says
abbrev IsMineWord : MineWord → Base → Option Content → Type 0
IsMineWord Same base mine = mine ≡ held_by base
IsMineWord Absent base mine = mine ≡ None
IsMineWord Own base mine = (c : Content) × (mine ≡ Some c) × (same_mine (Some c) (held_by base) ≡ false)

word_by : (b : Bool) (base : Base) (mine : Option Content) → same_mine mine (held_by base) ≡ b → IsMineWord (cond b Same (cond (is_some mine) Own Absent)) base mine
word_by true base mine e = (same_mine_decides mine (held_by base)).0 e
word_by false base None e = refl
word_by false base (Some c) e = (c, refl, e)

word_is : (base : Base) (mine : Option Content) → IsMineWord (mine_word base mine) base mine
word_is base mine = word_by (same_mine mine (held_by base)) base mine refl

base_follows : (word : MineWord) (key : Key) (base : Base) (mine : Option Content) (conflict : Option Conflict) (lines : List (List ℕ)) (es : Entries) → IsMineWord word base mine → IsSavable key base mine conflict →
    Reads (place.Head (Some key)) lines es → Follows (with_base key base word (why_word conflict)) (mine_lines key word mine ++ (theirs_lines key conflict ++ lines)) ((key, entry.Known base mine conflict) ∷ es)
base_follows Same key base mine conflict lines es is good rest =
    subst (λ (m : Option Content). Follows (with_mine key base m (why_word conflict)) (theirs_lines key conflict ++ lines) ((key, entry.Known base mine conflict) ∷ es)) is
    (mine_follows key base mine conflict lines es good.theirs_is rest)
base_follows Absent key base mine conflict lines es is good rest =
    subst (λ (m : Option Content). Follows (with_mine key base m (why_word conflict)) (theirs_lines key conflict ++ lines) ((key, entry.Known base mine conflict) ∷ es)) is
    (mine_follows key base mine conflict lines es good.theirs_is rest)
base_follows Own key base mine conflict lines es (c, is, other) good rest =
    let writable : IsWritable key (mine_version key.id) (Some c) empty_meta = subst (λ (m : Option Content). IfContent m (λ c. IsWritable key (mine_version key.id) (Some c) empty_meta)) is good.mine_is in
    subst (λ (m : Option Content). Reads (place.Mine key base (why_word conflict)) ((codes "mine " ++ own_written key m) ∷ (theirs_lines key conflict ++ lines)) ((key, entry.Known base m conflict) ∷ es)) (sym is)
    (one_line (place.Mine key base (why_word conflict)) (codes "mine " ++ own_written key (Some c)) (with_mine key base (Some c) (why_word conflict)) (theirs_lines key conflict ++ lines) ((key, entry.Known base (Some c) conflict) ∷ es)
    (mine_plain key (Some c)) (mine_step key base c (why_word conflict) writable other) (mine_follows key base (Some c) conflict lines es good.theirs_is rest))

pub live_step : (key : Key) (version : ℕ) (content : Content) (meta : Meta) (mine : MineWord) (why : Option Why) → IsWritable key version (Some content) meta →
    step (place.Base key (record { base = Live; mine = mine; why = why })) (codes "base " ++ server_written key (bases.Live version content meta)) ≡ Some (with_base key (bases.Live version content meta) mine why)
unfolding step
live_step key version content meta mine why good = rw (live_again key version content meta good) refl

pub gone_step : (key : Key) (version : ℕ) (meta : Meta) (mine : MineWord) (why : Option Why) → IsWritable key version None meta →
    step (place.Base key (record { base = Gone; mine = mine; why = why })) (codes "base " ++ server_written key (bases.Gone version meta)) ≡ Some (with_base key (bases.Gone version meta) mine why)
unfolding step
gone_step key version meta mine why good = rw (gone_again key version meta good) refl

-- what stands behind the words
words_follow : (key : Key) (base : Base) (mine : Option Content) (conflict : Option Conflict) (lines : List (List ℕ)) (es : Entries) → IsSavable key base mine conflict → Reads (place.Head (Some key)) lines es →
    Follows (with_words key (base_word base) (words_of base mine conflict)) (base_lines key base ++ (mine_lines key (mine_word base mine) mine ++ (theirs_lines key conflict ++ lines))) ((key, entry.Known base mine conflict) ∷ es)
words_follow key bases.New mine conflict lines es good rest = base_follows (mine_word bases.New mine) key bases.New mine conflict lines es (word_is bases.New mine) good rest
words_follow key (bases.Live version content meta) mine conflict lines es good rest =
    let base = bases.Live version content meta in
    one_line (place.Base key (words_of base mine conflict)) (codes "base " ++ server_written key base) (with_base key base (mine_word base mine) (why_word conflict))
    (mine_lines key (mine_word base mine) mine ++ (theirs_lines key conflict ++ lines)) ((key, entry.Known base mine conflict) ∷ es)
    (base_plain key base) (live_step key version content meta (mine_word base mine) (why_word conflict) good.base_is) (base_follows (mine_word base mine) key base mine conflict lines es (word_is base mine) good rest)
words_follow key (bases.Gone version meta) mine conflict lines es good rest =
    let base = bases.Gone version meta in
    one_line (place.Base key (words_of base mine conflict)) (codes "base " ++ server_written key base) (with_base key base (mine_word base mine) (why_word conflict))
    (mine_lines key (mine_word base mine) mine ++ (theirs_lines key conflict ++ lines)) ((key, entry.Known base mine conflict) ∷ es)
    (base_plain key base) (gone_step key version meta (mine_word base mine) (why_word conflict) good.base_is) (base_follows (mine_word base mine) key base mine conflict lines es (word_is base mine) good rest)

-- the words of an entry may stand together
live_stands : (word : MineWord) → may_stand word Live ≡ true
live_stands Same = refl
live_stands Absent = refl
live_stands Own = refl

pub stands : (base : Base) (mine : Option Content) → may_stand (mine_word base mine) (base_word base) ≡ true
stands bases.New None = refl
stands bases.New (Some c) = refl
stands (bases.Live version content meta) mine = live_stands (mine_word (bases.Live version content meta) mine)
stands (bases.Gone version meta) None = refl
stands (bases.Gone version meta) (Some c) = refl

known_step : (last : Option Key) (key : Key) (base : Base) (mine : Option Content) (conflict : Option Conflict) → IsId key.id → is_behind last key ≡ true →
    step (place.Head last) (head_written (Known key (words_of base mine conflict))) ≡ Some (with_words key (base_word base) (words_of base mine conflict))
unfolding step
known_step last key base mine conflict id behind = rw (head_again (Known key (words_of base mine conflict)) id, behind, stands base mine) refl

incomplete_step : (last : Option Key) (key : Key) → IsId key.id → is_behind last key ≡ true → step (place.Head last) (head_written (Incomplete key)) ≡ Some (ending key entry.Incomplete)
unfolding step
incomplete_step last key id behind = rw (head_again (Incomplete key) id, behind) refl

pub end_step : (last : Option Key) → step (place.Head last) (head_written End) ≡ Some (awaiting place.Behind)
unfolding step
end_step last = rw (head_again End tt) refl

-- the lines of an entry, and what follows them
together : (base mine theirs lines : List (List ℕ)) → (base ++ (mine ++ theirs)) ++ lines ≡ base ++ (mine ++ (theirs ++ lines))
together base mine theirs lines = append_assoc base (mine ++ theirs) lines ∙ ap (λ (ls : List (List ℕ)). base ++ ls) (append_assoc mine theirs lines)

pub entry_again : (last : Option Key) (key : Key) (e : Entry) (lines : List (List ℕ)) (es : Entries) → IsSavableEntry key e → is_behind last key ≡ true → Reads (place.Head (Some key)) lines es →
    Reads (place.Head last) (entry_lines key e ++ lines) ((key, e) ∷ es)
entry_again last key entry.Incomplete lines es good behind rest =
    one_line (place.Head last) (head_written (Incomplete key)) (ending key entry.Incomplete) lines ((key, entry.Incomplete) ∷ es) (head_plain (Incomplete key)) (incomplete_step last key good.0 behind) (ends key entry.Incomplete lines es rest)
entry_again last key (entry.Known base mine conflict) lines es good behind rest =
    let words = words_of base mine conflict in
    let more = base_lines key base ++ (mine_lines key (mine_word base mine) mine ++ (theirs_lines key conflict ++ lines)) in
    subst (λ (ls : List (List ℕ)). Reads (place.Head last) (head_written (Known key words) ∷ ls) ((key, entry.Known base mine conflict) ∷ es)) (sym (together (base_lines key base) (mine_lines key (mine_word base mine) mine) (theirs_lines key conflict) lines))
    (one_line (place.Head last) (head_written (Known key words)) (with_words key (base_word base) words) more ((key, entry.Known base mine conflict) ∷ es) (head_plain (Known key words)) (known_step last key base mine conflict good.0 behind)
    (words_follow key base mine conflict lines es good.1 rest))

-- ---- all entries

both_of : (a b : Bool) → T (a && b) → (a ≡ true) × T b
both_of true b h = (refl, h)
both_of false b h = absurd h

below_first : (key : Key) (es : Entries) → T (below_all rank_cmp key es) → is_first_behind (Some key) es ≡ true
below_first key [] h = refl
below_first key (e ∷ es) h = (both_of (is_lt (rank_cmp key e.0)) (below_all rank_cmp key es) h).0

sorted_parts : (a b : Bool) → T (a && b) → T a × T b
sorted_parts true b h = (tt, h)
sorted_parts false b h = absurd h

behind_step : (line : List ℕ) → step place.Behind line ≡ Some (awaiting place.Behind)
unfolding step
behind_step line = refl

-- behind the end all is skipped
pub behind_skipped : (lines : List (List ℕ)) → Reads place.Behind lines []
behind_skipped [] n = refl
behind_skipped (line ∷ lines) n = rw (behind_step (freed line)) (behind_skipped lines (n + 1))

-- What is written of entries by rank is read again, whatever stands behind it.
pub entries_again : (last : Option Key) (es : Entries) (behind : List (List ℕ)) → T (is_sorted rank_cmp es) → is_first_behind last es ≡ true → Every IsSavableEntry es → Reads (place.Head last) (entries_lines es ++ behind) es
entries_again last [] behind sorted first good = one_line (place.Head last) (head_written End) (awaiting place.Behind) behind [] (head_plain End) (end_step last) (behind_skipped behind)
entries_again last (e ∷ es) behind sorted first good =
    let parts = sorted_parts (below_all rank_cmp e.0 es) (is_sorted rank_cmp es) sorted in
    subst (λ (ls : List (List ℕ)). Reads (place.Head last) ls (e ∷ es)) (sym (append_assoc (entry_lines e.0 e.1) (entries_lines es) behind))
    (entry_again last e.0 e.1 (entries_lines es ++ behind) es good.0 first (entries_again (Some e.0) es behind parts.1 (below_first e.0 es parts.0) good.1))
