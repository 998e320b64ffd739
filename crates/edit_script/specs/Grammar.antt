-- The grammar of a line: the words with which lines begin, and what the words behind them ask for.
--
-- For example `combine w1,w2` combines these ways, and `combine w1` is outside the grammar. Some lines have parts that can be
-- left out: `resolve n1 mine` and `resolve n1 mix theirs mine` are both lines, and so are `download town.opl` and
-- `download town.opl Famenity=bench`.
use Rattle.std.specs.Prelude.{ℕ, nat_le, if◌then◌else◌, codes, List, [], ◌∷◌, length, Option, Some, None}
use Rattle.std.specs.Str.{bytes_eq}
use Rattle.osm_base.specs.Coord.{coord_text}
use Rattle.osm_base.specs.Number.{key_text, number_text}
use Rattle.osm_base.specs.Tags.{Pair}
use Rattle.osm_base.specs.declared.area.Area.{Area}
use Rattle.osm_base.specs.declared.coord.Coord.{Coord}
use Rattle.osm_base.specs.declared.key.Key.{Key}
use Rattle.map_search.specs.Reading.{query_of_words}
use Rattle.opl_text.specs.Text.{unescaped}
use Rattle.opl_text.specs.Time.{◌>>=◌}
use Rattle.merge_cases.specs.declared.choice.Choice.{Choice}
use Rattle.merge_cases.specs.declared.choice.Choice.TheVariants as choice
use Rattle.tool_api.specs.declared.job.Job.TheVariants as job
use Rattle.edit_script.specs.declared.step.Act.{Act}
use Rattle.edit_script.specs.declared.step.Act.TheVariants as act
use Rattle.edit_script.specs.declared.step.HistoryStep.TheVariants as history
use Rattle.edit_script.specs.declared.step.Look.TheVariants as look
use Rattle.edit_script.specs.declared.step.MeetStep.TheVariants as meet
use Rattle.edit_script.specs.declared.step.Purpose.TheVariants as purpose
use Rattle.edit_script.specs.Items.{alone, area_text, keys_word, members_word, number_word, optional, place_words, refs_word, side_word, tag_keys_word, tags_word, wanted_text}

-- a word that is read so, and what the others ask for then
abbrev pub word : {A B : Type 0} → (List ℕ → Option A) → (A → List (List ℕ) → Option B) → List (List ℕ) → Option B
word read rest [] = None
word read rest (first ∷ words) = read first >>= λ x. rest x words

-- a word that is read so, and no other
abbrev pub only : {A B : Type 0} → (List ℕ → Option A) → (A → B) → List (List ℕ) → Option B
only read made words = word read alone words >>= λ x. Some (made x)

-- the two words of a place, and what the others ask for then
abbrev pub at_place : {B : Type 0} → (Coord → List (List ℕ) → Option B) → List (List ℕ) → Option B
at_place rest (x ∷ y ∷ words) = place_words x y >>= λ at. rest at words
at_place rest words = None

-- `B..` and `F..`, of which each can be left out: the box and the tags of what is taken
abbrev pub taking : (Option Area → Option (List Pair) → Act) → List (List ℕ) → Option Act
taking act words = optional 66 area_text words >>= λ area. optional 70 wanted_text area.1 >>= λ wanted. alone (act area.0 wanted.0) wanted.1

-- at least two keys
unfoldable pub two_keys : List ℕ → Option (List Key)
two_keys text = do
  keys ← keys_word text
  if nat_le 2 (length keys) then Some keys else None

-- by the first word, what the others ask for
abbrev pub by_first : {A : Type 0} → List (List ℕ × (List (List ℕ) → Option A)) → List (List ℕ) → Option A
by_first [] words = None
by_first (line ∷ lines) [] = None
by_first (line ∷ lines) (first ∷ words) = if bytes_eq first line.0 then line.1 words else by_first lines (first ∷ words)

-- how a conflict is resolved: `mix S S` has whose tags and then whose body, `parts S K..` whose body and then the keys of the
-- tags that are theirs
abbrev pub choices : List (List ℕ × (List (List ℕ) → Option Choice))
choices =
    (codes "mine", alone choice.Mine)
    ∷ (codes "theirs", alone choice.Theirs)
    ∷ (codes "mix", word side_word (λ tags. word side_word (λ body. alone (choice.Mix tags body))))
    ∷ (codes "parts", word side_word (λ body. word tag_keys_word (λ theirs. alone (choice.Parts body theirs))))
    ∷ []

-- An undo and a redo are done up to 1,000,000 times, a city has up to 100,000 streets, a chunk and what is sent up to 10,000
-- changes, and a meeting has four editors.
abbrev pub all_lines : List (List ℕ × (List (List ℕ) → Option Act))
all_lines =
    (codes "answer", alone (act.Meet meet.Answer))
    ∷ (codes "begin", alone (act.History history.Begin))
    ∷ (codes "check", alone (act.Look look.Check))
    ∷ (codes "combine", only two_keys (λ ways. act.Job (job.Combine ways)))
    ∷ (codes "confirm", only unescaped (λ name. act.File name purpose.Confirm))
    ∷ (codes "conflicts", alone (act.Look look.Conflicts))
    ∷ (codes "count", alone (act.Look look.Count))
    ∷ (codes "delete", only keys_word (λ keys. act.Job (job.Delete keys)))
    ∷ (codes "download", word unescaped (λ name. taking (λ area wanted. act.File name (purpose.Download area wanted))))
    ∷ (codes "editor", only (number_word 4) (λ n. act.Editor n))
    ∷ (codes "end", alone (act.History history.End))
    ∷ (codes "erase", only keys_word (λ keys. act.Job (job.Erase keys)))
    ∷ (codes "fetch", word (number_text 7) (λ back. taking (λ area wanted. act.Meet (meet.Fetch back area wanted))))
    ∷ (codes "find", λ words. query_of_words words >>= λ query. Some (act.Look (look.Find query)))
    ∷ (codes "fuse", only two_keys (λ nodes. act.Job (job.Fuse nodes)))
    ∷ (codes "generate", only (number_word 100000) (λ streets. act.Generate streets))
    ∷ (codes "import", only unescaped (λ name. act.File name purpose.Import))
    ∷ (codes "lost", alone (act.Meet meet.Lost))
    ∷ (codes "members", word key_text (λ key. word members_word (λ members. alone (act.Job (job.SetMembers key members)))))
    ∷ (codes "move", word keys_word (λ keys. word coord_text (λ dx. word coord_text (λ dy. alone (act.Job (job.Shift keys dx dy))))))
    ∷ (codes "node", at_place (λ at. word tags_word (λ tags. alone (act.Job (job.AddNode tags at)))))
    ∷ (codes "nodes", word key_text (λ key. word refs_word (λ refs. alone (act.Job (job.SetNodes key refs)))))
    ∷ (codes "place", word key_text (λ key. at_place (λ at. alone (act.Job (job.Place key at)))))
    ∷ (codes "print", alone (act.Look look.Print))
    ∷ (codes "purge", only keys_word (λ keys. act.Job (job.Purge keys)))
    ∷ (codes "redo", only (number_word 1000000) (λ n. act.History (history.Redo n)))
    ∷ (codes "rehearse", alone (act.Look look.Rehearse))
    ∷ (codes "relation", word tags_word (λ tags. word members_word (λ members. alone (act.Job (job.AddRelation tags members)))))
    ∷ (codes "resolve", word key_text (λ key words. by_first choices words >>= λ choice. Some (act.Job (job.Resolve key choice))))
    ∷ (codes "resume", only unescaped (λ name. act.File name purpose.Resume))
    ∷ (codes "reverse", only key_text (λ way. act.Job (job.Reverse way)))
    ∷ (codes "save", alone (act.Look look.Save))
    ∷ (codes "send", only (number_word 10000) (λ count. act.Meet (meet.Send count)))
    ∷ (codes "serve", only unescaped (λ name. act.Serve name))
    ∷ (codes "split", word key_text (λ way. word keys_word (λ nodes. alone (act.Job (job.Split way nodes)))))
    ∷ (codes "squeeze", only keys_word (λ keys. act.Job (job.Squeeze keys)))
    ∷ (codes "tag", word keys_word (λ keys. word tags_word (λ tags. alone (act.Job (job.SetTags keys tags)))))
    ∷ (codes "undo", only (number_word 1000000) (λ n. act.History (history.Undo n)))
    ∷ (codes "upload", only (number_word 10000) (λ size. act.Look (look.Upload size)))
    ∷ (codes "way", word tags_word (λ tags. word refs_word (λ refs. alone (act.Job (job.AddWay tags refs)))))
    ∷ []

-- What the words of a line ask for; none where they are no line of the grammar.
unfoldable pub act_of : List (List ℕ) → Option Act
act_of words = by_first all_lines words
