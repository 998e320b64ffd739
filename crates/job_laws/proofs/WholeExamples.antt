-- A whole merge that is accepted, and whole conflicts that are resolved: worked examples from table to table.
use Rattle.std.proofs.Common.{◌≡◌, ℕ, pos, Bool, true, is_some, List, [], ◌∷◌, ◌++◌, map, length, nat_lt, ◌||◌, Option, Some, None, Result, Ok, refl, sym, ap, ◌∙◌}
use Rattle.std.specs.Prelude.{T}
use Rattle.std.specs.List.{find as find_first, flat_map, list_all}
use Rattle.std.specs.Option.{option_map, option_map_or}
use Rattle.std.specs.FinMap as fin
use Rattle.std.specs.FinMap.Entries.{find, is_sorted, put}
use Rattle.std.specs.Str.{chars}
use Rattle.std.proofs.lemmas.Bool.{and_parts, true≢false}
use Rattle.osm_base.specs.Rank.{rank_cmp}
use Rattle.osm_base.specs.RankLaws.{rank_total}
use Rattle.osm_base.specs.Content.{node}
use Rattle.osm_base.specs.Meta.{empty_meta}
use Rattle.osm_base.specs.declared.coord.Coord.{Coord}
use Rattle.osm_base.specs.declared.content.Content.{Content}
use Rattle.osm_base.specs.declared.content.Content.TheVariants as content
use Rattle.osm_base.specs.declared.key.Key.{Key}
use Rattle.osm_base.specs.declared.key.Kind.TheVariants as kind
use Rattle.osm_table.specs.declared.entry.Base.{Base}
use Rattle.osm_table.specs.declared.entry.Base.TheVariants as base
use Rattle.osm_table.specs.declared.entry.Why.TheVariants.{Changed, Held}
use Rattle.osm_table.specs.declared.entry.Entry.{Entry}
use Rattle.osm_table.specs.declared.entry.Entry.TheVariants.{Known}
use Rattle.osm_table.specs.declared.told.Told.{Told}
use Rattle.osm_table.specs.declared.told.Told.TheVariants as told
use Rattle.osm_table.specs.Table.{TableValue, with_entry, version_of}
use Rattle.osm_table.specs.Told.{ToldEntries}
use Rattle.dataset.specs.Exact.{mine_at}
use Rattle.merge_cases.specs.declared.choice.Choice.{Choice}
use Rattle.merge_cases.specs.declared.choice.Choice.TheVariants as choice
use Rattle.merge_cases.specs.declared.choice.Side.TheVariants as side
use Rattle.merge_cases.specs.declared.verdict.Verdict.TheVariants.{Stay}
use Rattle.merge_cases.specs.Case.{verdict_of}
use Rattle.merge_cases.specs.Resolve.{resolved}
use Rattle.tool_api.specs.declared.refusal.Refusal.{Refusal}
use Rattle.tool_api.specs.declared.refusal.Refusal.TheVariants.{TableFull, VersionClash}
use Rattle.tool_api.specs.Checks.{◌>>◌, when}
use Rattle.tool_api.specs.Changes.{Outcome, changed, done, placed}
use Rattle.tool_api.specs.Closing.{room_test}
use Rattle.tool_api.specs.Staged.{Staged, is_candidate, is_clash, lost_of, refs_by, stage_of, staged, theirs_told}
use Rattle.tool_api.specs.Merged.{both_keys, clash_test, final, merge, merged, reached_keys}
use Rattle.tool_api.specs.Resolve.{choice_test, resolve, settle}
use Rattle.tool_api.proofs.Looks.{next_changed}

abbrev n : ℕ → Key
n i = node (pos i)

abbrev w5 : Key
w5 = record { kind = kind.Way; id = pos 5 }

abbrev here : Coord
here = record { lon = pos 0; lat = pos 0; on_map = refl }

abbrev there : Coord
there = record { lon = pos 1; lat = pos 0; on_map = refl }

-- a node with a value of the tag `a`, and one of `b` too, here or there
abbrev dot : ℕ → Content
dot a = content.Node ((97 ∷ [], a ∷ []) ∷ []) here

abbrev two : ℕ → ℕ → Content
two a b = content.Node ((97 ∷ [], a ∷ []) ∷ (98 ∷ [], b ∷ []) ∷ []) here

abbrev far : ℕ → ℕ → Content
far a b = content.Node ((97 ∷ [], a ∷ []) ∷ (98 ∷ [], b ∷ []) ∷ []) there

abbrev line : Content
line = content.Way [] (pos 1 ∷ pos 2 ∷ [])

abbrev live : ℕ → Content → Base
live version c = base.Live version c empty_meta

abbrev gone : ℕ → Base
gone version = base.Gone version empty_meta

abbrev kept : ℕ → Content → Entry
kept version c = Known (live version c) (Some c) None

abbrev edited : ℕ → Content → Content → Entry
edited version c mine = Known (live version c) (Some mine) None

abbrev table : List (Key × Entry) → TableValue
table es = record { entries = fin.from_sorted es; next = 1 }

abbrev news : List (Key × Told) → ToldEntries
news ts = fin.from_sorted ts

-- Tables by their lists.

same_tables : (t : TableValue) (us : List (Key × Entry)) → T (is_sorted rank_cmp us) → fin.entries t.entries ≡ us → t.next ≡ 1 → t ≡ table us
same_tables t us sorted listed next =
    let all = fin.same_entries_map t.entries (fin.from_sorted us) (listed ∙ sym (fin.entries-from_sorted rank_cmp us sorted)) in
    λ i. record { entries = all i; next = next i }

room : (limit : ℕ) (us : List (Key × Entry)) → T (is_sorted rank_cmp us) → room_test limit (table us) ≡ when (nat_lt limit (length us) || nat_lt 1000000000000000000 1) TableFull
room limit us sorted =
    ap (λ count. when (nat_lt limit count || nat_lt 1000000000000000000 1) TableFull)
    (fin.len-entries (fin.from_sorted {R = rank_cmp} us) ∙ ap length (fin.entries-from_sorted rank_cmp us sorted))

-- the entries of changed tables, where each change leaves one
abbrev put_some : Key → Option Entry → List (Key × Entry) → List (Key × Entry)
put_some k None es = es
put_some k (Some e) es = put rank_cmp k e es

abbrev changed_list : (Key → Option Entry) → List Key → List (Key × Entry) → List (Key × Entry)
changed_list g [] es = es
changed_list g (k ∷ ks) es = changed_list g ks (put_some k (g k) es)

one_changed : (t : TableValue) (g : Key → Option Entry) (k : Key) (ks : List Key) (o : Option Entry) → is_some o ≡ true
    → ((u : TableValue) → fin.entries (changed u g ks).entries ≡ changed_list g ks (fin.entries u.entries))
    → fin.entries (changed (placed t k o) g ks).entries ≡ changed_list g ks (put_some k o (fin.entries t.entries))
one_changed t g k ks None h rest = absurd (true≢false (sym h))
one_changed t g k ks (Some e) h rest = rest (with_entry t k e) ∙ ap (changed_list g ks) (fin.entries-insert rank_total t.entries k e)

changed_entries : (g : Key → Option Entry) (ks : List Key) → list_all (λ k. is_some (g k)) ks ≡ true → (t : TableValue) → fin.entries (changed t g ks).entries ≡ changed_list g ks (fin.entries t.entries)
changed_entries g [] h t = refl
changed_entries g (k ∷ ks) h t =
    let parts = and_parts (is_some (g k)) (list_all (λ k. is_some (g k)) ks) h in
    one_changed t g k ks (g k) parts.0 (changed_entries g ks parts.1)

-- A merge, over lists.

abbrev stage : Option Entry → Option Told → Staged
stage o s = record {
  entry = staged (option_map_or (verdict_of o) s Stay) o (option_map_or theirs_told s base.New);
  candidate = is_candidate (option_map_or (verdict_of o) s Stay);
  theirs = option_map_or theirs_told s base.New;
}

abbrev reached : (Key → Staged) → List Key → List Key
reached of ks = ks ++ flat_map (λ k. refs_by (mine_at (of k).entry) ++ refs_by (lost_of (of k).entry)) ks

module _ (es : List (Key × Entry)) (ts : List (Key × Told)) (sorted_es : T (is_sorted rank_cmp es)) (sorted_ts : T (is_sorted rank_cmp ts)) where
  abbrev listed_stage : Key → Staged
  listed_stage k = stage (find rank_cmp k es) (find rank_cmp k ts)

  abbrev listed_keys : List Key
  listed_keys = map (λ e. e.0) es ++ map (λ e. e.0) ts

  abbrev t : TableValue
  t = table es

  abbrev m : ToldEntries
  m = news ts

  -- what is looked up in the tables is found in the lists
  over_lists : {A : Type 0} (f : (Key → Staged) → List Key → List (Key × Entry) → A)
      → f (λ k. stage (fin.get t.entries k) (fin.get m k)) (map (λ e. e.0) (fin.entries t.entries) ++ map (λ e. e.0) (fin.entries m)) (fin.entries t.entries) ≡ f listed_stage listed_keys es
  over_lists f = λ i. f (λ k. stage (fin.get-from_sorted rank_cmp es k sorted_es i) (fin.get-from_sorted rank_cmp ts k sorted_ts i))
      (map (λ e. e.0) (fin.entries-from_sorted rank_cmp es sorted_es i) ++ map (λ e. e.0) (fin.entries-from_sorted rank_cmp ts sorted_ts i))
      (fin.entries-from_sorted rank_cmp es sorted_es i)

  abbrev all_there : (Key → Staged) → List Key → List (Key × Entry) → Bool
  all_there of ks xs = list_all (λ k. is_some (final of ks k)) (reached of ks)

  abbrev result : (Key → Staged) → List Key → List (Key × Entry) → List (Key × Entry)
  result of ks xs = changed_list (final of ks) (reached of ks) xs

  merged_list : all_there listed_stage listed_keys es ≡ true → fin.entries (merged t m).entries ≡ result listed_stage listed_keys es
  merged_list all =
      let of : Key → Staged = λ k. stage (fin.get t.entries k) (fin.get m k) in
      let ks : List Key = map (λ e. e.0) (fin.entries t.entries) ++ map (λ e. e.0) (fin.entries m) in
      changed_entries (final of ks) (reached of ks) (over_lists all_there ∙ all) t ∙ over_lists result

  clash_is : clash_test t m ≡ option_map (λ k. VersionClash k (version_of (option_map_or theirs_told (find rank_cmp k ts) base.New)))
      (find_first (λ k. is_clash (option_map_or (verdict_of (find rank_cmp k es)) (find rank_cmp k ts) Stay)) (map (λ e. e.0) ts))
  clash_is = λ i. option_map (λ k. VersionClash k (version_of (option_map_or theirs_told (fin.get-from_sorted rank_cmp ts k sorted_ts i) base.New)))
      (find_first (λ k. is_clash (option_map_or (verdict_of (fin.get-from_sorted rank_cmp es k sorted_es i)) (fin.get-from_sorted rank_cmp ts k sorted_ts i) Stay)) (map (λ e. e.0) (fin.entries-from_sorted rank_cmp ts sorted_ts i)))

-- n1 has the tag a=2 here, where it had a=1; n2 and w5 are as they were downloaded.
abbrev before : List (Key × Entry)
before = (n 1, edited 1 (dot 1) (dot 2)) ∷ (n 2, kept 1 (dot 1)) ∷ (w5, kept 1 line) ∷ []

-- The server has n1 with b=3 in version 2, n2 is gone there, and n4 is new.
abbrev download : List (Key × Told)
download = (n 1, told.Live 2 (two 1 3) empty_meta) ∷ (n 2, told.Gone 2 empty_meta) ∷ (n 4, told.Live 1 (dot 7) empty_meta) ∷ []

-- n1 has both changes, on the new version; n2 is in conflict, since w5 refers to it; n4 is taken; w5 stays.
abbrev after : List (Key × Entry)
after =
    (n 1, edited 2 (two 1 3) (two 2 3))
    ∷ (n 2, Known (live 1 (dot 1)) (Some (dot 1)) (Some (record { why = Held; theirs = gone 2 })))
    ∷ (n 4, kept 1 (dot 7))
    ∷ (w5, kept 1 line)
    ∷ []

whole : merged (table before) (news download) ≡ table after
unfolding chars
whole = same_tables (merged (table before) (news download)) after tt (merged_list before download tt tt refl) (next_changed (table before) (final (stage_of (table before) (news download)) (both_keys (table before) (news download))) (reached_keys (table before) (news download)))

accepted : merge (table before) 4 (record { told = news download; order = n 1 ∷ n 2 ∷ n 4 ∷ [] }) ≡ Ok (done (table after))
unfolding chars
accepted =
    ap (λ (c : Option Refusal). c >> (room_test 4 (merged (table before) (news download)) >> Ok (done (merged (table before) (news download))))) (clash_is before download tt tt)
    ∙ ap (λ (u : TableValue). room_test 4 u >> Ok (done u)) whole
    ∙ ap (λ (c : Option Refusal). c >> Ok (done (table after))) (room 4 after tt)

-- Both sides changed the tag a; theirs changed b and the place too. So n1 is in conflict.
abbrev theirs : Base
theirs = live 2 (far 5 9)

abbrev disputed : List (Key × Entry)
disputed = (n 1, Known (live 1 (two 1 1)) (Some (two 2 1)) (Some (record { why = Changed; theirs = theirs }))) ∷ []

-- with this content it is on the server's version, and in no conflict
abbrev settled : Content → List (Key × Entry)
settled mine = (n 1, Known theirs (Some mine) None) ∷ []

set_is : (mine : Content) → with_entry (table disputed) (n 1) (Known theirs (Some mine) None) ≡ table (settled mine)
set_is mine =
    same_tables (with_entry (table disputed) (n 1) (Known theirs (Some mine) None)) (settled mine) tt
    (fin.entries-insert rank_total (fin.from_sorted disputed) (n 1) (Known theirs (Some mine) None) ∙ ap (put rank_cmp (n 1) (Known theirs (Some mine) None)) (fin.entries-from_sorted rank_cmp disputed tt)) refl

set_done : (mine : Content) → (room_test 1 (with_entry (table disputed) (n 1) (Known theirs (Some mine) None)) >> Ok (done (with_entry (table disputed) (n 1) (Known theirs (Some mine) None)))) ≡ Ok (done (table (settled mine)))
set_done mine =
    ap (λ (u : TableValue). room_test 1 u >> Ok (done u)) (set_is mine)
    ∙ ap (λ (c : Option Refusal). c >> Ok (done (table (settled mine)))) (room 1 (settled mine) tt)

-- what the choice makes of what is found
abbrev chosen : Choice → Option Entry → Result Outcome Refusal
chosen c o = choice_test c (n 1) o >> settle (table disputed) 1 (n 1) (option_map (resolved c) o)

found : fin.get (table disputed).entries (n 1) ≡ find rank_cmp (n 1) disputed
found = fin.get-from_sorted rank_cmp disputed (n 1) tt

-- `resolve n1 mine` keeps a=2,b=1 here, and `theirs` takes a=5,b=9 there;
mine_stays : resolve (table disputed) 1 (n 1) choice.Mine ≡ Ok (done (table (settled (two 2 1))))
unfolding chars
mine_stays = ap (chosen choice.Mine) found ∙ set_done (two 2 1)

theirs_is_taken : resolve (table disputed) 1 (n 1) choice.Theirs ≡ Ok (done (table (settled (far 5 9))))
unfolding chars
theirs_is_taken = ap (chosen choice.Theirs) found ∙ set_done (far 5 9)

-- a mix has the tags of one side and the place of the other;
mixed : resolve (table disputed) 1 (n 1) (choice.Mix side.Theirs side.Mine) ≡ Ok (done (table (settled (two 5 9))))
unfolding chars
mixed = ap (chosen (choice.Mix side.Theirs side.Mine)) found ∙ set_done (two 5 9)

-- in parts b and the place are theirs, who alone changed them, and a is mine, or theirs where it is listed.
in_parts : resolve (table disputed) 1 (n 1) (choice.Parts side.Mine []) ≡ Ok (done (table (settled (far 2 9))))
unfolding chars
in_parts = ap (chosen (choice.Parts side.Mine [])) found ∙ set_done (far 2 9)

listed_part : resolve (table disputed) 1 (n 1) (choice.Parts side.Mine ((97 ∷ []) ∷ [])) ≡ Ok (done (table (settled (far 5 9))))
unfolding chars
listed_part = ap (chosen (choice.Parts side.Mine ((97 ∷ []) ∷ []))) found ∙ set_done (far 5 9)
