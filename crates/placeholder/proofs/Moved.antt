-- Entries with other references.
use Rattle.std.proofs.Common.{◌≡◌, ℕ, Bool, true, false, cond, ◌&&◌, List, [], ◌∷◌, map, Option, Some, None, refl, sym, ◌∙◌, ap, subst, IsTrue}
use Rattle.std.specs.Prelude.{IsSome, nat_le}
use Rattle.std.specs.List.{list_all, AllByRecursion}
use Rattle.std.specs.Option.{option_map}
use Rattle.std.specs.FinMap as fin
use Rattle.std.specs.FinMap.Entries as list
use Rattle.std.proofs.lemmas.List.{length-map}
use Rattle.osm_base.specs.Rank.{rank_cmp, is_key}
use Rattle.osm_base.specs.RankLaws.{rank_total}
use Rattle.osm_base.specs.Content.{refs_of, fits, tag_fits, role_fits, node}
use Rattle.osm_base.specs.declared.key.Key.{Key}
use Rattle.osm_base.specs.declared.members.Member.{Member}
use Rattle.osm_base.specs.declared.content.Content.{Content}
use Rattle.osm_base.specs.declared.content.Content.TheVariants as content
use Rattle.osm_table.specs.declared.entry.Entry.{Entry}
use Rattle.osm_table.specs.declared.entry.Entry.TheVariants.{Incomplete, Known}
use Rattle.osm_table.specs.declared.entry.Base.TheVariants.{New, Live, Gone}
use Rattle.osm_table.specs.Table.{mine_of, version_of, is_new, is_incomplete, IfContent, IsPositive, IsThere}
use Rattle.dataset.specs.Sound.{IsSoundEntry, OfKind}
use Rattle.upload_order.specs.Bases.{base_in, is_based}
use Rattle.upload_order.specs.Kinds.{is_rising, is_update, is_falling, held_of}
use Rattle.upload_order.specs.Plan.{version_at}
use Rattle.upload_order.specs.Refused.{is_open}
use Rattle.renamed_content.specs.Renamed.{renamed}
use Rattle.renamed_content.proofs.Refs.{renamed_kind}
use Rattle.placeholder.specs.Confirmed.{moved_entry, moved_entries}

-- the tests of an entry don't see the names
pub same_rising : (f : Key → Key) (e : Entry) → is_rising (moved_entry f e) ≡ is_rising e
same_rising f Incomplete = refl
same_rising f (Known New m d) = refl
same_rising f (Known (Live v b n) m d) = refl
same_rising f (Known (Gone v n) None d) = refl
same_rising f (Known (Gone v n) (Some c) d) = refl

pub same_falling : (f : Key → Key) (e : Entry) → is_falling (moved_entry f e) ≡ is_falling e
same_falling f Incomplete = refl
same_falling f (Known New m d) = refl
same_falling f (Known (Live v b n) None d) = refl
same_falling f (Known (Live v b n) (Some c) d) = refl
same_falling f (Known (Gone v n) m d) = refl

pub moved_mine : (f : Key → Key) (e : Entry) → mine_of (moved_entry f e) ≡ option_map (renamed f) (mine_of e)
moved_mine f Incomplete = refl
moved_mine f (Known b m d) = refl

pub moved_held : (f : Key → Key) (e : Entry) → held_of (moved_entry f e) ≡ option_map (renamed f) (held_of e)
moved_held f Incomplete = refl
moved_held f (Known New m d) = refl
moved_held f (Known (Live v b n) m d) = refl
moved_held f (Known (Gone v n) m d) = refl

find_moved : (f : Key → Key) (q : Key) (es : List (Key × Entry)) → list.find rank_cmp q (map (λ e. (e.0, moved_entry f e.1)) es) ≡ option_map (moved_entry f) (list.find rank_cmp q es)
find_moved f q [] = refl
find_moved f q (e ∷ es) = one (is_key q e.0) e.1 _ _ (find_moved f q es) where
  one : (b : Bool) (x : Entry) (o p : Option Entry) → o ≡ option_map (moved_entry f) p → cond b (Some (moved_entry f x)) o ≡ option_map (moved_entry f) (cond b (Some x) p)
  one true x o p h = refl
  one false x o p h = h

pub get_moved : (f : Key → Key) (m : fin.FinMap rank_cmp Entry) (q : Key) → fin.get (moved_entries f m) q ≡ option_map (moved_entry f) (fin.get m q)
get_moved f m q = fin.get-from_entries rank_total (map (λ e. (e.0, moved_entry f e.1)) (fin.entries m)) q ∙ find_moved f q (fin.entries m) ∙ ap (option_map (moved_entry f)) (sym (fin.get-entries m q))

pub same_new : (f : Key → Key) (g : Entry) → is_new (base_in (moved_entry f g)) ≡ is_new (base_in g)
same_new f Incomplete = refl
same_new f (Known New m d) = refl
same_new f (Known (Live v b n) m d) = refl
same_new f (Known (Gone v n) m d) = refl

pub same_incomplete : (f : Key → Key) (g : Entry) → is_incomplete (moved_entry f g) ≡ is_incomplete g
same_incomplete f Incomplete = refl
same_incomplete f (Known b m d) = refl

pub same_based : (f : Key → Key) (g : Entry) → is_based (moved_entry f g) ≡ is_based g
same_based f Incomplete = refl
same_based f (Known New m d) = refl
same_based f (Known (Live v b n) m d) = refl
same_based f (Known (Gone v n) m d) = refl

pub same_version : (f : Key → Key) (g : Entry) → version_of (base_in (moved_entry f g)) ≡ version_of (base_in g)
same_version f Incomplete = refl
same_version f (Known New m d) = refl
same_version f (Known (Live v b n) m d) = refl
same_version f (Known (Gone v n) m d) = refl

pub same_version_at : (f : Key → Key) (g : Entry) → version_at (Some (moved_entry f g)) ≡ version_at (Some g)
same_version_at f Incomplete = refl
same_version_at f (Known New m d) = refl
same_version_at f (Known (Live v b n) m d) = refl
same_version_at f (Known (Gone v n) m d) = refl

pub same_open : (f : Key → Key) (g : Entry) → is_open (moved_entry f g) ≡ is_open g
same_open f Incomplete = refl
same_open f (Known b m None) = refl
same_open f (Known b m (Some d)) = refl

roles_fit : (f : Key → Key) (ms : List Member) → list_all role_fits (map (λ m. let n : Member = record { key = f m.key; role = m.role } in n) ms) ≡ list_all role_fits ms
roles_fit f [] = refl
roles_fit f (m ∷ ms) = ap (λ b. role_fits m && b) (roles_fit f ms)

-- names don't change whether a content fits
pub fits_renamed : (f : Key → Key) (c : Content) → fits (renamed f c) ≡ fits c
fits_renamed f (content.Node tags at) = refl
fits_renamed f (content.Way tags refs) = ap (λ n. list_all tag_fits tags && (nat_le 1 n && nat_le n 2000)) (length-map refs (λ i. (f (node i)).id))
fits_renamed f (content.Relation tags members) = λ i.
    list_all tag_fits tags && (nat_le (length-map members (λ m. let n : Member = record { key = f m.key; role = m.role } in n) i) 32000 && roles_fit f members i)

kind_case : (f : Key → Key) (k : Key) (o : Option Content) → OfKind k o → OfKind k (option_map (renamed f) o)
kind_case f k None h = tt
kind_case f k (Some c) h = renamed_kind f c ∙ h

fits_case : (f : Key → Key) (o : Option Content) → IfContent o (λ c. IsTrue (fits c)) → IfContent (option_map (renamed f) o) (λ c. IsTrue (fits c))
fits_case f None h = tt
fits_case f (Some c) h = fits_renamed f c ∙ h

some_case : (f : Key → Key) (o : Option Content) → IsSome o → IsSome (option_map (renamed f) o)
some_case f None h = h
some_case f (Some c) h = refl

server_case : (f : Key → Key) (b : Content) → renamed f b ≡ b → AllByRecursion (λ r. IsPositive r.id) (refs_of b) → AllByRecursion (λ r. IsPositive r.id) (refs_of (renamed f b))
server_case f b e h = subst (λ (c : Content). AllByRecursion (λ r. IsPositive r.id) (refs_of c)) (sym e) h

-- an entry that isn't in conflict is sound with other names, if these don't stand in its base
pub moved_sound : (f : Key → Key) (n : ℕ) (k : Key) (g : Entry) → is_open g ≡ false → ((b : Content) → held_of g ≡ Some b → renamed f b ≡ b) → (is_update (moved_entry f g) ≡ true → is_update g ≡ true) → IsSoundEntry n k g → IsSoundEntry n k (moved_entry f g)
moved_sound f n k Incomplete o h u s = record { id = s.id; kinds = tt; server = tt; versions = tt; limits = λ changed. tt; conflict = tt }
moved_sound f n k (Known b m (Some d)) o h u s = let x : true ≡ false = o in cc
moved_sound f n k (Known New m None) o h u s = record {
  id = (s.id.0, some_case f m s.id.1, refl);
  kinds = (tt, kind_case f k m s.kinds.1, tt);
  server = (tt, tt);
  versions = (tt, tt);
  limits = λ changed. fits_case f m (s.limits refl);
  conflict = tt;
}
moved_sound f n k (Known (Live v b x) None None) o h u s = record {
  id = s.id;
  kinds = (renamed_kind f b ∙ s.kinds.0, tt, tt);
  server = (server_case f b (h b refl) s.server.0, tt);
  versions = s.versions;
  limits = λ changed. tt;
  conflict = tt;
}
moved_sound f n k (Known (Live v b x) (Some c) None) o h u s = record {
  id = s.id;
  kinds = (renamed_kind f b ∙ s.kinds.0, renamed_kind f c ∙ s.kinds.1, tt);
  server = (server_case f b (h b refl) s.server.0, tt);
  versions = s.versions;
  limits = λ changed. fits_renamed f c ∙ s.limits (u changed);
  conflict = tt;
}
moved_sound f n k (Known (Gone v x) None None) o h u s = record { id = s.id; kinds = (tt, tt, tt); server = (tt, tt); versions = s.versions; limits = λ changed. tt; conflict = tt }
moved_sound f n k (Known (Gone v x) (Some c) None) o h u s = record {
  id = s.id;
  kinds = (tt, renamed_kind f c ∙ s.kinds.1, tt);
  server = (tt, tt);
  versions = s.versions;
  limits = λ changed. fits_renamed f c ∙ s.limits refl;
  conflict = tt;
}

pub moved_there : (f : Key → Key) (o : Option Entry) → IsThere o → IsThere (option_map (moved_entry f) o)
moved_there f None h = h
moved_there f (Some Incomplete) h = tt
moved_there f (Some (Known b m d)) h = some_case f m h
