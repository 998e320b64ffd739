-- What a sound table is, by tables that are, and by one that isn't for each condition.
use Rattle.std.proofs.Common.{◌≡◌, ◌≢◌, ◌||◌, ◌≤◌, ◌⊎◌, inl, inr, ℕ, ℤ, pos, negsuc, Bool, true, false, List, [], ◌∷◌, Option, Some, None, refl, sym, ◌∙◌, ap, subst, arith}
use Rattle.std.specs.Prelude.{codes}
use Rattle.std.specs.List.{AllByRecursion}
use Rattle.std.specs.FinMap as fin
use Rattle.std.specs.FinMap.Entries.{find}
use Rattle.osm_base.specs.Rank.{rank_cmp, is_key}
use Rattle.osm_base.specs.Content.{node}
use Rattle.osm_base.specs.declared.meta.Meta.{Meta}
use Rattle.osm_base.specs.declared.content.Content.{Content}
use Rattle.osm_base.specs.declared.content.Content.TheVariants as content
use Rattle.osm_base.specs.declared.key.Key.{Key}
use Rattle.osm_base.specs.declared.key.Kind.TheVariants as kind
use Rattle.osm_base.proofs.SameLaws.{is_key_decides}
use Rattle.osm_table.specs.declared.entry.Base.{Base}
use Rattle.osm_table.specs.declared.entry.Base.TheVariants.{New, Live, Gone}
use Rattle.osm_table.specs.declared.entry.Conflict.{Conflict}
use Rattle.osm_table.specs.declared.entry.Why.{Why}
use Rattle.osm_table.specs.declared.entry.Why.TheVariants.{Changed, Held, Withdrawn}
use Rattle.osm_table.specs.declared.entry.Entry.{Entry}
use Rattle.osm_table.specs.declared.entry.Entry.TheVariants.{Incomplete, Known}
use Rattle.osm_table.specs.Table.{TableValue, entry_of, with_entry, version_of, Each, IsThere}
use Rattle.osm_table.proofs.Each.{get_with_same, get_with_other, with_cases}
use Rattle.dataset.specs.Sound.{IsSound, IsSoundEntry, LivesIn}

abbrev n : ℕ → Key
n i = node (pos i)

abbrev w : ℕ → Key
w i = record { kind = kind.Way; id = pos i }

abbrev server : Meta
server = record { changeset = 1; time = None; uid = 1; user = [] }

abbrev dot : Content
dot = content.Node [] (record { lon = pos 0; lat = pos 0; on_map = refl })

abbrev bench : Content
bench = content.Node ((codes "amenity", codes "bench") ∷ []) (record { lon = pos 0; lat = pos 0; on_map = refl })

abbrev bin : Content
bin = content.Node ((codes "amenity", codes "waste_basket") ∷ []) (record { lon = pos 0; lat = pos 0; on_map = refl })

abbrev line : List ℤ → Content
line ids = content.Way [] ids

abbrev live : ℕ → Content → Base
live version c = Live version c server

abbrev gone : ℕ → Base
gone version = Gone version server

-- without a conflict, and in conflict with what the server told
abbrev known : Base → Option Content → Entry
known base mine = Known base mine None

abbrev against : Why → Base → Base → Option Content → Entry
against why theirs base mine = Known base mine (Some (record { why = why; theirs = theirs }))

-- a table of one object
abbrev alone : ℕ → Key → Entry → TableValue
alone next k e = with_entry (record { entries = fin.empty; next = next }) k e

at_its_key : (next : ℕ) (k : Key) (e : Entry) → IsSound (alone next k e) → IsSoundEntry next k e
at_its_key next k e s = s.entries k e (get_with_same (record { entries = fin.empty; next = next }) k e)

-- A reference is to an object that is there, and lives or is Incomplete.
refers_to_nothing : IsSound (alone 1 (w 5) (known (live 1 (line (pos 1 ∷ []))) (Some (line (pos 1 ∷ []))))) → ⊥
refers_to_nothing s =
    let t : TableValue = record { entries = fin.empty; next = 1 } in
    let e : Entry = known (live 1 (line (pos 1 ∷ []))) (Some (line (pos 1 ∷ []))) in
    let nothing : entry_of (with_entry t (w 5) e) (n 1) ≡ None = get_with_other t (w 5) e (n 1) refl ∙ fin.get-empty rank_cmp (n 1) in
    subst IsThere nothing (s.closed (w 5) e (get_with_same t (w 5) e) (n 1) refl)

refers_to_deleted : IsSound (with_entry (alone 1 (n 1) (known (live 1 dot) None)) (w 5) (known (live 1 (line (pos 1 ∷ []))) (Some (line (pos 1 ∷ []))))) → ⊥
refers_to_deleted s =
    let t : TableValue = alone 1 (n 1) (known (live 1 dot) None) in
    let e : Entry = known (live 1 (line (pos 1 ∷ []))) (Some (line (pos 1 ∷ []))) in
    let deleted : entry_of (with_entry t (w 5) e) (n 1) ≡ Some (known (live 1 dot) None) =
    get_with_other t (w 5) e (n 1) refl ∙ get_with_same (record { entries = fin.empty; next = 1 }) (n 1) (known (live 1 dot) None) in
    let lives : false ≡ true = subst IsThere deleted (s.closed (w 5) e (get_with_same t (w 5) e) (n 1) refl) in cc

-- Contents have their key's kind: the base's, mine and theirs.
base_of_another_kind : IsSound (alone 1 (n 1) (known (live 1 (line (pos 1 ∷ []))) None)) → ⊥
base_of_another_kind s = let e : kind.Way ≡ kind.Node = (at_its_key _ _ _ s).kinds.0 in cc

mine_of_another_kind : IsSound (alone 1 (n 1) (known (live 1 dot) (Some (line (pos 1 ∷ []))))) → ⊥
mine_of_another_kind s = let e : kind.Way ≡ kind.Node = (at_its_key _ _ _ s).kinds.1 in cc

theirs_of_another_kind : IsSound (alone 1 (n 1) (against Changed (live 2 (line (pos 1 ∷ []))) (live 1 bench) (Some dot))) → ⊥
theirs_of_another_kind s = let e : kind.Way ≡ kind.Node = (at_its_key _ _ _ s).kinds.2 in cc

-- What isn't New has a positive id.
incomplete_without_server : IsSound (alone 2 (node (negsuc 0)) Incomplete) → ⊥
incomplete_without_server s = (at_its_key _ _ _ s).id

live_without_server : IsSound (alone 2 (node (negsuc 0)) (known (live 1 dot) (Some dot))) → ⊥
live_without_server s = (at_its_key _ _ _ s).id

deleted_without_server : IsSound (alone 2 (node (negsuc 0)) (known (gone 1) None)) → ⊥
deleted_without_server s = (at_its_key _ _ _ s).id

zero : IsSound (alone 1 (n 0) Incomplete) → ⊥
zero s = omega (arith, (at_its_key 1 (n 0) Incomplete s).id)

-- What is New has a negative id above minus the number, lives, and has no conflict.
new_at_server : IsSound (alone 2 (n 1) (known New (Some dot))) → ⊥
new_at_server s = (at_its_key _ _ _ s).id.0

not_numbered_yet : IsSound (alone 2 (node (negsuc 1)) (known New (Some dot))) → ⊥
not_numbered_yet s = omega (arith, (at_its_key 2 (node (negsuc 1)) (known New (Some dot)) s).id)

new_and_deleted : IsSound (alone 2 (node (negsuc 0)) (known New None)) → ⊥
new_and_deleted s = let lives : false ≡ true = (at_its_key _ _ _ s).id.1 in cc

new_in_conflict : IsSound (alone 2 (node (negsuc 0)) (against Changed (live 2 bench) New (Some dot))) → ⊥
new_in_conflict s =
    let c : Conflict = record { why = Changed; theirs = live 2 bench } in
    let e : Some c ≡ None = (at_its_key _ _ _ s).id.2 in cc

-- What a server told refers to positive ids.
base_refers_to_new : IsSound (alone 2 (w 5) (known (live 1 (line (negsuc 0 ∷ []))) None)) → ⊥
base_refers_to_new s = (at_its_key _ _ _ s).server.0.0

theirs_refers_to_new : IsSound (alone 2 (w 5) (against Changed (live 2 (line (negsuc 0 ∷ []))) (live 1 (line (pos 1 ∷ []))) None)) → ⊥
theirs_refers_to_new s = (at_its_key _ _ _ s).server.1.0

-- The number is 1 to 10^18, a version 1 to 2,000,000,000.
no_number : IsSound (record { entries = fin.empty; next = 0 }) → ⊥
no_number s = omega (arith, s.number)

no_number_left : IsSound (record { entries = fin.empty; next = 1000000000000000001 }) → ⊥
no_number_left s = omega (arith, s.number)

no_version : IsSound (alone 1 (n 1) (known (live 0 dot) (Some dot))) → ⊥
no_version s = omega (arith, (at_its_key 1 (n 1) (known (live 0 dot) (Some dot)) s).versions)

no_version_of_theirs : IsSound (alone 1 (n 1) (against Held (gone 2000000001) (live 1 dot) (Some dot))) → ⊥
no_version_of_theirs s = omega (arith, (at_its_key 1 (n 1) (against Held (gone 2000000001) (live 1 dot) (Some dot)) s).versions)

-- What is changed and lives fits: a way has a node.
changed_to_nothing : IsSound (alone 1 (w 5) (known (live 1 (line (pos 1 ∷ []))) (Some (line [])))) → ⊥
changed_to_nothing s = let e : false ≡ true = (at_its_key 1 (w 5) (known (live 1 (line (pos 1 ∷ []))) (Some (line []))) s).limits refl in cc

-- Changed: theirs is newer than the base, and mine differs from what either holds.
changed_and_not_newer : IsSound (alone 1 (n 1) (against Changed (live 1 bin) (live 1 bench) (Some dot))) → ⊥
changed_and_not_newer s = omega (arith, (at_its_key 1 (n 1) (against Changed (live 1 bin) (live 1 bench) (Some dot)) s).conflict)

changed_and_mine_is_the_base : IsSound (alone 1 (n 1) (against Changed (live 2 bin) (live 1 dot) (Some dot))) → ⊥
changed_and_mine_is_the_base s = (at_its_key 1 (n 1) (against Changed (live 2 bin) (live 1 dot) (Some dot)) s).conflict.1 refl

changed_and_mine_is_theirs : IsSound (alone 1 (n 1) (against Changed (live 2 dot) (live 1 bench) (Some dot))) → ⊥
changed_and_mine_is_theirs s = (at_its_key 1 (n 1) (against Changed (live 2 dot) (live 1 bench) (Some dot)) s).conflict.2 refl

deleted_on_both_sides : IsSound (alone 1 (n 1) (against Changed (gone 2) (live 1 bench) None)) → ⊥
deleted_on_both_sides s = (at_its_key 1 (n 1) (against Changed (gone 2) (live 1 bench) None) s).conflict.2 refl

-- Held: the base is Live, mine is its content, theirs is Gone and newer.
held_and_base_gone : IsSound (alone 1 (n 1) (against Held (gone 2) (gone 1) None)) → ⊥
held_and_base_gone s = (at_its_key _ _ _ s).conflict.0

held_and_changed : IsSound (alone 1 (n 1) (against Held (gone 2) (live 1 bench) None)) → ⊥
held_and_changed s = let e : None ≡ Some bench = (at_its_key _ _ _ s).conflict.1 in cc

held_and_theirs_live : IsSound (alone 1 (n 1) (against Held (live 2 bin) (live 1 dot) (Some dot))) → ⊥
held_and_theirs_live s = (at_its_key _ _ _ s).conflict.2

held_and_not_newer : IsSound (alone 1 (n 1) (against Held (gone 1) (live 1 dot) (Some dot))) → ⊥
held_and_not_newer s = omega (arith, (at_its_key 1 (n 1) (against Held (gone 1) (live 1 dot) (Some dot)) s).conflict)

-- Withdrawn: the base is Live, mine is its content, theirs is the base.
withdrawn_and_base_gone : IsSound (alone 1 (n 1) (against Withdrawn (gone 1) (gone 1) None)) → ⊥
withdrawn_and_base_gone s = (at_its_key _ _ _ s).conflict.0

withdrawn_and_deleted : IsSound (alone 1 (n 1) (against Withdrawn (live 1 dot) (live 1 dot) None)) → ⊥
withdrawn_and_deleted s = let e : None ≡ Some dot = (at_its_key _ _ _ s).conflict.1 in cc

withdrawn_and_theirs_newer : IsSound (alone 1 (n 1) (against Withdrawn (live 2 dot) (live 1 dot) (Some dot))) → ⊥
withdrawn_and_theirs_newer s = let e : 2 ≡ 1 = ap version_of (at_its_key 1 (n 1) (against Withdrawn (live 2 dot) (live 1 dot) (Some dot)) s).conflict.2 in omega (arith, e)

-- A sound table with each kind of conflict: n1 lost its tag here and has another one there, n2 is deleted there and used
-- here, n3 was deleted here and is used there, n4 is deleted here and changed there, of n5 only the key is known, n6 was
-- added, and w7, which has no node, is as the server has it. w8 refers to n2 and n5.
abbrev objects : List (Key × Entry)
objects = (n 1, against Changed (live 2 bin) (live 1 bench) (Some dot))
    ∷ (n 2, against Held (gone 2) (live 1 bench) (Some bench))
    ∷ (n 3, against Withdrawn (live 1 bench) (live 1 bench) (Some bench))
    ∷ (n 4, against Changed (live 2 bin) (live 1 bench) None)
    ∷ (n 5, Incomplete)
    ∷ (node (negsuc 0), known New (Some dot))
    ∷ (w 7, known (live 1 (line [])) (Some (line [])))
    ∷ (w 8, known (live 1 (line (pos 2 ∷ []))) (Some (line (pos 2 ∷ pos 5 ∷ []))))
    ∷ []

abbrev table : TableValue
table = record { entries = fin.from_sorted objects; next = 2 }

-- what is true of each entry of a list is true of each that is found in it
all_found : (P : Key → Entry → Type 0) (es : List (Key × Entry)) → AllByRecursion (λ e. P e.0 e.1) es → (k : Key) (e : Entry) → find rank_cmp k es ≡ Some e → P k e
all_found P [] all k e h = let none : None ≡ Some e = h in cc
all_found P (x ∷ xs) all k e h = with_cases P k x.0 x.1 e (find rank_cmp k xs) (is_key k x.0) refl h all.0 (all_found P xs all.1 k e)

each_of : (P : Key → Entry → Type 0) → AllByRecursion (λ e. P e.0 e.1) objects → Each table P
each_of P all k e h = all_found P objects all k e (sym (fin.get-from_sorted rank_cmp objects k tt) ∙ h)

in_table : (k : Key) → entry_of table k ≡ find rank_cmp k objects
in_table k = fin.get-from_sorted rank_cmp objects k tt

one_of_two : (a b : Bool) → (a || (b || false)) ≡ true → (a ≡ true) ⊎ (b ≡ true)
one_of_two true b h = inl refl
one_of_two false true h = inr refl
one_of_two false false h = cc

there : (r : Key) → (r ≡ n 2) ⊎ (r ≡ n 5) → IsThere (entry_of table r)
there r (inl e) = subst (λ (k : Key). IsThere (entry_of table k)) (sym e) (subst IsThere (sym (in_table (n 2))) refl)
there r (inr e) = subst (λ (k : Key). IsThere (entry_of table k)) (sym e) (subst IsThere (sym (in_table (n 5))) tt)

named : (r : Key) → (is_key r (n 2) ≡ true) ⊎ (is_key r (n 5) ≡ true) → (r ≡ n 2) ⊎ (r ≡ n 5)
named r (inl h) = inl ((is_key_decides r (n 2)).0 h)
named r (inr h) = inr ((is_key_decides r (n 5)).0 h)

never : {A : Type 0} → false ≡ true → A
never h = absurd (let f : false ≡ true = h in cc)

first : (1 ≤ 1) × (1 ≤ 2000000000)
first = (omega arith, omega arith)

second : (1 ≤ 2) × (2 ≤ 2000000000)
second = (omega arith, omega arith)

each_conflict_is_sound : IsSound table
each_conflict_is_sound =
    let dot_is_not_bench : Some dot ≢ Some bench = λ e. cc in
    let dot_is_not_bin : Some dot ≢ Some bin = λ e. cc in
    let not_bench : None ≢ Some bench = λ e. cc in
    let not_bin : None ≢ Some bin = λ e. cc in
    record {
      entries = each_of (IsSoundEntry 2) (
        record { id = (omega arith, omega arith); kinds = (refl, refl, refl); server = (tt, tt); versions = (first, second); limits = λ _. refl; conflict = (omega arith, dot_is_not_bench, dot_is_not_bin) },
        (
          record { id = (omega arith, omega arith); kinds = (refl, refl, tt); server = (tt, tt); versions = (first, second); limits = λ h. never h; conflict = (tt, refl, tt, omega arith) },
          (
            record { id = (omega arith, omega arith); kinds = (refl, refl, refl); server = (tt, tt); versions = (first, first); limits = λ h. never h; conflict = (tt, refl, refl) },
            (
              record { id = (omega arith, omega arith); kinds = (refl, tt, refl); server = (tt, tt); versions = (first, second); limits = λ _. tt; conflict = (omega arith, not_bench, not_bin) },
              (
                record { id = (omega arith, omega arith); kinds = tt; server = tt; versions = tt; limits = λ _. tt; conflict = tt },
                (
                  record { id = (omega arith, refl, refl); kinds = (tt, refl, tt); server = (tt, tt); versions = (tt, tt); limits = λ _. refl; conflict = tt },
                  (
                    record { id = (omega arith, omega arith); kinds = (refl, refl, tt); server = (tt, tt); versions = (first, tt); limits = λ h. never h; conflict = tt },
                    (
                      record { id = (omega arith, omega arith); kinds = (refl, refl, tt); server = (((omega arith, omega arith), tt), tt); versions = (first, tt); limits = λ _. refl; conflict = tt },
                      tt,
                    ),
                  ),
                ),
              ),
            ),
          ),
        ),
      );
      closed = each_of (λ k e. LivesIn table e) (
        λ r h. never h,
        (
          λ r h. never h,
          (
            λ r h. never h,
            (
              λ r h. never h,
              (
                λ r h. never h,
                (
                  λ r h. never h,
                  (
                    λ r h. never h,
                    (λ r h. there r (named r (one_of_two _ _ h)), tt),
                  ),
                ),
              ),
            ),
          ),
        ),
      );
      number = (omega arith, omega arith);
    }
