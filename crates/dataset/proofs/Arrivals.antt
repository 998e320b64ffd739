-- What a table has where all that is told has come.
use Rattle.std.proofs.Common.{◌≡◌, ◌∙◌, ℕ, is_some, List, Option, Some, None, refl, sym, ap, subst}
use Rattle.std.specs.Option.{option_map, option_or, unwrap_or}
use Rattle.std.specs.FinMap as fin
use Rattle.osm_base.specs.declared.key.Key.{Key}
use Rattle.osm_base.proofs.ByRank.{rises_keys}
use Rattle.osm_base.proofs.RisingKeys.{same_keys}
use Rattle.osm_table.specs.declared.entry.Entry.{Entry}
use Rattle.osm_table.specs.declared.told.Told.{Told}
use Rattle.osm_table.specs.Table.{TableValue, entry_of}
use Rattle.osm_table.specs.Told.{ToldEntries, entry_told}
use Rattle.osm_table.proofs.TableTold.{get_mapped}
use Rattle.dataset.specs.Edit.{Edit}
use Rattle.dataset.specs.Patch.{IsDiff}
use Rattle.dataset.specs.Draft.{DiffOver, drafted}
use Rattle.dataset.specs.Arrivals.{arrivals}
use Rattle.dataset.proofs.Drafted.{get_drafted, whole_at}

abbrev put_of : Told → Option Entry
put_of told = Some (entry_told told)

-- what the draft puts at a key
put_at : (told : ToldEntries) (next : ℕ) (k : Key) → fin.get (arrivals told next).puts k ≡ option_map put_of (fin.get told k)
put_at told next k = get_mapped put_of told k

told_case : (o : Option Told) (e : Entry) → Some e ≡ option_map entry_told o → option_map put_of o ≡ Some (Some e)
told_case None e is = cc
told_case (Some told) e is = ap Some (sym is)

pub puts_told : (told : ToldEntries) (next : ℕ) (k : Key) (e : Entry) → Some e ≡ option_map entry_told (fin.get told k) → fin.get (arrivals told next).puts k ≡ Some (Some e)
puts_told told next k e is = put_at told next k ∙ told_case (fin.get told k) e is

none_case : (o : Option Told) → ◌≡◌ {A = Option Entry} None (option_map entry_told o) → option_map put_of o ≡ None
none_case None is = refl
none_case (Some told) is = cc

pub puts_none : (told : ToldEntries) (next : ℕ) (k : Key) → ◌≡◌ {A = Option Entry} None (option_map entry_told (fin.get told k)) → fin.get (arrivals told next).puts k ≡ None
puts_none told next k is = put_at told next k ∙ none_case (fin.get told k) is

put_there : (o : Option Told) → is_some o ≡ is_some (option_map put_of o)
put_there None = refl
put_there (Some told) = refl

-- the draft speaks of the keys of which something is told
pub keys_arrived : (told : ToldEntries) (next : ℕ) → fin.keys told ≡ fin.keys (arrivals told next).puts
keys_arrived told next =
    let puts = (arrivals told next).puts in
    same_keys (fin.keys told) (fin.keys puts) (rises_keys told) (rises_keys puts)
    (λ q. sym (fin.contains_key-keys told q) ∙ put_there (fin.get told q) ∙ ap is_some (sym (put_at told next q)) ∙ fin.contains_key-keys puts q)

or_case : (o : Option Told) (before : Option Entry) → unwrap_or (option_map put_of o) before ≡ option_or (option_map entry_told o) before
or_case None before = refl
or_case (Some told) before = refl

-- At a key the table has what is told of it, and else what it had.
pub arrived_at : (told : ToldEntries) (t : TableValue) (k : Key) → entry_of (drafted (arrivals told t.next) t) k ≡ option_or (option_map entry_told (fin.get told k)) (entry_of t k)
arrived_at told t k =
    get_drafted (arrivals told t.next) t k
    ∙ ap (λ (o : Option (Option Entry)). unwrap_or o (entry_of t k)) (put_at told t.next k)
    ∙ or_case (fin.get told k) (entry_of t k)

-- the difference over all keys of which something is told
pub told_whole : (told : ToldEntries) (t t₀ : TableValue) (ks : List Key) (es : List Edit) (n : ℕ) → t ≡ t₀ → ks ≡ fin.keys told → DiffOver t (drafted (arrivals told t.next) t) ks es → n ≡ t.next
    → IsDiff t₀ (drafted (arrivals told t₀.next) t₀) (record { edits = es; next_before = n; next_after = n })
told_whole told t t₀ ks es n same keys over is_n =
    whole_at (arrivals told t₀.next) t t₀ ks es n n same (keys ∙ keys_arrived told t₀.next)
    (subst (λ (m : ℕ). DiffOver t (drafted (arrivals told m) t) ks es) (ap (λ (x : TableValue). x.next) same) over)
    is_n
    (is_n ∙ ap (λ (x : TableValue). x.next) same)
