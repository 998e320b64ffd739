-- What a table has after a change, and what stays true of each of its entries.
use Rattle.std.proofs.Common.{◌≡◌, Bool, true, false, cond, Option, Some, None, refl, sym, ap, ◌∙◌, subst}
use Rattle.std.specs.FinMap as fin
use Rattle.osm_base.specs.Rank.{is_key}
use Rattle.osm_base.specs.RankLaws.{rank_total, rank_exact}
use Rattle.osm_base.specs.declared.key.Key.{Key}
use Rattle.osm_base.proofs.SameLaws.{is_key_decides}
use Rattle.osm_table.specs.declared.entry.Entry.{Entry}
use Rattle.osm_table.specs.Table.{TableValue, entry_of, with_entry, without_entry, Each}

-- the entry of any key after one is set
pub get_with : (t : TableValue) (k : Key) (e : Entry) (j : Key) → entry_of (with_entry t k e) j ≡ cond (is_key j k) (Some e) (entry_of t j)
get_with t k e j = fin.get-insert rank_total t.entries k e j

pub get_with_same : (t : TableValue) (k : Key) (e : Entry) → entry_of (with_entry t k e) k ≡ Some e
get_with_same t k e = get_with t k e k ∙ ap (λ b. cond b (Some e) (entry_of t k)) ((is_key_decides k k).1 refl)

pub get_with_other : (t : TableValue) (k : Key) (e : Entry) (j : Key) → is_key j k ≡ false → entry_of (with_entry t k e) j ≡ entry_of t j
get_with_other t k e j other = get_with t k e j ∙ ap (λ b. cond b (Some e) (entry_of t j)) other

-- the entry of any key after one is taken out
pub get_without : (t : TableValue) (k j : Key) → entry_of (without_entry t k) j ≡ cond (is_key j k) None (entry_of t j)
get_without t k j = fin.get-remove rank_total t.entries k j

-- a condition on keys and values that holds at the key that is set, and at each other one before
pub with_cases : {V : Type 0} (P : Key → V → Type 0) (j k : Key) (e f : V) (old : Option V) (b : Bool) → is_key j k ≡ b → cond b (Some e) old ≡ Some f → P k e → (old ≡ Some f → P j f) → P j f
with_cases {V = V} P j k e f old true t s here there = subst (λ (x : V). P j x) (let h : e ≡ f = cc in h) (subst (λ (x : Key). P x e) (sym ((is_key_decides j k).0 t)) here)
with_cases {V = V} P j k e f old false t s here there = there s

pub each_with : (P : Key → Entry → Type 0) (t : TableValue) (k : Key) (e : Entry) → Each t P → P k e → Each (with_entry t k e) P
each_with P t k e all here j f has = with_cases P j k e f (entry_of t j) (is_key j k) refl (sym (get_with t k e j) ∙ has) here (all j f)

-- tables that have the same at each key and the same number are one
pub same_table : (t u : TableValue) → ((k : Key) → entry_of t k ≡ entry_of u k) → t.next ≡ u.next → t ≡ u
same_table t u e n i = record { entries = fin.same_map rank_total rank_exact t.entries u.entries e i; next = n i }
