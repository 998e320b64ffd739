-- A patch by which a table without objects gets all that is told.
use Rattle.std.proofs.Common.{◌≡◌, ℕ, Bool, true, false, not, Some, None, List, refl, sym, ◌∙◌, ap, subst}
use Rattle.std.specs.Option.{option_map, option_or}
use Rattle.std.specs.List.{AllByRecursion}
use Rattle.std.specs.FinMap as fin
use Rattle.osm_base.specs.Rank.{rank_cmp}
use Rattle.osm_base.specs.declared.key.Key.{Key}
use Rattle.osm_base.proofs.Tests.{option_or-none}
use Rattle.osm_table.specs.Table.{TableValue}
use Rattle.osm_table.specs.Told.{ToldEntries, entry_told, table_told}
use Rattle.osm_table.proofs.Each.{same_table}
use Rattle.osm_table.proofs.TableTold.{table_told_at, told_number}
use Rattle.dataset.specs.Arrivals.{arrivals}
use Rattle.dataset.specs.Diff.{diff}
use Rattle.dataset.specs.Draft.{DiffOver, drafted}
use Rattle.dataset.specs.Edit.{Edit}
use Rattle.dataset.specs.Patch.{Entries, PatchValue, IsPatch, IsDiff, edit_at}
use Rattle.dataset.specs.PatchKept.{nothing, edits_told}
use Rattle.dataset.specs.Sides.{side, led}
use Rattle.dataset.proofs.Arrivals.{arrived_at, told_whole}
use Rattle.dataset.proofs.Differs.{diff_is, is_diff}
use Rattle.dataset.proofs.Laws.{by_edit, diff_leads}
use Rattle.dataset.proofs.SideLaws.{Stands, stands_found}
use Rattle.dataset.proofs.Whole.{covers}

-- it is the difference to the table of which no more is known than what is told
whole : (told : ToldEntries) → IsDiff nothing (table_told told 1) (diff nothing (table_told told 1))
whole told = diff_is nothing (table_told told 1)

pub told_patch : (told : ToldEntries) (n m : ℕ) → IsPatch (record { edits = edits_told told; next_before = n; next_after = m })
told_patch told n m = record { by_rank = (whole told).patch.by_rank; changes = (whole told).patch.changes }

-- a difference speaks of the entries alone
pub same_diff : (t u t₀ u₀ : TableValue) (p : PatchValue) (n m : ℕ) → IsDiff t u p → t.entries ≡ t₀.entries → u.entries ≡ u₀.entries → t₀.next ≡ n → u₀.next ≡ m → IsDiff t₀ u₀ (record { edits = p.edits; next_before = n; next_after = m })
same_diff t u t₀ u₀ p n m d et eu en em = record {
  patch = record { by_rank = d.patch.by_rank; changes = d.patch.changes };
  before = record { entries = subst (λ (x : Entries). AllByRecursion (λ e. fin.get x e.key ≡ e.before) p.edits) et d.before.entries; number = en };
  after = record { entries = subst (λ (x : Entries). AllByRecursion (λ e. fin.get x e.key ≡ e.after) p.edits) eu d.after.entries; number = em };
  rest = λ k none. ap (λ (x : Entries). fin.get x k) (sym et) ∙ d.rest k none ∙ ap (λ (x : Entries). fin.get x k) eu;
}

-- where there was nothing, the table has what is told and no more
pub told_alone : (told : ToldEntries) (t : TableValue) → t.entries ≡ fin.empty → drafted (arrivals told t.next) t ≡ table_told told t.next
told_alone told t none =
    same_table (drafted (arrivals told t.next) t) (table_told told t.next)
    (λ k. arrived_at told t k ∙ ap (option_or (option_map entry_told (fin.get told k))) (ap (λ (x : Entries). fin.get x k) none ∙ fin.get-empty rank_cmp k) ∙ option_or-none (option_map entry_told (fin.get told k)) ∙ sym (table_told_at told t.next k))
    refl

-- the difference of any table without objects
pub told_differs : (told : ToldEntries) (t t₀ : TableValue) (n : ℕ) → t ≡ t₀ → t.entries ≡ fin.empty → n ≡ t.next → IsDiff t₀ (drafted (arrivals told t₀.next) t₀) (record { edits = edits_told told; next_before = n; next_after = n })
told_differs told t t₀ n same none is_n =
    let number : t₀.next ≡ n = ap (λ (x : TableValue). x.next) (sym same) ∙ sym is_n in
    let empty : t₀.entries ≡ fin.empty = ap (λ (x : TableValue). x.entries) (sym same) ∙ none in
    same_diff nothing (table_told told 1) t₀ (drafted (arrivals told t₀.next) t₀) (diff nothing (table_told told 1)) n n (whole told) (sym empty)
    (ap (λ (x : TableValue). x.entries) (sym (told_alone told t₀ empty)))
    number number

-- the edits over the keys of all that is told, from nothing, are these
pub told_listed : (told : ToldEntries) (t : TableValue) (ks : List Key) (es : List Edit) → t ≡ nothing → ks ≡ fin.keys told → DiffOver t (drafted (arrivals told t.next) t) ks es → es ≡ edits_told told
told_listed told t ks es none keys over =
    let d = told_whole told t nothing ks es 1 none keys over (ap (λ (x : TableValue). x.next) (sym none)) in
    ap (λ (p : PatchValue). p.edits) (is_diff nothing (table_told told 1) (record { edits = es; next_before = 1; next_after = 1 }) (subst (λ (u : TableValue). IsDiff nothing u (record { edits = es; next_before = 1; next_after = 1 })) (told_alone told nothing refl) d))

-- it leads a table without objects to what is told
pub told_led : (told : ToldEntries) (t : TableValue) (n : ℕ) → fin.len t.entries ≡ 0 → table_told told n ≡ record { entries = (led (side true) (edits_told told) t).entries; next = n }
told_led told t n none =
    ap (λ (x : TableValue). record { entries = x.entries; next = n }) (diff_leads nothing (table_told told 1) (diff nothing (table_told told 1)) (whole told)).to
    ∙ ap (λ (x : Entries). record { entries = (led (side true) (edits_told told) (record { entries = x; next = t.next })).entries; next = n }) (sym (fin.empty_of_len t.entries none))

-- a table that has all that is told and no more has nothing else
told_only : (told : ToldEntries) (t : TableValue) → Stands (side true) (edits_told told) t → fin.len t.entries ≡ fin.len told → t.entries ≡ (table_told told 1).entries
told_only told t stands len =
    sym (covers (table_told told 1).entries t.entries
    (λ q v has. by_edit _ (edit_at q (edits_told told))
    (λ none. let f : None ≡ Some v = sym (fin.get-empty rank_cmp q) ∙ (whole told).rest q none ∙ has in cc)
    (λ e some. stands_found (side true) (edits_told told) t stands q e some ∙ sym (stands_found (side true) (edits_told told) (table_told told 1) (whole told).after.entries q e some) ∙ has))
    (sym (told_number told 1) ∙ sym len))

-- and is led back to one without objects
pub told_back : (told : ToldEntries) (t : TableValue) (n : ℕ) → Stands (side true) (edits_told told) t → fin.len t.entries ≡ fin.len told → ◌≡◌ {A = TableValue} (record { entries = fin.empty; next = n }) (record { entries = (led (side false) (edits_told told) t).entries; next = n })
told_back told t n stands len =
    ap (λ (x : TableValue). record { entries = x.entries; next = n }) (diff_leads nothing (table_told told 1) (diff nothing (table_told told 1)) (whole told)).back
    ∙ ap (λ (x : Entries). record { entries = (led (side false) (edits_told told) (record { entries = x; next = t.next })).entries; next = n }) (sym (told_only told t stands len))

-- each way, as the code asks
pub told_comes : (told : ToldEntries) (t : TableValue) (forth : Bool) (n : ℕ) → forth ≡ true → fin.len t.entries ≡ 0 → table_told told n ≡ record { entries = (led (side forth) (edits_told told) t).entries; next = n }
told_comes told t true n is none = told_led told t n none
told_comes told t false n is none = cc

pub told_goes : (told : ToldEntries) (t : TableValue) (forth : Bool) (n : ℕ) → forth ≡ false → Stands (side (not forth)) (edits_told told) t → fin.len t.entries ≡ fin.len told
    → ◌≡◌ {A = TableValue} (record { entries = fin.empty; next = n }) (record { entries = (led (side forth) (edits_told told) t).entries; next = n })
told_goes told t true n is stands len = cc
told_goes told t false n is stands len = told_back told t n stands len
