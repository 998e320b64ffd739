-- Keys that meet a query, from those that meet its parts.
use Rattle.std.proofs.Common.{◌≡◌, Bool, false, not, ◌&&◌, ◌||◌, List, Option, Some, None, filter, refl, sym, ap, ◌∙◌}
use Rattle.std.proofs.lemmas.List.Elements.{filter_agree}
use Rattle.std.specs.List.{list_any}
use Rattle.std.specs.Option.{option_map_or}
use Rattle.osm_base.specs.RisingKeys.{is_in}
use Rattle.osm_base.specs.declared.key.Key.{Key}
use Rattle.osm_table.specs.Table.{TableValue, entry_of, keys_by_rank, uses}
use Rattle.osm_table.specs.declared.entry.Entry.{Entry}
use Rattle.osm_table.specs.declared.entry.Entry.TheVariants.{Incomplete, Known}
use Rattle.dataset.specs.Exact.{refs_at}
use Rattle.map_search.specs.Meets.{meets, refers_to}
use Rattle.map_search.specs.Query.{QueryValue, Child, Parent, Not, And, Or}
use Rattle.map_search.proofs.Found.{not_found, either_found, both_found, any_found, any_filter}

-- those of the keys that meet a query
abbrev pub Met : TableValue → List Key → QueryValue → List Key
Met t keys q = filter (λ k. meets t k q) keys

pub not_meets : (t : TableValue) (keys met : List Key) (q whole : QueryValue) → whole ≡ Not q → met ≡ Met t keys q → filter (λ k. not (is_in k met)) keys ≡ Met t keys whole
not_meets t keys met q whole shape e =
    ap (λ (ks : List Key). filter (λ k. not (is_in k ks)) keys) e
    ∙ not_found (λ k. meets t k q) keys
    ∙ ap (Met t keys) (sym shape)

pub either_meets : (t : TableValue) (keys left right : List Key) (a b whole : QueryValue) → whole ≡ Or a b → left ≡ Met t keys a → right ≡ Met t keys b → filter (λ k. is_in k left || is_in k right) keys ≡ Met t keys whole
either_meets t keys left right a b whole shape e f =
    (λ i. filter (λ k. is_in k (e i) || is_in k (f i)) keys)
    ∙ either_found (λ k. meets t k a) (λ k. meets t k b) keys
    ∙ ap (Met t keys) (sym shape)

pub both_meets : (t : TableValue) (keys left : List Key) (a b whole : QueryValue) → whole ≡ And a b → left ≡ Met t keys a → Met t left b ≡ Met t keys whole
both_meets t keys left a b whole shape e =
    ap (λ (ks : List Key). Met t ks b) e
    ∙ both_found (λ k. meets t k a) (λ k. meets t k b) keys
    ∙ ap (Met t keys) (sym shape)

-- one of these is found where one of the table that meets the query is among them
any_met : (t : TableValue) (all met rs : List Key) (q : QueryValue) (test : Key → Bool) → all ≡ keys_by_rank t → met ≡ Met t all q → ((j : Key) → is_in j rs ≡ test j)
    → list_any (λ r. is_in r met) rs ≡ list_any (λ j. meets t j q && test j) (keys_by_rank t)
any_met t all met rs q test e f h =
    ap (λ (ks : List Key). list_any (λ r. is_in r ks) rs) f
    ∙ any_found (λ k. meets t k q) all rs
    ∙ (λ i. list_any (λ j. meets t j q && h j i) (e i))

-- a key is among the references of an entry where the entry uses it
refs_uses : (o : Option Entry) (j : Key) → is_in j (refs_at o) ≡ option_map_or (λ e. uses e j) o false
refs_uses None j = refl
refs_uses (Some Incomplete) j = refl
refs_uses (Some (Known base None conflict)) j = refl
refs_uses (Some (Known base (Some c) conflict)) j = refl

pub child_meets : (t : TableValue) (keys all met : List Key) (q whole : QueryValue) → all ≡ keys_by_rank t → whole ≡ Child q → met ≡ Met t all q
    → filter (λ k. list_any (λ user. is_in k (refs_at (entry_of t user))) met) keys ≡ Met t keys whole
child_meets t keys all met q whole e shape f =
    filter_agree _ (λ k. meets t k (Child q)) (λ k. ap (list_any (λ user. is_in k (refs_at (entry_of t user)))) f
    ∙ any_filter (λ user. meets t user q) (λ user. is_in k (refs_at (entry_of t user))) all
    ∙ (λ i. list_any (λ user. meets t user q && refs_uses (entry_of t user) k i) (e i))) keys
    ∙ ap (Met t keys) (sym shape)

pub parent_meets : (t : TableValue) (keys all met : List Key) (q whole : QueryValue) → all ≡ keys_by_rank t → whole ≡ Parent q → met ≡ Met t all q
    → filter (λ k. list_any (λ of. is_in of met) (refs_at (entry_of t k))) keys ≡ Met t keys whole
parent_meets t keys all met q whole e shape f =
    filter_agree _ (λ k. meets t k (Parent q)) (λ k. any_met t all met (refs_at (entry_of t k)) q (refers_to t k) e f (refs_uses (entry_of t k))) keys
    ∙ ap (Met t keys) (sym shape)
