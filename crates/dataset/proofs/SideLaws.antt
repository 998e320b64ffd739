-- Tables led by edits in parts: the keys that come, the writes and the keys that go.
use Rattle.std.proofs.Common.{◌≡◌, ℕ, suc, zero, ◌+◌, ◌<◌, length, get_or, ◌&&◌, not, Bool, true, false, cond, is_some, IsSome, Option, Some, None, List, [], ◌∷◌, ◌++◌, drop, take, refl, sym, ◌∙◌, ap, subst}
use Rattle.std.specs.Prelude.{T}
use Rattle.std.specs.List.{AllByRecursion, filter, cons_option}
use Rattle.std.specs.Option.{option_map, option_map_or}
use Rattle.std.specs.FinMap as fin
use Rattle.std.proofs.lemmas.List.{drop_more, take_more}
use Rattle.std.proofs.lemmas.List.Elements.{filter-append, filter_map-append}
use Rattle.osm_base.specs.Rank.{is_key}
use Rattle.osm_base.specs.RankLaws.{rank_total, rank_exact}
use Rattle.osm_base.specs.declared.key.Key.{Key}
use Rattle.osm_base.proofs.RisingKeys.{one_key}
use Rattle.osm_table.specs.declared.entry.Entry.{Entry}
use Rattle.osm_table.specs.Table.{TableValue, entry_of, with_entry}
use Rattle.osm_table.proofs.Each.{same_table, get_with}
use Rattle.dataset.specs.Edit.{Edit}
use Rattle.dataset.specs.declared.writes.Write.{Write}
use Rattle.dataset.specs.Patch.{Entries, placed, edited, in_order, edit_at}
use Rattle.dataset.specs.Sides.{side, led, is_fresh, fresh, is_gone, gone, write_of, writes_of, written}
use Rattle.dataset.proofs.Laws.{by_edit}
use Rattle.dataset.proofs.Looked.{get_placed, get_edited, tail_none, tail_order, found, found_key, all_from_found}

-- what stands at each edit's key
abbrev pub Stands : (Edit → Option Entry) → List Edit → TableValue → Type 0
Stands from es t = AllByRecursion (λ e. entry_of t e.key ≡ from e) es

pub stands_found : (from : Edit → Option Entry) (es : List Edit) (t : TableValue) → Stands from es t → (k : Key) (e : Edit) → edit_at k es ≡ Some e → entry_of t k ≡ from e
stands_found from es t a k e some = ap (entry_of t) (found_key es k e some) ∙ found (λ e. entry_of t e.key ≡ from e) es a k e some

-- Look-ups in those of the edits that pass a test.

abbrev passed : (Edit → Bool) → Option Edit → Option Edit
passed p None = None
passed p (Some e) = cond (p e) (Some e) None

find_in : (c : Bool) (q : Key) (e : Edit) (es : List Edit) → edit_at q (cond c (e ∷ es) es) ≡ cond c (cond (is_key q e.key) (Some e) (edit_at q es)) (edit_at q es)
find_in true q e es = refl
find_in false q e es = refl

find_case : (p : Edit → Bool) (b c : Bool) (e : Edit) (f o : Option Edit) → p e ≡ c → (b ≡ true → o ≡ None) → f ≡ passed p o → cond c (cond b (Some e) f) f ≡ passed p (cond b (Some e) o)
find_case p true true e f o is none h = rw is refl
find_case p false true e f o is none h = h
find_case p true false e f o is none h = rw is (h ∙ ap (passed p) (none refl))
find_case p false false e f o is none h = h

find_passed : (p : Edit → Bool) (es : List Edit) (q : Key) → T (in_order es) → edit_at q (filter p es) ≡ passed p (edit_at q es)
find_passed p [] q h = refl
find_passed p (e ∷ es) q h =
    find_in (p e) q e (filter p es)
    ∙ find_case p (is_key q e.key) (p e) e _ (edit_at q es) refl (λ t. ap (λ (k : Key). edit_at k es) (one_key q e.key t) ∙ tail_none e es h) (find_passed p es q (tail_order e es h))

get_part : (s : Edit → Option Entry) (p : Edit → Bool) (es : List Edit) (t : TableValue) (q : Key) → T (in_order es) → entry_of (led s (filter p es) t) q ≡ option_map_or s (passed p (edit_at q es)) (entry_of t q)
get_part s p es t q h = get_edited s (filter p es) t.entries q ∙ ap (λ (o : Option Edit). option_map_or s o (entry_of t q)) (find_passed p es q h)

-- Edits in two parts, the first made first or last.

late_case : (s : Edit → Option Entry) (b : Bool) (e : Edit) (o : Option Edit) (x : Option Entry) → (b ≡ true → o ≡ None) → option_map_or s o (cond b (s e) x) ≡ cond b (s e) (option_map_or s o x)
late_case s true e o x none = ap (λ (o : Option Edit). option_map_or s o (s e)) (none refl)
late_case s false e o x none = refl

-- the head of edits in order may be made first
pub head_first : (s : Edit → Option Entry) (e : Edit) (es : List Edit) (m : Entries) → edit_at e.key es ≡ None → edited s es (placed m e.key (s e)) ≡ edited s (e ∷ es) m
head_first s e es m none = fin.same_map rank_total rank_exact _ _
    (λ q. get_edited s es (placed m e.key (s e)) q ∙ ap (option_map_or s (edit_at q es)) (get_placed m e.key (s e) q)
    ∙ late_case s (is_key q e.key) e (edit_at q es) (fin.get m q) (λ t. ap (λ (k : Key). edit_at k es) (one_key q e.key t) ∙ none)
    ∙ ap (cond (is_key q e.key) (s e)) (sym (get_edited s es m q)) ∙ sym (get_placed (edited s es m) e.key (s e) q))

first_case : (s : Edit → Option Entry) (c : Bool) (e : Edit) (es : List Edit) (t : TableValue) → edit_at e.key es ≡ None → led s es (led s (cond c (e ∷ []) []) t) ≡ led s (cond c (e ∷ es) es) t
first_case s true e es t none = ap (λ (m : Entries). record { entries = m; next = t.next }) (head_first s e es t.entries none)
first_case s false e es t none = refl

part_first : (s : Edit → Option Entry) (p : Edit → Bool) (e : Edit) (es : List Edit) (t : TableValue) → T (in_order (e ∷ es)) → led s (filter p es) (led s (filter p (e ∷ [])) t) ≡ led s (filter p (e ∷ es)) t
part_first s p e es t h = first_case s (p e) e (filter p es) t (find_passed p es e.key (tail_order e es h) ∙ ap (passed p) (tail_none e es h))

order_drop : (i : ℕ) (es : List Edit) → T (in_order es) → T (in_order (drop i es))
order_drop zero es h = h
order_drop (suc i) [] h = h
order_drop (suc i) (e ∷ es) h = order_drop i es (tail_order e es h)

-- one edit more from the front
pub led_next : (s : Edit → Option Entry) (p : Edit → Bool) (es : List Edit) (i : ℕ) (e : Edit) (t u : TableValue) → T (in_order es) → i < length es → e ≡ get_or es i e → u ≡ led s (filter p (e ∷ [])) t → led s (filter p (drop (i + 1) es)) u ≡ led s (filter p (drop i es)) t
led_next s p es i e t u h within at is =
    let next : drop i es ≡ e ∷ drop (i + 1) es = drop_more es i e within ∙ ap (λ (x : Edit). x ∷ drop (i + 1) es) (sym at) in
    ap (led s (filter p (drop (i + 1) es))) is ∙ part_first s p e (drop (i + 1) es) t (subst (λ (fs : List Edit). T (in_order fs)) next (order_drop i es h))
    ∙ ap (λ (fs : List Edit). led s (filter p fs) t) (sym next)

edited_append : (s : Edit → Option Entry) (es fs : List Edit) (m : Entries) → edited s (es ++ fs) m ≡ edited s es (edited s fs m)
edited_append s [] fs m = refl
edited_append s (e ∷ es) fs m = ap (λ (n : Entries). placed n e.key (s e)) (edited_append s es fs m)

-- one edit more from the end
pub led_last : (s : Edit → Option Entry) (p : Edit → Bool) (es : List Edit) (i j : ℕ) (e : Edit) (t u : TableValue) → i ≡ j + 1 → j < length es → e ≡ get_or es j e → u ≡ led s (filter p (e ∷ [])) t → led s (filter p (take j es)) u ≡ led s (filter p (take i es)) t
led_last s p es i j e t u one within at is =
    let last : take i es ≡ take j es ++ e ∷ [] = ap (λ (n : ℕ). take n es) one ∙ take_more es j e within ∙ ap (λ (x : Edit). take j es ++ x ∷ []) (sym at) in
    ap (led s (filter p (take j es))) is
    ∙ ap (λ (m : Entries). record { entries = m; next = t.next }) (sym (edited_append s (filter p (take j es)) (filter p (e ∷ [])) t.entries))
    ∙ ap (λ (gs : List Edit). led s gs t) (sym (filter-append p (take j es) (e ∷ [])))
    ∙ ap (λ (gs : List Edit). led s (filter p gs) t) (sym last)

-- The new keys are taken out again.

undone_case : (s : Edit → Option Entry) (e : Edit) (x y z w : Option Entry) → s e ≡ x → w ≡ x → (cond (is_some y && not (is_some x)) (Some e) None ≡ None → z ≡ w) → option_map_or s (cond (not (is_some x)) (Some e) None) z ≡ w
undone_case s e None y z w is stands rest = is ∙ sym stands
undone_case s e (Some x) None z w is stands rest = rest refl
undone_case s e (Some x) (Some y) z w is stands rest = rest refl

-- a table that differs only at keys that come is led back where it was
undone : (forth : Bool) (es : List Edit) (t u : TableValue) → T (in_order es) → Stands (side (not forth)) es t → ((q : Key) → passed (is_fresh forth) (edit_at q es) ≡ None → entry_of u q ≡ entry_of t q) → u.next ≡ t.next → led (side (not forth)) (gone (not forth) es) u ≡ t
undone forth es t u h stands rest next = same_table _ t
    (λ q. get_part (side (not forth)) (is_gone (not forth)) es u q h
    ∙ by_edit _ (edit_at q es)
    (λ none. ap (λ (o : Option Edit). option_map_or (side (not forth)) (passed (is_gone (not forth)) o) (entry_of u q)) none ∙ rest q (ap (passed (is_fresh forth)) none))
    (λ e some. ap (λ (o : Option Edit). option_map_or (side (not forth)) (passed (is_gone (not forth)) o) (entry_of u q)) some
    ∙ undone_case (side (not forth)) e (side (not forth) e) (side forth e) (entry_of u q) (entry_of t q) refl (stands_found (side (not forth)) es t stands q e some)
    (λ none. rest q (ap (passed (is_fresh forth)) some ∙ none))))
    next

pub keys_undone : (forth : Bool) (es : List Edit) (t u : TableValue) → T (in_order es) → Stands (side (not forth)) es t → u ≡ led (side forth) (fresh forth es) t → led (side (not forth)) (gone (not forth) es) u ≡ t
keys_undone forth es t u h stands is = undone forth es t u h stands
    (λ q none. ap (λ (v : TableValue). entry_of v q) is ∙ get_part (side forth) (is_fresh forth) es t q h ∙ ap (λ (o : Option Edit). option_map_or (side forth) o (entry_of t q)) none)
    (ap (λ (v : TableValue). v.next) is)

not_head : (b : Bool) (e : Edit) (o : Option Edit) → cond b (Some e) o ≡ None → o ≡ None
not_head true e o h = cc
not_head false e o h = h

not_passed : (c : Bool) (q : Key) (e : Edit) (es : List Edit) → edit_at q (cond c (e ∷ es) es) ≡ None → edit_at q es ≡ None
not_passed true q e es h = not_head (is_key q e.key) e (edit_at q es) h
not_passed false q e es h = h

none_later : (p : Edit → Bool) (i : ℕ) (es : List Edit) (q : Key) → edit_at q (filter p es) ≡ None → edit_at q (filter p (drop i es)) ≡ None
none_later p zero es q h = h
none_later p (suc i) [] q h = h
none_later p (suc i) (e ∷ es) q h = none_later p i es q (not_passed (p e) q e (filter p es) h)

-- so it is while some of the new keys are still to come
pub some_undone : (forth : Bool) (es : List Edit) (i : ℕ) (t u : TableValue) → T (in_order es) → Stands (side (not forth)) es t → led (side forth) (fresh forth (drop i es)) u ≡ led (side forth) (fresh forth es) t → led (side (not forth)) (gone (not forth) es) u ≡ t
some_undone forth es i t u h stands is = undone forth es t u h stands
    (λ q none.
    let all : edit_at q (fresh forth es) ≡ None = find_passed (is_fresh forth) es q h ∙ none in
    sym (get_edited (side forth) (fresh forth (drop i es)) u.entries q ∙ ap (λ (o : Option Edit). option_map_or (side forth) o (entry_of u q)) (none_later (is_fresh forth) i es q all))
    ∙ ap (λ (v : TableValue). entry_of v q) is
    ∙ get_edited (side forth) (fresh forth es) t.entries q ∙ ap (λ (o : Option Edit). option_map_or (side forth) o (entry_of t q)) all)
    (ap (λ (v : TableValue). v.next) is)

-- The writes.

abbrev stays : Bool → Edit → Bool
stays forth e = is_some (side forth e) && is_some (side (not forth) e)

write_case : (s : Edit → Option Entry) (e : Edit) (x y : Option Entry) (ws : List Write) (es : List Edit) (t : TableValue) → s e ≡ x → written ws t ≡ led s es t
    → written (cons_option (cond (is_some y) (option_map (λ entry. record { key = e.key; entry = entry }) x) None) ws) t ≡ led s (cond (is_some x && is_some y) (e ∷ es) es) t
write_case s e None None ws es t is h = h
write_case s e None (Some y) ws es t is h = h
write_case s e (Some x) None ws es t is h = h
write_case s e (Some x) (Some y) ws es t is h =
    ap (λ (u : TableValue). with_entry u e.key x) h ∙ ap (λ (o : Option Entry). record { entries = placed (edited s es t.entries) e.key o; next = t.next }) (sym is)

written_part : (forth : Bool) (es : List Edit) (t : TableValue) → written (writes_of forth es) t ≡ led (side forth) (filter (stays forth) es) t
written_part forth [] t = refl
written_part forth (e ∷ es) t = write_case (side forth) e (side forth e) (side (not forth) e) (writes_of forth es) (filter (stays forth) es) t refl (written_part forth es t)

pub writes_more : (forth : Bool) (es : List Edit) (i : ℕ) (e : Edit) (ws vs : List Write) → i < length es → e ≡ get_or es i e → ws ≡ writes_of forth (take i es) → vs ≡ ws ++ writes_of forth (e ∷ []) → vs ≡ writes_of forth (take (i + 1) es)
writes_more forth es i e ws vs within at before is =
    is ∙ ap (λ (us : List Write). us ++ writes_of forth (e ∷ [])) before ∙ sym (filter_map-append (write_of forth) (take i es) (e ∷ []))
    ∙ ap (writes_of forth) (sym (take_more es i e within ∙ ap (λ (x : Edit). take i es ++ x ∷ []) (sym at)))

there_case : (s : Edit → Option Entry) (e : Edit) (x y : Option Entry) → IsSome y → IsSome (option_map_or s (cond (is_some x && not (is_some y)) (Some e) None) y)
there_case s e x None h = cc
there_case s e None (Some y) h = refl
there_case s e (Some x) (Some y) h = refl

all_case : (P : Key → Type 0) (e : Edit) (x y : Option Entry) (ws : List Write) → (IsSome y → P e.key) → AllByRecursion (λ w. P w.key) ws
    → AllByRecursion (λ w. P w.key) (cons_option (cond (is_some y) (option_map (λ entry. record { key = e.key; entry = entry }) x) None) ws)
all_case P e None None ws h a = a
all_case P e None (Some y) ws h a = a
all_case P e (Some x) None ws h a = a
all_case P e (Some x) (Some y) ws h a = (h refl, a)

all_writes : (P : Key → Type 0) (forth : Bool) (es : List Edit) → AllByRecursion (λ e. IsSome (side (not forth) e) → P e.key) es → AllByRecursion (λ w. P w.key) (writes_of forth es)
all_writes P forth [] a = tt
all_writes P forth (e ∷ es) a = all_case P e (side forth e) (side (not forth) e) (writes_of forth es) a.0 (all_writes P forth es a.1)

-- the writes are of keys that are there, once the new keys are in
pub writes_there : (forth : Bool) (es : List Edit) (ws : List Write) (t u : TableValue) → ws ≡ writes_of forth es → T (in_order es) → Stands (side (not forth)) es t → u ≡ led (side forth) (fresh forth es) t → AllByRecursion (λ w. IsSome (entry_of u w.key)) ws
writes_there forth es ws t u made h stands is =
    subst (λ (vs : List Write). AllByRecursion (λ w. IsSome (entry_of u w.key)) vs) (sym made)
    (all_writes (λ k. IsSome (entry_of u k)) forth es
    (all_from_found (λ e. IsSome (side (not forth) e) → IsSome (entry_of u e.key)) es h
    (λ e here some.
    let now : entry_of u e.key ≡ option_map_or (side forth) (passed (is_fresh forth) (Some e)) (side (not forth) e) =
    ap (λ (v : TableValue). entry_of v e.key) is ∙ get_part (side forth) (is_fresh forth) es t e.key h
    ∙ ap (λ (o : Option Edit). option_map_or (side forth) (passed (is_fresh forth) o) (entry_of t e.key)) here
    ∙ ap (option_map_or (side forth) (passed (is_fresh forth) (Some e))) (stands_found (side (not forth)) es t stands e.key e here) in
    subst IsSome (sym now) (there_case (side forth) e (side forth e) (side (not forth) e) some))))

written_last : (ws : List Write) (w : Write) (t : TableValue) → written (ws ++ w ∷ []) t ≡ written ws (with_entry t w.key w.entry)
written_last [] w t = refl
written_last (v ∷ ws) w t = ap (λ (u : TableValue). with_entry u v.key v.entry) (written_last ws w t)

pub last_made : (ws vs : List Write) (w : Write) (t u : TableValue) → vs ≡ ws ++ w ∷ [] → u ≡ with_entry t w.key w.entry → written ws u ≡ written vs t
last_made ws vs w t u last is = ap (written ws) is ∙ sym (ap (λ (xs : List Write). written xs t) last ∙ written_last ws w t)

abbrev pub AllThere : TableValue → List Write → Type 0
AllThere t ws = AllByRecursion (λ w. IsSome (entry_of t w.key)) ws

last_one : (ws : List Write) (w : Write) (t : TableValue) → AllThere t (ws ++ w ∷ []) → IsSome (entry_of t w.key)
last_one [] w t a = a.0
last_one (v ∷ ws) w t a = last_one ws w t a.1

pub last_there : (ws vs : List Write) (w : Write) (t : TableValue) → vs ≡ ws ++ w ∷ [] → AllThere t vs → IsSome (entry_of t w.key)
last_there ws vs w t last a = last_one ws w t (subst (AllThere t) last a)

still_some : (b : Bool) (x : Entry) (o : Option Entry) → IsSome o → IsSome (cond b (Some x) o)
still_some true x o h = refl
still_some false x o h = h

others_there : (ws : List Write) (w : Write) (t : TableValue) → AllThere t (ws ++ w ∷ []) → AllThere (with_entry t w.key w.entry) ws
others_there [] w t a = tt
others_there (v ∷ ws) w t a = (subst IsSome (sym (get_with t w.key w.entry v.key)) (still_some (is_key v.key w.key) w.entry (entry_of t v.key) a.0), others_there ws w t a.1)

pub rest_there : (ws vs : List Write) (w : Write) (t u : TableValue) → vs ≡ ws ++ w ∷ [] → u ≡ with_entry t w.key w.entry → AllThere t vs → AllThere u ws
rest_there ws vs w t u last is a = subst (λ (v : TableValue). AllThere v ws) (sym is) (others_there ws w t (subst (AllThere t) last a))

-- All parts, one after another.

parts_case : (s : Edit → Option Entry) (e : Edit) (x y z : Option Entry) → s e ≡ x
    → option_map_or s (cond (not (is_some x)) (Some e) None) (option_map_or s (cond (is_some x && is_some y) (Some e) None) (option_map_or s (cond (is_some x && not (is_some y)) (Some e) None) z)) ≡ s e
parts_case s e None y z is = refl
parts_case s e (Some x) None z is = refl
parts_case s e (Some x) (Some y) z is = refl

whole : (forth : Bool) (es : List Edit) (t : TableValue) → T (in_order es) → led (side forth) (gone forth es) (led (side forth) (filter (stays forth) es) (led (side forth) (fresh forth es) t)) ≡ led (side forth) es t
whole forth es t h = same_table _ (led (side forth) es t)
    (λ q.
    let P : Option Edit → Option Entry = λ o. option_map_or (side forth) (passed (is_gone forth) o) (option_map_or (side forth) (passed (stays forth) o) (option_map_or (side forth) (passed (is_fresh forth) o) (entry_of t q))) in
    let all : P (edit_at q es) ≡ option_map_or (side forth) (edit_at q es) (entry_of t q) =
    by_edit _ (edit_at q es)
    (λ none. ap P none ∙ sym (ap (λ (o : Option Edit). option_map_or (side forth) o (entry_of t q)) none))
    (λ e some. ap P some ∙ parts_case (side forth) e (side forth e) (side (not forth) e) (entry_of t q) refl ∙ sym (ap (λ (o : Option Edit). option_map_or (side forth) o (entry_of t q)) some)) in
    get_part (side forth) (is_gone forth) es (led (side forth) (filter (stays forth) es) (led (side forth) (fresh forth es) t)) q h
    ∙ ap (option_map_or (side forth) (passed (is_gone forth) (edit_at q es))) (get_part (side forth) (stays forth) es (led (side forth) (fresh forth es) t) q h
    ∙ ap (option_map_or (side forth) (passed (stays forth) (edit_at q es))) (get_part (side forth) (is_fresh forth) es t q h))
    ∙ all ∙ sym (get_edited (side forth) es t.entries q))
    refl

pub led_whole : (forth : Bool) (es : List Edit) (ws : List Write) (t put wrote new : TableValue) → T (in_order es) → ws ≡ writes_of forth es → put ≡ led (side forth) (fresh forth es) t → wrote ≡ written ws put → new ≡ led (side forth) (gone forth es) wrote → new ≡ led (side forth) es t
led_whole forth es ws t put wrote new h made is_put is_wrote is_new =
    is_new ∙ ap (led (side forth) (gone forth es)) (is_wrote ∙ ap (λ (vs : List Write). written vs put) made ∙ written_part forth es put ∙ ap (led (side forth) (filter (stays forth) es)) is_put)
    ∙ whole forth es t h
