-- What is read can be written: it has all that the written form asks for.
use Rattle.std.proofs.Common.{◌≡◌, ℕ, ℤ, zero, suc, pos, negsuc, ◌<◌, ◌≤◌, ◌^◌, ◌⊎◌, inl, inr, Bool, true, false, T, cond, List, [], ◌∷◌, ◌++◌, length, Option, Some, None, Result, Ok, Err, subst, refl, sym, ap, ◌∙◌, arith}
use Rattle.std.specs.Prelude.{◌==◌, nat_lt, nat_le, is_some, drop, slice_index, IfOk}
use Rattle.std.specs.Option.{option_map, option_and_then as and_then, unwrap_or}
use Rattle.std.specs.List.{All, list_all}
use Rattle.std.specs.declared.cmp.Ordering.TheVariants.{Less, Equal, Greater}
use Rattle.std.specs.FinMap.Entries.{by_order}
use Rattle.std.proofs.lemmas.Bool.Decides.{nat_tests}
use Rattle.std.proofs.lemmas.List.Elements.{All-append}
use Rattle.std.proofs.lemmas.List.Folds.{list_all-map}
use Rattle.std.proofs.lemmas.Str.{IsUtf8-nil}
use Rattle.std.proofs.lemmas.Option.{cond_some}
use Rattle.osm_base.specs.Tags.{Pair, bytes_cmp, has_tag, with_tag}
use Rattle.osm_base.specs.Number.{IsId, id_test, id_size, id_text, minus, number_text, kind_letter}
use Rattle.osm_base.specs.Content.{kind_of_content, refs_of, node}
use Rattle.osm_base.proofs.TagLaws.{are_tags_put}
use Rattle.osm_base.specs.declared.key.Kind.{Kind}
use Rattle.osm_base.specs.declared.key.Kind.TheVariants.{Node, Way, Relation}
use Rattle.osm_base.specs.declared.key.Key.{Key}
use Rattle.osm_base.specs.declared.meta.Stamp.{Stamp}
use Rattle.osm_base.specs.declared.members.Member.{Member}
use Rattle.osm_base.specs.declared.content.Content.{Content}
use Rattle.osm_base.specs.declared.content.Content.TheVariants as content
use Rattle.opl_text.specs.Text.{unescaped}
use Rattle.opl_text.specs.Time.{time_text, stamp_text, parts_of, has_marks, is_time, IsTime, ◌>>=◌ as ◌>>=?◌}
use Rattle.opl_text.proofs.Read.{text_spelled, read_has_no_zero}
use Rattle.opl_line.specs.declared.fault.LineFault.{LineFault}
use Rattle.opl_line.specs.declared.fault.LineFault.TheVariants as faults
use Rattle.opl_line.specs.declared.mode.Mode.{Mode}
use Rattle.opl_line.specs.declared.mode.Mode.TheVariants.{Download, Import}
use Rattle.opl_line.specs.declared.letter.Letter.TheVariants as letters
use Rattle.opl_line.specs.declared.object.OplObject.{OplObject}
use Rattle.opl_line.specs.declared.fault.LineAnswer.{LineAnswer}
use Rattle.opl_line.specs.declared.object.LineKind.{LineKind}
use Rattle.opl_line.specs.declared.object.LineKind.TheVariants.{Skipped, Object}
use Rattle.opl_line.specs.Reads.{◌>>=◌, or_fault, folded, Gives}
use Rattle.opl_line.specs.Cut.{split, before, after}
use Rattle.opl_line.specs.Field.{is, is_allowed, letter_of, number_to, tag_into, tags_text, is_place_or_none, ref_text, ref_into, refs_text, member_at, member_into, members_text}
use Rattle.opl_line.specs.Line.{key_at, id_at, version_of, location_of, content_of, side_of, meta_of, completed, line_of}
use Rattle.opl_line.specs.Spelling.{text_with, gathered, turned, ok_of}
use Rattle.opl_line.specs.Writable.{IsText, HasVersion, AreTags, IsMember, IsContent, IsSide, IsMeta, IsWritable, MayStand, keys_of, IsReadObject}
use Rattle.opl_line.proofs.Forward.{bind_ok, some_ok, test_ok, pass_ok, ok_is, some_is, Found, found_in, read_is_spelled}
use Rattle.opl_line.proofs.ListsAgain.{first_of, others_of}

-- ---- values of fields

-- what holds of a default and of each value holds of what stands
value_holds : {A : Type 0} (P : A → Type 0) (v : Option A) (d : A) → P d → ((y : A) → v ≡ Some y → P y) → P (unwrap_or v d)
value_holds P None d base step = base
value_holds P (Some y) d base step = step y refl

field_holds : {A B : Type 0} (P : B → Type 0) (f : A → Option B) (o : Option A) (d : B) → P d → ((x : A) (y : B) → o ≡ Some x → f x ≡ Some y → P y) → P (unwrap_or (and_then f o) d)
field_holds P f None d base step = base
field_holds P f (Some x) d base step = value_holds P (f x) d base (λ y e. step x y refl e)

field_value : {A B : Type 0} (f : A → Option B) (o : Option A) (y : B) → and_then f o ≡ Some y → (x : A) × (o ≡ Some x) × (f x ≡ Some y)
field_value f None y e = absurd cc
field_value f (Some x) y e = (x, refl, e)

ok_value : {A : Type 0} (r : Result A LineFault) (x : A) → ok_of r ≡ Some x → r ≡ Ok x
ok_value (Ok y) x e = cc
ok_value (Err d) x e = absurd cc

number_within : (high n : ℕ) (text : List ℕ) → number_to high text ≡ Some n → n ≤ high
unfolding number_to
number_within high n text e =
    let p = field_value (λ n. cond (nat_le n high) (Some n) None) (number_text 10 text) n e in
    let q = cond_some (nat_le p.0 high) p.0 n p.2 in
    let within : p.0 ≤ high = grind (arith, nat_tests, q.0) in
    subst (λ k. k ≤ high) q.1 within

text_is : (field text : List ℕ) → unescaped field ≡ Some text → IsText text
text_is field text e = ((text_spelled field text e).1, read_has_no_zero field text e)

stamp_inner : (stamp : Option Stamp) (s : Stamp) → (stamp >>=? λ s. cond (is_time s) (Some s) None) ≡ Some s → is_time s ≡ true
stamp_inner None s e = absurd cc
stamp_inner (Some t) s e = let q = cond_some (is_time t) t s e in ap is_time (sym q.1) ∙ q.0

stamp_case : (marks : Bool) (stamp : Option Stamp) (s : Stamp) → cond marks (stamp >>=? λ s. cond (is_time s) (Some s) None) None ≡ Some s → is_time s ≡ true
stamp_case true stamp s e = stamp_inner stamp s e
stamp_case false stamp s e = absurd cc

stamped_time : (stamp : Option Stamp) (time : Option Stamp) → ((s : Stamp) → stamp ≡ Some s → is_time s ≡ true) → option_map (λ s. Some s) stamp ≡ Some time → IsTime time
stamped_time None time h e = absurd cc
stamped_time (Some s) time h e = subst IsTime (some_is (Some s) time e) (h s refl)

stamp_is : (text : List ℕ) (s : Stamp) → stamp_text text ≡ Some s → is_time s ≡ true
unfolding stamp_text
stamp_is text s e = stamp_case (has_marks text) (parts_of text) s e

time_is : (text : List ℕ) (time : Option Stamp) → time_text text ≡ Some time → IsTime time
unfolding time_text
time_is [] time e = subst IsTime (some_is None time e) tt
time_is (b ∷ bytes) time e = stamped_time (stamp_text (b ∷ bytes)) time (λ s h. stamp_is (b ∷ bytes) s h) e

-- ---- ids

minus_is : (n : ℕ) → id_test n ≡ true → IsId (minus n)
minus_is zero e = absurd cc
minus_is (suc n) e = e

sized : (text : List ℕ) (n : ℕ) → id_size text ≡ Some n → id_test n ≡ true
sized text n e =
    let p = field_value (λ n. cond (id_test n) (Some n) None) (number_text 19 text) n e in
    let q = cond_some (id_test p.0) p.0 n p.2 in
    ap id_test (sym q.1) ∙ q.0

signed_case : (sign : Bool) (plain rest : Option ℕ) (z : ℤ) → ((n : ℕ) → plain ≡ Some n → id_test n ≡ true) → ((n : ℕ) → rest ≡ Some n → id_test n ≡ true) → cond sign (option_map minus rest) (option_map pos plain) ≡ Some z → IsId z
signed_case true plain None z p q e = absurd cc
signed_case true plain (Some n) z p q e = subst IsId (some_is (minus n) z e) (minus_is n (q n refl))
signed_case false None rest z p q e = absurd cc
signed_case false (Some n) rest z p q e = subst IsId (some_is (pos n) z e) (p n refl)

id_is : (text : List ℕ) (z : ℤ) → id_text text ≡ Some z → IsId z
unfolding id_text
id_is text z e = signed_case (slice_index text 0 == 45) (id_size text) (id_size (drop 1 text)) z (sized text) (sized (drop 1 text)) e

-- ---- lists

-- what the first state has and each step keeps, the last has
folded_keeps : {S : Type 0} (P : S → Type 0) (step : S → List ℕ → Result S LineFault) → ((s next : S) (piece : List ℕ) → P s → step s piece ≡ Ok next → P next) → (s end : S) (pieces : List (List ℕ)) → P s → folded step s pieces ≡ Ok end → P end
folded_keeps P step keeps s end [] h e = subst P (ok_is s end e) h
folded_keeps P step keeps s end (piece ∷ pieces) h e =
    let b = bind_ok (step s piece) (λ next. folded step next pieces) end e in
    folded_keeps P step keeps b.0 end pieces (keeps s b.0 piece h b.1) b.2

all_front : {A : Type 0} (P : A → Type 0) (x : A) (xs : List A) → P x → All P xs → All P (x ∷ xs)
all_front P x xs h all zero d below = h
all_front P x xs h all (suc k) d below = all k d (omega arith)

all_one : {A : Type 0} (P : A → Type 0) (x : A) → P x → All P (x ∷ [])
all_one P x h = all_front P x [] h (λ k d below. absurd (omega arith))

abbrev IsTag : Pair → Type 0
IsTag tag = IsText tag.0 × IsText tag.1

put_texts : (tags : List Pair) (key value : List ℕ) → IsText key → IsText value → All IsTag tags → All IsTag (with_tag tags key value)
put_texts [] key value k v all = all_one IsTag (key, value) (k, v)
put_texts (tag ∷ tags) key value k v all =
    elim (bytes_cmp key tag.0) as (λ o. All IsTag (by_order o ((key, value) ∷ tag ∷ tags) ((tag.0, value) ∷ tags) (tag ∷ with_tag tags key value))) [
      | Less ↦ all_front IsTag (key, value) (tag ∷ tags) (k, v) all
      | Equal ↦ all_front IsTag (tag.0, value) tags ((first_of IsTag tag tags all).0, v) (others_of IsTag tag tags all)
      | Greater ↦ all_front IsTag tag (with_tag tags key value) (first_of IsTag tag tags all) (put_texts tags key value k v (others_of IsTag tag tags all))
    ]

not_empty : (key : List ℕ) → (length key == 0) ≡ false → T (nat_lt 0 (length key))
not_empty [] e = absurd cc
not_empty (b ∷ key) e = let some : nat_lt 0 (length (b ∷ key)) ≡ true = grind (arith, nat_tests) in subst T (sym some) tt

tag_keeps : (tags next : List Pair) (item : List ℕ) → AreTags tags → tag_into tags item ≡ Ok next → AreTags next
unfolding tag_into
tag_keeps tags next item h e =
    let k = bind_ok (or_fault faults.BadText (unescaped (before (is 61) item))) _ next e in
    let key = text_is (before (is 61) item) k.0 (some_ok faults.BadText (unescaped (before (is 61) item)) k.0 k.1) in
    let some = test_ok (length k.0 == 0) faults.BadTags _ next k.2 in
    let r = bind_ok (or_fault faults.BadTags (after (is 61) item)) _ next some.1 in
    let new = test_ok (has_tag tags k.0) faults.BadTags _ next r.2 in
    let v = bind_ok (or_fault faults.BadText (unescaped (before (is 61) r.0))) _ next new.1 in
    let value = text_is (before (is 61) r.0) v.0 (some_ok faults.BadText (unescaped (before (is 61) r.0)) v.0 v.1) in
    let last = test_ok (is_some (after (is 61) r.0)) faults.BadTags _ next v.2 in
    subst AreTags (ok_is (with_tag tags k.0 v.0) next last.1)
    (are_tags_put k.0 v.0 tags (not_empty k.0 some.0) h.0, put_texts tags k.0 v.0 key value h.1)

no_tags : AreTags []
no_tags = (tt, λ k d below. absurd (omega arith))

tags_are : (text : List ℕ) (tags : List Pair) → tags_text text ≡ Ok tags → AreTags tags
unfolding tags_text
tags_are [] tags e = subst AreTags (ok_is [] tags e) no_tags
tags_are (b ∷ text) tags e = folded_keeps AreTags tag_into tag_keeps [] tags (split (is 44) (b ∷ text)) no_tags e

ref_inner : (place : Bool) (o : Option ℤ) (id : ℤ) → ((z : ℤ) → o ≡ Some z → IsId z) → and_then (λ id. cond place (Some id) None) o ≡ Some id → IsId id
ref_inner place None id h e = absurd cc
ref_inner place (Some z) id h e = subst IsId (cond_some place z id e).1 (h z refl)

ref_case : (letter : Bool) (o : Option ℤ) (place : Bool) (id : ℤ) → ((z : ℤ) → o ≡ Some z → IsId z) → cond letter (and_then (λ id. cond place (Some id) None) o) None ≡ Some id → IsId id
ref_case true o place id h e = ref_inner place o id h e
ref_case false o place id h e = absurd cc

ref_is : (item : List ℕ) (id : ℤ) → ref_text item ≡ Some id → IsId id
unfolding ref_text
ref_is [] id e = absurd cc
ref_is (b ∷ text) id e = ref_case (b == 110) (id_text (before (is 120) text)) (is_place_or_none (after (is 120) text)) id (id_is (before (is 120) text)) e

ref_keeps : (refs next : List ℤ) (item : List ℕ) → All IsId refs → ref_into refs item ≡ Ok next → All IsId next
unfolding ref_into
ref_keeps refs next item h e =
    let p = bind_ok (or_fault faults.BadRefs (ref_text item)) _ next e in
    let id = ref_is item p.0 (some_ok faults.BadRefs (ref_text item) p.0 p.1) in
    subst (All IsId) (ok_is (refs ++ p.0 ∷ []) next p.2) (All-append IsId refs (p.0 ∷ []) h (all_one IsId p.0 id))

no_refs : All IsId []
no_refs k d below = absurd (omega arith)

refs_are : (text : List ℕ) (refs : List ℤ) → refs_text text ≡ Ok refs → All IsId refs
unfolding refs_text
refs_are [] refs e = subst (All IsId) (ok_is [] refs e) no_refs
refs_are (b ∷ text) refs e = folded_keeps (All IsId) ref_into ref_keeps [] refs (split (is 44) (b ∷ text)) no_refs e

member_is : (item : List ℕ) (m : Member) → member_at item ≡ Ok m → IsMember m
unfolding member_at
member_is [] m e = absurd cc
member_is (b ∷ text) m e =
    let k = bind_ok (or_fault faults.BadMembers (kind_letter b)) _ m e in
    let i = bind_ok (or_fault faults.BadMembers (id_text (before (is 64) text))) _ m k.2 in
    let r = bind_ok (or_fault faults.BadMembers (after (is 64) text)) _ m i.2 in
    let t = bind_ok (or_fault faults.BadText (unescaped r.0)) _ m r.2 in
    let id = id_is (before (is 64) text) i.0 (some_ok faults.BadMembers (id_text (before (is 64) text)) i.0 i.1) in
    let role = text_is r.0 t.0 (some_ok faults.BadText (unescaped r.0) t.0 t.1) in
    subst IsMember (ok_is (record { key = record { kind = k.0; id = i.0 }; role = t.0 }) m t.2) (id, role)

member_keeps : (members next : List Member) (item : List ℕ) → All IsMember members → member_into members item ≡ Ok next → All IsMember next
unfolding member_into
member_keeps members next item h e =
    let p = bind_ok (member_at item) _ next e in
    subst (All IsMember) (ok_is (members ++ p.0 ∷ []) next p.2) (All-append IsMember members (p.0 ∷ []) h (all_one IsMember p.0 (member_is item p.0 p.1)))

no_members : All IsMember []
no_members k d below = absurd (omega arith)

members_are : (text : List ℕ) (members : List Member) → members_text text ≡ Ok members → All IsMember members
unfolding members_text
members_are [] members e = subst (All IsMember) (ok_is [] members e) no_members
members_are (b ∷ text) members e = folded_keeps (All IsMember) member_into member_keeps [] members (split (is 44) (b ∷ text)) no_members e

-- ---- the object

key_is : (mode : Mode) (first : List ℕ) (key : Key) → key_at mode first ≡ Ok key → IsId key.id × (is_allowed mode key.id ≡ true)
unfolding key_at id_at
key_is mode [] key e = absurd cc
key_is mode (b ∷ text) key e =
    let k = bind_ok (or_fault faults.BadStart (kind_letter b)) _ key e in
    let i = bind_ok (id_at mode text) _ key k.2 in
    let t = bind_ok (or_fault faults.BadId (id_text text)) _ i.0 i.1 in
    let may = pass_ok (is_allowed mode t.0) faults.NegativeId (Ok t.0) i.0 t.2 in
    let id = id_is text t.0 (some_ok faults.BadId (id_text text) t.0 t.1) in
    let same : key.id ≡ t.0 = ap (λ (k : Key). k.id) (sym (ok_is (record { kind = k.0; id = i.0 }) key i.2)) ∙ sym (ok_is t.0 i.0 may.1) in
    subst (λ z. IsId z × (is_allowed mode z ≡ true)) (sym same) (id, may.0)

version_is : (id : ℤ) (given : Option ℕ) (version : ℕ) → unwrap_or given 0 ≤ 2000000000 → version_of id given ≡ Ok version → HasVersion id version
unfolding version_of
version_is (pos n) given version within e =
    let p = test_ok (unwrap_or given 0 == 0) faults.NoVersion (Ok (unwrap_or given 0)) version e in
    let same = ok_is (unwrap_or given 0) version p.1 in
    subst (λ v. (1 ≤ v) × (v ≤ 2000000000)) same (grind (arith, nat_tests, p.0), within)
version_is (negsuc n) given version within e = sym (ok_is 0 version e)

tags_hold : (fields : List (List ℕ)) → AreTags (unwrap_or (gathered fields).tags [])
tags_hold fields = field_holds AreTags (λ t. ok_of (tags_text t)) (text_with 84 fields) [] no_tags (λ text tags o e. tags_are text tags (ok_value (tags_text text) tags e))

refs_hold : (mode : Mode) (fields : List (List ℕ)) → Found mode fields → All IsId (unwrap_or (gathered fields).refs []) × (list_all (is_allowed mode) (unwrap_or (gathered fields).refs []) ≡ true)
unfolding letter_of
refs_hold mode fields found =
    field_holds (λ refs. All IsId refs × (list_all (is_allowed mode) refs ≡ true)) (λ t. ok_of (refs_text t)) (text_with 78 fields) [] (no_refs, refl)
    (λ text refs o e.
    let read = ok_value (refs_text text) refs e in
    let value = found letters.Refs 78 text refl o in
    (refs_are text refs read, ap (list_all (is_allowed mode)) (ok_is refs value.0 (sym read ∙ value.1)) ∙ value.2))

members_hold : (mode : Mode) (fields : List (List ℕ)) → Found mode fields → All IsMember (unwrap_or (gathered fields).members []) × (list_all (λ (m : Member). is_allowed mode m.key.id) (unwrap_or (gathered fields).members []) ≡ true)
unfolding letter_of
members_hold mode fields found =
    field_holds (λ members. All IsMember members × (list_all (λ (m : Member). is_allowed mode m.key.id) members ≡ true)) (λ t. ok_of (members_text t)) (text_with 77 fields) [] (no_members, refl)
    (λ text members o e.
    let read = ok_value (members_text text) members e in
    let value = found letters.Members 77 text refl o in
    (members_are text members read, ap (list_all (λ (m : Member). is_allowed mode m.key.id)) (ok_is members value.0 (sym read ∙ value.1)) ∙ value.2))

-- each reference of the content may stand in the mode
abbrev MayRefer : Mode → Content → Type 0
MayRefer mode c = list_all (λ (k : Key). is_allowed mode k.id) (refs_of c) ≡ true

record IsRead (mode : Mode) (kind : Kind) (c : Content) : Type 0 where
  same : kind_of_content c ≡ kind
  content : IsContent c
  refers : MayRefer mode c

content_is : (mode : Mode) (kind : Kind) (fields : List (List ℕ)) (c : Content) → Found mode fields → content_of kind (gathered fields) ≡ Ok c → IsRead mode kind c
unfolding content_of
content_is mode Node fields c found e =
    let p = bind_ok (location_of (gathered fields).x (gathered fields).y) _ c e in
    subst (IsRead mode Node) (ok_is (content.Node (unwrap_or (gathered fields).tags []) p.0) c p.2)
    (record { same = refl; content = tags_hold fields; refers = refl })
content_is mode Way fields c found e =
    let refs = refs_hold mode fields found in
    subst (IsRead mode Way) (ok_is (content.Way (unwrap_or (gathered fields).tags []) (unwrap_or (gathered fields).refs [])) c e)
    (record { same = refl; content = (tags_hold fields, refs.0); refers = list_all-map (λ (k : Key). is_allowed mode k.id) node (unwrap_or (gathered fields).refs []) ∙ refs.1 })
content_is mode Relation fields c found e =
    let members = members_hold mode fields found in
    subst (IsRead mode Relation) (ok_is (content.Relation (unwrap_or (gathered fields).tags []) (unwrap_or (gathered fields).members [])) c e)
    (record { same = refl; content = (tags_hold fields, members.0); refers = list_all-map (λ (k : Key). is_allowed mode k.id) (λ (m : Member). m.key) (unwrap_or (gathered fields).members []) ∙ members.1 })

may_stand : (mode : Mode) (key : Key) (side : Option Content) → list_all (λ (k : Key). is_allowed mode k.id) (keys_of key side) ≡ true → MayStand mode key side
may_stand Import key side h = tt
may_stand Download key side h = h

side_case : (visible : Bool) (r : Result Content LineFault) (side : Option Content) → cond visible (r >>= λ c. Ok (Some c)) (Ok None) ≡ Ok side → (side ≡ None) ⊎ ((c : Content) × (r ≡ Ok c) × (side ≡ Some c))
side_case true r side e = let p = bind_ok r (λ c. Ok (Some c)) side e in inr (p.0, p.1, sym (ok_is (Some p.0) side p.2))
side_case false r side e = inl (sym (ok_is None side e))

side_is : (mode : Mode) (key : Key) (fields : List (List ℕ)) (side : Option Content) → is_allowed mode key.id ≡ true → Found mode fields → side_of key.kind (gathered fields) ≡ Ok side → IsSide key side × MayStand mode key side
unfolding side_of
side_is mode key fields side may found e =
    elim (side_case (unwrap_or (gathered fields).visible true) (content_of key.kind (gathered fields)) side e) [
      | inl none ↦ subst (λ side. IsSide key side × MayStand mode key side) (sym none) (tt, may_stand mode key None (rw may refl))
      | inr some ↦
          let c = content_is mode key.kind fields some.0 found some.1 in
          subst (λ side. IsSide key side × MayStand mode key side) (sym some.2) ((c.same, c.content), may_stand mode key (Some some.0) (rw (may, c.refers) refl))
    ]

no_text : IsText []
no_text = (IsUtf8-nil, refl)

meta_is : (fields : List (List ℕ)) → IsMeta (meta_of (gathered fields))
meta_is fields = record {
  changeset = field_holds (λ n. n < 2 ^ 32) (number_to 4294967295) (text_with 99 fields) 0 (omega arith) (λ text n o e. omega (arith, number_within 4294967295 n text e));
  time = field_holds IsTime time_text (text_with 116 fields) None tt (λ text time o e. time_is text time e);
  uid = field_holds (λ n. n < 2 ^ 32) (number_to 4294967295) (text_with 105 fields) 0 (omega arith) (λ text n o e. omega (arith, number_within 4294967295 n text e));
  user = field_holds IsText unescaped (text_with 117 fields) [] no_text (λ text user o e. text_is text user e);
}

completed_is : (mode : Mode) (key : Key) (fields : List (List ℕ)) (o : OplObject) → IsId key.id → is_allowed mode key.id ≡ true → Found mode fields → completed key (gathered fields) ≡ Ok o → IsWritable key o.version o.side o.meta × MayStand mode key o.side
unfolding completed
completed_is mode key fields o id may found e =
    let p = bind_ok (version_of key.id (gathered fields).version) (λ version. side_of key.kind (gathered fields) >>= λ side. Ok (record { key = key; version = version; side = side; meta = meta_of (gathered fields) })) o e in
    let q = bind_ok (side_of key.kind (gathered fields)) (λ side. Ok (record { key = key; version = p.0; side = side; meta = meta_of (gathered fields) })) o p.2 in
    let same = ok_is (record { key = key; version = p.0; side = q.0; meta = meta_of (gathered fields) }) o q.2 in
    let within = field_holds (λ n. n ≤ 2000000000) (number_to 2000000000) (text_with 118 fields) 0 (omega arith) (λ text n o e. number_within 2000000000 n text e) in
    let side = side_is mode key fields q.0 may found q.1 in
    subst (λ (o : OplObject). IsWritable key o.version o.side o.meta × MayStand mode key o.side) same
    (record { id = id; version_fits = version_is key.id (gathered fields).version p.0 within p.1; content = side.0; known = meta_is fields }, side.1)

-- What is read has a written form, and may stand in a file of the mode.
read_is_writable : (mode : Mode) (line : List ℕ) (o : OplObject) → line_of mode line ≡ Ok (Object o) → IsWritable o.key o.version o.side o.meta × MayStand mode o.key o.side
read_is_writable mode line o e =
    let s = read_is_spelled mode line o e in
    let k = key_is mode s.first o.key s.key in
    completed_is mode o.key (turned [] s.pieces) o k.0 k.1 (found_in mode o.key.kind (turned [] s.pieces) s.fields) s.values

pub read_kind : (mode : Mode) (line : List ℕ) (kind : LineKind) → line_of mode line ≡ Ok kind → IsReadObject mode kind
read_kind mode line Skipped e = tt
read_kind mode line (Object o) e = read_is_writable mode line o e

-- What a call that reads a line returns.
pub given_is_read : (mode : Mode) (line : List ℕ) (r : Result LineKind LineAnswer) → Gives (λ kind. kind) r (line_of mode line) → IfOk r (IsReadObject mode)
given_is_read mode line (Ok kind) e = read_kind mode line kind e
given_is_read mode line (Err e) read = tt
