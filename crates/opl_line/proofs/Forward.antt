-- What is read is spelled so.
use Rattle.std.proofs.Common.{◌≡◌, ℕ, Bool, true, false, cond, List, [], ◌∷◌, Option, Some, None, subst, Result, Ok, Err, refl, sym, ap, ◌∙◌, arith}
use Rattle.std.specs.Prelude.{is_some, ◌==◌}
use Rattle.std.specs.Option.{option_and_then as and_then}
use Rattle.std.specs.List.{list_all}
use Rattle.osm_base.specs.declared.key.Kind.{Kind}
use Rattle.opl_text.specs.Text.{unescaped}
use Rattle.opl_text.specs.Time.{time_text}
use Rattle.opl_line.specs.declared.mode.Mode.{Mode}
use Rattle.opl_line.specs.declared.fault.LineFault.{LineFault}
use Rattle.opl_line.specs.declared.fault.LineFault.TheVariants as faults
use Rattle.opl_line.specs.declared.letter.Letter.{Letter}
use Rattle.opl_line.specs.declared.letter.Letter.TheVariants as letters
use Rattle.opl_line.specs.declared.object.Fields.{Fields}
use Rattle.osm_base.specs.declared.key.Key.{Key}
use Rattle.opl_line.specs.declared.object.OplObject.{OplObject}
use Rattle.opl_line.specs.declared.object.LineKind.TheVariants.{Skipped, Object}
use Rattle.opl_line.specs.Cut.{split}
use Rattle.opl_line.specs.Line.{is_blank, key_at, no_fields, version_of, side_of, meta_of, completed, object_of, freed, is_skipped, kind_of_line, line_of}
use Rattle.opl_line.specs.Reads.{◌>>=◌, or_fault, folded}
use Rattle.opl_line.specs.Field.{is_allowed, has_field, letter_of, number_to, visible_text, place_text, tags_text, refs_text, members_text, version_into, visible_into, changeset_into, uid_into, time_into, user_into, x_into, y_into, tags_into, refs_into, members_into, named_into, field_into}
use Rattle.opl_line.specs.Spelling.{text_with, gathered, HasValue, AreFields, turned, ok_of, Spells}

pub bind_ok : {A B : Type 0} (r : Result A LineFault) (f : A → Result B LineFault) (y : B) → (r >>= f) ≡ Ok y → (x : A) × (r ≡ Ok x) × (f x ≡ Ok y)
bind_ok (Ok x) f y e = (x, refl, e)
bind_ok (Err d) f y e = absurd cc

pub some_ok : {A : Type 0} (d : LineFault) (o : Option A) (x : A) → or_fault d o ≡ Ok x → o ≡ Some x
some_ok d None x e = absurd cc
some_ok d (Some y) x e = cc

abbrev done : {A : Type 0} → A → Result A LineFault
done x = Ok x

pub ok_is : {A : Type 0} (x y : A) → done x ≡ done y → x ≡ y
ok_is x y e = cc

pub test_ok : {A : Type 0} (b : Bool) (d : LineFault) (r : Result A LineFault) (y : A) → cond b (Err d) r ≡ Ok y → (b ≡ false) × (r ≡ Ok y)
test_ok true d r y e = absurd cc
test_ok false d r y e = (refl, e)

pub pass_ok : {A : Type 0} (b : Bool) (d : LineFault) (r : Result A LineFault) (y : A) → cond b r (Err d) ≡ Ok y → (b ≡ true) × (r ≡ Ok y)
pass_ok true d r y e = (refl, e)
pass_ok false d r y e = absurd cc

-- a field that was free, and its value
pub put_ok : {A : Type 0} (slot : Option A) (d : LineFault) (o : Option A) (k : A → Fields) (g : Fields) →
    cond (is_some slot) (Err faults.FieldTwice) (or_fault d o >>= λ n. Ok (k n)) ≡ Ok g → (slot ≡ None) × (n : A) × (o ≡ Some n) × (k n ≡ g)
put_ok None d None k g e = absurd cc
put_ok None d (Some n) k g e = (refl, n, refl, ok_is (k n) g e)
put_ok (Some x) d o k g e = absurd cc

-- a field that has a value where it stands has none only where it doesn't stand
pub not_there : {A B : Type 0} (f : A → Option B) (o : Option A) → and_then f o ≡ None → ((t : A) → o ≡ Some t → (v : B) × (f t ≡ Some v)) → o ≡ None
not_there f None e h = refl
not_there f (Some t) e h = let v = h t refl in absurd cc

abbrev pub Found : Mode → List (List ℕ) → Type 0
Found mode seen = (letter : Letter) (b : ℕ) (t : List ℕ) → letter_of b ≡ Some letter → text_with b seen ≡ Some t → HasValue mode letter t

abbrev pub kept : {A : Type 0} → A → Option A
kept x = Some x

-- one field taken in
pub record Taken (mode : Mode) (seen : List (List ℕ)) (letter : Letter) (b : ℕ) (text : List ℕ) (g : Fields) : Type 0 where
  pub new : text_with b seen ≡ None
  pub value : HasValue mode letter text
  pub fields : g ≡ gathered ((b ∷ text) ∷ seen)

pub version_taken : (mode : Mode) (seen : List (List ℕ)) (text : List ℕ) (g : Fields) → Found mode seen → version_into (gathered seen) text ≡ Ok g → Taken mode seen letters.Version 118 text g
unfolding version_into letter_of
version_taken mode seen text g found e =
    let p = put_ok (gathered seen).version faults.BadNumber (number_to 2000000000 text) (λ n. record (gathered seen) { version = Some n }) g e in
    record {
      new = not_there (number_to 2000000000) (text_with 118 seen) p.0 (λ t h. found letters.Version 118 t refl h);
      value = (p.1, p.2);
      fields = sym p.3 ∙ ap (λ o. record (gathered seen) { version = o }) (sym p.2);
    }

pub visible_taken : (mode : Mode) (seen : List (List ℕ)) (text : List ℕ) (g : Fields) → Found mode seen → visible_into (gathered seen) text ≡ Ok g → Taken mode seen letters.Visible 100 text g
unfolding visible_into letter_of
visible_taken mode seen text g found e =
    let p = put_ok (gathered seen).visible faults.UnknownField (visible_text text) (λ n. record (gathered seen) { visible = Some n }) g e in
    record {
      new = not_there (visible_text) (text_with 100 seen) p.0 (λ t h. found letters.Visible 100 t refl h);
      value = (p.1, p.2);
      fields = sym p.3 ∙ ap (λ o. record (gathered seen) { visible = o }) (sym p.2);
    }

pub changeset_taken : (mode : Mode) (seen : List (List ℕ)) (text : List ℕ) (g : Fields) → Found mode seen → changeset_into (gathered seen) text ≡ Ok g → Taken mode seen letters.Changeset 99 text g
unfolding changeset_into letter_of
changeset_taken mode seen text g found e =
    let p = put_ok (gathered seen).changeset faults.BadNumber (number_to 4294967295 text) (λ n. record (gathered seen) { changeset = Some n }) g e in
    record {
      new = not_there (number_to 4294967295) (text_with 99 seen) p.0 (λ t h. found letters.Changeset 99 t refl h);
      value = (p.1, p.2);
      fields = sym p.3 ∙ ap (λ o. record (gathered seen) { changeset = o }) (sym p.2);
    }

pub uid_taken : (mode : Mode) (seen : List (List ℕ)) (text : List ℕ) (g : Fields) → Found mode seen → uid_into (gathered seen) text ≡ Ok g → Taken mode seen letters.Uid 105 text g
unfolding uid_into letter_of
uid_taken mode seen text g found e =
    let p = put_ok (gathered seen).uid faults.BadNumber (number_to 4294967295 text) (λ n. record (gathered seen) { uid = Some n }) g e in
    record {
      new = not_there (number_to 4294967295) (text_with 105 seen) p.0 (λ t h. found letters.Uid 105 t refl h);
      value = (p.1, p.2);
      fields = sym p.3 ∙ ap (λ o. record (gathered seen) { uid = o }) (sym p.2);
    }

pub time_taken : (mode : Mode) (seen : List (List ℕ)) (text : List ℕ) (g : Fields) → Found mode seen → time_into (gathered seen) text ≡ Ok g → Taken mode seen letters.Time 116 text g
unfolding time_into letter_of
time_taken mode seen text g found e =
    let p = put_ok (gathered seen).time faults.BadTime (time_text text) (λ n. record (gathered seen) { time = Some n }) g e in
    record {
      new = not_there (time_text) (text_with 116 seen) p.0 (λ t h. found letters.Time 116 t refl h);
      value = (p.1, p.2);
      fields = sym p.3 ∙ ap (λ o. record (gathered seen) { time = o }) (sym p.2);
    }

pub user_taken : (mode : Mode) (seen : List (List ℕ)) (text : List ℕ) (g : Fields) → Found mode seen → user_into (gathered seen) text ≡ Ok g → Taken mode seen letters.User 117 text g
unfolding user_into letter_of
user_taken mode seen text g found e =
    let p = put_ok (gathered seen).user faults.BadText (unescaped text) (λ n. record (gathered seen) { user = Some n }) g e in
    record {
      new = not_there (unescaped) (text_with 117 seen) p.0 (λ t h. found letters.User 117 t refl h);
      value = (p.1, p.2);
      fields = sym p.3 ∙ ap (λ o. record (gathered seen) { user = o }) (sym p.2);
    }

pub x_taken : (mode : Mode) (seen : List (List ℕ)) (text : List ℕ) (g : Fields) → Found mode seen → x_into (gathered seen) text ≡ Ok g → Taken mode seen letters.X 120 text g
unfolding x_into letter_of
x_taken mode seen text g found e =
    let p = put_ok (gathered seen).x faults.BadCoordinate (place_text 1800000000 text) (λ n. record (gathered seen) { x = Some n }) g e in
    record {
      new = not_there (place_text 1800000000) (text_with 120 seen) p.0 (λ t h. found letters.X 120 t refl h);
      value = (p.1, p.2);
      fields = sym p.3 ∙ ap (λ o. record (gathered seen) { x = o }) (sym p.2);
    }

pub y_taken : (mode : Mode) (seen : List (List ℕ)) (text : List ℕ) (g : Fields) → Found mode seen → y_into (gathered seen) text ≡ Ok g → Taken mode seen letters.Y 121 text g
unfolding y_into letter_of
y_taken mode seen text g found e =
    let p = put_ok (gathered seen).y faults.BadCoordinate (place_text 900000000 text) (λ n. record (gathered seen) { y = Some n }) g e in
    record {
      new = not_there (place_text 900000000) (text_with 121 seen) p.0 (λ t h. found letters.Y 121 t refl h);
      value = (p.1, p.2);
      fields = sym p.3 ∙ ap (λ o. record (gathered seen) { y = o }) (sym p.2);
    }

-- the same of a value that has faults of its own
pub list_ok : {A : Type 0} (slot : Option A) (r : Result A LineFault) (k : A → Result Fields LineFault) (g : Fields) →
    cond (is_some slot) (Err faults.FieldTwice) (r >>= k) ≡ Ok g → (slot ≡ None) × (n : A) × (r ≡ Ok n) × (k n ≡ Ok g)
list_ok None (Err d) k g e = absurd cc
list_ok None (Ok n) k g e = (refl, n, refl, e)
list_ok (Some x) r k g e = absurd cc

pub tags_taken : (mode : Mode) (seen : List (List ℕ)) (text : List ℕ) (g : Fields) → Found mode seen → tags_into (gathered seen) text ≡ Ok g → Taken mode seen letters.Tags 84 text g
unfolding tags_into letter_of
tags_taken mode seen text g found e =
    let p = list_ok (gathered seen).tags (tags_text text) (λ n. Ok (record (gathered seen) { tags = Some n })) g e in
    record {
      new = not_there (λ t. ok_of (tags_text t)) (text_with 84 seen) p.0 (λ t h. let v = found letters.Tags 84 t refl h in (v.0, ap ok_of v.1));
      value = (p.1, p.2);
      fields = sym (ok_is (record (gathered seen) { tags = Some p.1 }) g p.3) ∙ ap (λ o. record (gathered seen) { tags = o }) (sym (ap ok_of p.2));
    }

pub refs_taken : (mode : Mode) (seen : List (List ℕ)) (text : List ℕ) (g : Fields) → Found mode seen → refs_into mode (gathered seen) text ≡ Ok g → Taken mode seen letters.Refs 78 text g
unfolding refs_into letter_of
refs_taken mode seen text g found e =
    let p = list_ok (gathered seen).refs (refs_text text) (λ n. cond (list_all (is_allowed mode) n) (Ok (record (gathered seen) { refs = Some n })) (Err faults.NegativeId)) g e in
    let q = pass_ok (list_all (is_allowed mode) p.1) faults.NegativeId (Ok (record (gathered seen) { refs = Some p.1 })) g p.3 in
    record {
      new = not_there (λ t. ok_of (refs_text t)) (text_with 78 seen) p.0 (λ t h. let v = found letters.Refs 78 t refl h in (v.0, ap ok_of v.1));
      value = (p.1, p.2, q.0);
      fields = sym (ok_is (record (gathered seen) { refs = Some p.1 }) g q.1) ∙ ap (λ o. record (gathered seen) { refs = o }) (sym (ap ok_of p.2));
    }

pub members_taken : (mode : Mode) (seen : List (List ℕ)) (text : List ℕ) (g : Fields) → Found mode seen → members_into mode (gathered seen) text ≡ Ok g → Taken mode seen letters.Members 77 text g
unfolding members_into letter_of
members_taken mode seen text g found e =
    let p = list_ok (gathered seen).members (members_text text) (λ n. cond (list_all (λ m. is_allowed mode m.key.id) n) (Ok (record (gathered seen) { members = Some n })) (Err faults.NegativeId)) g e in
    let q = pass_ok (list_all (λ m. is_allowed mode m.key.id) p.1) faults.NegativeId (Ok (record (gathered seen) { members = Some p.1 })) g p.3 in
    record {
      new = not_there (λ t. ok_of (members_text t)) (text_with 77 seen) p.0 (λ t h. let v = found letters.Members 77 t refl h in (v.0, ap ok_of v.1));
      value = (p.1, p.2, q.0);
      fields = sym (ok_is (record (gathered seen) { members = Some p.1 }) g q.1) ∙ ap (λ o. record (gathered seen) { members = o }) (sym (ap ok_of p.2));
    }

-- ---- any field

abbrev pub byte_of : Letter → ℕ
byte_of letters.Version = 118
byte_of letters.Visible = 100
byte_of letters.Changeset = 99
byte_of letters.Uid = 105
byte_of letters.Time = 116
byte_of letters.User = 117
byte_of letters.Tags = 84
byte_of letters.X = 120
byte_of letters.Y = 121
byte_of letters.Refs = 78
byte_of letters.Members = 77

pub some_is : {A : Type 0} (x y : A) → kept x ≡ kept y → x ≡ y
some_is x y e = cc

letter_case : (b : ℕ) (t : Bool) (l letter : Letter) (rest : Option Letter) → (t ≡ true → b ≡ byte_of l) → cond t (Some l) rest ≡ Some letter → (rest ≡ Some letter → b ≡ byte_of letter) → b ≡ byte_of letter
letter_case b true l letter rest h e more = h refl ∙ ap byte_of (some_is l letter e)
letter_case b false l letter rest h e more = more e

one_letter : (b : ℕ) (l letter : Letter) (rest : Option Letter) → cond (b == byte_of l) (Some l) rest ≡ Some letter → (rest ≡ Some letter → b ≡ byte_of letter) → b ≡ byte_of letter
one_letter b l letter rest e more = letter_case b (b == byte_of l) l letter rest (λ h. grind arith) e more

-- the byte that a letter has
pub letter_byte : (b : ℕ) (letter : Letter) → letter_of b ≡ Some letter → b ≡ byte_of letter
unfolding letter_of
letter_byte b letter e = one_letter b letters.Version letter _ e (λ e. one_letter b letters.Visible letter _ e (λ e. one_letter b letters.Changeset letter _ e (λ e. one_letter b letters.Uid letter _ e (λ e. one_letter b letters.Time letter _ e (λ e. one_letter b letters.User letter _ e (λ e. one_letter b letters.Tags letter _ e (λ e. one_letter b letters.X letter _ e (λ e. one_letter b letters.Y letter _ e (λ e. one_letter b letters.Refs letter _ e (λ e. one_letter b letters.Members letter _ e (λ e. absurd cc)))))))))))

named_taken : (mode : Mode) (letter : Letter) (seen : List (List ℕ)) (text : List ℕ) (g : Fields) → Found mode seen → named_into mode letter (gathered seen) text ≡ Ok g → Taken mode seen letter (byte_of letter) text g
unfolding named_into
named_taken mode letters.Version seen text g = version_taken mode seen text g
named_taken mode letters.Visible seen text g = visible_taken mode seen text g
named_taken mode letters.Changeset seen text g = changeset_taken mode seen text g
named_taken mode letters.Uid seen text g = uid_taken mode seen text g
named_taken mode letters.Time seen text g = time_taken mode seen text g
named_taken mode letters.User seen text g = user_taken mode seen text g
named_taken mode letters.Tags seen text g = tags_taken mode seen text g
named_taken mode letters.X seen text g = x_taken mode seen text g
named_taken mode letters.Y seen text g = y_taken mode seen text g
named_taken mode letters.Refs seen text g = refs_taken mode seen text g
named_taken mode letters.Members seen text g = members_taken mode seen text g

found_case : (mode : Mode) (seen : List (List ℕ)) (b c : ℕ) (text u : List ℕ) (l letter : Letter) (t : Bool) → (t ≡ true → c ≡ b) → letter_of c ≡ Some l → HasValue mode l text → letter_of b ≡ Some letter →
    cond t (Some text) (text_with b seen) ≡ Some u → (text_with b seen ≡ Some u → HasValue mode letter u) → HasValue mode letter u
found_case mode seen b c text u l letter true h is value e found more =
    let same : l ≡ letter = some_is l letter (sym is ∙ ap letter_of (h refl) ∙ e) in
    subst (λ x. HasValue mode x u) same (subst (λ x. HasValue mode l x) (some_is text u found) value)
found_case mode seen b c text u l letter false h is value e found more = more found

pub found_in : (mode : Mode) (kind : Kind) (seen : List (List ℕ)) → AreFields mode kind seen → Found mode seen
found_in mode kind [] fields letter b u e found = absurd cc
found_in mode kind ([] ∷ seen) fields letter b u e found = found_in mode kind seen fields letter b u e found
found_in mode kind ((c ∷ text) ∷ seen) fields letter b u e found =
    found_case mode seen b c text u fields.0.0 letter (c == b) (λ h. grind arith) fields.0.1 fields.0.3 e found (λ more. found_in mode kind seen fields.2 letter b u e more)

pub field_taken : (mode : Mode) (kind : Kind) (seen : List (List ℕ)) (b : ℕ) (text : List ℕ) (g : Fields) → AreFields mode kind seen → field_into mode kind (gathered seen) (b ∷ text) ≡ Ok g →
    AreFields mode kind ((b ∷ text) ∷ seen) × (g ≡ gathered ((b ∷ text) ∷ seen))
unfolding field_into
field_taken mode kind seen b text g fields e =
    let p = bind_ok (or_fault faults.UnknownField (letter_of b)) (λ letter. cond (has_field letter kind) (named_into mode letter (gathered seen) text) (Err faults.WrongField)) g e in
    let is = some_ok faults.UnknownField (letter_of b) p.0 p.1 in
    let q = pass_ok (has_field p.0 kind) faults.WrongField (named_into mode p.0 (gathered seen) text) g p.2 in
    let t = subst (λ c. Taken mode seen p.0 c text g) (sym (letter_byte b p.0 is)) (named_taken mode p.0 seen text g (found_in mode kind seen fields) q.1) in
    (((p.0, is, q.0, t.value), t.new, fields), t.fields)

pub all_taken : (mode : Mode) (kind : Kind) (seen pieces : List (List ℕ)) (g : Fields) → AreFields mode kind seen → folded (field_into mode kind) (gathered seen) pieces ≡ Ok g →
    AreFields mode kind (turned seen pieces) × (g ≡ gathered (turned seen pieces))
unfolding field_into
all_taken mode kind seen [] g fields e = (fields, sym (ok_is (gathered seen) g e))
all_taken mode kind seen ([] ∷ pieces) g fields e = all_taken mode kind ([] ∷ seen) pieces g fields e
all_taken mode kind seen ((b ∷ text) ∷ pieces) g fields e =
    let p = bind_ok (field_into mode kind (gathered seen) (b ∷ text)) (λ f. folded (field_into mode kind) f pieces) g e in
    let t = field_taken mode kind seen b text p.0 fields p.1 in
    all_taken mode kind ((b ∷ text) ∷ seen) pieces g t.0 (ap (λ f. folded (field_into mode kind) f pieces) (sym t.1) ∙ p.2)

completed_key : (key : Key) (f : Fields) (o : OplObject) → completed key f ≡ Ok o → o.key ≡ key
unfolding completed
completed_key key f o e =
    let p = bind_ok (version_of key.id f.version) (λ version. side_of key.kind f >>= λ side. Ok (record { key = key; version = version; side = side; meta = meta_of f })) o e in
    let q = bind_ok (side_of key.kind f) (λ side. Ok (record { key = key; version = p.0; side = side; meta = meta_of f })) o p.2 in
    sym (ap (λ (o : OplObject). o.key) (ok_is (record { key = key; version = p.0; side = q.0; meta = meta_of f }) o q.2))

-- the object of a line's pieces
pub record Pieces (mode : Mode) (first : List ℕ) (pieces : List (List ℕ)) (o : OplObject) : Type 0 where
  pub key : key_at mode first ≡ Ok o.key
  pub fields : AreFields mode o.key.kind (turned [] pieces)
  pub values : completed o.key (gathered (turned [] pieces)) ≡ Ok o

pub object_taken : (mode : Mode) (first : List ℕ) (pieces : List (List ℕ)) (o : OplObject) → object_of mode (first ∷ pieces) ≡ Ok o → Pieces mode first pieces o
unfolding object_of
object_taken mode first pieces o e =
    let p = bind_ok (key_at mode first) (λ key. folded (field_into mode key.kind) no_fields pieces >>= λ f. completed key f) o e in
    let q = bind_ok (folded (field_into mode p.0.kind) no_fields pieces) (λ f. completed p.0 f) o p.2 in
    let same = completed_key p.0 q.0 o q.2 in
    let t = all_taken mode p.0.kind [] pieces q.0 tt q.1 in
    record {
      key = p.1 ∙ ap Ok (sym same);
      fields = subst (λ (k : Key). AreFields mode k.kind (turned [] pieces)) (sym same) t.0;
      values = ap (λ k. completed k (gathered (turned [] pieces))) same ∙ ap (completed p.0) (sym t.1) ∙ q.2;
    }

none_ok : (mode : Mode) (o : OplObject) → object_of mode [] ≡ Ok o → ⊥
unfolding object_of
none_ok mode o e = cc

not_skipped : (t : Bool) (r : Result OplObject LineFault) (o : OplObject) → cond t (Ok Skipped) (r >>= λ x. Ok (Object x)) ≡ Ok (Object o) → (t ≡ false) × (r ≡ Ok o)
not_skipped true r o e = absurd cc
not_skipped false (Ok x) o e = (refl, cc)
not_skipped false (Err d) o e = absurd cc

split_taken : (mode : Mode) (line : List ℕ) (parts : List (List ℕ)) (o : OplObject) → split is_blank (freed line) ≡ parts → object_of mode parts ≡ Ok o → Spells mode line o
split_taken mode line [] o cut e = absurd (none_ok mode o e)
split_taken mode line (first ∷ pieces) o cut e =
    let p = object_taken mode first pieces o e in
    record { first = first; pieces = pieces; cut = cut; key = p.key; fields = p.fields; values = p.values }

-- What is read is spelled so.
pub read_is_spelled : (mode : Mode) (line : List ℕ) (o : OplObject) → line_of mode line ≡ Ok (Object o) → Spells mode line o
unfolding line_of kind_of_line
read_is_spelled mode line o e =
    let p = not_skipped (is_skipped (freed line)) (object_of mode (split is_blank (freed line))) o e in
    split_taken mode line (split is_blank (freed line)) o refl p.1
