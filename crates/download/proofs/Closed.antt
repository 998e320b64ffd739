-- What a file tells is closed where each reference is told of as there.
use Rattle.std.proofs.Common.{◌≡◌, ℕ, ◌+◌, ◌<◌, ◌&&◌, Bool, true, false, cond, List, [], ◌∷◌, ◌++◌, length, get_or, take, Option, Some, None, refl, sym, ap, subst, ◌∙◌}
use Rattle.std.specs.List.{AllByRecursion, fold}
use Rattle.std.specs.Option.{option_or}
use Rattle.std.proofs.lemmas.List.{take_more}
use Rattle.std.proofs.lemmas.List.Sums.{fold-append}
use Rattle.osm_base.specs.Rank.{is_key}
use Rattle.osm_base.specs.Content.{refs_of}
use Rattle.osm_base.specs.declared.key.Key.{Key}
use Rattle.osm_base.specs.declared.content.Content.{Content}
use Rattle.osm_base.specs.declared.meta.Meta.{Meta}
use Rattle.osm_base.proofs.Lists.{all_joined}
use Rattle.osm_table.specs.declared.told.Told.{Told}
use Rattle.osm_table.specs.declared.told.Told.TheVariants.{Mentioned, Live}
use Rattle.osm_table.specs.Told.{ToldValue, told_at, with_mention, is_told_there, IsClosed}
use Rattle.opl_line.specs.declared.object.OplObject.{OplObject}
use Rattle.download.specs.Tell.{refs_of_side, references, told_side, told_of_object, nothing, all_told, told_of, telling, is_mentioned}
use Rattle.download.specs.TellCode.{AreThereIn, AreMentioned}
use Rattle.download.proofs.Found.{mention_if, mention_cases, told_at_key}

-- One mention more.

there_or : (o p : Option Told) → is_told_there o ≡ true → is_told_there (option_or o p) ≡ true
there_or None p is = let f : false ≡ true = is in cc
there_or (Some t) p is = is

there_still : (m : ToldValue) (k r : Key) → is_told_there (told_at m r) ≡ true → is_told_there (told_at (with_mention m k) r) ≡ true
there_still m k r is = subst (λ (o : Option Told). is_told_there o ≡ true) (sym (mention_cases m k r (told_at m k) refl)) (there_or (told_at m r) (mention_if (is_key r k)) is)

all_still : (m : ToldValue) (k : Key) (keys : List Key) → AreThereIn m keys → AreThereIn (with_mention m k) keys
all_still m k [] are = tt
all_still m k (r ∷ rs) are = (there_still m k r are.0, all_still m k rs are.1)

still_there : (keys more : List Key) (m : ToldValue) → AreThereIn m keys → AreThereIn (fold with_mention m more) keys
still_there keys [] m are = are
still_there keys (k ∷ ks) m are = still_there keys ks (with_mention m k) (all_still m k keys are)

both_there : (keys more : List Key) (old new : ToldValue) (all there : Bool) → new ≡ fold with_mention old more → (all ≡ true → AreThereIn old keys) → (there ≡ true → AreThereIn new more)
    → (all && there) ≡ true → AreThereIn new (keys ++ more)
both_there keys more old new true there is before after h =
    all_joined (λ (r : Key). is_told_there (told_at new r) ≡ true) keys more (subst (λ (m : ToldValue). AreThereIn m keys) (sym is) (still_there keys more old (before refl))) (after h)
both_there keys more old new false there is before after h = let f : false ≡ true = h in cc

more_mentioned : (begun old new : ToldValue) (keys more : List Key) (all there : Bool) → AreMentioned begun old keys all → AreMentioned old new more there → AreMentioned begun new (keys ++ more) (all && there)
more_mentioned begun old new keys more all there before after = record {
  told = after.told ∙ ap (λ (m : ToldValue). fold with_mention m more) before.told ∙ sym (fold-append with_mention begun keys more);
  all_there = both_there keys more old new all there after.told before.all_there after.all_there;
}

-- A walk that mentions the keys of one item after the other.
pub next_mentioned : {X : Type 0} (g : List X → List Key) → ((xs ys : List X) → g (xs ++ ys) ≡ g xs ++ g ys)
    → (xs : List X) (i : ℕ) (d : X) (more : List Key) (begun old new : ToldValue) (all there : Bool) → i < length xs → more ≡ g (get_or xs i d ∷ [])
    → AreMentioned begun old (g (take i xs)) all → AreMentioned old new more there → AreMentioned begun new (g (take (i + 1) xs)) (all && there)
next_mentioned g joins xs i d more begun old new all there within is before after =
    subst (λ (keys : List Key). AreMentioned begun new keys (all && there)) (ap (λ (ks : List Key). g (take i xs) ++ ks) is ∙ sym (joins (take i xs) (get_or xs i d ∷ [])) ∙ ap g (sym (take_more xs i d within)))
    (more_mentioned begun old new (g (take i xs)) more all there before after)

-- one key that was mentioned
pub one_mentioned : (old new : ToldValue) (key : Key) (there : Bool) → new ≡ with_mention old key → there ≡ is_told_there (told_at new key) → AreMentioned old new (key ∷ []) there
one_mentioned old new key there is answer = record { told = is; all_there = λ h. (sym answer ∙ h, tt) }

-- All references of what is told.

pub fore : (P : Key → Type 0) (xs ys : List Key) → AllByRecursion P (xs ++ ys) → AllByRecursion P xs
fore P [] ys all = tt
fore P (x ∷ xs) ys all = (all.0, fore P xs ys all.1)

pub aft : (P : Key → Type 0) (xs ys : List Key) → AllByRecursion P (xs ++ ys) → AllByRecursion P ys
aft P [] ys all = all
aft P (x ∷ xs) ys all = aft P xs ys all.1

side_refs : (P : Key → Type 0) (v version : ℕ) (side : Option Content) (content : Content) (m meta : Meta) → told_side v side m ≡ Live version content meta → AllByRecursion P (refs_of_side side) → AllByRecursion P (refs_of content)
side_refs P v version None content m meta is all = cc
side_refs P v version (Some c) content m meta is all = subst (λ (x : Content). AllByRecursion P (refs_of x)) (let e : c ≡ content = cc in e) all

refs_case : (P : Key → Type 0) (o : OplObject) (os : List OplObject) (b : Bool) (found : Option Told) (version : ℕ) (content : Content) (meta : Meta)
    → option_or found (cond b (Some (told_of_object o)) None) ≡ Some (Live version content meta)
    → (found ≡ Some (Live version content meta) → AllByRecursion P (references os) → AllByRecursion P (refs_of content))
    → AllByRecursion P (refs_of_side o.side ++ references os) → AllByRecursion P (refs_of content)
refs_case P o os b (Some t) version content meta is rest all = rest is (aft P (refs_of_side o.side) (references os) all)
refs_case P o os true None version content meta is rest all =
    let same : told_of_object o ≡ Live version content meta = cc in
    side_refs P o.version version o.side content o.meta meta same (fore P (refs_of_side o.side) (references os) all)
refs_case P o os false None version content meta is rest all = let f : ◌≡◌ {A = Option Told} None (Some (Live version content meta)) = is in cc

refs_told : (P : Key → Type 0) (os : List OplObject) (key : Key) (version : ℕ) (content : Content) (meta : Meta) → telling os key ≡ Some (Live version content meta) → AllByRecursion P (references os) → AllByRecursion P (refs_of content)
refs_told P [] key version content meta is all = let f : ◌≡◌ {A = Option Told} None (Some (Live version content meta)) = is in cc
refs_told P (o ∷ os) key version content meta is all = refs_case P o os (is_key key o.key) (telling os key) version content meta is (refs_told P os key version content meta) all

-- what lives is told by an object, not by a mention
told_living : (o : Option Told) (b : Bool) (version : ℕ) (content : Content) (meta : Meta) → option_or o (mention_if b) ≡ Some (Live version content meta) → o ≡ Some (Live version content meta)
told_living (Some t) b version content meta is = is
told_living None true version content meta is = let f : Mentioned ≡ Live version content meta = cc in cc
told_living None false version content meta is = let f : ◌≡◌ {A = Option Told} None (Some (Live version content meta)) = is in cc

closed_told : (os : List OplObject) → AreThereIn (told_of os) (references os) → IsClosed (told_of os).told
closed_told os are key version content meta has =
    refs_told (λ (r : Key). is_told_there (told_at (told_of os) r) ≡ true) os key version content meta
    (told_living (telling os key) (is_mentioned os key) version content meta (sym (told_at_key os key) ∙ has))
    are

-- What is told is closed where all references of its objects, which were mentioned last, are there.
pub closed_there : (os : List OplObject) (refs : List Key) (begun told new : ToldValue) (all : Bool) → refs ≡ references os → begun ≡ nothing → told ≡ all_told begun os → AreMentioned told new refs all
    → all ≡ true → IsClosed new.told
closed_there os refs begun told new all is_refs is_begun is_told mentioned h =
    let same : new ≡ told_of os = mentioned.told ∙ (λ i. fold with_mention ((is_told ∙ ap (λ (m : ToldValue). all_told m os) is_begun) i) (is_refs i)) in
    let are : AreThereIn new (references os) = subst (AreThereIn new) is_refs (mentioned.all_there h) in
    subst (λ (m : ToldValue). IsClosed m.told) (sym same) (closed_told os (subst (λ (m : ToldValue). AreThereIn m (references os)) same are))
