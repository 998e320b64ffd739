-- What a told map tells of a key after many were told of.
use Rattle.std.proofs.Common.{◌≡◌, ◌||◌, ℕ, Bool, true, false, cond, is_some, List, [], ◌∷◌, Option, Some, None, refl, ap, ◌∙◌}
use Rattle.std.specs.List.{list_any, fold}
use Rattle.std.specs.Option.{option_or}
use Rattle.std.specs.FinMap as fin
use Rattle.std.proofs.lemmas.List.Folds.{list_any-append}
use Rattle.osm_base.specs.Rank.{rank_cmp, is_key}
use Rattle.osm_base.specs.RankLaws.{rank_total}
use Rattle.osm_base.specs.declared.key.Key.{Key}
use Rattle.osm_base.specs.declared.content.Content.{Content}
use Rattle.osm_base.specs.declared.meta.Meta.{Meta}
use Rattle.osm_base.proofs.RisingKeys.{one_key}
use Rattle.osm_base.proofs.Lists.{all_joined}
use Rattle.osm_base.proofs.Tests.{cond-option_or, option_or-assoc, option_or-none}
use Rattle.osm_table.specs.Table.{IsPositive}
use Rattle.osm_table.specs.declared.told.Told.{Told}
use Rattle.osm_table.specs.declared.told.Told.TheVariants.{Mentioned}
use Rattle.osm_table.specs.Told.{ToldValue, told_at, with_told, with_mention, IsTold}
use Rattle.opl_line.specs.declared.object.OplObject.{OplObject}
use Rattle.download.specs.Tell.{refs_of_side, references, told_side, told_of_object, nothing, all_told, told_of, telling, is_mentioned, told_by, AreTellable}
use Rattle.download.specs.TellCode.{ArePositive}

-- What may be told refers to positive ids.

positive_side : (key : Key) (version : ℕ) (side : Option Content) (meta : Meta) → IsTold key (told_side version side meta) → ArePositive (refs_of_side side)
positive_side key version None meta may = tt
positive_side key version (Some content) meta may = may.2.1

pub positive_references : (os : List OplObject) → AreTellable os → ArePositive (references os)
positive_references [] may = tt
positive_references (o ∷ os) may = all_joined (λ (key : Key). IsPositive key.id) (refs_of_side o.side) (references os) (positive_side o.key o.version o.side o.meta may.0) (positive_references os may.1)

-- By look-up.

told_all : (os : List OplObject) (m : ToldValue) (k : Key) → told_at (all_told m os) k ≡ option_or (telling os k) (told_at m k)
told_all [] m k = refl
told_all (o ∷ os) m k =
    told_all os (with_told m o.key (told_of_object o)) k
    ∙ ap (option_or (telling os k)) (fin.get-insert rank_total m.told o.key (told_of_object o) k ∙ cond-option_or (is_key k o.key) (told_of_object o) (told_at m k))
    ∙ option_or-assoc (telling os k) (cond (is_key k o.key) (Some (told_of_object o)) None) (told_at m k)

abbrev pub mention_if : Bool → Option Told
mention_if b = cond b (Some Mentioned) None

-- a mention tells nothing beside what is told already
mentioned_there : (m : ToldValue) (r k : Key) (t : Told) (b : Bool) → is_key k r ≡ b → told_at m r ≡ Some t → told_at m k ≡ option_or (told_at m k) (mention_if b)
mentioned_there m r k t true is has = rw (ap (told_at m) (one_key k r is) ∙ has) refl
mentioned_there m r k t false is has = elim (told_at m k) as (λ o. o ≡ option_or o None) [ None ↦ refl | Some u ↦ refl ]

mentioned_new : (m : ToldValue) (r k : Key) (b : Bool) → is_key k r ≡ b → told_at m r ≡ None → cond b (Some Mentioned) (told_at m k) ≡ option_or (told_at m k) (mention_if b)
mentioned_new m r k true is none = rw (ap (told_at m) (one_key k r is) ∙ none) refl
mentioned_new m r k false is none = elim (told_at m k) as (λ o. o ≡ option_or o None) [ None ↦ refl | Some u ↦ refl ]

-- what a mention leaves told of a key
pub mention_cases : (m : ToldValue) (r k : Key) (o : Option Told) → told_at m r ≡ o
    → told_at (cond (is_some o) m (with_told m r Mentioned)) k ≡ option_or (told_at m k) (mention_if (is_key k r))
mention_cases m r k None none = fin.get-insert rank_total m.told r Mentioned k ∙ mentioned_new m r k (is_key k r) refl none
mention_cases m r k (Some t) has = mentioned_there m r k t (is_key k r) refl has

or_mentions : (a : Option Told) (b c : Bool) → option_or (option_or a (mention_if b)) (mention_if c) ≡ option_or a (mention_if (b || c))
or_mentions None true c = refl
or_mentions None false c = refl
or_mentions (Some t) b c = refl

mentioned_all : (rs : List Key) (m : ToldValue) (k : Key) → told_at (fold with_mention m rs) k ≡ option_or (told_at m k) (mention_if (list_any (is_key k) rs))
mentioned_all [] m k = elim (told_at m k) as (λ o. o ≡ option_or o None) [ None ↦ refl | Some u ↦ refl ]
mentioned_all (r ∷ rs) m k =
    mentioned_all rs (with_mention m r) k
    ∙ ap (λ o. option_or o (mention_if (list_any (is_key k) rs))) (mention_cases m r k (told_at m r) refl)
    ∙ or_mentions (told_at m k) (is_key k r) (list_any (is_key k) rs)

any_ref : (os : List OplObject) (k : Key) → list_any (is_key k) (references os) ≡ is_mentioned os k
any_ref [] k = refl
any_ref (o ∷ os) k = list_any-append (is_key k) (refs_of_side o.side) (references os) ∙ ap (λ b. list_any (is_key k) (refs_of_side o.side) || b) (any_ref os k)

-- What a file tells of a key.
pub told_at_key : (os : List OplObject) (k : Key) → told_at (told_of os) k ≡ told_by os k
told_at_key os k =
    mentioned_all (references os) (all_told nothing os) k
    ∙ (λ i. option_or ((told_all os nothing k ∙ ap (option_or (telling os k)) (fin.get-empty rank_cmp k) ∙ option_or-none (telling os k)) i) (mention_if (any_ref os k i)))
