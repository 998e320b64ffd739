-- What the case of a key says, where its entry was looked up.
use Rattle.std.proofs.Common.{◌≡◌, ◌&&◌, ◌||◌, Bool, true, false, not, List, [], ◌∷◌, ◌++◌, Option, Some, None, is_some, cond, refl, sym, ap, subst, ◌∙◌}
use Rattle.std.specs.Option.{option_map, option_map_or}
use Rattle.std.specs.List.{list_any}
use Rattle.std.proofs.lemmas.Bool.{true≢false}
use Rattle.std.specs.FinMap as fin
use Rattle.osm_base.specs.Rank.{is_key}
use Rattle.osm_base.proofs.RisingKeys.{one_key}
use Rattle.osm_base.specs.declared.key.Key.{Key}
use Rattle.osm_table.specs.declared.entry.Why.TheVariants.{Held}
use Rattle.osm_table.specs.declared.entry.Base.{Base}
use Rattle.osm_table.specs.declared.entry.Entry.{Entry}
use Rattle.osm_table.specs.declared.entry.Entry.TheVariants.{Incomplete, Known}
use Rattle.osm_table.specs.declared.told.Told.{Told}
use Rattle.osm_table.specs.Table.{TableValue, entry_of, uses, users, held_by, known_base, IsThere}
use Rattle.osm_table.specs.Told.{ToldEntries, ToldValue, entry_told, told_at}
use Rattle.osm_table.proofs.Each.{get_with}
use Rattle.dataset.specs.Draft.{DraftValue, drafted}
use Rattle.dataset.proofs.Changes.{drafted_none}
use Rattle.dataset.specs.Exact.{mine_at}
use Rattle.dataset.specs.Sound.{IsSound}
use Rattle.dataset.proofs.Listed.{user_uses}
use Rattle.closure.specs.Closure.{has}
use Rattle.closure.proofs.Chains.{some_of}
use Rattle.osm_base.proofs.RisingKeys.{key_itself}
use Rattle.merge_cases.specs.declared.verdict.Verdict.{Verdict}
use Rattle.merge_cases.specs.declared.verdict.Verdict.TheVariants.{Stay, Mention, Take, Clash, Keep, Candidate, Settle, Join, Dispute}
use Rattle.merge_cases.specs.Case.{verdict_of}
use Rattle.tool_api.specs.Staged.{stage_of, verdict_at, theirs_at, theirs_told, staged, is_candidate, refers_by, against, bared}
use Rattle.merge_tool.specs.Passes.{Gives, IsPassed, noted, new_bared, early, is_resting, has_resting_user, is_going, left}
use Rattle.job_laws.proofs.MergeRows.{theirs_by, verdict_by}
use Rattle.job_laws.proofs.MergeFitting.{there}
use Rattle.merge_tool.proofs.Appends.{has_more}
use Rattle.job_laws.proofs.MergeStand.{bared_none, bared_kept}
use Rattle.merge_tool.proofs.News.{going_told}

-- the case of what is told
pub case_is : (t : TableValue) (m : ToldEntries) (k : Key) (s : Told) (o : Option Entry) (v : Verdict) → fin.get m k ≡ Some s → o ≡ entry_of t k → v ≡ verdict_of o s → v ≡ verdict_at t m k
case_is t m k s o v is look case = case ∙ ap (λ (x : Option Entry). verdict_of x s) look ∙ sym (ap (verdict_by (entry_of t k)) is)

pub theirs_is : (m : ToldEntries) (k : Key) (s : Told) → fin.get m k ≡ Some s → theirs_told s ≡ theirs_at m k
theirs_is m k s is = sym (ap theirs_by is)

pub stage_is : (t : TableValue) (m : ToldEntries) (k : Key) (s : Told) (o : Option Entry) (v : Verdict) → fin.get m k ≡ Some s → o ≡ entry_of t k → v ≡ verdict_of o s → staged v o (theirs_told s) ≡ (stage_of t m k).entry
stage_is t m k s o v is look case =
    ap (λ (w : Verdict). staged w o (theirs_told s)) (case_is t m k s o v is look case)
    ∙ ap (λ (b : Base). staged (verdict_at t m k) o b) (theirs_is m k s is)
    ∙ ap (λ (x : Option Entry). staged (verdict_at t m k) x (theirs_at m k)) look

pub uses_at : (o : Option Entry) (k : Key) → option_map_or (λ e. uses e k) o false ≡ refers_by (mine_at o) k
uses_at None k = refl
uses_at (Some e) k = refl

-- what an object refers to that is left as it is was there before
pub used_there : (t : TableValue) (m : ToldEntries) → IsSound t → (k : Key) → has_resting_user t m k ≡ true → IsThere (entry_of t k)
used_there t m sound k h =
    let f = some_of is_key key_itself one_key (is_resting t m) (users t k) h in
    there t m sound f.0 k (entry_of t f.0) refl (sym (uses_at (entry_of t f.0) k) ∙ sym (user_uses t k f.0) ∙ f.1)

-- so an entry of the table stays
pub early_stays : (t : TableValue) (m : ToldEntries) → IsSound t → (k : Key) → bared (has_resting_user t m k) (entry_of t k) ≡ entry_of t k
early_stays t m sound k = by (has_resting_user t m k) refl
  where
    by : (b : Bool) → has_resting_user t m k ≡ b → bared b (entry_of t k) ≡ entry_of t k
    by true e = bared_kept true (entry_of t k) (used_there t m sound k e)
    by false e = bared_none (entry_of t k)

noted_at : (u : TableValue) (k : Key) (o : Option Entry) (q : Key) → is_some o ≡ true → entry_of (noted u k o) q ≡ cond (is_key q k) o (entry_of u q)
noted_at u k None q h = absurd (true≢false (sym h))
noted_at u k (Some e) q h = get_with u k e q

bared_some : (n : Bool) (e : Entry) → is_some (bared n (Some e)) ≡ true
bared_some n Incomplete = refl
bared_some n (Known b (Some c) f) = refl
bared_some n (Known b None f) = by (n && not (is_some (held_by (known_base b f))))
  where
    by : (x : Bool) → is_some (cond x (Some Incomplete) (Some (Known b None f))) ≡ true
    by true = refl
    by false = refl

-- one key more
module _ (t : TableValue) (m : ToldEntries) (sound : IsSound t) (k : Key) (o new : Option Entry) (look : o ≡ entry_of t k) (g : Gives o (stage_of t m k).entry new) where
  stays : new ≡ None → early t m k ≡ entry_of t k
  stays n = ap (bared (has_resting_user t m k)) (subst (Gives o (stage_of t m k).entry) n g ∙ look) ∙ early_stays t m sound k

  pub passed_more : (u w : TableValue) (ks : List Key) → IsPassed (entry_of t) (early t m) ks u → w ≡ noted u k (new_bared (has_resting_user t m k) new) → IsPassed (entry_of t) (early t m) (ks ++ k ∷ []) w
  passed_more u w ks before step q =
      ap (λ (x : TableValue). entry_of x q) step ∙ by new g refl (is_key q k) (has is_key ks q) refl (before q)
      ∙ ap (λ b. cond b (early t m q) (entry_of t q)) (sym (has_more ks k q))
    where
      by : (n : Option Entry) → Gives o (stage_of t m k).entry n → new ≡ n → (b a : Bool) → is_key q k ≡ b → entry_of u q ≡ cond a (early t m q) (entry_of t q)
          → entry_of (noted u k (new_bared (has_resting_user t m k) n)) q ≡ cond (a || b) (early t m q) (entry_of t q)
      by None h is true true e f = f
      by None h is true false e f = f ∙ ap (entry_of t) (one_key q k e) ∙ sym (stays is) ∙ sym (ap (early t m) (one_key q k e))
      by None h is false true e f = f
      by None h is false false e f = f
      by (Some x) h is b a e f =
          noted_at u k (bared (has_resting_user t m k) (Some x)) q (bared_some (has_resting_user t m k) x)
          ∙ put b a e f
        where
          put : (b a : Bool) → is_key q k ≡ b → entry_of u q ≡ cond a (early t m q) (entry_of t q) → cond (is_key q k) (bared (has_resting_user t m k) (Some x)) (entry_of u q) ≡ cond (a || b) (early t m q) (entry_of t q)
          put true a e f = ap (λ c. cond c (bared (has_resting_user t m k) (Some x)) (entry_of u q)) e ∙ ap (bared (has_resting_user t m k)) (sym h) ∙ sym (ap (early t m) (one_key q k e)) ∙ over a
            where
              over : (a : Bool) → early t m q ≡ cond (a || true) (early t m q) (entry_of t q)
              over true = refl
              over false = refl
          put false a e f = ap (λ c. cond c (bared (has_resting_user t m k) (Some x)) (entry_of u q)) e ∙ f ∙ same a
            where
              same : (a : Bool) → cond a (early t m q) (entry_of t q) ≡ cond (a || false) (early t m q) (entry_of t q)
              same true = refl
              same false = refl

-- a draft that changes nothing
pub none_yet : (t : TableValue) (d : DraftValue) → d ≡ record { puts = fin.empty; next = t.next } → (q : Key) → entry_of (drafted d t) q ≡ entry_of t q
none_yet t d e q = ap (λ (x : TableValue). entry_of x q) (ap (λ (x : DraftValue). drafted x t) e ∙ drafted_none t.next t)

-- all keys: what isn't told of stays
pub passed_all : (t : TableValue) (m : ToldValue) (u : TableValue) → IsSound t → IsPassed (entry_of t) (early t m.told) m.order u → ((k : Key) → list_any (is_key k) m.order ≡ is_some (told_at m k)) → (q : Key) → entry_of u q ≡ early t m.told q
passed_all t m u sound h each q = h q ∙ ap (λ b. cond b (early t m.told q) (entry_of t q)) (each q) ∙ by (told_at m q) refl
  where
    by : (s : Option Told) → told_at m q ≡ s → cond (is_some (told_at m q)) (early t m.told q) (entry_of t q) ≡ early t m.told q
    by (Some x) i = ap (λ (s : Option Told). cond (is_some s) (early t m.told q) (entry_of t q)) i
    by None i =
        ap (λ (s : Option Told). cond (is_some s) (early t m.told q) (entry_of t q)) i
        ∙ sym (ap (λ (s : Option Told). bared (has_resting_user t m.told q) (staged (verdict_by (entry_of t q) s) (entry_of t q) (theirs_by s))) i ∙ early_stays t m.told sound q)

-- What is left of a candidate.

candidate_is : (v : Verdict) → is_candidate v ≡ true → v ≡ Candidate
candidate_is Candidate h = refl
candidate_is Stay h = absurd (true≢false (sym h))
candidate_is Mention h = absurd (true≢false (sym h))
candidate_is Take h = absurd (true≢false (sym h))
candidate_is Clash h = absurd (true≢false (sym h))
candidate_is Keep h = absurd (true≢false (sym h))
candidate_is Settle h = absurd (true≢false (sym h))
candidate_is Join h = absurd (true≢false (sym h))
candidate_is Dispute h = absurd (true≢false (sym h))

unheld : (x y : Option Entry) (b : Bool) → b ≡ false → y ≡ cond b x y
unheld x y b e = sym (ap (λ c. cond c x y) e)

-- where it isn't held, what is told
pub left_gone : (t : TableValue) (m : ToldEntries) (held : List Key) (k : Key) (news : Entry) → is_going t m k ≡ true → Some news ≡ option_map entry_told (fin.get m k) → has is_key held k ≡ false → Some news ≡ left t m held k
left_gone t m held k news going is off = is ∙ by (fin.get m k) refl going ∙ unheld (option_map (against Held (theirs_at m k)) (entry_of t k)) (Some (Known (theirs_at m k) None None)) (has is_key held k) off
  where
    by : (s : Option Told) → fin.get m k ≡ s → is_candidate (verdict_by (entry_of t k) (fin.get m k)) ≡ true → option_map entry_told (fin.get m k) ≡ Some (Known (theirs_at m k) None None)
    by None e c = absurd (true≢false (sym (sym (ap (λ (s : Option Told). is_candidate (verdict_by (entry_of t k) s)) e) ∙ c)))
    by (Some s) e c =
        ap (option_map entry_told) e
        ∙ ap Some (going_told s (entry_of t k) (candidate_is (verdict_of (entry_of t k) s) (sym (ap (λ (s : Option Told). is_candidate (verdict_by (entry_of t k) s)) e) ∙ c)))
        ∙ ap (λ (b : Base). Some (Known b None None)) (theirs_is m k s e)
