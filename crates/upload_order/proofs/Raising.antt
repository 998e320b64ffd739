-- The numbers of keys that are raised: none waits for more than were gone over, so there is room for one more.
use Rattle.std.proofs.Common.{◌≡◌, ◌<◌, ◌≤◌, ℕ, ◌+◌, ◌^◌, Bool, true, false, cond, Option, Some, None, IfSome, List, [], ◌∷◌, refl, sym, ◌∙◌, ap, subst, arith}
use Rattle.std.specs.Prelude.{T}
use Rattle.std.specs.Option.{option_map}
use Rattle.std.specs.List.{AllByRecursion}
use Rattle.std.specs.FinMap as fin
use Rattle.std.proofs.lemmas.Bool.{or_parts}
use Rattle.osm_base.specs.declared.key.Key.{Key}
use Rattle.osm_base.specs.Rank.{rank_cmp, is_key}
use Rattle.osm_base.specs.RisingKeys.{rises, is_in}
use Rattle.osm_base.proofs.RisingKeys.{key_turned}
use Rattle.upload_order.specs.Counts.{Counts, changed, changed_all, put_all, raised_by, one_more, HasRoom, WaitsAtMost}
use Rattle.upload_order.proofs.Counted.{changed_at, changed_all_at, itself}
use Rattle.upload_order.proofs.Keys.{head_once, rises_tail}
use Rattle.upload_order.proofs.Starting.{put_at}

-- another key keeps its room
other_room : (m : Counts) (k q : Key) → is_key q k ≡ false → HasRoom m q → HasRoom (changed one_more m k) q
other_room m k q e h =
    subst (λ o. IfSome o (λ n. n + 1 < 2 ^ 64)) (sym (changed_at one_more m k q ∙ ap (λ b. option_map (λ n. cond b (one_more n) n) (fin.get m q)) e ∙ sym (itself (fin.get m q)))) h

others_room : (m : Counts) (k : Key) (ks : List Key) → is_in k ks ≡ false → AllByRecursion (HasRoom m) ks → AllByRecursion (HasRoom (changed one_more m k)) ks
others_room m k [] e h = tt
others_room m k (q ∷ qs) e h =
    let p = or_parts (is_key k q) (is_in k qs) e in
    (other_room m k q (key_turned q k ∙ p.0) h.0, others_room m k qs p.1 h.1)

all_room : (m : Counts) (ks : List Key) → ((k : Key) → HasRoom m k) → AllByRecursion (HasRoom m) ks
all_room m [] h = tt
all_room m (k ∷ ks) h = (h k, all_room m ks h)

-- Keys are raised one after the other: what is left to raise comes to the same, and has room.
pub record Raises (m : Counts) (ks : List Key) (n : Counts) (left : List Key) : Type 0 where
  pub same : changed_all one_more n left ≡ changed_all one_more m ks
  pub rise : T (rises left)
  pub room : AllByRecursion (HasRoom n) left

pub raises_none : (m : Counts) (ks : List Key) → T (rises ks) → ((k : Key) → HasRoom m k) → Raises m ks m ks
raises_none m ks rise room = record { same = refl; rise = rise; room = all_room m ks room }

module _ (m : Counts) (ks : List Key) (n : Counts) (left : List Key) (k : Key) (rest : List Key) (is : left ≡ k ∷ rest) (raises : Raises m ks n left) where
  pub next_room : HasRoom n k
  next_room = (subst (AllByRecursion (HasRoom n)) is raises.room).0

  pub raises_more : (next : Counts) → next ≡ changed one_more n k → Raises m ks next rest
  raises_more next to =
      let rise : T (rises (k ∷ rest)) = subst (λ js. T (rises js)) is raises.rise in
      record {
        same = ap (λ (x : Counts). changed_all one_more x rest) to ∙ ap (changed_all one_more n) (sym is) ∙ raises.same;
        rise = rises_tail k rest rise;
        room = subst (λ x. AllByRecursion (HasRoom x) rest) (sym to) (others_room n k rest (head_once k rest rise) (subst (AllByRecursion (HasRoom n)) is raises.room).1);
      }

-- The users of keys are raised, one key after the other: none waits for more than these.
pub record RaisesBy (us : Key → List Key) (ks : List Key) (i : ℕ) (m : Counts) (left : List Key) : Type 0 where
  pub same : raised_by us m left ≡ raised_by us (put_all fin.empty ks) ks
  pub most : (k : Key) → WaitsAtMost i m k

most_case : (b : Bool) (i : ℕ) (o : Option ℕ) → IfSome o (λ n. n ≤ i) → IfSome (option_map (λ n. cond b (one_more n) n) o) (λ n. n ≤ i + 1)
most_case b i None h = tt
most_case true i (Some n) h = omega (arith, h)
most_case false i (Some n) h = omega (arith, h)

put_case : (b : Bool) → IfSome (cond b (Some 0) None) (λ n. n ≤ 0)
put_case true = omega arith
put_case false = tt

room_case : (i : ℕ) (o : Option ℕ) → i + 1 < 2 ^ 64 → IfSome o (λ n. n ≤ i) → IfSome o (λ n. n + 1 < 2 ^ 64)
room_case i None less h = tt
room_case i (Some n) less h = omega (arith, less, h)

module _ (us : Key → List Key) (ks : List Key) where
  pub raises_by_none : (m : Counts) → m ≡ put_all fin.empty ks → RaisesBy us ks 0 m ks
  raises_by_none m is = record {
    same = ap (λ (x : Counts). raised_by us x ks) is;
    most = λ k.
        let at : fin.get m k ≡ cond (is_in k ks) (Some 0) None = ap (λ (x : Counts). fin.get x k) is ∙ put_at ks fin.empty k ∙ ap (cond (is_in k ks) (Some 0)) (fin.get-empty rank_cmp k) in
        subst (λ o. IfSome o (λ n. n ≤ 0)) (sym at) (put_case (is_in k ks));
  }

  module _ (i : ℕ) (m : Counts) (left : List Key) (raises : RaisesBy us ks i m left) where
    pub by_room : i + 1 < 2 ^ 64 → (k : Key) → HasRoom m k
    by_room less k = room_case i (fin.get m k) less (raises.most k)

    pub raises_by_more : (k : Key) (rest users : List Key) (next : Counts) → left ≡ k ∷ rest → users ≡ us k → T (rises users) → next ≡ changed_all one_more m users → RaisesBy us ks (i + 1) next rest
    raises_by_more k rest users next is of rise to = record {
      same = ap (λ (x : Counts). raised_by us x rest) (to ∙ ap (changed_all one_more m) of) ∙ ap (raised_by us m) (sym is) ∙ raises.same;
      most = λ q.
          subst (λ o. IfSome o (λ n. n ≤ i + 1)) (sym (ap (λ (x : Counts). fin.get x q) to ∙ changed_all_at one_more users rise m q))
          (most_case (is_in q users) i (fin.get m q) (raises.most q));
    }
