-- What an import comes to.
use Rattle.std.proofs.Common.{◌≡◌, ◌+◌, ◌≤◌, ℕ, Bool, List, [], map, Option, Some, None, Err, sym, ap, ◌∙◌, subst, arith}
use Rattle.std.specs.FinMap as fin
use Rattle.osm_base.specs.declared.key.Key.{Key}
use Rattle.osm_base.specs.declared.content.Content.{Content}
use Rattle.osm_table.specs.Table.{TableValue}
use Rattle.dataset.specs.Sound.{IsSound}
use Rattle.dataset.specs.Draft.{DraftValue, drafted}
use Rattle.dataset.proofs.Changes.{drafted_none}
use Rattle.renamed_content.specs.Renamed.{renamed}
use Rattle.tool_api.specs.declared.new_objects.NewObject.{NewObject}
use Rattle.tool_api.specs.declared.refusal.Refusal.{Refusal}
use Rattle.tool_api.specs.Checks.{◌>>◌, is_named, first_of}
use Rattle.tool_api.specs.Changes.{all_added}
use Rattle.tool_api.specs.Closing.{closing, closing_tests}
use Rattle.tool_api.specs.Import.{AreNewObjects, file_keys, references, file_reference_test, new_keys, new_contents, import}
use Rattle.import_tool.specs.Known.{Names, has, called}
use Rattle.import_tool.proofs.Naming.{has_own, called_so}
use Rattle.import_tool.proofs.Sounds.{import_sound}

-- a draft that changes nothing yet
pub begun : (t : TableValue) (d : DraftValue) (cs : List Content) → IsSound t → d ≡ record { puts = fin.empty; next = t.next } → (all_added (drafted d t) cs ≡ all_added t cs) × (1 ≤ d.next) × (d.next ≤ t.next + 0)
begun t d cs s none =
    let next : d.next ≡ t.next = ap (λ (x : DraftValue). x.next) none in
    let one = s.number.0 in
    (ap (λ (x : DraftValue). all_added (drafted x t) cs) none ∙ ap (λ (x : TableValue). all_added x cs) (drafted_none t.next t), omega (arith, next, one), omega (arith, next))

abbrev tests : TableValue → (Key → Bool) → List NewObject → Option Refusal
tests t own objects = first_of (file_reference_test t own) (references objects)

module _ (t : TableValue) (limit : ℕ) (objects : List NewObject) (pairs : List (Key × Key)) (n : ℕ) (number : n ≡ t.next) (numbered : Names n objects pairs) where
  names : Names t.next objects pairs
  names = subst (λ m. Names m objects pairs) number numbered

  tested : (o : Option Refusal) → tests t (has pairs) objects ≡ o → tests t (is_named (file_keys objects)) objects ≡ o
  tested o e = sym (ap (λ (own : Key → Bool). tests t own objects) (has_own t.next objects pairs names)) ∙ e

  pub refused : (r : Refusal) → tests t (has pairs) objects ≡ Some r → import t limit objects ≡ Err r
  refused r e = ap (λ (o : Option Refusal). o >> closing t limit [] (record { keys = new_keys t.next objects; table = all_added t (new_contents t.next objects) })) (tested (Some r) e)

  whole : (u : TableValue) → u ≡ all_added t (map (λ o. renamed (called pairs) o.content) objects) → u ≡ all_added t (new_contents t.next objects)
  whole u is = is ∙ ap (λ (f : Key → Key). all_added t (map (λ o. renamed f o.content) objects)) (called_so t.next objects pairs names)

  pub keeps : (u : TableValue) → tests t (has pairs) objects ≡ None → IsSound t → AreNewObjects objects → u ≡ all_added t (map (λ o. renamed (called pairs) o.content) objects)
      → closing_tests t limit [] u ≡ None → IsSound u
  keeps u passed s are is closed =
      subst IsSound (sym (whole u is)) (import_sound t objects are.each s (tested None passed) limit (ap (closing_tests t limit []) (sym (whole u is)) ∙ closed))

  pub ends : (u : TableValue) (keys : List Key) (m : ℕ) → tests t (has pairs) objects ≡ None → m ≡ t.next → keys ≡ new_keys m objects → u ≡ all_added t (map (λ o. renamed (called pairs) o.content) objects)
      → closing t limit [] (record { keys = keys; table = u }) ≡ import t limit objects
  ends u keys m passed same made is =
      (λ i. closing t limit [] (record { keys = (made ∙ ap (λ j. new_keys j objects) same) i; table = whole u is i }))
      ∙ sym (ap (λ (o : Option Refusal). o >> closing t limit [] (record { keys = new_keys t.next objects; table = all_added t (new_contents t.next objects) })) (tested None passed))
