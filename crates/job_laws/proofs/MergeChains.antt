-- What is wanted and what is held are the ends of chains, since the keys of a merge have all of them.
use Rattle.std.proofs.Common.{◌≡◌, ◌||◌, true, is_some, List}
use Rattle.std.specs.Prelude.{◌↔◌}
use Rattle.std.proofs.lemmas.Bool.{and_parts}
use Rattle.osm_base.specs.Rank.{is_key}
use Rattle.osm_base.specs.declared.key.Key.{Key}
use Rattle.osm_base.proofs.RisingKeys.{one_key, key_itself}
use Rattle.osm_table.specs.Table.{TableValue}
use Rattle.osm_table.specs.Told.{ToldEntries}
use Rattle.dataset.specs.Sound.{IsSound}
use Rattle.closure.specs.Closure.{has, Chain}
use Rattle.closure.proofs.Chains.{chain_of, of_chain}
use Rattle.tool_api.specs.Staged.{Staged, stage_of, refers_by}
use Rattle.tool_api.specs.Merged.{both_keys, candidate_content, held, held_leads, held_start, lost_content, named_by_firm, named_by_wanted, wanted, wanted_leads, wanted_start}
use Rattle.job_laws.specs.MergeChains.{EndsCandidates, EndsLost}
use Rattle.job_laws.specs.MergeOutcomes.{is_held, is_wanted}
use Rattle.job_laws.proofs.MergeFitting.{fits}
use Rattle.job_laws.proofs.MergeStand.{Fits, candidate_in, in_keys}

module _ (stage : Key → Staged) (keys : List Key) (fit : Fits stage keys) where
  wanted_first : (k : Key) → wanted_start stage keys k ≡ true → has is_key keys k ≡ true
  wanted_first k h = in_keys stage keys fit k (and_parts (is_some (lost_content stage keys k)) (named_by_firm stage keys k) h).0

  wanted_next : (j k : Key) → wanted_leads stage keys j k ≡ true → has is_key keys k ≡ true
  wanted_next j k h = in_keys stage keys fit k (and_parts (is_some (lost_content stage keys k)) (refers_by (lost_content stage keys j) k) h).0

  wanted_chains : (k : Key) → (has is_key (wanted stage keys) k ≡ true) ↔ Chain (wanted_start stage keys) (wanted_leads stage keys) k
  wanted_chains k = (
    chain_of is_key key_itself one_key (wanted_start stage keys) (wanted_leads stage keys) keys k,
    of_chain is_key key_itself one_key (wanted_start stage keys) (wanted_leads stage keys) keys wanted_first wanted_next k,
  )

  held_first : (k : Key) → held_start stage keys k ≡ true → has is_key keys k ≡ true
  held_first k h = candidate_in stage keys fit k (and_parts (stage k).candidate (named_by_firm stage keys k || named_by_wanted stage keys k) h).0

  held_next : (j k : Key) → held_leads stage keys j k ≡ true → has is_key keys k ≡ true
  held_next j k h = candidate_in stage keys fit k (and_parts (stage k).candidate (refers_by (candidate_content stage keys j) k) h).0

  held_chains : (k : Key) → (has is_key (held stage keys) k ≡ true) ↔ Chain (held_start stage keys) (held_leads stage keys) k
  held_chains k = (
    chain_of is_key key_itself one_key (held_start stage keys) (held_leads stage keys) keys k,
    of_chain is_key key_itself one_key (held_start stage keys) (held_leads stage keys) keys held_first held_next k,
  )

pub wanted_ends : (t : TableValue) (m : ToldEntries) (k : Key) → IsSound t → (is_wanted t m k ≡ true) ↔ EndsLost t m k
wanted_ends t m k sound = wanted_chains (stage_of t m) (both_keys t m) (fits t m sound) k

pub held_ends : (t : TableValue) (m : ToldEntries) (k : Key) → IsSound t → (is_held t m k ≡ true) ↔ EndsCandidates t m k
held_ends t m k sound = held_chains (stage_of t m) (both_keys t m) (fits t m sound) k
