-- The texts of the contents that jobs make.
use Rattle.std.proofs.Common.{ℕ, zero, suc, ℤ, ◌-◌, Bool, true, false, cond, not, List, [], ◌∷◌, length, take, map, Option, Some, None}
use Rattle.std.specs.Option.{option_map, option_map_or, unwrap_or}
use Rattle.osm_base.specs.Content.{tags_of}
use Rattle.osm_base.specs.Rank.{is_key}
use Rattle.osm_base.specs.Tags.{Pair}
use Rattle.osm_base.specs.declared.coord.Coord.{Coord}
use Rattle.osm_base.specs.declared.key.Key.{Key}
use Rattle.osm_base.specs.declared.members.Member.{Member}
use Rattle.osm_base.specs.declared.content.Content.{Content}
use Rattle.osm_base.specs.declared.content.Content.TheVariants as content
use Rattle.osm_base.proofs.Lists.{all_joined}
use Rattle.osm_table.specs.declared.entry.Base.{Base}
use Rattle.osm_table.specs.declared.entry.Base.TheVariants as base
use Rattle.osm_table.specs.declared.entry.Conflict.{Conflict}
use Rattle.osm_table.specs.Table.{TableValue, held_by, IfContent}
use Rattle.opl_line.specs.Writable.{IsText}
use Rattle.merge_cases.specs.declared.pick.Pick.{Pick}
use Rattle.merge_cases.specs.declared.pick.Pick.TheVariants as pick
use Rattle.merge_cases.specs.Case.{is_withdrawal}
use Rattle.merge_cases.specs.Join.{body_pick, both_of, joined, picked, picked_by, picked_tags, tag_pick, tags_clash, with_body}
use Rattle.renamed_content.specs.Renamed.{renamed}
use Rattle.merge_cases.specs.declared.choice.Side.{Side}
use Rattle.merge_cases.specs.declared.choice.Side.TheVariants as side
use Rattle.merge_cases.specs.declared.choice.Choice.{Choice}
use Rattle.merge_cases.specs.declared.choice.Choice.TheVariants as choice
use Rattle.merge_cases.specs.Resolve.{chosen, mix_of, of_side, parts_of, settled_body, settled_tag}
use Rattle.tool_api.specs.Basic.{with_tags, with_place, with_refs, with_members}
use Rattle.tool_api.specs.Checks.{is_named}
use Rattle.tool_api.specs.Combine.{as_way, fold_runs}
use Rattle.tool_api.specs.Fuse.{fused_content, fused_key, without_runs}
use Rattle.tool_api.specs.Gone.{members_without}
use Rattle.tool_api.specs.Staged.{all_joined as joined_of}
use Rattle.tool_api.specs.Upkeep.{PieceValue, first_in, folded, folded_from, is_run, is_turn, member_of, replaced, replaced_from, restricted_piece, stand_ins}
use Rattle.job_laws.proofs.SplitHolds.{all_filtered}
use Rattle.editor_laws.proofs.SeenLists.{IfSome, either_some, map_of_all}
use Rattle.editor_laws.specs.Texts.{AreRoles, AreTexts, HasTexts, IsTextBase}
use Rattle.editor_laws.proofs.TextTags.{picked_texts}

abbrev HasRole : Member → Type 0
HasRole m = IsText m.role

-- the tags of a content
pub tags_are : (c : Content) → HasTexts c → AreTexts (tags_of c)
tags_are (content.Node tags at) h = h
tags_are (content.Way tags refs) h = h
tags_are (content.Relation tags members) h = h.0

-- Edits of one part.

pub tags_kept : (f : List Pair → List Pair) → ((tags : List Pair) → AreTexts tags → AreTexts (f tags)) → (c : Content) → HasTexts c → HasTexts (with_tags f c)
tags_kept f keeps (content.Node tags at) h = keeps tags h
tags_kept f keeps (content.Way tags refs) h = keeps tags h
tags_kept f keeps (content.Relation tags members) h = (keeps tags h.0, h.1)

pub place_kept : (f : Coord → Coord) (c : Content) → HasTexts c → HasTexts (with_place f c)
place_kept f (content.Node tags at) h = h
place_kept f (content.Way tags refs) h = h
place_kept f (content.Relation tags members) h = h

pub refs_kept : (f : List ℤ → List ℤ) (c : Content) → HasTexts c → HasTexts (with_refs f c)
refs_kept f (content.Node tags at) h = h
refs_kept f (content.Way tags refs) h = h
refs_kept f (content.Relation tags members) h = h

pub members_kept : (f : List Member → List Member) → ((members : List Member) → AreRoles members → AreRoles (f members)) → (c : Content) → HasTexts c → HasTexts (with_members f c)
members_kept f keeps (content.Node tags at) h = h
members_kept f keeps (content.Way tags refs) h = h
members_kept f keeps (content.Relation tags members) h = (h.0, keeps members h.1)

pub without_kept : (gone : Key → Bool) (members : List Member) → AreRoles members → AreRoles (members_without gone members)
without_kept gone members h = all_filtered HasRole (λ m. not (gone m.key)) members h

renamed_roles : (f : Key → Key) (members : List Member) → AreRoles members → AreRoles (map (λ m. record { key = f m.key; role = m.role }) members)
renamed_roles f members h = map_of_all HasRole (λ (m : Member). record { key = f m.key; role = m.role }) members h

pub renamed_kept : (f : Key → Key) (c : Content) → HasTexts c → HasTexts (renamed f c)
renamed_kept f (content.Node tags at) h = h
renamed_kept f (content.Way tags refs) h = h
renamed_kept f (content.Relation tags members) h = (h.0, renamed_roles f members h.1)

pub fused_kept : (nodes : List Key) (kept : Key) (c : Content) → HasTexts c → HasTexts (fused_content nodes kept c)
fused_kept nodes kept c h = refs_kept (without_runs kept.id) (renamed (fused_key nodes kept) c) (renamed_kept (fused_key nodes kept) c h)

pub as_way_kept : (refs : List ℤ) (tags : List Pair) → AreTexts tags → (c : Content) → HasTexts c → HasTexts (as_way refs tags c)
as_way_kept refs tags i c h = i

-- Members of ways that are joined.

cons_roles : (m : Member) (o : Option (List Member)) → HasRole m → IfSome AreRoles o → IfSome AreRoles (option_map (λ out. m ∷ out) o)
cons_roles m None h i = tt
cons_roles m (Some ms) h i = (h, i)

folded_roles : (ways : List Key) (kept : Key) (skip : ℕ) (ms : List Member) → AreRoles ms → IfSome AreRoles (folded_from ways kept skip ms)
folded_roles ways kept zero [] h = tt
folded_roles ways kept (suc n) [] h = tt
folded_roles ways kept (suc n) (m ∷ ms) h = folded_roles ways kept n ms h.1
folded_roles ways kept zero (m ∷ ms) h =
    let run = folded_from ways kept (length ways - 1) ms in
    let rest = folded_from ways kept 0 ms in
    let member : Member = record { key = kept; role = m.role } in
    either_some AreRoles (is_named ways m.key) (cond (is_run ways (take (length ways) (m ∷ ms))) (option_map (λ out. member ∷ out) run) None) (option_map (λ out. m ∷ out) rest)
    (either_some AreRoles (is_run ways (take (length ways) (m ∷ ms))) (option_map (λ out. member ∷ out) run) None (cons_roles member run h.0 (folded_roles ways kept (length ways - 1) ms h.1)) tt)
    (cons_roles m rest h.0 (folded_roles ways kept 0 ms h.1))

or_roles : (ms : List Member) (o : Option (List Member)) → AreRoles ms → IfSome AreRoles o → AreRoles (unwrap_or o ms)
or_roles ms None h i = h
or_roles ms (Some out) h i = i

pub runs_kept : (ways : List Key) (kept : Key) (c : Content) → HasTexts c → HasTexts (fold_runs ways kept c)
runs_kept ways kept (content.Node tags at) h = h
runs_kept ways kept (content.Way tags refs) h = h
runs_kept ways kept (content.Relation tags members) h = (h.0, or_roles members (folded ways kept members) h.1 (folded_roles ways kept 0 members h.1))

-- Members of a way that is split.

piece_roles : (role : List ℕ) (ps : List PieceValue) → IsText role → AreRoles (map (λ p. member_of p role) ps)
piece_roles role [] h = tt
piece_roles role (p ∷ ps) h = (h, piece_roles role ps h)

one_role : (role : List ℕ) (o : Option PieceValue) → IsText role → AreRoles (option_map_or (λ p. member_of p role ∷ []) o [])
one_role role None h = tt
one_role role (Some p) h = (h, tt)

either_roles : (b : Bool) (xs ys : List Member) → AreRoles xs → AreRoles ys → AreRoles (cond b xs ys)
either_roles true xs ys h i = h
either_roles false xs ys h i = i

module _ (t : TableValue) (way : Key) (pieces : List PieceValue) where
  stand_roles : (v : Option (List ℤ)) (before : Option Member) (m : Member) (after : Option Member) → HasRole m → AreRoles (stand_ins t way pieces v before m after)
  stand_roles None before m after h = piece_roles m.role _ h
  stand_roles (Some v) before m after h = either_roles (is_turn m.role) _ _ (one_role m.role (restricted_piece v pieces) h) (piece_roles m.role _ h)

  replaced_roles : (v : Option (List ℤ)) (before : Option Member) (ms : List Member) → AreRoles ms → AreRoles (replaced_from t way pieces v before ms)
  replaced_roles v before [] h = tt
  replaced_roles v before (m ∷ ms) h =
      all_joined HasRole (cond (is_key way m.key) (stand_ins t way pieces v before m (first_in ms)) (m ∷ [])) (replaced_from t way pieces v (Some m) ms)
      (either_roles (is_key way m.key) (stand_ins t way pieces v before m (first_in ms)) (m ∷ []) (stand_roles v before m (first_in ms) h.0) (h.0, tt))
      (replaced_roles v (Some m) ms h.1)

  pub replaced_kept : (c : Content) → HasTexts c → HasTexts (replaced t way pieces c)
  replaced_kept (content.Node tags at) h = h
  replaced_kept (content.Way tags refs) h = h
  replaced_kept (content.Relation tags members) h = (h.0, replaced_roles _ None members h.1)

-- What comes of two sides.

body_kept : (tags : List Pair) (c : Content) → AreTexts tags → HasTexts c → HasTexts (with_body tags c)
body_kept tags (content.Node others at) i h = i
body_kept tags (content.Way others refs) i h = i
body_kept tags (content.Relation others members) i h = (i, h.1)

both_kept : (tags : List Pair) (p : Pick) (mine theirs : Content) → AreTexts tags → HasTexts mine → HasTexts theirs → IfContent (both_of (Some tags) (picked p mine theirs)) HasTexts
both_kept tags pick.Mine mine theirs t h i = body_kept tags mine t h
both_kept tags pick.Theirs mine theirs t h i = body_kept tags theirs t i
both_kept tags pick.Clash mine theirs t h i = tt

clash_kept : (p : Pick) (mine theirs : Content) → IfContent (both_of None (picked p mine theirs)) HasTexts
clash_kept pick.Mine mine theirs = tt
clash_kept pick.Theirs mine theirs = tt
clash_kept pick.Clash mine theirs = tt

either_kept : (b : Bool) (tags : List Pair) (p : Pick) (mine theirs : Content) → AreTexts tags → HasTexts mine → HasTexts theirs → IfContent (both_of (cond b None (Some tags)) (picked p mine theirs)) HasTexts
either_kept true tags p mine theirs t h i = clash_kept p mine theirs
either_kept false tags p mine theirs t h i = both_kept tags p mine theirs t h i

joined_kept : (base mine theirs : Content) → HasTexts mine → HasTexts theirs → IfContent (joined base mine theirs) HasTexts
joined_kept base mine theirs h i =
    either_kept (tags_clash (tags_of base) (tags_of mine) (tags_of theirs)) (picked_tags (tags_of base) (tags_of mine) (tags_of theirs)) (body_pick base mine theirs) mine theirs
    (picked_texts (tag_pick (tags_of base) (tags_of mine) (tags_of theirs)) (tags_of mine) (tags_of theirs) (tags_are mine h) (tags_are theirs i)) h i

pub joined_of_kept : (base mine theirs : Option Content) → IfContent mine HasTexts → IfContent theirs HasTexts → IfContent (joined_of base mine theirs) HasTexts
joined_of_kept None mine theirs h i = tt
joined_of_kept (Some b) None theirs h i = tt
joined_of_kept (Some b) (Some m) None h i = tt
joined_of_kept (Some b) (Some m) (Some c) h i = joined_kept b m c h i

side_tags : (s : Side) (m c : Content) → HasTexts m → HasTexts c → AreTexts (tags_of (of_side s m c))
side_tags side.Mine m c h i = tags_are m h
side_tags side.Theirs m c h i = tags_are c i

mix_kept : (tags body : Side) (mine theirs : Option Content) → IfContent mine HasTexts → IfContent theirs HasTexts → IfContent (mix_of tags body mine theirs) HasTexts
mix_kept tags body None theirs h i = tt
mix_kept tags body (Some m) None h i = tt
mix_kept tags side.Mine (Some m) (Some c) h i = body_kept (tags_of (of_side tags m c)) m (side_tags tags m c h i) h
mix_kept tags side.Theirs (Some m) (Some c) h i = body_kept (tags_of (of_side tags m c)) c (side_tags tags m c h i) i

parts_kept : (body : Side) (listed : List (List ℕ)) (base mine theirs : Option Content) → IfContent mine HasTexts → IfContent theirs HasTexts → IfContent (parts_of body listed base mine theirs) HasTexts
parts_kept body listed None mine theirs h i = tt
parts_kept body listed (Some b) None theirs h i = tt
parts_kept body listed (Some b) (Some m) None h i = tt
parts_kept body listed (Some b) (Some m) (Some c) h i =
    both_kept (picked_by (settled_tag listed b m c) (tags_of m) (tags_of c)) (settled_body body b m c) m c (picked_texts (settled_tag listed b m c) (tags_of m) (tags_of c) (tags_are m h) (tags_are c i)) h i

unless_kept : (b : Bool) (mine : Option Content) → IfContent mine HasTexts → IfContent (cond b None mine) HasTexts
unless_kept true mine h = tt
unless_kept false mine h = h

pub held_kept : (b : Base) → IsTextBase b → IfContent (held_by b) HasTexts
held_kept base.New h = tt
held_kept (base.Live version content meta) h = h.0
held_kept (base.Gone version meta) h = tt

pub chosen_kept : (by : Choice) (base : Base) (mine : Option Content) (conflict : Conflict) → IfContent mine HasTexts → IsTextBase conflict.theirs → IfContent (chosen by base mine conflict) HasTexts
chosen_kept choice.Mine base mine conflict h i = unless_kept (is_withdrawal conflict.why) mine h
chosen_kept choice.Theirs base mine conflict h i = held_kept conflict.theirs i
chosen_kept (choice.Mix tags body) base mine conflict h i = mix_kept tags body mine (held_by conflict.theirs) h (held_kept conflict.theirs i)
chosen_kept (choice.Parts body listed) base mine conflict h i = parts_kept body listed (held_by base) mine (held_by conflict.theirs) h (held_kept conflict.theirs i)
