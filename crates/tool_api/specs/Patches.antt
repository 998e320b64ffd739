-- The lists of patches that a tool keeps.
--
-- For example a tool that did p, q and r has p ∷ q ∷ r ∷ [] done and [] undone. After one undo these are p ∷ q ∷ []
-- and r ∷ [], after two p ∷ [] and q ∷ r ∷ []. A redo then does q again, which is the first of the undone ones.
use Rattle.std.specs.Prelude.{◌≡◌, List, [], ◌∷◌, ◌++◌, Option, Some, None}
use Rattle.osm_table.specs.Table.{TableValue}
use Rattle.dataset.specs.Patch.{PatchValue}
use Rattle.dataset.specs.Diff.{diff}
use Rattle.tool_api.specs.declared.reply.Reply.{Reply}
use Rattle.tool_api.specs.declared.reply.Reply.TheVariants.{Done, Refused}

-- what stands for the last of no patches
abbrev pub no_patch : PatchValue
no_patch = record { edits = []; next_before = 0; next_after = 0 }

-- the last of those done
abbrev pub last_patch : List PatchValue → PatchValue
last_patch [] = no_patch
last_patch (p ∷ []) = p
last_patch (p ∷ q ∷ ps) = last_patch (q ∷ ps)

-- the last, where there is one
abbrev pub newest_of : List PatchValue → Option PatchValue
newest_of [] = None
newest_of (p ∷ ps) = Some (last_patch (p ∷ ps))

-- all but the last
abbrev pub front : List PatchValue → List PatchValue
front [] = []
front (p ∷ []) = []
front (p ∷ q ∷ ps) = p ∷ front (q ∷ ps)

-- the first of those undone
abbrev pub first_patch : List PatchValue → PatchValue
first_patch [] = no_patch
first_patch (p ∷ ps) = p

-- all but the first
abbrev pub rest : List PatchValue → List PatchValue
rest [] = []
rest (p ∷ ps) = ps

-- With Done the difference of the tables was put last; else the list stays.
abbrev pub Kept : Reply → TableValue → TableValue → List PatchValue → List PatchValue → Type 0
Kept (Done keys) t u ps qs = qs ≡ ps ++ diff t u ∷ []
Kept (Refused r) t u ps qs = qs ≡ ps

-- the other way round
abbrev pub turned : List PatchValue → List PatchValue
turned [] = []
turned (p ∷ ps) = turned ps ++ p ∷ []
