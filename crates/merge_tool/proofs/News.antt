-- What the entry says of which no more is known than what is told.
use Rattle.std.proofs.Common.{◌≡◌, ℕ, Option, Some, None, refl, sym, ◌∙◌, subst}
use Rattle.osm_base.specs.declared.content.Content.{Content}
use Rattle.osm_table.specs.declared.entry.Base.{Base}
use Rattle.osm_table.specs.declared.entry.Base.TheVariants as base
use Rattle.osm_table.specs.declared.entry.Conflict.{Conflict}
use Rattle.osm_table.specs.declared.entry.Entry.{Entry}
use Rattle.osm_table.specs.declared.entry.Entry.TheVariants.{Incomplete, Known}
use Rattle.osm_table.specs.declared.told.Told.{Told}
use Rattle.osm_table.specs.declared.told.Told.TheVariants as told
use Rattle.osm_table.specs.Told.{entry_told, told_of}
use Rattle.merge_cases.specs.declared.verdict.Verdict.{Verdict}
use Rattle.merge_cases.specs.declared.verdict.Verdict.TheVariants.{Stay, Mention, Take, Candidate}
use Rattle.merge_cases.specs.Case.{verdict_of}
use Rattle.tool_api.specs.Staged.{theirs_told}
use Rattle.job_laws.proofs.MergeRows.{SaysTold, Says, says}

pub theirs_known : (b : Base) (mine : Option Content) (f : Option Conflict) → theirs_told (told_of (Known b mine f)) ≡ b
theirs_known base.New mine f = refl
theirs_known (base.Live v c m) mine f = refl
theirs_known (base.Gone v m) mine f = refl

no_mention : (o : Option Entry) (n : ℕ) (c : Option Content) → Says Mention o n c → ⊥
no_mention None n c s = let e : Mention ≡ Take = s in cc
no_mention (Some Incomplete) n c s = let e : Mention ≡ Take = s in cc
no_mention (Some (Known b m f)) n c s = s

told_mention : (o : Option Entry) (s : Told) → SaysTold Mention o s → entry_told s ≡ Incomplete
told_mention o told.Mentioned h = refl
told_mention o (told.Live n c m) h = absurd (no_mention o n (Some c) h)
told_mention o (told.Gone n m) h = absurd (no_mention o n None h)

-- what is mentioned is Incomplete
pub mention_told : (s : Told) (o : Option Entry) (v : Verdict) → v ≡ Mention → v ≡ verdict_of o s → entry_told s ≡ Incomplete
mention_told s o v m e = told_mention o s (subst (λ (w : Verdict). SaysTold w o s) (sym e ∙ m) (says o s))

none_live : (o : Option Entry) (n : ℕ) (c : Content) → Says Candidate o n (Some c) → ⊥
none_live None n c s = let e : Candidate ≡ Take = s in cc
none_live (Some Incomplete) n c s = let e : Candidate ≡ Take = s in cc
none_live (Some (Known b m f)) n c s = let e : ◌≡◌ {A = Option Content} (Some c) None = s.1 in cc

told_going : (o : Option Entry) (s : Told) → SaysTold Candidate o s → entry_told s ≡ Known (theirs_told s) None None
told_going None told.Mentioned h = absurd (let e : Candidate ≡ Mention = h in cc)
told_going (Some x) told.Mentioned h = absurd (let e : Candidate ≡ Stay = h in cc)
told_going o (told.Live n c m) h = absurd (none_live o n c h)
told_going o (told.Gone n m) h = refl

-- a candidate is told gone
pub going_told : (s : Told) (o : Option Entry) → verdict_of o s ≡ Candidate → entry_told s ≡ Known (theirs_told s) None None
going_told s o e = told_going o s (subst (λ (w : Verdict). SaysTold w o s) e (says o s))
