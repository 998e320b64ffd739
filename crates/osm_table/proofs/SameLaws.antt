-- Each test of equality decides equality.
use Rattle.std.proofs.Common.{◌≡◌, ℕ, ◌==◌, ◌&&◌, Option, Some, None, refl, ap, Decides}
use Rattle.std.specs.Cmp.{unsigned_Decides}
use Rattle.std.proofs.lemmas.Bool.Decides.{Decides-and, Decides-like}
use Rattle.osm_base.specs.Same.{same_content, same_meta}
use Rattle.osm_base.proofs.SameLaws.{never, same_content_decides, same_meta_decides}
use Rattle.osm_base.specs.declared.content.Content.{Content}
use Rattle.osm_base.specs.declared.meta.Meta.{Meta}
use Rattle.osm_table.specs.declared.entry.Base.{Base}
use Rattle.osm_table.specs.declared.entry.Base.TheVariants.{New, Live, Gone}
use Rattle.osm_table.specs.declared.entry.Why.{Why}
use Rattle.osm_table.specs.declared.entry.Why.TheVariants.{Changed, Held, Withdrawn}
use Rattle.osm_table.specs.declared.entry.Conflict.{Conflict}
use Rattle.osm_table.specs.declared.entry.Entry.{Entry}
use Rattle.osm_table.specs.declared.entry.Entry.TheVariants.{Incomplete, Known}
use Rattle.osm_table.specs.Same.{same_base, same_why, same_conflict, same_conflicts, same_mine, same_entry}

live_decides : (v w : ℕ) (c d : Content) (m n : Meta) → Decides (v == w && same_content c d && same_meta m n) (Live v c m ≡ Live w d n)
live_decides v w c d m n =
    Decides-like (v == w && same_content c d && same_meta m n) (λ h i. Live (h.0.0 i) (h.0.1 i) (h.1 i)) (λ e. ((cc, cc), cc))
    (Decides-and (v == w && same_content c d) (same_meta m n) (Decides-and (v == w) (same_content c d) (unsigned_Decides v w) (same_content_decides c d)) (same_meta_decides m n))

gone_decides : (v w : ℕ) (m n : Meta) → Decides (v == w && same_meta m n) (Gone v m ≡ Gone w n)
gone_decides v w m n =
    Decides-like (v == w && same_meta m n) (λ h i. Gone (h.0 i) (h.1 i)) (λ e. (cc, cc))
    (Decides-and (v == w) (same_meta m n) (unsigned_Decides v w) (same_meta_decides m n))

pub same_base_decides : (a b : Base) → Decides (same_base a b) (a ≡ b)
same_base_decides New New = (λ h. refl, λ e. refl)
same_base_decides New (Live w d n) = never (λ e. cc)
same_base_decides New (Gone w n) = never (λ e. cc)
same_base_decides (Live v c m) New = never (λ e. cc)
same_base_decides (Live v c m) (Live w d n) = live_decides v w c d m n
same_base_decides (Live v c m) (Gone w n) = never (λ e. cc)
same_base_decides (Gone v m) New = never (λ e. cc)
same_base_decides (Gone v m) (Live w d n) = never (λ e. cc)
same_base_decides (Gone v m) (Gone w n) = gone_decides v w m n

pub same_why_decides : (a b : Why) → Decides (same_why a b) (a ≡ b)
same_why_decides Changed Changed = (λ h. refl, λ e. refl)
same_why_decides Changed Held = never (λ e. cc)
same_why_decides Changed Withdrawn = never (λ e. cc)
same_why_decides Held Changed = never (λ e. cc)
same_why_decides Held Held = (λ h. refl, λ e. refl)
same_why_decides Held Withdrawn = never (λ e. cc)
same_why_decides Withdrawn Changed = never (λ e. cc)
same_why_decides Withdrawn Held = never (λ e. cc)
same_why_decides Withdrawn Withdrawn = (λ h. refl, λ e. refl)

conflict_as : (a b : Conflict) → (a.why ≡ b.why) × (a.theirs ≡ b.theirs) → a ≡ b
conflict_as a b h i = record { why = h.0 i; theirs = h.1 i }

pub same_conflict_decides : (a b : Conflict) → Decides (same_conflict a b) (a ≡ b)
same_conflict_decides a b =
    Decides-like (same_conflict a b) (conflict_as a b) (λ e. (ap (λ (c : Conflict). c.why) e, ap (λ (c : Conflict). c.theirs) e))
    (Decides-and (same_why a.why b.why) (same_base a.theirs b.theirs) (same_why_decides a.why b.why) (same_base_decides a.theirs b.theirs))

pub same_conflicts_decides : (a b : Option Conflict) → Decides (same_conflicts a b) (a ≡ b)
same_conflicts_decides None None = (λ h. refl, λ e. refl)
same_conflicts_decides None (Some b) = never (λ e. cc)
same_conflicts_decides (Some a) None = never (λ e. cc)
same_conflicts_decides (Some a) (Some b) = Decides-like (same_conflict a b) (λ e. ap Some e) (λ e. cc) (same_conflict_decides a b)

pub same_mine_decides : (a b : Option Content) → Decides (same_mine a b) (a ≡ b)
same_mine_decides None None = (λ h. refl, λ e. refl)
same_mine_decides None (Some b) = never (λ e. cc)
same_mine_decides (Some a) None = never (λ e. cc)
same_mine_decides (Some a) (Some b) = Decides-like (same_content a b) (λ e. ap Some e) (λ e. cc) (same_content_decides a b)

known_decides : (a b : Base) (m n : Option Content) (c d : Option Conflict) → Decides (same_base a b && same_mine m n && same_conflicts c d) (Known a m c ≡ Known b n d)
known_decides a b m n c d =
    Decides-like (same_base a b && same_mine m n && same_conflicts c d) (λ h i. Known (h.0.0 i) (h.0.1 i) (h.1 i)) (λ e. ((cc, cc), cc))
    (Decides-and (same_base a b && same_mine m n) (same_conflicts c d) (Decides-and (same_base a b) (same_mine m n) (same_base_decides a b) (same_mine_decides m n)) (same_conflicts_decides c d))

pub same_entry_decides : (a b : Entry) → Decides (same_entry a b) (a ≡ b)
same_entry_decides Incomplete Incomplete = (λ h. refl, λ e. refl)
same_entry_decides Incomplete (Known b n d) = never (λ e. cc)
same_entry_decides (Known a m c) Incomplete = never (λ e. cc)
same_entry_decides (Known a m c) (Known b n d) = known_decides a b m n c d
