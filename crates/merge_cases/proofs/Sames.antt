-- The tests of picks, of values of tags and of kinds decide equality.
use Rattle.std.proofs.Common.{◌≡◌, ℕ, List, Option, Some, None, refl, ap, Decides}
use Rattle.std.proofs.lemmas.Bool.Decides.{Decides-like}
use Rattle.std.proofs.lemmas.Option.{same_Some}
use Rattle.osm_base.specs.Content.{kind_of_content}
use Rattle.osm_base.specs.Same.{same_text}
use Rattle.osm_base.specs.declared.content.Content.{Content}
use Rattle.osm_base.specs.declared.content.Content.TheVariants.{Node, Way, Relation}
use Rattle.osm_base.proofs.SameLaws.{never, same_text_decides}
use Rattle.merge_cases.specs.declared.pick.Pick.{Pick}
use Rattle.merge_cases.specs.declared.pick.Pick.TheVariants.{Mine, Theirs, Clash}
use Rattle.merge_cases.specs.Join.{same_kind, same_pick, same_value}

pub same_pick_decides : (a b : Pick) → Decides (same_pick a b) (a ≡ b)
same_pick_decides Mine Mine = (λ h. refl, λ e. refl)
same_pick_decides Mine Theirs = never (λ e. cc)
same_pick_decides Mine Clash = never (λ e. cc)
same_pick_decides Theirs Mine = never (λ e. cc)
same_pick_decides Theirs Theirs = (λ h. refl, λ e. refl)
same_pick_decides Theirs Clash = never (λ e. cc)
same_pick_decides Clash Mine = never (λ e. cc)
same_pick_decides Clash Theirs = never (λ e. cc)
same_pick_decides Clash Clash = (λ h. refl, λ e. refl)

pub same_value_decides : (a b : Option (List ℕ)) → Decides (same_value a b) (a ≡ b)
same_value_decides None None = (λ h. refl, λ e. refl)
same_value_decides None (Some b) = never (λ e. cc)
same_value_decides (Some a) None = never (λ e. cc)
same_value_decides (Some a) (Some b) = Decides-like (same_text a b) (ap Some) (same_Some a b) (same_text_decides a b)

pub same_kind_decides : (a b : Content) → Decides (same_kind a b) (kind_of_content a ≡ kind_of_content b)
same_kind_decides (Node tags at) (Node others there) = (λ h. refl, λ e. refl)
same_kind_decides (Node tags at) (Way others refs) = never (λ e. cc)
same_kind_decides (Node tags at) (Relation others members) = never (λ e. cc)
same_kind_decides (Way tags refs) (Node others there) = never (λ e. cc)
same_kind_decides (Way tags refs) (Way others theirs) = (λ h. refl, λ e. refl)
same_kind_decides (Way tags refs) (Relation others members) = never (λ e. cc)
same_kind_decides (Relation tags members) (Node others there) = never (λ e. cc)
same_kind_decides (Relation tags members) (Way others refs) = never (λ e. cc)
same_kind_decides (Relation tags members) (Relation others theirs) = (λ h. refl, λ e. refl)
