use Rattle.std.proofs.Common.{◌≡◌}
use Rattle.std.proofs.lemmas.Bool.Decides.{same_from_decides}
use Rattle.osm_base.specs.Same.{same_members}
use Rattle.osm_base.proofs.SameLaws.{same_members_decides}
use Rattle.osm_base.proofs.members.Members.same.Goals as goal

pub returns-clause-value : goal.returns-clause-value
returns-clause-value c =
    let a : c.as_slice.result.now ≡ c.args.self.now = cc in
    let b : c.as_slice-2.result.now ≡ c.args.other.now = cc in
    same_from_decides c.same_items.result (same_members c.args.self.now c.args.other.now) (rw (a, b) at c.same_items.ensures) (same_members_decides c.args.self.now c.args.other.now)
