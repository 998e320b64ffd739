use Rattle.std.proofs.Common.{◌≡◌, is_some, subst}
use Rattle.std.specs.List.{list_any, IsDistinct}
use Rattle.osm_base.specs.KeyEq.{eq}
use Rattle.osm_base.specs.Rank.{is_key}
use Rattle.osm_table.specs.Told.{ToldValue, told_at}
use Rattle.osm_table.proofs.ToldLaws.{order_any}
use Rattle.osm_table.proofs.told_map.ToldMap.sound.Goals as goal

pub returns-clause-each : goal.returns-clause-each
returns-clause-each c key = subst (λ (m : ToldValue). list_any (is_key key) m.order ≡ is_some (told_at m key)) c.self.view_is (order_any c.self.inside.entries key)

pub returns-clause-once : goal.returns-clause-once
returns-clause-once c = subst (λ (m : ToldValue). IsDistinct eq m.order) c.self.view_is c.self.invariant.2
