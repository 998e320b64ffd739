use Rattle.std.proofs.Common.{rules, ◌≡◌, ◌∙◌, ◌+◌, ◌-◌, ◌++◌, ◌∷◌, [], pos, arith, ap, sym}
use Rattle.sample_city.specs.City.{ten_from}
use Rattle.sample_city.proofs.Rows.{id_end, id_more, ids}
use Rattle.sample_city.proofs.city.ten_from.Goals as goal

pub loop-id-preserved : goal.loop-id-preserved
loop-id-preserved c =
    let pushed : c.push.new.self.items ≡ c.loop-id.ids.items ++ pos c.loop-id.id ∷ [] = search rules in
    record {
      low = omega arith;
      high = omega arith;
      left = ap (λ xs. xs ++ ids (c.loop-id.id + 1) (c.args.first + 10 - (c.loop-id.id + 1))) pushed
          ∙ id_more c.loop-id.id (c.args.first + 10) c.loop-id.ids.items (omega arith)
          ∙ c.loop-id.invariant.left;
    }

pub returns : goal.returns
unfolding ten_from
returns c =
    let ten : c.args.first + 10 - c.args.first ≡ 10 = omega arith in
    sym (id_end c.loop-id.id (c.args.first + 10) c.loop-id.ids.items (omega arith)) ∙ c.loop-id.invariant.left ∙ ap (ids c.args.first) ten
