use Rattle.std.proofs.Common.{◌≡◌, ◌∙◌, ap, sym, subst, List, IfOk}
use Rattle.std.specs.Option.{option_copied}
use Rattle.osm_base.specs.Tags.{Pair}
use Rattle.osm_table.specs.Told.{ToldValue}
use Rattle.download.specs.Tell.{told_of}
use Rattle.download.specs.Filter.{kept, tags_wanted}
use Rattle.download.proofs.filtering.filter.Goals as goal

pub returns-in-None : goal.returns-in-None
returns-in-None c =
    subst (λ (wanted : List Pair). IfOk c.filter_by-in-None.result (λ (told : ToldValue). told ≡ told_of (kept c.args.objects c.args.area wanted)))
    (c.new.ensures ∙ sym (ap (λ o. tags_wanted (option_copied o)) c.in-None.is))
    c.filter_by-in-None.ensures

pub returns-in-Some : goal.returns-in-Some
returns-in-Some c =
    subst (λ (wanted : List Pair). IfOk c.filter_by-in-Some.result (λ (told : ToldValue). told ≡ told_of (kept c.args.objects c.args.area wanted)))
    (sym (ap (λ o. tags_wanted (option_copied o)) c.in-Some.is))
    c.filter_by-in-Some.ensures
