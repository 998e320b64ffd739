-- A query as its contracts see it.
use Rattle.map_search.specs.declared.query.Form.{Form}
use Rattle.map_search.specs.declared.query.Form.TheVariants as form
use Rattle.map_search.specs.Query.{QueryValue, OfKind, Tag, IsNew, IsChanged, IsDeleted, IsIncomplete, HasConflict, Child, Parent, Not, And, Or}

abbrev pub seen : Form → QueryValue
seen (form.OfKind kind) = OfKind kind
seen (form.Tag key value) = Tag key value
seen form.IsNew = IsNew
seen form.IsChanged = IsChanged
seen form.IsDeleted = IsDeleted
seen form.IsIncomplete = IsIncomplete
seen form.HasConflict = HasConflict
seen (form.Child q) = Child q.value
seen (form.Parent q) = Parent q.value
seen (form.Not q) = Not q.value
seen (form.And a b) = And a.value b.value
seen (form.Or a b) = Or a.value b.value
