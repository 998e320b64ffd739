-- What is asked of an object of a table.
use Rattle.std.specs.Prelude.{ℕ, suc, max, List, Option}
use Rattle.osm_base.specs.declared.key.Kind.{Kind}

pub data QueryValue : Type 0 where
  -- its kind
  OfKind : (kind : Kind) → QueryValue
  -- a tag with that key, and with that value or any
  Tag : (key : List ℕ) → (value : Option (List ℕ)) → QueryValue
  -- its state
  IsNew : QueryValue
  IsChanged : QueryValue
  IsDeleted : QueryValue
  IsIncomplete : QueryValue
  HasConflict : QueryValue
  -- that one which meets the query refers to it
  Child : (of : QueryValue) → QueryValue
  -- that it refers to one which meets the query
  Parent : (of : QueryValue) → QueryValue
  -- that it doesn't meet the query
  Not : (of : QueryValue) → QueryValue
  -- that it meets both
  And : (left right : QueryValue) → QueryValue
  -- that it meets one of both
  Or : (left right : QueryValue) → QueryValue

-- how many levels a query has
abbrev pub depth : QueryValue → ℕ
depth (Child q) = suc (depth q)
depth (Parent q) = suc (depth q)
depth (Not q) = suc (depth q)
depth (And a b) = suc (max (depth a) (depth b))
depth (Or a b) = suc (max (depth a) (depth b))
depth q = 1
