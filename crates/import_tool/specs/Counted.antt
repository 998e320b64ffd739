-- The new objects of a file that was read to be imported.
--
-- For example of a file with n-1, a deleted n-2, w5 and w-3 they are n-1 and w-3. What has a positive id, or is
-- deleted, is read and passed over.
use Rattle.std.specs.Prelude.{List, Option, None, if◌then◌else◌}
use Rattle.std.specs.List.{filter_map}
use Rattle.std.specs.Option.{option_map}
use Rattle.opl_line.specs.declared.object.OplObject.{OplObject}
use Rattle.tool_api.specs.declared.new_objects.NewObject.{NewObject}
use Rattle.tool_api.specs.Import.{is_negative}

-- an object of the file as a new one, where its id is negative and it isn't deleted
abbrev pub new_object : OplObject → Option NewObject
new_object o = if is_negative o.key.id then option_map (λ c. record { key = o.key; content = c }) o.side else None

-- The new objects, in the order of the file.
abbrev pub new_objects_of : List OplObject → List NewObject
new_objects_of objects = filter_map new_object objects
