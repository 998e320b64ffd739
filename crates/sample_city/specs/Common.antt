-- What the code keeps once for all objects of the city.
use Rattle.std.specs.Prelude.{[], codes}
use Rattle.sample_city.specs.City.{city_meta}
use Rattle.sample_city.specs.declared.city.Common.{Common}

abbrev pub in_common : Common
in_common = record {
  meta = city_meta;
  highway = codes "highway";
  residential = codes "residential";
  name = codes "name";
  number = codes "ref";
  kind = codes "type";
  route = codes "route";
  no_role = [];
}
