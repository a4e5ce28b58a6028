-- The parameters of the program as values.
use Rattle.mp_params.specs.declared.params.Params.TheInside.{Inside}
use Rattle.mp_params.specs.Params.{ParamsValue, IsParams}

abbrev pub values_in : Inside → ParamsValue
values_in p = record {
  version = p.version;
  image = p.image;
  image_shape = p.image_shape;
  image_column = p.image_column;
  categories = p.categories;
  missing = p.missing;
  grid = p.grid;
  origin = p.origin;
  size = p.size;
  points = p.points;
  point_columns = p.point_columns;
  radii = p.radii;
  template = p.template;
  max_data = p.max_data;
  min_replicates = p.min_replicates;
  levels = p.levels;
  servo = p.servo;
  targets = p.targets;
  seed = p.seed;
  realisations = p.realisations;
  store = p.store;
  window = p.window;
  output = p.output;
}

abbrev pub AreParams : Inside → Type 0
AreParams p = IsParams (values_in p)
