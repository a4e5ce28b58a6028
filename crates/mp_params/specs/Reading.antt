-- What a parameter file says, or why it is refused.
use Rattle.std.specs.Prelude.{ℕ, nat_lt, List, [], length, pos, Option, is_none, Result, Ok, Err, unwrap_or, option_and_then, if◌then◌else◌}
use Rattle.std.specs.List.{find}
use Rattle.std.specs.Option.{option_or, option_map_or}
use Rattle.mp_base.specs.Grid.{Sides}
use Rattle.mp_text.specs.Chain.{◌>>=◌}
use Rattle.mp_text.specs.Lines.{line_texts}
use Rattle.mp_values.specs.Forms.{number_of}
use Rattle.mp_values.specs.Values.{name_of, shape_of, code_of, codes_of, origin_of, sizes_of, columns_of, radii_of, targets_of, seed_of, store_of, version_of, is_code}
use Rattle.mp_values.specs.declared.choice.StoreChoice.TheVariants.{Tree}
use Rattle.mp_params.specs.declared.fault.ParamsFault.{ParamsFault}
use Rattle.mp_params.specs.declared.fault.ParamsFault.TheVariants.{TooLong, Absent, BadMissing, BadTargets}
use Rattle.mp_params.specs.declared.table.Key.{Key}
use Rattle.mp_params.specs.declared.table.Key.TheVariants as key
use Rattle.mp_params.specs.Lines.{SettingValue, given, settings_of}
use Rattle.mp_params.specs.Params.{ParamsValue, targets_fit}
use Rattle.mp_params.specs.Table.{key_name, default_of, form_of, required_keys}

-- the first of the required keys, in their order, that no line has
abbrev pub first_absent : List SettingValue → Option Key
first_absent settings = find (λ k. is_none (given settings (key_name k))) required_keys

-- the text of a key's value: what a line gives, or else the default; no byte where there is neither
abbrev pub text_for : Key → List SettingValue → List ℕ
text_for k settings = unwrap_or (option_or (given settings (key_name k)) (default_of k)) []

-- the value of a key, by what is read of its text; `none` would stand where nothing is read, which is never so for a text that has the key's form
abbrev pub value : {X : Type 0} → X → (List ℕ → Option X) → Key → List SettingValue → X
value none read k settings = unwrap_or (read (text_for k settings)) none

-- the number of a key, by the form of its value
abbrev pub number : Key → List SettingValue → ℕ
number k settings = value 0 (number_of (form_of k)) k settings

-- the value of a key that needs none
abbrev pub optional : {X : Type 0} → (List ℕ → Option X) → Key → List SettingValue → Option X
optional read k settings = option_and_then read (given settings (key_name k))

abbrev pub no_sides : Sides
no_sides = record { nx = 0; ny = 0; nz = 0 }

-- the values of all keys
unfoldable pub values_in : List SettingValue → ParamsValue
values_in settings = record {
  version = value 0 version_of key.Version settings;
  image = text_for key.Image settings;
  image_shape = value no_sides shape_of key.ImageShape settings;
  image_column = number key.ImageColumn settings;
  categories = value [] codes_of key.Categories settings;
  missing = value (pos 0) code_of key.Missing settings;
  grid = value no_sides shape_of key.Grid settings;
  origin = value [] origin_of key.Origin settings;
  size = value [] sizes_of key.Size settings;
  points = optional name_of key.Points settings;
  point_columns = value [] columns_of key.PointColumns settings;
  radii = value [] radii_of key.Radii settings;
  template = number key.Template settings;
  max_data = number key.MaxData settings;
  min_replicates = number key.MinReplicates settings;
  levels = number key.Levels settings;
  servo = number key.Servo settings;
  targets = optional targets_of key.Targets settings;
  seed = value 0 seed_of key.Seed settings;
  realisations = number key.Realisations settings;
  store = value Tree store_of key.Store settings;
  window = number key.Window settings;
  output = text_for key.Output settings;
}

-- the missing code is judged before the targets
abbrev pub judged : ParamsValue → Result ParamsValue ParamsFault
judged p = if is_code p.missing p.categories then Err BadMissing else if targets_fit p.targets p.categories then Ok p else Err BadTargets

-- what the settings of a file say
unfoldable pub values_of : List SettingValue → Result ParamsValue ParamsFault
values_of settings = option_map_or (λ k. Err (Absent k)) (first_absent settings) (judged (values_in settings))

-- the parameters of a file, or its fault
unfoldable pub params_of : List ℕ → Result ParamsValue ParamsFault
params_of file = if nat_lt 65536 (length file) then Err TooLong else settings_of (line_texts file) >>= values_of
