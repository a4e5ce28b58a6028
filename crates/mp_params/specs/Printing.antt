-- The text of parameters.
use Rattle.std.specs.Prelude.{ℕ, List, [], ◌∷◌, ◌++◌, Option, Some, option_map, codes}
use Rattle.std.specs.Fmt.{signed_decimal}
use Rattle.std.specs.List.{filter_map, flat_map}
use Rattle.mp_base.specs.Number.{micro_text}
use Rattle.mp_base.specs.Spaced.{spaced}
use Rattle.mp_values.specs.Texts.{number_text, sides_text, store_text}
use Rattle.mp_params.specs.declared.table.Key.{Key}
use Rattle.mp_params.specs.declared.table.Key.TheVariants as key
use Rattle.mp_params.specs.Lines.{SettingValue}
use Rattle.mp_params.specs.Params.{ParamsValue}
use Rattle.mp_params.specs.Table.{key_name, keys}

-- the text of a key's value, if it has one
abbrev pub value_text : ParamsValue → Key → Option (List ℕ)
value_text p key.Version = Some (number_text p.version)
value_text p key.Image = Some p.image
value_text p key.ImageShape = Some (sides_text p.image_shape)
value_text p key.ImageColumn = Some (number_text p.image_column)
value_text p key.Categories = Some (spaced signed_decimal p.categories)
value_text p key.Missing = Some (signed_decimal p.missing)
value_text p key.Grid = Some (sides_text p.grid)
value_text p key.Origin = Some (spaced micro_text p.origin)
value_text p key.Size = Some (spaced micro_text p.size)
value_text p key.Points = p.points
value_text p key.PointColumns = Some (spaced number_text p.point_columns)
value_text p key.Radii = Some (spaced number_text p.radii)
value_text p key.Template = Some (number_text p.template)
value_text p key.MaxData = Some (number_text p.max_data)
value_text p key.MinReplicates = Some (number_text p.min_replicates)
value_text p key.Levels = Some (number_text p.levels)
value_text p key.Servo = Some (number_text p.servo)
value_text p key.Targets = option_map (spaced number_text) p.targets
value_text p key.Seed = Some (number_text p.seed)
value_text p key.Realisations = Some (number_text p.realisations)
value_text p key.Store = Some (store_text p.store)
value_text p key.Window = Some (number_text p.window)
value_text p key.Output = Some p.output

-- the setting of a key, if it has a value
abbrev pub setting_for : ParamsValue → Key → Option SettingValue
setting_for p k = option_map (λ t. record { name = key_name k; text = t }) (value_text p k)

-- the settings that are printed
abbrev pub settings_for : ParamsValue → List Key → List SettingValue
settings_for p keys = filter_map (setting_for p) keys

-- a key, ` = ` and a value
abbrev pub line_text : SettingValue → List ℕ
line_text e = e.name ++ (codes " = " ++ e.text)

-- the same with the line's end
abbrev pub ended_line : SettingValue → List ℕ
ended_line e = line_text e ++ (10 ∷ [])

-- the lines of these keys
abbrev pub lines_text : ParamsValue → List Key → List ℕ
lines_text p keys = flat_map ended_line (settings_for p keys)

-- the text of parameters: the lines of all keys, in the order of the table
unfoldable pub print_text : ParamsValue → List ℕ
print_text p = lines_text p keys
