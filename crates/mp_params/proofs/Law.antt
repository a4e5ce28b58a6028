-- Printed parameters are read back.
use Rattle.std.proofs.Common.{◌≡◌, ℕ, ◌≤◌, true, cond, List, [], length, pos, Option, Some, None, Ok, Err, refl, ap, ◌∙◌, arith}
use Rattle.std.specs.Prelude.{is_none, is_some, IfSome, option_map, option_and_then, unwrap_or}
use Rattle.std.specs.Fmt.{signed_decimal}
use Rattle.std.specs.List.{AllByRecursion, find, flat_map}
use Rattle.std.specs.Option.{option_map_or, option_or}
use Rattle.std.proofs.lemmas.Bool.{le-ltb}
use Rattle.mp_base.specs.Number.{micro_text}
use Rattle.mp_params.specs.declared.fault.ParamsFault.TheVariants.{Absent, TooLong}
use Rattle.mp_values.specs.declared.choice.StoreChoice.TheVariants.{Tree}
use Rattle.mp_params.specs.declared.table.Key.{Key}
use Rattle.mp_params.specs.declared.table.Key.TheVariants as key
use Rattle.mp_params.specs.Lines.{SettingValue, given, settings_of}
use Rattle.mp_params.specs.Params.{ParamsValue, IsParams}
use Rattle.mp_values.specs.Forms.{AreParts}
use Rattle.mp_params.specs.Printing.{ended_line, settings_for, print_text, value_text}
use Rattle.mp_values.specs.Texts.{number_text, sides_text, store_text}
use Rattle.mp_base.specs.Spaced.{spaced}
use Rattle.mp_params.specs.Reading.{first_absent, judged, no_sides, optional, params_of, text_for, value, values_in, values_of}
use Rattle.mp_params.specs.Table.{default_of, form_of, key_name, keys, required_keys}
use Rattle.mp_values.specs.Forms.{number_of}
use Rattle.mp_text.specs.Lines.{line_texts}
use Rattle.mp_text.specs.Chain.{◌>>=◌}
use Rattle.mp_values.specs.Values.{code_of, codes_of, columns_of, is_between, is_name, name_of, number_in, origin_of, radii_of, seed_of, shape_of, sizes_of, store_of, targets_of, version_of}
use Rattle.mp_values.proofs.Back.{code_back, code_text_is, codes_back, codes_value, columns_back, columns_value, name_back, name_value, number_back, number_text_is, origin_back, origin_value, radii_back, radii_value, seed_back, seed_value, shape_back, shape_value, sizes_back, sizes_value, store_back, store_value, targets_back, targets_value, version_back}
use Rattle.mp_params.proofs.Clean.{AllClean, AreGood, IsGood, clean_keys, settings_few, settings_spelled, lines_back, settings_back, text_few}
use Rattle.mp_params.proofs.Judged.{judged_ok}
use Rattle.mp_params.proofs.Keys.{given_known, keys_new}
use Rattle.mp_values.proofs.Spaced.{number_value}
use Rattle.mp_params.proofs.Written.{IsSettingValue}
use Rattle.mp_values.proofs.ValueTexts.{IsValueText}

number_good : (low high n : ℕ) → high ≤ 999999999 → is_between low high n ≡ true → IsValueText (number_text n) × (is_some (number_in low high (number_text n)) ≡ true)
number_good low high n small is = (number_value (number_text n) (number_text_is low high n small is), ap is_some (number_back low high n small is))

points_good : (o : Option (List ℕ)) → IfSome o (λ n. is_name n ≡ true) → IfSome o (IsGood key.Points)
points_good None is = tt
points_good (Some n) is = record { value = name_value n is; fits = is }

targets_good : (o : Option (List ℕ)) → IfSome o AreParts → IfSome (option_map (spaced number_text) o) (IsGood key.Targets)
targets_good None is = tt
targets_good (Some ns) is = record { value = targets_value ns is; fits = ap is_some (targets_back ns is) }

version_small : (n : ℕ) → n ≡ 1 → is_between 1 1 n ≡ true
version_small n is = ap (is_between 1 1) is

-- each value is printed so that it is one of its key's form
good_of : (p : ParamsValue) → IsParams p → (k : Key) → IfSome (value_text p k) (IsGood k)
good_of p is key.Version = record { value = (number_good 1 1 p.version (omega arith) (version_small p.version is.version)).0; fits = ap is_some (version_back p.version is.version) }
good_of p is key.Image = record { value = name_value p.image is.image; fits = is.image }
good_of p is key.ImageShape = record { value = shape_value p.image_shape is.image_shape; fits = ap is_some (shape_back p.image_shape is.image_shape) }
good_of p is key.ImageColumn = let g = number_good 1 64 p.image_column (omega arith) is.image_column in record { value = g.0; fits = g.1 }
good_of p is key.Categories = record { value = codes_value p.categories is.categories; fits = ap is_some (codes_back p.categories is.categories) }
good_of p is key.Missing = record { value = number_value (signed_decimal p.missing) (code_text_is p.missing is.missing); fits = ap is_some (code_back p.missing is.missing) }
good_of p is key.Grid = record { value = shape_value p.grid is.grid; fits = ap is_some (shape_back p.grid is.grid) }
good_of p is key.Origin = record { value = origin_value p.origin is.origin; fits = ap is_some (origin_back p.origin is.origin) }
good_of p is key.Size = record { value = sizes_value p.size is.size; fits = ap is_some (sizes_back p.size is.size) }
good_of p is key.Points = points_good p.points is.points
good_of p is key.PointColumns = record { value = columns_value p.point_columns is.point_columns; fits = ap is_some (columns_back p.point_columns is.point_columns) }
good_of p is key.Radii = record { value = radii_value p.radii is.radii; fits = ap is_some (radii_back p.radii is.radii) }
good_of p is key.Template = let g = number_good 1 64 p.template (omega arith) is.template in record { value = g.0; fits = g.1 }
good_of p is key.MaxData = let g = number_good 1 64 p.max_data (omega arith) is.max_data in record { value = g.0; fits = g.1 }
good_of p is key.MinReplicates = let g = number_good 1 1000000 p.min_replicates (omega arith) is.min_replicates in record { value = g.0; fits = g.1 }
good_of p is key.Levels = let g = number_good 1 8 p.levels (omega arith) is.levels in record { value = g.0; fits = g.1 }
good_of p is key.Servo = let g = number_good 0 999 p.servo (omega arith) is.servo in record { value = g.0; fits = g.1 }
good_of p is key.Targets = targets_good p.targets is.targets
good_of p is key.Seed = record { value = seed_value p.seed is.seed; fits = ap is_some (seed_back p.seed is.seed) }
good_of p is key.Realisations = let g = number_good 1 1000 p.realisations (omega arith) is.realisations in record { value = g.0; fits = g.1 }
good_of p is key.Store = record { value = store_value p.store; fits = ap is_some (store_back p.store) }
good_of p is key.Window = let g = number_good 1 256 p.window (omega arith) is.window in record { value = g.0; fits = g.1 }
good_of p is key.Output = record { value = name_value p.output is.output; fits = is.output }

-- each key's value is among the settings
record AreKnown (p : ParamsValue) (es : List SettingValue) : Type 0 where
  each : (k : Key) → given es (key_name k) ≡ value_text p k

names_back : (o : Option (List ℕ)) → IfSome o (λ n. is_name n ≡ true) → option_and_then name_of o ≡ o
names_back None is = refl
names_back (Some n) is = name_back n is

parts_back : (o : Option (List ℕ)) → IfSome o AreParts → option_and_then targets_of (option_map (spaced number_text) o) ≡ o
parts_back None is = refl
parts_back (Some ns) is = targets_back ns is

module _ (p : ParamsValue) (is : IsParams p) (es : List SettingValue) (known : AreKnown p es) where
  text_back : (k : Key) (t : List ℕ) → value_text p k ≡ Some t → text_for k es ≡ t
  text_back k t here = ap (λ o. unwrap_or (option_or o (default_of k)) []) (known.each k ∙ here)

  value_back : {X : Type 0} (none : X) (read : List ℕ → Option X) (k : Key) (t : List ℕ) (x : X) → value_text p k ≡ Some t → read t ≡ Some x → value none read k es ≡ x
  value_back none read k t x here back = ap (λ text. unwrap_or (read text) none) (text_back k t here) ∙ ap (λ o. unwrap_or o none) back

  optional_back : {X : Type 0} (read : List ℕ → Option X) (k : Key) (o : Option (List ℕ)) → value_text p k ≡ o → optional read k es ≡ option_and_then read o
  optional_back read k o here = ap (option_and_then read) (known.each k ∙ here)

  values_back : values_in es ≡ p
  unfolding values_in
  values_back = λ i. record {
    version = (value_back 0 version_of key.Version (number_text p.version) p.version refl (version_back p.version is.version)) i;
    image = (text_back key.Image p.image refl) i;
    image_shape = (value_back no_sides shape_of key.ImageShape (sides_text p.image_shape) p.image_shape refl (shape_back p.image_shape is.image_shape)) i;
    image_column = (value_back 0 (number_of (form_of key.ImageColumn)) key.ImageColumn (number_text p.image_column) p.image_column refl (number_back 1 64 p.image_column (omega arith) is.image_column)) i;
    categories = (value_back [] codes_of key.Categories (spaced signed_decimal p.categories) p.categories refl (codes_back p.categories is.categories)) i;
    missing = (value_back (pos 0) code_of key.Missing (signed_decimal p.missing) p.missing refl (code_back p.missing is.missing)) i;
    grid = (value_back no_sides shape_of key.Grid (sides_text p.grid) p.grid refl (shape_back p.grid is.grid)) i;
    origin = (value_back [] origin_of key.Origin (spaced micro_text p.origin) p.origin refl (origin_back p.origin is.origin)) i;
    size = (value_back [] sizes_of key.Size (spaced micro_text p.size) p.size refl (sizes_back p.size is.size)) i;
    points = (optional_back name_of key.Points p.points refl ∙ names_back p.points is.points) i;
    point_columns = (value_back [] columns_of key.PointColumns (spaced number_text p.point_columns) p.point_columns refl (columns_back p.point_columns is.point_columns)) i;
    radii = (value_back [] radii_of key.Radii (spaced number_text p.radii) p.radii refl (radii_back p.radii is.radii)) i;
    template = (value_back 0 (number_of (form_of key.Template)) key.Template (number_text p.template) p.template refl (number_back 1 64 p.template (omega arith) is.template)) i;
    max_data = (value_back 0 (number_of (form_of key.MaxData)) key.MaxData (number_text p.max_data) p.max_data refl (number_back 1 64 p.max_data (omega arith) is.max_data)) i;
    min_replicates = (value_back 0 (number_of (form_of key.MinReplicates)) key.MinReplicates (number_text p.min_replicates) p.min_replicates refl (number_back 1 1000000 p.min_replicates (omega arith) is.min_replicates)) i;
    levels = (value_back 0 (number_of (form_of key.Levels)) key.Levels (number_text p.levels) p.levels refl (number_back 1 8 p.levels (omega arith) is.levels)) i;
    servo = (value_back 0 (number_of (form_of key.Servo)) key.Servo (number_text p.servo) p.servo refl (number_back 0 999 p.servo (omega arith) is.servo)) i;
    targets = (optional_back targets_of key.Targets (option_map (spaced number_text) p.targets) refl ∙ parts_back p.targets is.targets) i;
    seed = (value_back 0 seed_of key.Seed (number_text p.seed) p.seed refl (seed_back p.seed is.seed)) i;
    realisations = (value_back 0 (number_of (form_of key.Realisations)) key.Realisations (number_text p.realisations) p.realisations refl (number_back 1 1000 p.realisations (omega arith) is.realisations)) i;
    store = (value_back Tree store_of key.Store (store_text p.store) p.store refl (store_back p.store)) i;
    window = (value_back 0 (number_of (form_of key.Window)) key.Window (number_text p.window) p.window refl (number_back 1 256 p.window (omega arith) is.window)) i;
    output = (text_back key.Output p.output refl) i;
  }

  -- no required key is absent
  none_absent : first_absent es ≡ None
  none_absent = λ i. find (λ k. is_none (known.each k i)) required_keys

  said : values_of es ≡ Ok p
  unfolding values_of
  said = ap (λ o. option_map_or (λ k. Err (Absent k)) o (judged (values_in es))) none_absent ∙ ap judged values_back ∙ judged_ok p is.missing_apart is.targets_right

-- the text of parameters is accepted, with the same parameters
pub reads_back : (p : ParamsValue) → IsParams p → params_of (print_text p) ≡ Ok p
unfolding params_of print_text
reads_back p is =
    let es : List SettingValue = settings_for p keys in
    let good : AreGood p = record { each = good_of p is } in
    let spelled : AllByRecursion IsSettingValue es = settings_spelled p good keys in
    let clean : AllClean [] es = clean_keys p good [] keys keys_new in
    let few : length (flat_map ended_line es) ≤ 65536 = omega (arith, text_few es spelled, settings_few p keys) in
    let settings : settings_of (line_texts (flat_map ended_line es)) ≡ Ok es = ap settings_of (lines_back es spelled) ∙ settings_back es spelled clean in
    let known : AreKnown p es = record { each = given_known p } in
    ap (λ b. cond b (Err TooLong) (settings_of (line_texts (flat_map ended_line es)) >>= values_of)) (le-ltb 65536 (length (flat_map ended_line es)) few) ∙ ap (λ r. r >>= values_of) settings ∙ said p is es known
