-- Settings whose texts have the forms of their keys, and that have a text for each key that has a value.
use Rattle.std.specs.Prelude.{◌≡◌, Bool, true, false, ◌&&◌, ◌||◌, List, Some, is_none, is_some}
use Rattle.mp_values.specs.Forms.{fits}
use Rattle.mp_values.specs.declared.form.Form.{Form}
use Rattle.mp_values.specs.declared.form.Form.TheVariants as form
use Rattle.mp_params.specs.declared.table.Key.{Key}
use Rattle.mp_params.specs.Lines.{SettingValue, given}
use Rattle.mp_params.specs.Reading.{text_for}
use Rattle.mp_params.specs.Table.{default_of, form_of, key_name, key_of, row_of}

-- the text has the form of the key of this name
pub record IsRead (e : SettingValue) : Type 0 where
  pub fits_key : (k : Key) → key_of e.name ≡ Some k → fits (form_of k) e.text ≡ true

-- a key that every file has a value for
abbrev pub has_value : Key → Bool
has_value k = (row_of k).is_required || is_some (default_of k)

pub record IsWhole (settings : List SettingValue) : Type 0 where
  pub each : (k : Key) → has_value k ≡ true → fits (form_of k) (text_for k settings) ≡ true

abbrev pub is_number_form : Form → Bool
is_number_form (form.Number low high) = true
is_number_form f = false

-- a key is required, and no line has it
abbrev pub is_absent : List SettingValue → Key → Bool
is_absent settings k = (row_of k).is_required && is_none (given settings (key_name k))
