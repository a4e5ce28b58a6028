-- What stands in the lines of a parameter file, and the first fault of a line.
use Rattle.std.specs.Prelude.{◌≡◌, ℕ, ◌+◌, Bool, ◌&&◌, ◌||◌, ◌==◌, nat_le, List, [], length, take, Option, Some, None, Result, Ok, Err, is_some, option_map, if◌then◌else◌, slice_index_or}
use Rattle.std.specs.List.{before_first, after_first, filter_map, find, list_all, list_any, range_with_len, slice_get}
use Rattle.std.specs.Str.{bytes_eq}
use Rattle.mp_params.specs.declared.fault.ParamsFault.{ParamsFault}
use Rattle.mp_params.specs.declared.fault.ParamsFault.TheVariants.{BadLine, UnknownKey, Twice, BadValue}
use Rattle.mp_params.specs.declared.fault.ParamsError.{ParamsError}
use Rattle.mp_params.specs.declared.fault.ParamsError.TheVariants.{Fault, NoMemory}
use Rattle.mp_params.specs.declared.table.Key.{Key}
use Rattle.mp_values.specs.Forms.{fits}
use Rattle.mp_params.specs.Table.{form_of, key_of}
use Rattle.mp_text.specs.Fields.{is_skipped, trimmed}
use Rattle.mp_values.specs.Values.{is_line_byte}

-- what a function returned, seen by view, is what reading gives, unless memory ran out
abbrev pub Fails : {Y : Type 0} → ParamsError → Result Y ParamsFault → Type 0
Fails NoMemory read = Unit {0}
Fails (Fault f) read = read ≡ Err f

abbrev pub Gives : {X Y : Type 0} → (X → Y) → Result X ParamsError → Result Y ParamsFault → Type 0
Gives view (Ok x) read = read ≡ Ok (view x)
Gives view (Err e) read = Fails e read

-- the name of a key, and the text of a value
pub record SettingValue : Type 0 where
  pub name : List ℕ
  pub text : List ℕ

-- `=`
abbrev pub is_equals : ℕ → Bool
is_equals b = b == 61

-- what stands before the first `=` and after it, without the blanks at the ends
abbrev pub name_and_text : List ℕ → SettingValue
name_and_text line = record { name = trimmed (before_first is_equals line); text = trimmed (after_first is_equals line) }

unfoldable pub setting_of : List ℕ → Option SettingValue
setting_of line = if is_skipped line then None else Some (name_and_text line)

abbrev pub settings_in : List (List ℕ) → List SettingValue
settings_in lines = filter_map setting_of lines

-- the text of the first setting with a name
abbrev pub given : List SettingValue → List ℕ → Option (List ℕ)
given settings name = option_map (λ e. e.text) (find (λ e. bytes_eq e.name name) settings)

-- `a` to `z` or `_`
abbrev pub is_key_byte : ℕ → Bool
is_key_byte b = (nat_le 97 b && nat_le b 122) || b == 95

abbrev pub is_key_text : List ℕ → Bool
is_key_text text = nat_le 1 (length text) && list_all is_key_byte text

-- bytes that a line may hold, with a `=` behind what a key may look like
abbrev pub is_setting : List ℕ → Bool
is_setting line = (list_all is_line_byte line && list_any is_equals line) && is_key_text (name_and_text line).name

-- the fault of a setting, behind others, that has this key
abbrev pub key_fault : ℕ → List SettingValue → SettingValue → Option Key → Option ParamsFault
key_fault n earlier e None = Some (UnknownKey n)
key_fault n earlier e (Some key) = if is_some (given earlier e.name) then Some (Twice n) else if fits (form_of key) e.text then None else Some (BadValue n)

-- the fault of line n, behind lines with these settings
unfoldable pub line_fault : ℕ → List SettingValue → List ℕ → Option ParamsFault
line_fault n earlier line =
    if is_skipped line then None else if is_setting line then key_fault n earlier (name_and_text line) (key_of (name_and_text line).name) else Some (BadLine n)

-- the fault of the line at an index
abbrev pub fault_at : List (List ℕ) → ℕ → Option ParamsFault
fault_at lines i = line_fault (i + 1) (settings_in (take i lines)) (slice_index_or lines i [])

-- the fault of the first line that has one
abbrev pub first_fault : List (List ℕ) → Option ParamsFault
first_fault lines = slice_get (filter_map (fault_at lines) (range_with_len 0 (length lines))) 0

-- a value, unless there is a fault
abbrev pub unless : {X : Type 0} → Option ParamsFault → X → Result X ParamsFault
unless None x = Ok x
unless (Some f) x = Err f

-- the settings of the lines, or the first fault
unfoldable pub settings_of : List (List ℕ) → Result (List SettingValue) ParamsFault
settings_of lines = unless (first_fault lines) (settings_in lines)
