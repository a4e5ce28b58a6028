-- The forms of values, and what holds of the values that a form allows.
use Rattle.std.specs.Prelude.{◌≡◌, ◌≤◌, ℕ, Bool, true, List, length, ℤ, Option, None, is_some}
use Rattle.std.specs.List.{list_all}
use Rattle.mp_values.specs.declared.form.Form.{Form}
use Rattle.mp_values.specs.declared.form.Form.TheVariants as form
use Rattle.mp_values.specs.Values.{are_codes, are_columns, is_between, is_coordinate, is_name, is_number, shape_of, number_in, code_of, codes_of, origin_of, sizes_of, columns_of, radii_of, targets_of, seed_of, store_of, version_of}

-- a number of the form
abbrev pub number_of : Form → List ℕ → Option ℕ
number_of (form.Number low high) text = number_in low high text
number_of f text = None

-- a number that is one of the form
abbrev pub is_number_of : Form → ℕ → Bool
is_number_of (form.Number low high) n = is_between low high n
is_number_of f n = true

-- a text is a value of the form
abbrev pub fits : Form → List ℕ → Bool
fits form.Version text = is_some (version_of text)
fits form.Name text = is_name text
fits form.Shape text = is_some (shape_of text)
fits (form.Number low high) text = is_some (number_in low high text)
fits form.Codes text = is_some (codes_of text)
fits form.Code text = is_some (code_of text)
fits form.Origin text = is_some (origin_of text)
fits form.Sizes text = is_some (sizes_of text)
fits form.Columns text = is_some (columns_of text)
fits form.Radii text = is_some (radii_of text)
fits form.Targets text = is_some (targets_of text)
fits form.Seed text = is_some (seed_of text)
fits form.Store text = is_some (store_of text)

-- one to eight codes, no two of them equal
pub record AreCategories (cs : List ℤ) : Type 0 where
  pub codes : are_codes cs ≡ true
  pub numbers : list_all is_number cs ≡ true
  pub few : length cs ≤ 8

-- three coordinates
pub record IsOrigin (zs : List ℤ) : Type 0 where
  pub three : length zs ≡ 3
  pub coordinates : list_all is_coordinate zs ≡ true

-- three radii
pub record AreRadii (ns : List ℕ) : Type 0 where
  pub three : length ns ≡ 3
  pub between : list_all (is_between 0 64) ns ≡ true

-- four columns, the last of which isn't 0
pub record AreColumns (ns : List ℕ) : Type 0 where
  pub columns : are_columns ns ≡ true
  pub between : list_all (is_between 0 64) ns ≡ true

-- one to eight parts of a million
pub record AreParts (ns : List ℕ) : Type 0 where
  pub some : 1 ≤ length ns
  pub few : length ns ≤ 8
  pub between : list_all (is_between 0 1000000) ns ≡ true
