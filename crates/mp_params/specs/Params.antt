-- The parameters of a simulation as values, and what holds of them.
use Rattle.std.specs.Prelude.{◌≡◌, ℕ, ◌^◌, ◌<◌, Bool, true, false, ◌&&◌, ◌==◌, List, length, ℤ, Option, Some, None, IfSome, sum}
use Rattle.mp_base.specs.Grid.{Sides, IsShape}
use Rattle.mp_values.specs.Forms.{AreCategories, AreColumns, AreParts, AreRadii, IsOrigin}
use Rattle.mp_values.specs.declared.choice.StoreChoice.{StoreChoice}
use Rattle.mp_values.specs.Values.{are_sizes, is_between, is_code, is_name, is_number}

-- a value for each key
pub record ParamsValue : Type 0 where
  pub version : ℕ
  pub image : List ℕ
  pub image_shape : Sides
  pub image_column : ℕ
  pub categories : List ℤ
  pub missing : ℤ
  pub grid : Sides
  pub origin : List ℤ
  pub size : List ℤ
  pub points : Option (List ℕ)
  pub point_columns : List ℕ
  pub radii : List ℕ
  pub template : ℕ
  pub max_data : ℕ
  pub min_replicates : ℕ
  pub levels : ℕ
  pub servo : ℕ
  pub targets : Option (List ℕ)
  pub seed : ℕ
  pub realisations : ℕ
  pub store : StoreChoice
  pub window : ℕ
  pub output : List ℕ

-- targets, if there are any, are as many as the categories, and their sum is a million
abbrev pub targets_fit : Option (List ℕ) → List ℤ → Bool
targets_fit None cs = true
targets_fit (Some ts) cs = length ts == length cs && sum ts == 1000000

-- each value is one of its key's form, the missing code is no category, and the targets fit
pub record IsParams (p : ParamsValue) : Type 0 where
  pub version : p.version ≡ 1
  pub image : is_name p.image ≡ true
  pub image_shape : IsShape p.image_shape
  pub image_column : is_between 1 64 p.image_column ≡ true
  pub categories : AreCategories p.categories
  pub missing : is_number p.missing ≡ true
  pub grid : IsShape p.grid
  pub origin : IsOrigin p.origin
  pub size : are_sizes p.size ≡ true
  pub points : IfSome p.points (λ n. is_name n ≡ true)
  pub point_columns : AreColumns p.point_columns
  pub radii : AreRadii p.radii
  pub template : is_between 1 64 p.template ≡ true
  pub max_data : is_between 1 64 p.max_data ≡ true
  pub min_replicates : is_between 1 1000000 p.min_replicates ≡ true
  pub levels : is_between 1 8 p.levels ≡ true
  pub servo : is_between 0 999 p.servo ≡ true
  pub targets : IfSome p.targets AreParts
  pub seed : p.seed < 2 ^ 64
  pub realisations : is_between 1 1000 p.realisations ≡ true
  pub window : is_between 1 256 p.window ≡ true
  pub output : is_name p.output ≡ true
  pub missing_apart : is_code p.missing p.categories ≡ false
  pub targets_right : targets_fit p.targets p.categories ≡ true
