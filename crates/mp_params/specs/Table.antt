-- The table of keys: their order, the name of each, the form of its value, and what stands where no line has it.
use Rattle.std.specs.Prelude.{ℕ, Bool, true, false, List, [], ◌∷◌, Option, Some, None, codes}
use Rattle.std.specs.List.{filter, find}
use Rattle.std.specs.Str.{bytes_eq}
use Rattle.mp_params.specs.declared.table.Key.{Key}
use Rattle.mp_params.specs.declared.table.Key.TheVariants as key
use Rattle.mp_values.specs.declared.form.Form.{Form}
use Rattle.mp_values.specs.declared.form.Form.TheVariants as form

-- what is told of a key: its name, the form of its value, whether a line has to have it, and the text that stands where no line has it
pub record Row : Type 0 where
  pub name : List ℕ
  pub form : Form
  pub is_required : Bool
  pub default : Option (List ℕ)

abbrev pub required : List ℕ → Form → Row
required name form = record { name = name; form = form; is_required = true; default = None }

abbrev pub optional : List ℕ → Form → Row
optional name form = record { name = name; form = form; is_required = false; default = None }

abbrev pub or_else : List ℕ → List ℕ → Form → Row
or_else text name form = record { name = name; form = form; is_required = false; default = Some text }

-- the keys, in the order in which they are printed and looked for
abbrev pub keys : List Key
keys =
    key.Version ∷ key.Image ∷ key.ImageShape ∷ key.ImageColumn ∷ key.Categories ∷ key.Missing ∷ key.Grid ∷ key.Origin ∷ key.Size ∷ key.Points ∷ key.PointColumns ∷ key.Radii ∷ key.Template ∷ key.MaxData ∷ key.MinReplicates ∷ key.Levels ∷ key.Servo ∷ key.Targets ∷ key.Seed ∷ key.Realisations ∷ key.Store ∷ key.Window ∷ key.Output ∷ []

-- the table
abbrev pub row_of : Key → Row
row_of key.Version = or_else (codes "1") (codes "version") form.Version
row_of key.Image = required (codes "image") form.Name
row_of key.ImageShape = required (codes "image_shape") form.Shape
row_of key.ImageColumn = or_else (codes "1") (codes "image_column") (form.Number 1 64)
row_of key.Categories = required (codes "categories") form.Codes
row_of key.Missing = or_else (codes "-9966699") (codes "missing") form.Code
row_of key.Grid = required (codes "grid") form.Shape
row_of key.Origin = or_else (codes "0 0 0") (codes "origin") form.Origin
row_of key.Size = or_else (codes "1 1 1") (codes "size") form.Sizes
row_of key.Points = optional (codes "points") form.Name
row_of key.PointColumns = or_else (codes "1 2 3 4") (codes "point_columns") form.Columns
row_of key.Radii = required (codes "radii") form.Radii
row_of key.Template = required (codes "template") (form.Number 1 64)
row_of key.MaxData = or_else (codes "64") (codes "max_data") (form.Number 1 64)
row_of key.MinReplicates = or_else (codes "10") (codes "min_replicates") (form.Number 1 1000000)
row_of key.Levels = or_else (codes "1") (codes "levels") (form.Number 1 8)
row_of key.Servo = or_else (codes "0") (codes "servo") (form.Number 0 999)
row_of key.Targets = optional (codes "targets") form.Targets
row_of key.Seed = or_else (codes "0") (codes "seed") form.Seed
row_of key.Realisations = or_else (codes "1") (codes "realisations") (form.Number 1 1000)
row_of key.Store = or_else (codes "tree") (codes "store") form.Store
row_of key.Window = or_else (codes "64") (codes "window") (form.Number 1 256)
row_of key.Output = required (codes "output") form.Name

abbrev pub key_name : Key → List ℕ
key_name k = (row_of k).name

abbrev pub form_of : Key → Form
form_of k = (row_of k).form

abbrev pub default_of : Key → Option (List ℕ)
default_of k = (row_of k).default

-- the keys that a file has to have
abbrev pub required_keys : List Key
required_keys = filter (λ k. (row_of k).is_required) keys

-- the key of a name, where there is one
abbrev pub key_of : List ℕ → Option Key
key_of name = find (λ k. bytes_eq (key_name k) name) keys
