-- The texts of values.
use Rattle.std.specs.Prelude.{ℕ, List, [], ◌∷◌, pos, codes}
use Rattle.std.specs.Fmt.{signed_decimal}
use Rattle.mp_base.specs.Grid.{Sides}
use Rattle.mp_base.specs.Spaced.{spaced}
use Rattle.mp_values.specs.declared.choice.StoreChoice.{StoreChoice}
use Rattle.mp_values.specs.declared.choice.StoreChoice.TheVariants.{Tree, List as Listed}

abbrev pub number_text : ℕ → List ℕ
number_text n = signed_decimal (pos n)

abbrev pub sides_text : Sides → List ℕ
sides_text s = spaced number_text (s.nx ∷ s.ny ∷ s.nz ∷ [])

abbrev pub store_text : StoreChoice → List ℕ
store_text Tree = codes "tree"
store_text Listed = codes "list"
