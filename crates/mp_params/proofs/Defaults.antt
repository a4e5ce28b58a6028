-- The text of each default has the form of its key.
use Rattle.std.proofs.Common.{◌≡◌, ℕ, Bool, true, List, Option, Some, None, refl, ap, sym, ◌∙◌}
use Rattle.std.specs.List.{list_all}
use Rattle.mp_base.specs.Number.{short_number, spelling_of, whole_of, micro_of}
use Rattle.mp_text.specs.Fields.{fields_of}
use Rattle.mp_values.specs.Forms.{fits}
use Rattle.mp_values.specs.Values.{code_of, coordinate_of, few_read, number_in, seed_of}
use Rattle.mp_values.specs.declared.form.Form.{Form}
use Rattle.mp_params.specs.declared.table.Key.{Key}
use Rattle.mp_params.specs.Table.{default_of, form_of, keys}
use Rattle.mp_params.proofs.Keys.{each_key}

abbrev fits_if_any : Form → Option (List ℕ) → Bool
fits_if_any f None = true
fits_if_any f (Some t) = fits f t

all_fit : list_all (λ k. fits_if_any (form_of k) (default_of k)) keys ≡ true
unfolding number_in code_of coordinate_of few_read seed_of short_number fields_of whole_of micro_of spelling_of
all_fit = refl

pub defaults_fit : (k : Key) (t : List ℕ) → default_of k ≡ Some t → fits (form_of k) t ≡ true
defaults_fit k t is = sym (ap (fits_if_any (form_of k)) is) ∙ each_key (λ j. fits_if_any (form_of j) (default_of j)) all_fit k
