-- That what parameters and an image ask for can be simulated.
use Rattle.std.proofs.Common.{◌≡◌, refl, ℕ, ◌<◌, ◌≤◌, ℤ, Bool, true, false, List, length, get_or, replicate, cond, ltb, Option, Some, None, arith}
use Rattle.std.specs.Prelude.{sum}
use Rattle.std.specs.List.{All}
use Rattle.std.proofs.lemmas.Bool.{and_parts, eqb-true, leb-true}
use Rattle.std.proofs.lemmas.Bool.Decides.{nat_tests}
use Rattle.std.proofs.lemmas.List.{length-replicate}
use Rattle.std.proofs.lemmas.List.Sums.{AllPass-from_list_all}
use Rattle.mp_base.specs.Grid.{Field, IsBelow}
use Rattle.mp_base.proofs.Tallies.{length-tally}
use Rattle.mp_values.specs.Forms.{AreCategories, AreRadii}
use Rattle.mp_params.specs.Params.{IsParams, ParamsValue, targets_fit}
use Rattle.mp_values.specs.Values.{is_between}
use Rattle.seq_engine.specs.Setup.{IsSetup}
use Rattle.template_order.specs.Radii.{radii_in}
use Rattle.template_order.specs.Template.{IsSmall}
use Rattle.mp_base.specs.Cells.{category_counts}
use Rattle.mps_inputs.specs.Setup.{setup_of, shares_of, target_of}

between : (low high n : ℕ) → is_between low high n ≡ true → (low ≤ n) × (n ≤ high)
between low high n is = (grind (arith, nat_tests), grind (arith, nat_tests))

-- the template's radii are small
pub small_radii : (radii : List ℕ) → AreRadii radii → IsSmall (radii_in radii)
small_radii radii are = record { x = at 0 (omega arith); y = at 1 (omega arith); z = at 2 (omega arith) }
  where
    at : (i : ℕ) → i < 3 → get_or radii i 0 ≤ 64
    at i inside = let three = are.three in (between 0 64 (get_or radii i 0) (AllPass-from_list_all (is_between 0 64) radii are.between i 0 (omega arith))).1

pub some_vectors : (n : ℕ) → is_between 1 64 n ≡ true → (1 ≤ n) × (n ≤ 64)
some_vectors n is = between 1 64 n is

-- targets that fit are a million parts, one for each category
pub targets_right : (targets : List ℕ) (p : ParamsValue) → targets_fit (Some targets) p.categories ≡ true → (length targets ≡ length p.categories) × (sum targets ≡ 1000000)
targets_right targets p fit = let parts = and_parts _ _ fit in (eqb-true _ _ parts.0, eqb-true _ _ parts.1)

-- the target has a part for each category
shares_length : (cats : ℕ) (image : Field) → length (shares_of cats (category_counts cats image.cells)) ≡ cats
shares_length cats image = either (ltb 0 (sum (category_counts cats image.cells)))
  where
    either : (b : Bool) → length (cond b (category_counts cats image.cells) (replicate cats 1)) ≡ cats
    either true = length-tally (λ v. v) cats image.cells
    either false = length-replicate cats 1

target_length : (targets : Option (List ℕ)) (p : ParamsValue) (image : Field) → targets_fit targets p.categories ≡ true → length (target_of targets (length p.categories) image) ≡ length p.categories
target_length None p image fit = shares_length (length p.categories) image
target_length (Some parts) p image fit = (targets_right parts p fit).0

some_categories : (codes : List ℤ) → AreCategories codes → 1 ≤ length codes
some_categories codes are = leb-true 1 (length codes) (and_parts _ _ are.codes).0

-- the setup can be simulated
pub is_setup : (p : ParamsValue) (image hard : Field) → IsParams p → All (IsBelow (length p.categories)) image.cells → hard.sides ≡ p.grid → All (IsBelow (length p.categories)) hard.cells → IsSetup (setup_of p image hard)
unfolding setup_of
is_setup p image hard is below hard_sides hard_below =
    record {
      setup = record {
        hard_sides = hard_sides;
        cats_some = some_categories p.categories is.categories;
        cats_few = is.categories.few;
        image_below = below;
        hard_below = hard_below;
        whole = refl;
        levels_some = (between 1 8 p.levels is.levels).0;
        levels_few = (between 1 8 p.levels is.levels).1;
        servo_low = (between 0 999 p.servo is.servo).1;
        data_some = (between 1 64 p.max_data is.max_data).0;
        data_few = (between 1 64 p.max_data is.max_data).1;
        replicates_some = (between 1 1000000 p.min_replicates is.min_replicates).0;
        replicates_few = (between 1 1000000 p.min_replicates is.min_replicates).1;
      };
      target_parts = target_length p.targets p image is.targets_right;
    }
