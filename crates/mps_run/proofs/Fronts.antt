-- Fronts of the realisation file.
use Rattle.std.proofs.Common.{◌≡◌, ◌≤◌, ◌+◌, inl, inr, refl, sym, ◌∙◌, ap, ℕ, zero, suc, List, [], ◌∷◌, ◌++◌, take, drop, flat_map, Option, Some, Result, Ok, Err, append_assoc, arith}
use Rattle.std.proofs.lemmas.Grind.{flat_map-append}
use Rattle.std.proofs.lemmas.List.{append-nil, take-append-drop}
use Rattle.std.proofs.lemmas.List.FromFn.{map-range_with_len_more, take-map-range_with_len}
use Rattle.mp_base.specs.Grid.{Field}
use Rattle.mp_params.specs.Params.{ParamsValue}
use Rattle.realisation_out.specs.Text.{head_text, rows_text}
use Rattle.seq_engine.specs.Realisation.{realised}
use Rattle.seq_engine.specs.declared.setup.Setup.{Setup}
use Rattle.mps_inputs.specs.Files.{IsFilled, IsWritten}
use Rattle.mps_run.specs.Texts.{counts_of, file_text, realisation_counts, realisations_to}
use Rattle.mps_inputs.specs.declared.fault.Fault.{Fault}

-- of nothing a front is nothing
take_none : (count : ℕ) (none : List ℕ) → none ≡ [] → take count none ≡ take 0 none
take_none zero none is = refl
take_none (suc count) [] is = refl
take_none (suc count) (b ∷ none) is = absurd (cc is)

module _ (p : ParamsValue) where
  abbrev rows : Field → List ℕ
  rows grid = rows_text p.categories grid.cells

  -- the opening alone
  pub opening : [] ++ head_text p.grid p.realisations p.seed ≡ file_text p []
  unfolding file_text
  opening = sym (append-nil (head_text p.grid p.realisations p.seed))

  file_append : (xs ys : List Field) → file_text p (xs ++ ys) ≡ file_text p xs ++ flat_map rows ys
  unfolding file_text
  file_append xs ys =
      let head = head_text p.grid p.realisations p.seed in
      ap (λ (t : List ℕ). head ++ t) (flat_map-append rows xs ys) ∙ sym (append_assoc head (flat_map rows xs) (flat_map rows ys))

  module _ (setup : Setup) where
    -- one realisation more
    pub one_more : (r : ℕ) → file_text p (realisations_to setup (r + 1)) ≡ file_text p (realisations_to setup r) ++ rows (realised setup r)
    one_more r =
        ap (file_text p) (map-range_with_len_more (realised setup) 0 r r (omega arith))
        ∙ file_append (realisations_to setup r) (realised setup r ∷ [])
        ∙ ap (λ (t : List ℕ). file_text p (realisations_to setup r) ++ t) (append-nil (rows (realised setup r)))

    -- the first realisations stand in front
    pub in_front : (r n : ℕ) → r ≤ n → (rest : List ℕ) × (file_text p (realisations_to setup n) ≡ file_text p (realisations_to setup r) ++ rest)
    in_front r n few =
        let all = realisations_to setup n in (
          flat_map rows (drop r all),
          ap (file_text p) (sym (take-append-drop r all))
              ∙ file_append (take r all) (drop r all)
              ∙ ap (λ (xs : List Field). file_text p xs ++ flat_map rows (drop r all)) (take-map-range_with_len (realised setup) 0 n r few),
        )

-- the counts of one realisation more
pub counts_more : (setup : Setup) (r : ℕ) → counts_of setup (r + 1) ≡ counts_of setup r ++ realisation_counts setup r ∷ []
counts_more setup r = map-range_with_len_more (realisation_counts setup) 0 r r (omega arith)

-- a file that was made, or couldn't be, is filled
pub filled_written : {A : Type 0} (before now : Option (List ℕ)) (text : List ℕ) (answer : Result A Fault) → IsFilled now text answer → IsWritten before now text answer
filled_written before now text (Ok a) is = is
filled_written before now text (Err fault) is = inr is

pub unmade_written : (before now : Option (List ℕ)) (text : List ℕ) (fault : Fault) → IsWritten {A = Unit {0}} before now [] (Err fault) → IsWritten {A = Unit {0}} before now text (Err fault)
unmade_written before now text fault (inl kept) = inl kept
unmade_written before now text fault (inr part) = inr (0, part.1 ∙ ap Some (take_none part.0 [] refl))
