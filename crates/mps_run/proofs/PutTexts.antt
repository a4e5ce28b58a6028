-- Texts that are put part by part, and fronts of them.
use Rattle.std.proofs.Common.{◌≡◌, ◌≤◌, ◌+◌, ◌-◌, sym, ◌∙◌, ap, subst, ℕ, ℤ, List, [], ◌++◌, length, take, drop, Option, Some, None, Result, Ok, Err, append_assoc, arith}
use Rattle.std.specs.Prelude.{IsSomeAnd, IsTrue, slice_range}
use Rattle.std.specs.Result.{result_err}
use Rattle.std.proofs.Math.Seq.{take-add}
use Rattle.std.proofs.lemmas.Grind.{flat_map-append}
use Rattle.std.proofs.lemmas.List.{take-append-drop, take_all}
use Rattle.mp_outside.specs.Seen.{FilesSeen}
use Rattle.mp_outside.specs.declared.files.OutFault.{OutFault}
use Rattle.mp_outside.specs.declared.files.OutFault.TheVariants.{Failed}
use Rattle.realisation_out.specs.Pieces.{HasPut, IsFront, IsPut, PiecesSeen, begun}
use Rattle.realisation_out.specs.Text.{cell_line, rows_text}
use Rattle.realisation_out.proofs.PiecesLemmas.{fault_later, front_of, none_put}
use Rattle.mps_inputs.specs.Files.{IsFilled}
use Rattle.mps_inputs.specs.declared.fault.Fault.{Fault}
use Rattle.mps_run.specs.Putting.{HasFront, IsPutOrFront}

-- what was put, with an error or without, stands in the file up to a front
put_front : (held : Option (List ℕ)) (kept : List ℕ) (fault : Option OutFault) (text : List ℕ) → IsPut held kept fault text → IsSomeAnd held (IsFront text)
put_front held kept (Some fault) text put = put
put_front (Some file) kept None text put = front_of file kept text put.text_is
put_front None kept None text put = absurd put

-- a front stays one where the text goes on
pub front_later : (held : Option (List ℕ)) (text more all : List ℕ) → text ++ more ≡ all → IsSomeAnd held (IsFront text) → IsSomeAnd held (IsFront all)
front_later held text more all is front = subst (λ (t : List ℕ). IsSomeAnd held (IsFront t)) is (fault_later held [] [] text more Failed front)

module _ (pieces : PiecesSeen) (files : FilesSeen) (text : List ℕ) where
  pub has_front : HasPut pieces files text → HasFront pieces.name files text
  has_front put told = put_front (files.held pieces.name) pieces.kept pieces.fault text (put told)

  pub put_or_front : (result : Result (Unit {0}) OutFault) → pieces.fault ≡ result_err result → HasPut pieces files text → IsPutOrFront pieces files text result
  put_or_front (Ok done) is put = put
  put_or_front (Err fault) is put = has_front put

-- nothing is put yet into a file that is empty
pub begun_put : (pieces : PiecesSeen) (name : List ℕ) (files : FilesSeen) → pieces ≡ begun name → (IsTrue files.tells → files.held name ≡ Some []) → HasPut pieces files []
begun_put pieces name files new empty = subst (λ (p : PiecesSeen). HasPut p files []) (sym new) (none_put name files empty)

-- a file that was put whole, or a front of it
pub filled_of : (held : Option (List ℕ)) (text : List ℕ) (fault : Fault) → IsSomeAnd held (IsFront text) → IsFilled {A = Unit {0}} held text (Err fault)
filled_of (Some file) text fault front = (length file, ap Some front)
filled_of None text fault front = absurd front

-- Rows, part by part.

module _ (codes : List ℤ) (cells : List (Option ℕ)) (text : List ℕ) where
  pub rows_behind : (at count : ℕ) → (text ++ rows_text codes (take at cells)) ++ rows_text codes (slice_range cells at (at + count)) ≡ text ++ rows_text codes (take (at + count) cells)
  rows_behind at count =
      let long : at + count - at ≡ count = omega arith in
      append_assoc text (rows_text codes (take at cells)) (rows_text codes (slice_range cells at (at + count)))
      ∙ ap (λ (n : ℕ). text ++ (rows_text codes (take at cells) ++ rows_text codes (take n (drop at cells)))) long
      ∙ ap (λ (t : List ℕ). text ++ t) (sym (flat_map-append (cell_line codes) (take at cells) (take count (drop at cells))))
      ∙ ap (λ (some : List (Option ℕ)). text ++ rows_text codes some) (sym (take-add at count cells))

  pub rows_left : (at : ℕ) → (text ++ rows_text codes (take at cells)) ++ rows_text codes (drop at cells) ≡ text ++ rows_text codes cells
  rows_left at =
      append_assoc text (rows_text codes (take at cells)) (rows_text codes (drop at cells))
      ∙ ap (λ (t : List ℕ). text ++ t) (sym (flat_map-append (cell_line codes) (take at cells) (drop at cells)))
      ∙ ap (λ (some : List (Option ℕ)). text ++ rows_text codes some) (take-append-drop at cells)

  pub rows_all : (at : ℕ) → length cells ≤ at → text ++ rows_text codes (take at cells) ≡ text ++ rows_text codes cells
  rows_all at over = ap (λ (some : List (Option ℕ)). text ++ rows_text codes some) (take_all at cells over)
