-- Tables of files that are read piece by piece.
use Rattle.std.proofs.Common.{◌≡◌, refl, sym, ◌∙◌, ap, subst, ℕ, ◌+◌, ◌^◌, ◌≤◌, List, ◌++◌, length, length-append, take, drop, take-add, Option, Some, None, MatchOption, Result, Ok, Err, arith}
use Rattle.std.specs.Prelude.{IsTrue, ok_or}
use Rattle.std.proofs.lemmas.List.{length-take-le, take-append-drop}
use Rattle.mp_base.specs.declared.codes.Codes.{Codes}
use Rattle.gslib_grid.proofs.Feeding.{few_so_far, tells_on, tells_table}
use Rattle.gslib_grid.specs.Reader.{Reading, StandsBehind, Takes, WasFed, told_so_far}
use Rattle.gslib_grid.specs.Table.{Tells, table_of}
use Rattle.gslib_grid.specs.declared.fault.TableError.{TableError}
use Rattle.gslib_grid.specs.declared.fault.TableError.TheVariants as errors
use Rattle.gslib_grid.specs.declared.fault.TableFault.{TableFault}
use Rattle.gslib_grid.specs.declared.want.Want.{Want}
use Rattle.gslib_grid.specs.declared.want.Want.TheVariants as want
use Rattle.mp_outside.specs.Contents.{Held, ReadsAt, ReadsFrom}
use Rattle.mp_outside.specs.Seen.{FilesSeen, OnlyReads}
use Rattle.mp_text.specs.Chain.{◌>>=◌}
use Rattle.mps_inputs.proofs.Reading.{first_refused}
use Rattle.mps_inputs.specs.Answers.{IsInputFault}
use Rattle.mps_inputs.specs.Inputs.{judged, read_as}
use Rattle.mps_inputs.specs.Tables.{IsFirstOf, WasFedTo, error_fault, table_fault, table_in}
use Rattle.mps_inputs.specs.declared.fault.Fault.{Fault}
use Rattle.mps_inputs.specs.declared.fault.Fault.TheVariants.{CannotRead, Image, Points}

-- A reader that told no error.

module _ (asked : Want) (codes : Codes) (reader : Reading) (bytes : List ℕ) (untold : reader.told ≡ None) (fed : WasFed asked codes reader bytes) where
  stands : StandsBehind asked codes reader bytes
  stands = subst (λ (told : Option TableError). MatchOption told (StandsBehind asked codes reader bytes) (λ error. Tells error (told_so_far asked codes bytes))) untold fed

  -- it looks for the categories that it was asked for
  pub own_codes : reader.codes ≡ codes
  own_codes = stands.listed

  pub few_fed : length bytes ≤ 2 ^ 28
  few_fed = few_so_far asked codes bytes stands.no_fault

-- Faults of a table, told of a file that is it.

fault_told : (asked : Want) (codes : Codes) (name : List ℕ) (before now : FilesSeen) (fault : TableFault) → (IsTrue before.tells → (file : List ℕ) × (before.held name ≡ Some file) × (table_of asked codes file ≡ Err fault)) → IsInputFault (read_as (table_in asked codes) name) before now (table_fault asked fault)
fault_told (want.Image column rows) codes name before now fault is =
    λ told. ap (λ (content : Option (List ℕ)). ok_or content (CannotRead name) >>= table_in (want.Image column rows) codes) (is told).1 ∙ ap (judged Image) (is told).2
fault_told (want.Points columns) codes name before now fault is =
    λ told. ap (λ (content : Option (List ℕ)). ok_or content (CannotRead name) >>= table_in (want.Points columns) codes) (is told).1 ∙ ap (judged Points) (is told).2

pub error_told : (asked : Want) (codes : Codes) (name : List ℕ) (before now : FilesSeen) (error : TableError) → (IsTrue before.tells → (file : List ℕ) × (before.held name ≡ Some file) × Tells error (table_of asked codes file)) → IsInputFault (read_as (table_in asked codes) name) before now (error_fault asked error)
error_told asked codes name before now errors.NoMemory is = tt
error_told asked codes name before now (errors.Fault fault) is = fault_told asked codes name before now fault is

-- A piece more of a file.

-- the first bytes of a file, and those that a read gives behind them, are its first bytes again
first_and_more : (bytes buffer file : List ℕ) (place count : ℕ) → length bytes ≡ place → bytes ≡ take (length bytes) file → ReadsFrom file place count buffer → count ≤ length buffer → bytes ++ take count buffer ≡ take (length (bytes ++ take count buffer)) file
first_and_more bytes buffer file place count many first read fits =
    let long : length (bytes ++ take count buffer) ≡ place + count = length-append bytes (take count buffer) ∙ (λ i. many i + length-take-le count buffer fits i) in
    (λ i. (first ∙ ap (λ n. take n file) many) i ++ read.bytes_are i)
    ∙ sym (take-add place count file)
    ∙ ap (λ n. take n file) (sym long)

-- with the rest of the file behind the piece
whole_file : (bytes piece file : List ℕ) → bytes ++ piece ≡ take (length (bytes ++ piece)) file → (bytes ++ piece) ++ drop (length (bytes ++ piece)) file ≡ file
whole_file bytes piece file first = ap (λ (front : List ℕ). front ++ drop (length (bytes ++ piece)) file) first ∙ take-append-drop (length (bytes ++ piece)) file

module _ (asked : Want) (codes : Codes) (name : List ℕ) (reader : Reading) (before : FilesSeen) (place : ℕ) (to : WasFedTo asked codes reader before name place) where
  pub place_few : place ≤ 2 ^ 28
  place_few = omega (arith, few_fed asked codes reader to.bytes to.untold to.fed, to.many)

  module _ (count : ℕ) (buffer : List ℕ) (fits : count ≤ length buffer) (read : IsTrue before.tells → ReadsAt (before.held name) place (Ok count) buffer) where
    abbrev piece : List ℕ
    piece = take count buffer

    first_with : IsTrue before.tells → IsFirstOf (before.held name) (to.bytes ++ piece)
    first_with told = of_content (before.held name) (to.first told) (read told)
      where
        of_content : (content : Option (List ℕ)) → IsFirstOf content to.bytes → ReadsAt content place (Ok count) buffer → IsFirstOf content (to.bytes ++ piece)
        of_content None first from = absurd (cc from)
        of_content (Some file) first from = first_and_more to.bytes buffer file place count to.many first from fits

    pub fed_more : (next : Reading) (now : FilesSeen) → OnlyReads before now → Takes reader next piece → next.told ≡ None → WasFedTo asked codes next now name (place + count)
    fed_more next now only takes untold =
        record {
          bytes = to.bytes ++ piece;
          many = omega (arith, length-append to.bytes piece, length-take-le count buffer fits, to.many);
          fed = takes asked codes to.bytes to.fed;
          untold = untold;
          first = λ told. subst (λ (content : Option (List ℕ)). IsFirstOf content (to.bytes ++ piece)) (sym (only.held_same name)) (first_with (subst IsTrue only.tells_same told));
        }

    -- an error that is told of the bytes so far is told of the file
    pub piece_told : (now : FilesSeen) (error : TableError) → Tells error (told_so_far asked codes (to.bytes ++ piece)) → IsInputFault (read_as (table_in asked codes) name) before now (error_fault asked error)
    piece_told now error is = error_told asked codes name before now error (λ told. of_content (before.held name) refl (first_with told) (read told))
      where
        of_content : (content : Option (List ℕ)) → before.held name ≡ content → IsFirstOf content (to.bytes ++ piece) → ReadsAt content place (Ok count) buffer → (file : List ℕ) × (before.held name ≡ Some file) × Tells error (table_of asked codes file)
        of_content None here first from = absurd (cc from)
        of_content (Some file) here first from = (
          file,
          here,
          tells_table asked codes file error
              (subst (λ (all : List ℕ). Tells error (told_so_far asked codes all)) (whole_file to.bytes piece file first)
              (tells_on asked codes (to.bytes ++ piece) (drop (length (to.bytes ++ piece)) file) error is)),
        )

-- What a table gives.

-- a file whose table gives something is that table and then what it gives
module _ {A B : Type 0} (made : List ℕ → Result A Fault) (next : A → Result B Fault) (name : List ℕ) where
  abbrev whole : List ℕ → Result B Fault
  whole file = made file >>= next

  in_two : (held : Held) → (read_as made name held >>= next) ≡ read_as whole name held
  in_two held = of_content (held name)
    where
      of_content : (content : Option (List ℕ)) → ((ok_or content (CannotRead name) >>= made) >>= next) ≡ (ok_or content (CannotRead name) >>= whole)
      of_content None = refl
      of_content (Some file) = refl

  pub given_by : (before : FilesSeen) (a : A) (b : B) → (IsTrue before.tells → read_as made name before.held ≡ Ok a) → next a ≡ Ok b → IsTrue before.tells → read_as whole name before.held ≡ Ok b
  given_by before a b read gives told = sym (in_two before.held) ∙ ap (λ (r : Result A Fault). r >>= next) (read told) ∙ gives

  pub refused_by : (before now : FilesSeen) (fault : Fault) → IsInputFault (read_as made name) before now fault → IsInputFault (read_as whole name) before now fault
  refused_by before now fault is =
      subst (λ (outcome : Held → Result B Fault). IsInputFault outcome before now fault) (λ i held. in_two held i)
      (first_refused (read_as made name) (λ a held. next a) before now now fault is)
