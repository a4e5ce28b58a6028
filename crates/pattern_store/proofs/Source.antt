-- The patterns of a source's eroded positions, as a table of numbers.
use Rattle.std.proofs.Common.{◌≡◌, ℕ, zero, suc, ◌-◌, ◌<◌, ◌≤◌, ◌==◌, true, cond, ◌&&◌, List, [], ◌∷◌, length, get_or, map, filter, Option, Some, None, is_some, option_and_then, slice_get, unwrap_or, refl, ap, sym, ◌∙◌, arith}
use Rattle.std.specs.List.{count_by, list_all, range_with_len}
use Rattle.std.proofs.lemmas.Bool.{and_parts, false≢true}
use Rattle.std.proofs.lemmas.List.FromFn.{fill_by_all}
use Rattle.std.proofs.lemmas.List.Sums.{AllPass-from_list_all}
use Rattle.mp_base.specs.declared.cell.Vector.{Vector}
use Rattle.mp_base.specs.Counts.{is_cat}
use Rattle.mp_base.specs.Grid.{IsBelow, cat_at, cat_of, cell_at, cells_of}
use Rattle.mp_base.proofs.Tallies.{cat_of-below, get_or-tally}
use Rattle.ti_scan.specs.declared.event.Datum.{Datum}
use Rattle.ti_scan.specs.Eroded.{is_eroded, positions_of}
use Rattle.ti_scan.specs.Event.{Source, IsSource, cat_around, counts_of, shows, tallied}
use Rattle.ti_scan.specs.Rising.{RisesFrom}
use Rattle.pattern_store.proofs.Eroding.{eroded_at}
use Rattle.pattern_store.proofs.Sums.{count-filter, count-pointwise, sum-mapped}
use Rattle.pattern_store.specs.Levels.{AreEroded, around, cell_of, centre, found, has_each, many, table}

some_is : (v : Option ℕ) → is_some v ≡ true → v ≡ Some (unwrap_or v 0)
some_is None e = absurd (false≢true e)
some_is (Some k) e = refl

some-below : (cats : ℕ) (v : Option ℕ) → is_some v ≡ true → IsBelow cats v → unwrap_or v 0 < cats
some-below cats None e below = absurd (false≢true e)
some-below cats (Some k) e below = below

in_template : (xs : List Vector) (i : ℕ) → i < length xs → (v : Vector) × (slice_get xs i ≡ Some v) × (get_or xs i v ≡ v)
in_template [] i within = absurd (omega arith)
in_template (x ∷ xs) zero within = (x, refl, refl)
in_template (x ∷ xs) (suc i) within = in_template xs i (omega arith)

module _ (s : Source) (is : IsSource s) where
  pub eroded : (i : ℕ) → i < many s → is_eroded s.image s.template (cell_of s i) ≡ true
  eroded i within = eroded_at s.image s.template (positions_of s.image s.template) i (cell_of s i) refl within (sym (default (positions_of s.image s.template) i (cell_of s i) within))
    where
      default : (xs : List ℕ) (i d : ℕ) → i < length xs → get_or xs i d ≡ get_or xs i 0
      default [] i d below = absurd (omega arith)
      default (x ∷ xs) zero d below = refl
      default (x ∷ xs) (suc i) d below = default xs i d (omega arith)

  -- each listed position is eroded
  pub positions_eroded : (cells : List ℕ) → cells ≡ positions_of s.image s.template → ((i : ℕ) → i < length cells → get_or cells i 0 < cells_of s.image.sides) → AreEroded s cells
  positions_eroded cells are inside = record {
    inside = inside;
    eroded = λ i within. ap (λ (l : List ℕ). is_eroded s.image s.template (get_or l i 0)) are ∙ eroded i (omega (arith, ap length are));
  }

  around_known : (c q : ℕ) → is_eroded s.image s.template c ≡ true → q < length s.template → is_some (cat_around s c (suc q)) ≡ true
  around_known c q there short =
      let e = in_template s.template (suc q - 1) (omega arith) in
      let all = (and_parts (is_some (cat_of s.image.cells c)) (list_all (λ v. is_some (cat_at s.image c v)) s.template) there).1 in
      ap (λ o. is_some (option_and_then (cat_at s.image c) o)) e.1
      ∙ ap (λ v. is_some (cat_at s.image c v)) (sym e.2)
      ∙ AllPass-from_list_all (λ v. is_some (cat_at s.image c v)) s.template all (suc q - 1) e.0 (omega arith)

  pub table_known : (i q : ℕ) → i < many s → q < length s.template → is_some (cat_around s (cell_of s i) (suc q)) ≡ true
  table_known i q within short = around_known (cell_of s i) q (eroded i within) short

  pub table_is : (i q : ℕ) → i < many s → q < length s.template → cat_around s (cell_of s i) (suc q) ≡ Some (table s i q)
  table_is i q within short = some_is (cat_around s (cell_of s i) (suc q)) (table_known i q within short)

  around-below : (c q : ℕ) → IsBelow s.cats (cat_around s c (suc q))
  around-below c q = at_vector (slice_get s.template (suc q - 1))
    where
      at_cell : (o : Option ℕ) → IsBelow s.cats (option_and_then (cat_of s.image.cells) o)
      at_cell None = tt
      at_cell (Some e) = cat_of-below s.cats s.image.cells e is.below

      at_vector : (o : Option Vector) → IsBelow s.cats (option_and_then (cat_at s.image c) o)
      at_vector None = tt
      at_vector (Some v) = at_cell (cell_at s.image.sides c v)

  -- around an eroded cell there are categories of the source
  pub around-small : (cells : List ℕ) (i q : ℕ) → is_eroded s.image s.template (get_or cells i 0) ≡ true → q < length s.template → around s cells i q < s.cats
  around-small cells i q there short = some-below s.cats (cat_around s (get_or cells i 0) (suc q)) (around_known (get_or cells i 0) q there short) (around-below (get_or cells i 0) q)

  pub table-below : (i q : ℕ) → i < many s → q < length s.template → table s i q < s.cats
  table-below i q within short = some-below s.cats (cat_around s (cell_of s i) (suc q)) (table_known i q within short) (around-below (cell_of s i) q)

  pub centre_known : (i : ℕ) → i < many s → is_some (cat_of s.image.cells (cell_of s i)) ≡ true
  centre_known i within = (and_parts (is_some (cat_of s.image.cells (cell_of s i))) (list_all (λ v. is_some (cat_at s.image (cell_of s i) v)) s.template) (eroded i within)).0

  pub centre_is : (i : ℕ) → i < many s → cat_of s.image.cells (cell_of s i) ≡ Some (centre s i)
  centre_is i within = some_is (cat_of s.image.cells (cell_of s i)) (centre_known i within)

  pub centre-below : (i : ℕ) → i < many s → centre s i < s.cats
  centre-below i within = some-below s.cats (cat_of s.image.cells (cell_of s i)) (centre_known i within) (cat_of-below s.cats s.image.cells (cell_of s i) is.below)

  shows_each : (i least : ℕ) (event : List Datum) → i < many s → 1 ≤ least → RisesFrom least (length s.template) event → list_all (shows s (cell_of s i)) event ≡ has_each (table s) i event
  shows_each i least [] within some rising = refl
  shows_each i least (d ∷ event) within some rising =
      ap (λ v. is_cat v d.cat && list_all (shows s (cell_of s i)) event) here
      ∙ ap (λ b. (table s i (d.position - 1) == d.cat) && b) (shows_each i (suc d.position) event within (omega arith) rising.2)
    where
      position : suc (d.position - 1) ≡ d.position
      position = omega (arith, rising.0)

      here : cat_around s (cell_of s i) d.position ≡ Some (table s i (d.position - 1))
      here = ap (cat_around s (cell_of s i)) (sym position) ∙ table_is i (d.position - 1) within (omega (arith, rising.0, rising.1))

  -- what is found in the table is what the source counts
  pub found_is : (event : List Datum) (k : ℕ) → RisesFrom 1 (length s.template) event → k < s.cats → found (table s) (centre s) (many s) event k ≡ get_or (counts_of s event) k 0
  unfolding tallied
  found_is event k rising small =
      count-pointwise _ _ (many s) (λ i within. ap (λ b. b && centre s i == k) (sym (shows_each i 1 event within (omega arith) rising)) ∙ ap (λ v. list_all (shows s (cell_of s i)) event && is_cat v k) (sym (centre_is i within)))
      ∙ sym (sum-mapped (λ c. cond (list_all (shows s c) event && is_cat (cat_of s.image.cells c) k) 1 0) (cell_of s) (range_with_len 0 (many s)))
      ∙ ap (count_by (λ c. list_all (shows s c) event && is_cat (cat_of s.image.cells c) k)) (sym cells_are)
      ∙ sym (count-filter (λ c. list_all (shows s c) event) (λ c. is_cat (cat_of s.image.cells c) k) (positions_of s.image s.template))
      ∙ sym (get_or-tally (cat_of s.image.cells) s.cats (filter (λ c. list_all (shows s c) event) (positions_of s.image s.template)) k small)
    where
      cells_are : positions_of s.image s.template ≡ map (cell_of s) (range_with_len 0 (many s))
      cells_are = fill_by_all (cell_of s) (positions_of s.image s.template) (many s) 0 refl (λ i below. refl)

  -- what is known of a position's categories is in the table
  pub centre_shown : (i k : ℕ) → i < many s → cat_of s.image.cells (cell_of s i) ≡ Some k → centre s i ≡ k
  centre_shown i k within e = cc (sym (centre_is i within) ∙ e)
