-- What is kept for the nodes, with one cell more.
use Rattle.std.proofs.Common.{◌≡◌, ℕ, ◌+◌, ◌<◌, true, false, List, [], ◌∷◌, ◌++◌, get_or, set, replicate, Some, refl, sym, ◌∙◌, subst}
use Rattle.std.specs.List.{range_with_len}
use Rattle.std.proofs.lemmas.Bool.{and_left, and_right, and_from, eq-eqb, ne_eqb}
use Rattle.mp_base.specs.Grid.{Field, cells_of}
use Rattle.mp_base.proofs.Ranges.{range_more}
use Rattle.hard_data.specs.Nearest.{nearer_of}
use Rattle.hard_data.specs.Start.{distance_in_cells, is_off_nodes, moves_to, nearest_cell, nearest_node}
use Rattle.hard_data.specs.Kept.{AreKept, cell_in}
use Rattle.hard_data.proofs.Places.{kept_none, kept_same, kept_set, nearest_at}

-- for each node the nearest of the first n cells whose data move to it
abbrev pub CellsAreKept : Field → ℕ → ℕ → List ℕ → Type 0
CellsAreKept hard level n slots = AreKept cell_in (nearest_at (moves_to hard level) (distance_in_cells hard.sides) (range_with_len 0 n)) (cells_of hard.sides) slots

module _ (hard : Field) (level : ℕ) where
  -- at the beginning no cell is kept
  pub no_cell_kept : (slots : List ℕ) (cells : ℕ) → slots ≡ replicate cells 0 → cells ≡ cells_of hard.sides → CellsAreKept hard level 0 slots
  no_cell_kept slots cells are count = kept_none (moves_to hard level) (distance_in_cells hard.sides) cell_in (cells_of hard.sides) slots cells 0 are count refl

  -- one cell more
  one_more : (n : ℕ) (slots : List ℕ) → AreKept cell_in (nearest_at (moves_to hard level) (distance_in_cells hard.sides) (range_with_len 0 n ++ n ∷ [])) (cells_of hard.sides) slots → CellsAreKept hard level (n + 1) slots
  one_more n slots kept = subst (λ (cells : List ℕ). AreKept cell_in (nearest_at (moves_to hard level) (distance_in_cells hard.sides) cells) (cells_of hard.sides) slots) (sym (range_more n)) kept

  -- a cell without a datum to move changes nothing
  pub cell_stays : (n : ℕ) (slots : List ℕ) → CellsAreKept hard level n slots → is_off_nodes hard level n ≡ false → CellsAreKept hard level (n + 1) slots
  cell_stays n slots kept on =
      one_more n slots
      (kept_same (moves_to hard level) (distance_in_cells hard.sides) cell_in (cells_of hard.sides) (range_with_len 0 n) n slots kept (λ _. and_left (is_off_nodes hard level n) _ on))

  -- another cell takes its node where it is nearer
  pub cell_moves : (n : ℕ) (slots : List ℕ) (node new : ℕ) → CellsAreKept hard level n slots → node < cells_of hard.sides → is_off_nodes hard level n ≡ true → nearest_node hard.sides level n ≡ node → cell_in new ≡ Some (nearer_of (distance_in_cells hard.sides node) (cell_in (get_or slots node 0)) n) → CellsAreKept hard level (n + 1) (set slots node new)
  cell_moves n slots node new kept inside off here told =
      one_more n (set slots node new)
      (kept_set (moves_to hard level) (distance_in_cells hard.sides) cell_in (cells_of hard.sides) (range_with_len 0 n) n slots node new kept inside
      (and_from (is_off_nodes hard level n) _ off (eq-eqb (nearest_node hard.sides level n) node here))
      (λ v differ. and_right (is_off_nodes hard level n) _ (ne_eqb (nearest_node hard.sides level n) v (λ same. differ (sym same ∙ here))))
      told)

  -- after all cells the nearest of all is kept
  pub nearest_kept : (slots : List ℕ) (node : ℕ) → CellsAreKept hard level (cells_of hard.sides) slots → node < cells_of hard.sides → cell_in (get_or slots node 0) ≡ nearest_cell hard level node
  unfolding nearest_cell
  nearest_kept slots node kept inside = kept.each node inside
