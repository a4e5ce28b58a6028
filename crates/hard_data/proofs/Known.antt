-- What is known at the start of a level.
use Rattle.std.proofs.Common.{rules, ◌≡◌, ℕ, ◌<◌, Bool, true, false, cond, not, is_some, List, [], ◌∷◌, length, get_or, Option, Some, None, IsTrue, inl, inr, refl, ap, sym, ◌∙◌, arith, subst}
use Rattle.std.specs.Prelude.{option_map, option_and_then}
use Rattle.std.specs.List.{All, filter, range_with_len}
use Rattle.std.specs.Option.{IsSome, option_or}
use Rattle.std.proofs.lemmas.Bool.{cases_lt, and_left, and_right, cond-false}
use Rattle.std.proofs.lemmas.Bool.Decides.{nat_tests}
use Rattle.std.proofs.lemmas.List.{get_or_past}
use Rattle.std.proofs.lemmas.List.Elements.{All-map}
use Rattle.std.proofs.lemmas.List.FromFn.{length-map-range_with_len, get_or-map-range_with_len}
use Rattle.mp_base.specs.Grid.{Field, Sides, cells_of, cat_of, IsBelow}
use Rattle.mp_base.proofs.Tallies.{cat_of-get_or, cat_of-below}
use Rattle.multigrid.specs.Levels.{is_node}
use Rattle.hard_data.specs.declared.moves.Move.{Move}
use Rattle.hard_data.specs.Nearest.{first_nearest}
use Rattle.hard_data.specs.Start.{datum_or_value, distance_in_cells, is_off_nodes, moves_to, nearest_cell, move_from, move_to, node_start, start_of}

some_nothing : IsSome {T = ℕ} None → ⊥
some_nothing some = search rules

at_node : (b : Bool) (x : Option ℕ) → IsSome (cond b x None) → b ≡ true
at_node true x some = refl
at_node false x some = absurd (some_nothing some)

below_or : (n : ℕ) (x y : Option ℕ) → IsBelow n x → IsBelow n y → IsBelow n (option_or x y)
below_or n None y first second = second
below_or n (Some k) y first second = first

below_where : (n : ℕ) (b : Bool) (x : Option ℕ) → IsBelow n x → IsBelow n (cond b x None)
below_where n true x below = below
below_where n false x below = search rules

or_none : (x : Option ℕ) → option_or x None ≡ x
or_none None = refl
or_none (Some k) = refl

module _ (hard values : Field) where
  -- a hard datum, or else a value
  pub datum_or_value-below : (n c : ℕ) → All (IsBelow n) hard.cells → All (IsBelow n) values.cells → IsBelow n (datum_or_value hard values c)
  datum_or_value-below n c hard_below values_below = below_or n (cat_of hard.cells c) (cat_of values.cells c) (cat_of-below n hard.cells c hard_below) (cat_of-below n values.cells c values_below)

  moved-below : (n node c : ℕ) (k : Option ℕ) → IsBelow n k → IsBelow n (option_map (λ (m : Move). m.cat) (option_map (λ j. record { «from» = c; to = node; cat = j }) k))
  moved-below n node c None below = below
  moved-below n node c (Some k) below = below

  nearest-below : (n node : ℕ) (o : Option ℕ) → All (IsBelow n) hard.cells → IsBelow n (option_map (λ (m : Move). m.cat) (option_and_then (move_from hard node) o))
  nearest-below n node None hard_below = search rules
  nearest-below n node (Some c) hard_below = moved-below n node c (cat_of hard.cells c) (cat_of-below n hard.cells c hard_below)

  taken-below : (n : ℕ) (b : Bool) (m : Option Move) → IsBelow n (option_map (λ (m : Move). m.cat) m) → IsBelow n (option_map (λ (m : Move). m.cat) (cond b None m))
  taken-below n true m below = search rules
  taken-below n false m below = below

  module _ (level : ℕ) where
    pub start-sides : (start_of hard values level).sides ≡ hard.sides
    unfolding start_of
    start-sides = refl

    pub length-start : length (start_of hard values level).cells ≡ cells_of hard.sides
    unfolding start_of
    length-start = length-map-range_with_len (λ c. cond (is_node hard.sides level c) (node_start hard values level c) None) 0 (cells_of hard.sides)

    pub start_at : (c : ℕ) → c < cells_of hard.sides → cat_of (start_of hard values level).cells c ≡ cond (is_node hard.sides level c) (node_start hard values level c) None
    unfolding start_of
    start_at c below = cat_of-get_or (start_of hard values level).cells c ∙ get_or-map-range_with_len (λ v. cond (is_node hard.sides level v) (node_start hard values level v) None) 0 (cells_of hard.sides) c c None below (omega arith)

    node_of : (c : ℕ) → IsSome (cat_of (start_of hard values level).cells c) → IsTrue (is_node hard.sides level c)
    node_of c some = elim (cases_lt c (cells_of hard.sides)) [
      | inl below ↦ at_node (is_node hard.sides level c) (node_start hard values level c) (subst IsSome (start_at c below) some)
      | inr past ↦ absurd (some_nothing (subst IsSome (cat_of-get_or (start_of hard values level).cells c ∙ get_or_past (start_of hard values level).cells c None (omega (arith, length-start))) some))
    ]

    -- only nodes are known
    pub start-nodes : (c : ℕ) → IsSome (cat_of (start_of hard values level).cells c) → IsTrue (is_node (start_of hard values level).sides level c)
    start-nodes c some = subst (λ (s : Sides). IsTrue (is_node s level c)) (sym start-sides) (node_of c some)

    node_start-below : (n node : ℕ) → All (IsBelow n) hard.cells → All (IsBelow n) values.cells → IsBelow n (node_start hard values level node)
    node_start-below n node hard_below values_below =
        below_or n (datum_or_value hard values node) (option_map (λ m. m.cat) (move_to hard values level node))
        (datum_or_value-below n node hard_below values_below)
        (taken-below n (is_some (datum_or_value hard values node)) (option_and_then (move_from hard node) (nearest_cell hard level node)) (nearest-below n node (nearest_cell hard level node) hard_below))

    pub start-below : (n : ℕ) → All (IsBelow n) hard.cells → All (IsBelow n) values.cells → All (IsBelow n) (start_of hard values level).cells
    unfolding start_of
    start-below n hard_below values_below =
        All-map (IsBelow n) (λ c. cond (is_node hard.sides level c) (node_start hard values level c) None) (range_with_len 0 (cells_of hard.sides))
        (λ k d _. below_where n (is_node hard.sides level (get_or (range_with_len 0 (cells_of hard.sides)) k d)) (node_start hard values level (get_or (range_with_len 0 (cells_of hard.sides)) k d)) (node_start-below n (get_or (range_with_len 0 (cells_of hard.sides)) k d) hard_below values_below))

-- every cell is a node of the finest level
pub finest_node : (s : Sides) (c : ℕ) → is_node s 1 c ≡ true
finest_node s c = grind (arith, nat_tests)

none_passes : (p : ℕ → Bool) → ((c : ℕ) → p c ≡ false) → (xs : List ℕ) → filter p xs ≡ []
none_passes p fails [] = refl
none_passes p fails (x ∷ xs) = cond-false (p x) (x ∷ filter p xs) (filter p xs) (fails x) ∙ none_passes p fails xs

module _ (hard values : Field) where
  stays : (node c : ℕ) → moves_to hard 1 node c ≡ false
  stays node c = and_left (is_off_nodes hard 1 c) _ (and_right (is_some (cat_of hard.cells c)) (not (is_node hard.sides 1 c)) (ap not (finest_node hard.sides c)))

  none_near : (node : ℕ) → nearest_cell hard 1 node ≡ None
  unfolding nearest_cell first_nearest
  none_near node = ap (first_nearest (distance_in_cells hard.sides node)) (none_passes (moves_to hard 1 node) (stays node) (range_with_len 0 (cells_of hard.sides)))

  taken : (b : Bool) (node : ℕ) (o : Option ℕ) → o ≡ None → option_map (λ (m : Move). m.cat) (cond b None (option_and_then (move_from hard node) o)) ≡ None
  taken true node o none = refl
  taken false node o none = ap (λ x. option_map (λ (m : Move). m.cat) (option_and_then (move_from hard node) x)) none

  -- at the finest level no datum moves
  pub finest_start : (c : ℕ) → node_start hard values 1 c ≡ datum_or_value hard values c
  finest_start c =
      ap (option_or (datum_or_value hard values c)) (taken (is_some (datum_or_value hard values c)) c (nearest_cell hard 1 c) (none_near c))
      ∙ or_none (datum_or_value hard values c)
