-- The start of a level, node after node.
use Rattle.std.proofs.Common.{◌≡◌, ℕ, zero, suc, ◌+◌, ◌<◌, ◌≤◌, Bool, true, false, cond, List, [], ◌∷◌, ◌++◌, map, length, get_or, set, take, replicate, Option, Some, None, is_some, inl, inr, refl, ap, sym, ◌∙◌, arith, subst}
use Rattle.std.specs.Prelude.{option_to_list, option_map, option_and_then}
use Rattle.std.specs.List.{filter, filter_map, fold, range_with_len, cons_option}
use Rattle.std.specs.List.Sorted.{IsStrictlyIncreasing}
use Rattle.std.proofs.lemmas.Bool.{cases_eq}
use Rattle.std.proofs.lemmas.List.{get_or-replicate, get_or-set_same, get_or-set_other, length-replicate, length-set, take_more}
use Rattle.std.proofs.lemmas.List.Elements.{filter_map-append}
use Rattle.std.proofs.lemmas.List.FromFn.{fill_by_all}
use Rattle.std.proofs.lemmas.List.Kept.{IsStrictlyIncreasing-filter}
use Rattle.std.proofs.lemmas.List.Sums.{fold_more}
use Rattle.mp_base.specs.Grid.{Field, field, cells_of, cat_of}
use Rattle.multigrid.specs.Levels.{is_node, nodes_of}
use Rattle.multigrid.proofs.Stepping.{nodes-rise}
use Rattle.hard_data.specs.declared.moves.Move.{Move}
use Rattle.hard_data.specs.Start.{datum_or_value, nearest_cell, node_start, move_from, move_to, start_of, moves_of}

-- a cell of each of these numbers is set by a function of its number
module _ (p : ℕ → Bool) (f : ℕ → Option ℕ) where
  abbrev set_all : List (Option ℕ) → List ℕ → List (Option ℕ)
  set_all cells xs = fold (λ now v. set now v (f v)) cells xs

  pub length-set_all : (cells : List (Option ℕ)) (xs : List ℕ) → length (set_all cells xs) ≡ length cells
  length-set_all cells [] = refl
  length-set_all cells (x ∷ xs) = length-set_all (set cells x (f x)) xs ∙ length-set cells x (f x)

  abbrev passing : ℕ → ℕ → List ℕ
  passing a n = filter p (range_with_len a n)

  untouched : (a n k : ℕ) (cells : List (Option ℕ)) → k < a → get_or (set_all cells (passing a n)) k None ≡ get_or cells k None
  untouched a zero k cells before = refl
  untouched a (suc n) k cells before = go (p a) (untouched (a + 1) n k (set cells a (f a)) (omega arith)) (untouched (a + 1) n k cells (omega arith))
    where
      go : (b : Bool) → get_or (set_all (set cells a (f a)) (passing (a + 1) n)) k None ≡ get_or (set cells a (f a)) k None → get_or (set_all cells (passing (a + 1) n)) k None ≡ get_or cells k None → get_or (set_all cells (cond b (a ∷ passing (a + 1) n) (passing (a + 1) n))) k None ≡ get_or cells k None
      go true here skipped = here ∙ get_or-set_other cells a k (f a) None (λ at. absurd (omega arith))
      go false here skipped = skipped

  set_at : (a n k : ℕ) (cells : List (Option ℕ)) → k < length cells → a ≤ k → k < a + n → get_or cells k None ≡ None → get_or (set_all cells (passing a n)) k None ≡ cond (p k) (f k) None
  set_at a zero k cells within low high none = absurd (omega arith)
  set_at a (suc n) k cells within low high none = elim (cases_eq k a) [
    | inl at ↦ ap (λ i. get_or (set_all cells (passing a (suc n))) i None) at ∙ first (p a) (ap (λ i. get_or cells i None) (sym at) ∙ none) ∙ ap (λ i. cond (p i) (f i) None) (sym at)
    | inr other ↦
        later (p a)
        (set_at (a + 1) n k (set cells a (f a)) (omega (arith, length-set cells a (f a))) (omega arith) (omega arith) (get_or-set_other cells a k (f a) None other ∙ none))
        (set_at (a + 1) n k cells within (omega arith) (omega arith) none)
  ]
    where
      first : (b : Bool) → get_or cells a None ≡ None → get_or (set_all cells (cond b (a ∷ passing (a + 1) n) (passing (a + 1) n))) a None ≡ cond b (f a) None
      first true _ = untouched (a + 1) n a (set cells a (f a)) (omega arith) ∙ get_or-set_same cells a (f a) None (omega arith)
      first false unset = untouched (a + 1) n a cells (omega arith) ∙ unset

      later : (b : Bool) → get_or (set_all (set cells a (f a)) (passing (a + 1) n)) k None ≡ cond (p k) (f k) None → get_or (set_all cells (passing (a + 1) n)) k None ≡ cond (p k) (f k) None → get_or (set_all cells (cond b (a ∷ passing (a + 1) n) (passing (a + 1) n))) k None ≡ cond (p k) (f k) None
      later true here skipped = here
      later false here skipped = skipped

  pub set_each : (n : ℕ) → set_all (replicate n None) (passing 0 n) ≡ map (λ k. cond (p k) (f k) None) (range_with_len 0 n)
  set_each n =
      fill_by_all (λ k. cond (p k) (f k) None) (set_all (replicate n None) (passing 0 n)) n None (length-set_all (replicate n None) (passing 0 n) ∙ length-replicate n None)
      (λ k below. set_at 0 n k (replicate n None) (omega (arith, length-replicate {A = Option ℕ} n None)) (omega arith) (omega arith) (get_or-replicate n k None None below))

module _ (hard values : Field) (level : ℕ) where
  -- the cells once these nodes are set
  unfoldable pub with_nodes : List ℕ → List (Option ℕ)
  with_nodes nodes = fold (λ now v. set now v (node_start hard values level v)) (replicate (cells_of hard.sides) None) nodes

  pub with_none : with_nodes [] ≡ replicate (cells_of hard.sides) None
  unfolding with_nodes
  with_none = refl

  pub with_more : (nodes : List ℕ) (i node : ℕ) → i < length nodes → node ≡ get_or nodes i 0 → with_nodes (take (i + 1) nodes) ≡ set (with_nodes (take i nodes)) node (node_start hard values level node)
  unfolding with_nodes
  with_more nodes i node within at =
      fold_more (λ (now : List (Option ℕ)) (v : ℕ). set now v (node_start hard values level v)) (replicate (cells_of hard.sides) None) nodes i 0 within
      ∙ ap (λ v. set (with_nodes (take i nodes)) v (node_start hard values level v)) (sym at)

  pub start_is : field hard.sides (with_nodes (nodes_of hard.sides level)) ≡ start_of hard values level
  unfolding with_nodes start_of nodes_of
  start_is = ap (field hard.sides) (set_each (is_node hard.sides level) (node_start hard values level) (cells_of hard.sides))

  listed : (m : Option Move) → cons_option m [] ≡ option_to_list m
  listed None = refl
  listed (Some m) = refl

  -- the moves to these nodes
  unfoldable pub moves_among : List ℕ → List Move
  moves_among nodes = filter_map (move_to hard values level) nodes

  pub moves_none : moves_among [] ≡ []
  unfolding moves_among
  moves_none = refl

  pub moves_more : (nodes : List ℕ) (i node : ℕ) → i < length nodes → node ≡ get_or nodes i 0 → moves_among (take (i + 1) nodes) ≡ moves_among (take i nodes) ++ option_to_list (move_to hard values level node)
  unfolding moves_among
  moves_more nodes i node within at =
      ap (filter_map (move_to hard values level)) (take_more nodes i 0 within) ∙ filter_map-append (move_to hard values level) (take i nodes) (get_or nodes i 0 ∷ [])
      ∙ ap (λ m. moves_among (take i nodes) ++ m) (listed (move_to hard values level (get_or nodes i 0)))
      ∙ ap (λ v. moves_among (take i nodes) ++ option_to_list (move_to hard values level v)) (sym at)

  pub moves_all : moves_among (nodes_of hard.sides level) ≡ moves_of hard values level
  unfolding moves_among moves_of
  moves_all = refl

  -- a move to a node has that node in it
  to_node : (node : ℕ) (b : Bool) (o : Option ℕ) (m : Move) → cond b None (option_and_then (move_from hard node) o) ≡ Some m → m.to ≡ node
  to_node node true o m is = cc
  to_node node false None m is = cc
  to_node node false (Some c) m is = from_cell (cat_of hard.cells c) is
    where
      from_cell : (k : Option ℕ) → option_map (λ j. record { «from» = c; to = node; cat = j }) k ≡ Some m → m.to ≡ node
      from_cell None is = cc
      from_cell (Some j) is = cc

  targets : (nodes : List ℕ) → map (λ (m : Move). m.to) (filter_map (move_to hard values level) nodes) ≡ filter (λ v. is_some (move_to hard values level v)) nodes
  targets [] = refl
  targets (v ∷ nodes) = go (move_to hard values level v) (λ m is. to_node v (is_some (datum_or_value hard values v)) (nearest_cell hard level v) m is) (targets nodes)
    where
      go : (o : Option Move) → ((m : Move) → o ≡ Some m → m.to ≡ v) → map (λ (m : Move). m.to) (filter_map (move_to hard values level) nodes) ≡ filter (λ v. is_some (move_to hard values level v)) nodes → map (λ (m : Move). m.to) (cons_option o (filter_map (move_to hard values level) nodes)) ≡ cond (is_some o) (v ∷ filter (λ v. is_some (move_to hard values level v)) nodes) (filter (λ v. is_some (move_to hard values level v)) nodes)
      go None same rest = rest
      go (Some m) same rest = (λ i. same m refl i ∷ rest i)

  pub moves-rise : IsStrictlyIncreasing (map (λ m. m.to) (moves_of hard values level))
  unfolding moves_of
  moves-rise = subst IsStrictlyIncreasing (sym (targets (nodes_of hard.sides level))) (IsStrictlyIncreasing-filter (λ v. is_some (move_to hard values level v)) (nodes_of hard.sides level) (nodes-rise hard.sides level))
