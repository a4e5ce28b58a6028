-- The sequential log, entry after entry, and the parts of an entry at its turn.
use Rattle.std.proofs.Common.{◌≡◌, ℕ, ◌+◌, ◌<◌, ◌≤◌, ◌^◌, List, [], ◌∷◌, ◌++◌, length, set, take, Option, Some, None, inl, inr, ap, sym, ◌∙◌, subst, arith}
use Rattle.std.specs.List.{filter, list_all}
use Rattle.std.proofs.lemmas.Bool.Decides.{nat_tests}
use Rattle.std.proofs.lemmas.List.{take_all, length_push}
use Rattle.std.proofs.lemmas.List.Sums.{fold_push, length-filter, count_by-le-length}
use Rattle.mp_base.specs.declared.cell.Entry.{Entry}
use Rattle.mp_base.specs.declared.cell.Vector.{Vector}
use Rattle.mp_base.specs.Grid.{Field, field, cat_of, cat_at, cells_of}
use Rattle.mp_base.proofs.Tallies.{length-tally, sum-tally-le}
use Rattle.ti_scan.specs.declared.event.Datum.{Datum}
use Rattle.ti_scan.specs.Event.{Source, IsSource, counts_of, total_of, tallied, shows}
use Rattle.ti_scan.specs.Eroded.{positions_of, is_eroded}
use Rattle.ti_scan.proofs.Counting.{length-filter-range-le}
use Rattle.mp_base.specs.Cells.{category_counts, with_entries}
use Rattle.mp_base.proofs.Entries.{length-with_entries}
use Rattle.event_retrieve.specs.Plan.{Plan, nodes_in, cell_of, grid_at, known, data_by, IsPath}
use Rattle.ti_scan.specs.Prefix.{longest, has_enough}
use Rattle.event_retrieve.specs.Retrieval.{retained, cut}
use Rattle.event_retrieve.specs.Sequential.{log_of, entry_after, sequential, drawn}
use Rattle.ti_scan.proofs.Greatest.{greatest-passes}
use Rattle.event_retrieve.proofs.Logs.{length-log_of, take-log_of, IsLog-sequential}
use Rattle.event_retrieve.proofs.Fronts.{unknown_yet, IsFront-log}

abbrev pub entry : ℕ → ℕ → Entry
entry c k = record { cell = c; cat = k }

-- one entry more
pub grid_at-push : (p : Plan) (log : List Entry) (e : Entry) (i : ℕ) → length log ≡ i → grid_at p (log ++ e ∷ []) (i + 1) ≡ field p.start.sides (set (grid_at p log i).cells e.cell (Some e.cat))
grid_at-push p log e i long =
    ap (field p.start.sides)
    (ap (with_entries p.start.cells) (take_all (i + 1) (log ++ e ∷ []) (omega (arith, length_push log e)))
    ∙ fold_push (λ (now : List (Option ℕ)) (x : Entry). set now x.cell (Some x.cat)) p.start.cells log e
    ∙ ap (λ (l : List Entry). set (with_entries p.start.cells l) e.cell (Some e.cat)) (sym (take_all i log (omega arith))))

-- a node is unknown when its turn comes
pub unknown_at_turn : (p : Plan) (i : ℕ) → IsPath p → i < nodes_in p → cat_of (grid_at p (log_of p i) i).cells (cell_of p i) ≡ None
unknown_at_turn p i path within =
    ap (λ (l : List Entry). cat_of (with_entries p.start.cells l) (cell_of p i))
    (take_all i (log_of p i) (omega (arith, length-log_of p i)) ∙ sym (take-log_of p i (nodes_in p) (omega arith)))
    ∙ unknown_yet p (sequential p) path (IsFront-log p (sequential p) (IsLog-sequential p)) i i (omega arith) (omega (arith, (IsLog-sequential p).whole)) within

pub length-grid_at : (p : Plan) (log : List Entry) (i : ℕ) → length (grid_at p log i).cells ≡ length p.start.cells
length-grid_at p log i = length-with_entries p.start.cells (take i log)

-- the retained data have enough replicates, and no more than there are positions
pub total-retained : (p : Plan) (event : List Datum) → p.min_replicates ≤ total_of p.source [] → p.min_replicates ≤ total_of p.source (retained p event)
unfolding longest
total-retained p event some = elim (greatest-passes (has_enough (counts_of p.source) p.min_replicates (cut p event)) (length (cut p event))) [
  | inl passes ↦ grind (arith, nat_tests)
  | inr none ↦ subst (λ n. p.min_replicates ≤ total_of p.source (take n (cut p event))) (sym none) some
]

pub length-counts_of : (s : Source) (event : List Datum) → length (counts_of s event) ≡ s.cats
unfolding tallied
length-counts_of s event = length-tally (cat_of s.image.cells) s.cats (filter (λ c. list_all (shows s c) event) (positions_of s.image s.template))

pub total-le-positions : (s : Source) (event : List Datum) → total_of s event ≤ length (positions_of s.image s.template)
unfolding tallied
total-le-positions s event =
    omega (
      arith,
      sum-tally-le (cat_of s.image.cells) s.cats (filter (λ c. list_all (shows s c) event) (positions_of s.image s.template)),
      length-filter (λ c. list_all (shows s c) event) (positions_of s.image s.template),
      count_by-le-length (λ c. list_all (shows s c) event) (positions_of s.image s.template),
    )

-- in a source of the program the total is at most 2 ^ 20
pub total-few : (s : Source) (event : List Datum) → IsSource s → total_of s event ≤ 2 ^ 20
total-few s event is = omega (arith, total-le-positions s event, length-filter-range-le (is_eroded s.image s.template) (cells_of s.image.sides), is.image.shape.fits)

-- the event of a node, on the grid of its turn
pub known_is : (p : Plan) (log : List Entry) (now : Field) (vectors : List Vector) (c i : ℕ) → now ≡ grid_at p log i → vectors ≡ p.source.template → c ≡ cell_of p i → data_by (λ _ v. cat_at now c v) vectors ≡ known p log i i
unfolding known
known_is p log now vectors c i is_now is_template is_cell =
    ap (λ (g : Field). data_by (λ _ v. cat_at g c v) vectors) is_now ∙ ap (λ (x : ℕ). data_by (λ _ v. cat_at (grid_at p log i) x v) vectors) is_cell
    ∙ ap (λ (t : List Vector). data_by (λ _ v. cat_at (grid_at p log i) (cell_of p i) v) t) is_template

-- an entry is that of its node where the parts are
pub entry_is : (p : Plan) (log : List Entry) (i cat : ℕ) (event : List Datum) (counts known_cats : List ℕ) → event ≡ known p log i i → counts ≡ counts_of p.source (retained p event) → known_cats ≡ category_counts p.source.cats (grid_at p log i).cells → cat ≡ drawn p i counts known_cats → (c : ℕ) → c ≡ cell_of p i → entry c cat ≡ entry_after p log i
unfolding entry_after
entry_is p log i cat event counts known_cats is_event is_counts is_cats is_cat c is_cell =
    ap (λ (x : ℕ). entry x cat) is_cell
    ∙ ap (λ (k : ℕ). entry (cell_of p i) k)
    (is_cat ∙ ap (λ (n : List ℕ). drawn p i counts n) is_cats
    ∙ ap (λ (n : List ℕ). drawn p i n (category_counts p.source.cats (grid_at p log i).cells)) (is_counts ∙ ap (λ (e : List Datum). counts_of p.source (retained p e)) is_event))
