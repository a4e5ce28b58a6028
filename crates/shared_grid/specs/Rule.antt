-- The rule of the words, which holds between any two steps of the threads. Word 0 is the front, and the word of a cell is its number plus 1.
use Rattle.std.specs.Prelude.{◌≡◌, ◌≢◌, ◌⊎◌, ℕ, suc, ◌+◌, ◌<◌, ◌≤◌, List, ◌∷◌, length, map, slice_get, slice_index, Option, Some, None}
use mathlib.Core.Option.{some}
use lib.ListN.{get_elem?}
use Rattle.atomic_table.specs.Table.{State}
use Rattle.mp_base.specs.declared.cell.Entry.{Entry}
use Rattle.mp_base.specs.Grid.{cat_of}
use Rattle.path_stream.specs.Ranks.{rank_in}
use Rattle.event_retrieve.specs.Plan.{Plan, grid_at}
use Rattle.shared_grid.specs.declared.rule.View.{View}
use Rattle.shared_grid.specs.declared.rule.View.TheVariants.{Writes, Reads, Spent}

-- how many entries are stored, and how many are shown
pub record Progress : Type 0 where
  pub stored : ℕ
  pub front : ℕ

-- the word of a cell: 0 for nothing, and else one more than the category
abbrev pub word_of : Option ℕ → ℕ
word_of None = 0
word_of (Some k) = suc k

-- the words of the cells once m entries of the story are stored
abbrev pub shown : Plan → List Entry → ℕ → List ℕ
shown p story m = map word_of (grid_at p story m).cells

abbrev pub seen_by : View → ℕ
seen_by (Writes stored front) = front
seen_by (Reads seen) = seen
seen_by Spent = 0

abbrev pub stored_by : View → ℕ
stored_by (Writes stored front) = stored
stored_by (Reads seen) = 0
stored_by Spent = 0

-- a reader has seen no more than the front
abbrev pub IsReaderAt : ℕ → View → Type 0
IsReaderAt front (Writes s f) = ⊥
IsReaderAt front (Reads seen) = seen ≤ front
IsReaderAt front Spent = Unit {0}

-- What views know: the first is the one writer's, and all others are readers' or spent.
pub record ViewsFit (p : Plan) (story : List Entry) (words : List ℕ) (views : List View) : Type 0 where
  pub stored : ℕ
  pub front : ℕ
  pub writer : get_elem? views 0 ≡ some (Writes stored front)
  pub words_are : words ≡ front ∷ shown p story stored
  pub lower : front ≤ stored
  pub upper : stored ≤ front + 1
  pub within : stored ≤ length story
  -- each word stands for a category of one byte
  pub bytes : (c : ℕ) → slice_index (shown p story stored) c ≤ 256
  pub readers : (by : ℕ) (v : View) → by ≢ 0 → get_elem? views by ≡ some v → IsReaderAt front v

abbrev pub front_in : List ℕ → ℕ
front_in words = slice_index words 0

abbrev pub word_in : List ℕ → ℕ → ℕ
word_in words c = slice_index words (c + 1)

-- the cell has a rank on the path, and this is the story's entry of that rank
abbrev pub HasEntry : Plan → List Entry → ℕ → ℕ → Entry → Type 0
HasEntry p story c rank e = (rank_in p.path c ≡ Some rank) × (slice_get story rank ≡ Some e)

-- What the words alone show, whatever any view knows.
pub record WordsFit (p : Plan) (story : List Entry) (words : List ℕ) : Type 0 where
  pub within : front_in words ≤ length story
  -- a cell that is known at the start shows its start value
  pub known : (c k : ℕ) → cat_of p.start.cells c ≡ Some k → word_in words c ≡ suc k
  -- a path cell of a rank below the front shows the story's value
  pub past : (c rank : ℕ) (e : Entry) → HasEntry p story c rank e → rank < front_in words → word_in words c ≡ suc e.cat
  -- one of a rank from the front on shows nothing or the story's value
  pub coming : (c rank : ℕ) (e : Entry) → HasEntry p story c rank e → front_in words ≤ rank → (word_in words c ≡ 0) ⊎ (word_in words c ≡ suc e.cat)
  -- every other cell shows nothing
  pub other : (c : ℕ) → cat_of p.start.cells c ≡ None → rank_in p.path c ≡ None → word_in words c ≡ 0

pub record IsKept (p : Plan) (story : List Entry) (s : State (Unit {0}) View) : Type 0 where
  pub views : ViewsFit p story s.words s.views
  pub words : WordsFit p story s.words
