-- The lines of a schedule that aren't skipped.
use Rattle.std.specs.Prelude.{ℕ, ◌+◌, Bool, not, List, length}
use Rattle.std.specs.List.{enumerate_from, filter}
use Rattle.mp_text.specs.Fields.{is_skipped}
use Rattle.mp_text.specs.Lines.{line_texts}

-- what is left of a file behind so many lines
pub record LinesLeft : Type 0 where
  pub gone : ℕ
  pub texts : List (List ℕ)

-- the lines of these bytes, behind so many
abbrev pub lines_left : ℕ → List ℕ → LinesLeft
lines_left gone bytes = record { gone = gone; texts = line_texts bytes }

-- a line with its number isn't skipped
abbrev pub is_kept : ℕ × List ℕ → Bool
is_kept line = not (is_skipped line.1)

-- the lines that aren't skipped, each with its number, counted from 1
abbrev pub kept_in : LinesLeft → List (ℕ × List ℕ)
kept_in left = filter is_kept (enumerate_from (left.gone + 1) left.texts)

-- the number of the line behind the last
abbrev pub end_of : LinesLeft → ℕ
end_of left = left.gone + length left.texts + 1
