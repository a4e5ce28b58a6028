-- The lines of a file, and what a line says.
use Rattle.std.specs.Prelude.{ℕ, ◌+◌, ◌==◌, List, [], ◌∷◌, Option, map, option_map, if◌then◌else◌}
use Rattle.std.specs.List.{onto_first, position}
use Rattle.bstr.specs.Records.{trim_record}

-- the lines of a file, each with the line feed that ends it: what stands behind the last line feed is a line where it has a byte
unfoldable pub lines_of : List ℕ → List (List ℕ)
lines_of [] = []
lines_of (b ∷ bs) = if b == 10 then (b ∷ []) ∷ lines_of bs else onto_first b (lines_of bs)

-- without the line feed that ends it
abbrev pub without_line_feed : List ℕ → List ℕ
without_line_feed line = trim_record 10 line

-- what a line says: without its line feed, and without one carriage return before that or at the file's end
abbrev pub text_of : List ℕ → List ℕ
text_of line = trim_record 13 (without_line_feed line)

-- what the lines of a file say
abbrev pub line_texts : List ℕ → List (List ℕ)
line_texts file = map text_of (lines_of file)

-- the place behind the first line feed, where there is one
abbrev pub line_end : List ℕ → Option ℕ
line_end bytes = option_map (λ place. place + 1) (position (λ b. b == 10) bytes)
