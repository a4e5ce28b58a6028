-- Reading on: what one more read adds to what was read of a file so far.
use Rattle.std.proofs.Common.{◌≡◌, ◌∙◌, ap, ℕ, ◌+◌, ◌≤◌, List, [], ◌++◌, length, length-append, take, drop, Option, Some, None, Ok, arith, subst, sym}
use Rattle.std.proofs.Math.Seq.{take-add}
use Rattle.std.proofs.lemmas.List.{length-take-le}
use Rattle.std.specs.Option.{MatchOption}
use Rattle.mp_outside.specs.Contents.{ReadsFrom, ReadsAt}
use Rattle.mp_outside.specs.Seen.{FilesSeen, OnlyReads}

-- only reads, after only reads
pub only_reads_on : (before between now : FilesSeen) → OnlyReads before between → OnlyReads between now → OnlyReads before now
only_reads_on before between now first next = record {
  tells_same = next.tells_same ∙ first.tells_same;
  held_same = λ name. next.held_same name ∙ first.held_same name;
  reads_later = λ name. omega (arith, first.reads_later name, next.reads_later name);
  writes_same = λ name. next.writes_same name ∙ first.writes_same name;
}

-- a front of the bytes, and the bytes that one read gives after it, are a front again
pub front_and_read : (bytes got buffer : List ℕ) (count : ℕ) → got ≡ take (length got) bytes → ReadsFrom bytes (length got) count buffer → count ≤ length buffer
    → got ++ take count buffer ≡ take (length (got ++ take count buffer)) bytes
front_and_read bytes got buffer count front read fits =
    let long : length (got ++ take count buffer) ≡ length got + count = length-append got (take count buffer) ∙ ap (λ n. length got + n) (length-take-le count buffer fits) in
    ap (λ xs. got ++ xs) read.bytes_are
    ∙ ap (λ xs. xs ++ take count (drop (length got) bytes)) front
    ∙ sym (take-add (length got) count bytes)
    ∙ ap (λ n. take n bytes) (sym long)

-- nothing held, or a front of what is held
abbrev pub IsFrontOf : Option (List ℕ) → List ℕ → Type 0
IsFrontOf content got = MatchOption content (got ≡ []) (λ bytes. got ≡ take (length got) bytes)

front_of_content : (content : Option (List ℕ)) (got buffer : List ℕ) (count : ℕ) → IsFrontOf content got → ReadsAt content (length got) (Ok count) buffer → count ≤ length buffer
    → IsFrontOf content (got ++ take count buffer)
front_of_content None got buffer count front read fits = cc
front_of_content (Some bytes) got buffer count front read fits = front_and_read bytes got buffer count front read fits

-- the same where a name holds this
pub front_after_read : (before now : Option (List ℕ)) (got buffer : List ℕ) (count : ℕ) → now ≡ before → IsFrontOf before got → ReadsAt now (length got) (Ok count) buffer → count ≤ length buffer
    → IsFrontOf before (got ++ take count buffer)
front_after_read before now got buffer count same front read fits = front_of_content before got buffer count front (subst (λ content. ReadsAt content (length got) (Ok count) buffer) same read) fits
