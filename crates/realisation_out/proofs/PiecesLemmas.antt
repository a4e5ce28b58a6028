-- Bytes that are put behind a text.
use Rattle.std.proofs.Common.{◌≡◌, ◌≤◌, ◌+◌, ◌-◌, ◌%◌, refl, sym, ◌∙◌, ap, subst, ℕ, List, [], ◌++◌, length, take, drop, Option, Some, None, Result, Ok, Err, append_assoc, length-append, arith, lit<}
use Rattle.std.specs.Prelude.{IsTrue, slice_range}
use Rattle.std.specs.Result.{result_err}
use Rattle.std.proofs.Math.Seq.{take-add, take-append_seam, take-length}
use Rattle.std.proofs.lemmas.List.{append-nil, take-append-le, take-append-drop, length-drop, length-take-le, length-take}
use Rattle.mp_outside.specs.Contents.{Appends}
use Rattle.mp_outside.specs.Seen.{FilesSeen, OnlyWrites}
use Rattle.mp_outside.specs.declared.files.OutFault.{OutFault}
use Rattle.mp_outside.specs.declared.files.OutFault.TheVariants.{Failed, NoMemory}
use Rattle.realisation_out.specs.Pieces.{HasPut, InPieces, IsFront, IsPut, begun}

-- one write after another
pub writes_through : (name : List ℕ) (before mid now : FilesSeen) → OnlyWrites name before mid → OnlyWrites name mid now → OnlyWrites name before now
writes_through name before mid now first second =
    record {
      tells_same = second.tells_same ∙ first.tells_same;
      others = λ other apart. second.others other apart ∙ first.others other apart;
      reads_same = λ other. second.reads_same other ∙ first.reads_same other;
      writes_later = λ n. at_most (before.writes n) (mid.writes n) (now.writes n) (first.writes_later n) (second.writes_later n);
    }
  where
    at_most : (a b c : ℕ) → a ≤ b → b ≤ c → a ≤ c
    at_most a b c up more = omega arith

-- a part of some bytes stands behind those before it
pub part_behind : (text bytes : List ℕ) (at count : ℕ) → (text ++ take at bytes) ++ slice_range bytes at (at + count) ≡ text ++ take (at + count) bytes
part_behind text bytes at count =
    let long : at + count - at ≡ count = omega arith in
    append_assoc text (take at bytes) (slice_range bytes at (at + count))
    ∙ ap (λ (n : ℕ). text ++ (take at bytes ++ take n (drop at bytes))) long
    ∙ ap (λ (xs : List ℕ). text ++ xs) (sym (take-add at count bytes))

pub part_length : (bytes : List ℕ) (at count : ℕ) → at + count ≤ length bytes → length (slice_range bytes at (at + count)) ≡ count
part_length bytes at count within =
    let long : at + count - at ≡ count = omega arith in
    ap (λ (n : ℕ). length (take n (drop at bytes))) long
    ∙ length-take-le count (drop at bytes) (omega (arith, length-drop at bytes))

-- what stands first in a text is a front of it
pub front_of : (front rest text : List ℕ) → text ≡ front ++ rest → IsFront text front
front_of front rest text is = sym (take-append_seam front rest) ∙ ap (take (length front)) (sym is)

-- a front stays one where more is put
front_more : (text more file : List ℕ) → IsFront text file → IsFront (text ++ more) file
front_more text more file front =
    let fits : length file ≤ length text = omega (arith, ap length front, length-take (length file) text) in
    front ∙ sym (take-append-le (length file) text more fits)

-- a part of a piece behind what stands before the piece
part_front : (file piece rest text : List ℕ) (count : ℕ) → text ≡ file ++ (piece ++ rest) → IsFront text (file ++ take count piece)
part_front file piece rest text count is =
    front_of (file ++ take count piece) (drop count piece ++ rest) text
    (is ∙ ap (λ (p : List ℕ). file ++ (p ++ rest)) (sym (take-append-drop count piece)) ∙ regrouped file (take count piece) (drop count piece) rest)
  where
    regrouped : (a b c d : List ℕ) → a ++ ((b ++ c) ++ d) ≡ (a ++ b) ++ (c ++ d)
    regrouped a b c d = simp append_assoc

-- a text of which nothing is put yet
pub none_put : (name : List ℕ) (files : FilesSeen) → (IsTrue files.tells → files.held name ≡ Some []) → HasPut (begun name) files []
none_put name files empty told =
    subst (λ (held : Option (List ℕ)). IsPut held [] None []) (sym (empty told)) (record { text_is = refl; whole = refl; short = lit< tt })

-- an error later on
pub fault_later : (held : Option (List ℕ)) (kept left text more : List ℕ) (fault : OutFault) → IsPut held kept (Some fault) text → IsPut held left (Some fault) (text ++ more)
fault_later None kept left text more fault put = put
fault_later (Some file) kept left text more fault front = front_more text more file front

module _ (text kept part : List ℕ) where
  module _ (file : List ℕ) (put : InPieces text file kept) where
    piece_is : text ++ part ≡ file ++ (kept ++ part)
    piece_is = ap (λ (t : List ℕ). t ++ part) put.text_is ∙ append_assoc file kept part

    whole_more : length kept + length part ≡ 8192 → length (file ++ (kept ++ part)) % 8192 ≡ 0
    whole_more full = omega (arith, put.whole, length-append file (kept ++ part), length-append kept part)

  -- bytes that fill a piece are appended with it, or couldn't be
  pub piece_put : (before now : Option (List ℕ)) (result : Result (Unit {0}) OutFault) → IsPut before kept None text → length kept + length part ≡ 8192 → Appends before now (kept ++ part) result
      → IsPut now [] (result_err result) (text ++ part)
  piece_put None now result put full added = absurd put
  piece_put (Some file) now (Ok done) put full added =
      subst (λ (held : Option (List ℕ)). IsPut held [] None (text ++ part))
      (sym (added ∙ ap (λ (p : List ℕ). Some (file ++ p)) (take-length (kept ++ part))))
      (record {
        text_is = piece_is file put ∙ sym (append-nil (file ++ (kept ++ part)));
        whole = whole_more file put full;
        short = lit< tt;
      })
  piece_put (Some file) now (Err Failed) put full added =
      subst (λ (held : Option (List ℕ)). IsPut held [] (Some Failed) (text ++ part)) (sym added.2)
      (part_front file (kept ++ part) [] (text ++ part) added.0 (piece_is file put ∙ ap (λ (p : List ℕ). file ++ p) (sym (append-nil (kept ++ part)))))
  piece_put (Some file) now (Err NoMemory) put full added =
      subst (λ (held : Option (List ℕ)). IsPut held [] (Some NoMemory) (text ++ part)) (sym added)
      (front_more text part file (front_of file kept text put.text_is))
