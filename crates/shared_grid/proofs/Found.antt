-- What words say of cells.
use Rattle.std.proofs.Common.{◌≡◌, ℕ, zero, suc, ◌+◌, ◌-◌, ◌<◌, ◌≤◌, List, [], ◌∷◌, ◌++◌, map, length, get_or, take, slice_index, slice_get, Option, Some, None, inl, inr, refl, ap, sym, ◌∙◌, subst, arith, zero-le}
use Rattle.std.specs.List.{All}
use Rattle.std.proofs.lemmas.Bool.{cases_lt}
use Rattle.std.proofs.lemmas.List.{take_more, map-append}
use Rattle.mp_base.specs.declared.cell.Entry.{Entry}
use Rattle.mp_base.specs.Grid.{cat_of, IsBelow}
use Rattle.mp_base.proofs.Tallies.{cat_of-below, cat_of-get_or}
use Rattle.path_stream.specs.Ranks.{rank_in}
use Rattle.event_retrieve.specs.Plan.{Plan, grid_at, IsPath, IsLog}
use Rattle.shared_grid.specs.declared.rule.View.{View}
use Rattle.shared_grid.specs.Rule.{word_of, shown, word_in, front_in, ViewsFit, WordsFit}
use Rattle.shared_grid.specs.Reads.{ShowsSince}
use Rattle.shared_grid.proofs.Moments.{kept, written, unwritten, blank, at_get}

-- the word at a cell's number is that of its category
pub at_cell : (cells : List (Option ℕ)) (c : ℕ) → slice_index (map word_of cells) c ≡ word_of (cat_of cells c)
at_cell [] c = refl
at_cell (x ∷ cells) zero = one x
  where
    one : (x : Option ℕ) → word_of x ≡ word_of (cat_of (x ∷ cells) zero)
    one x = refl
at_cell (x ∷ cells) (suc c) = at_cell cells c

same_word : (a b : Option ℕ) → word_of a ≡ word_of b → a ≡ b
same_word None None e = refl
same_word None (Some k) e = absurd (omega arith)
same_word (Some j) None e = absurd (omega arith)
same_word (Some j) (Some k) e = let same : j ≡ k = omega arith in ap Some same

-- the words of a start are those of bytes
pub start_bytes : (cells : List (Option ℕ)) → All (IsBelow 8) cells → (c : ℕ) → slice_index (map word_of cells) c ≤ 256
start_bytes cells below c = subst (λ n. n ≤ 256) (sym (at_cell cells c)) (one (cat_of cells c) (cat_of-below 8 cells c below))
  where
    one : (v : Option ℕ) → IsBelow 8 v → word_of v ≤ 256
    one None b = zero-le
    one (Some k) b = omega (arith, b)

-- what a load of a cell tells of the category that its word stands for
pub found_shows : (p : Plan) (story : List Entry) (seen c n : ℕ) (v : Option ℕ) → (m : ℕ) × (seen ≤ m) × (m ≤ length story) × (n ≡ slice_index (shown p story m) ((c + 1) - 1)) → n ≡ word_of v → ShowsSince p story seen c v
found_shows p story seen c n v f is =
    (f.0, f.1, f.2, same_word v (cat_of (grid_at p story f.0).cells c) (sym is ∙ f.3 ∙ ap (slice_index (shown p story f.0)) (minus_one c) ∙ at_cell (grid_at p story f.0).cells c))
  where
    minus_one : (c : ℕ) → (c + 1) - 1 ≡ c
    minus_one c = omega arith

-- the words of one more cell
pub more_words : (cells : List (Option ℕ)) (n : ℕ) → n < length cells → map word_of (take (n + 1) cells) ≡ map word_of (take n cells) ++ word_of (cat_of cells n) ∷ []
more_words cells n within =
    ap (map word_of) (take_more cells n None within) ∙ map-append word_of (take n cells) (get_or cells n None ∷ [])
    ∙ ap (λ v. map word_of (take n cells) ++ word_of v ∷ []) (sym (cat_of-get_or cells n))

-- what the words alone show follows from what the views know
pub words_fit : (p : Plan) (story : List Entry) → IsPath p → IsLog p story → (words : List ℕ) (views : List View) → ViewsFit p story words views → WordsFit p story words
words_fit p story path is_log words views h = record {
  within = omega (arith, front, h.lower, h.within);
  known = λ c k is. word c ∙ ap word_of (kept p story path is_log h.stored c k h.within is);
  past = λ c r e has below. written_word c r e has.0 has.1 (omega (arith, front, h.lower, below));
  coming = λ c r e has later. elim (cases_lt r h.stored) [
    | inl below ↦ inr (written_word c r e has.0 has.1 below)
    | inr late ↦ inl (word c ∙ ap word_of (unwritten p story path is_log h.stored c h.within (only c r has.0 late) ∙ blank p story path is_log c r has.0))
  ];
  other = λ c unknown none. word c ∙ ap word_of (unwritten p story path is_log h.stored c h.within (λ r rank. absurd (apart r (sym none ∙ rank))) ∙ unknown);
}
  where
    front : front_in words ≡ h.front
    front = ap (λ (ws : List ℕ). slice_index ws 0) h.words_are

    plus_one : (c : ℕ) → c + 1 ≡ suc c
    plus_one c = omega arith

    word : (c : ℕ) → word_in words c ≡ word_of (cat_of (grid_at p story h.stored).cells c)
    word c =
        ap (λ (ws : List ℕ). slice_index ws (c + 1)) h.words_are
        ∙ ap (λ (i : ℕ). slice_index (h.front ∷ shown p story h.stored) i) (plus_one c) ∙ at_cell (grid_at p story h.stored).cells c

    written_word : (c r : ℕ) (e : Entry) → rank_in p.path c ≡ Some r → slice_get story r ≡ Some e → r < h.stored → word_in words c ≡ suc e.cat
    written_word c r e rank entry below =
        word c ∙ ap word_of (written p story path is_log h.stored c r h.within rank below)
        ∙ ap (λ (x : Entry). suc x.cat) (at_get story r (record { cell = 0; cat = 0 }) e entry).1

    apart : (r : ℕ) → None ≡ Some r → ⊥
    apart r e = cc

    only : (c r : ℕ) → rank_in p.path c ≡ Some r → h.stored ≤ r → (s : ℕ) → rank_in p.path c ≡ Some s → h.stored ≤ s
    only c r rank late s other = let same : Some r ≡ Some s = sym rank ∙ other in let eq : r ≡ s = cc in omega arith
