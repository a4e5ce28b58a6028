-- All eroded positions lie among the cells around which the template is inside.
use Rattle.std.proofs.Common.{◌≡◌, ℕ, ◌+◌, ◌<◌, ◌≤◌, List, ◌++◌, Bool, length, map, filter, ap, sym, ◌∙◌, subst, arith}
use Rattle.std.specs.List.{All, count_by, range_with_len}
use Rattle.std.proofs.lemmas.List.{length-map}
use Rattle.std.proofs.lemmas.List.FromFn.{length-range_with_len, length-map-range_with_len}
use Rattle.std.proofs.lemmas.List.Sums.{length-filter, count_by-le-length}
use Rattle.mp_base.specs.declared.cell.Vector.{Vector}
use Rattle.mp_base.specs.Grid.{Field, cells_of, category_of}
use Rattle.ti_scan.specs.declared.margins.Margins.{Margins}
use Rattle.ti_scan.specs.Eroded.{is_eroded, positions_of}
use Rattle.ti_scan.specs.Event.{Source, IsSource}
use Rattle.ti_scan.specs.Window.{IsGround, IsScanned, IsSpan, centre_in, is_inside}
use Rattle.ti_scan.proofs.Blocks.{count-append, filter-append-range, filter-within, map-append-range}
use Rattle.ti_scan.proofs.Counting.{filter-range-below, length-filter-range-le}
use Rattle.ti_scan.proofs.Eroding.{eroded-inside}

pub positions_are : (image : Field) (template : List Vector) (first cells : ℕ) → IsSpan (is_inside image.sides template) (cells_of image.sides) first cells → positions_of image template ≡ filter (is_eroded image template) (range_with_len first cells)
positions_are image template first cells span = filter-within (is_eroded image template) first cells (cells_of image.sides) span.within (λ c below e. span.whole c below (eroded-inside image template c e))

pub length-positions : (image : Field) (template : List Vector) (first cells : ℕ) → IsSpan (is_inside image.sides template) (cells_of image.sides) first cells → length (positions_of image template) ≡ count_by (is_eroded image template) (range_with_len first cells)
length-positions image template first cells span = ap length (positions_are image template first cells span) ∙ length-filter (is_eroded image template) (range_with_len first cells)

pub count-le : (p : ℕ → Bool) (a n : ℕ) → count_by p (range_with_len a n) ≤ n
count-le p a n = omega (arith, count_by-le-length p (range_with_len a n), length-range_with_len a n)

-- one more block
pub counts_more : (p : ℕ → Bool) (a n m so_far block : ℕ) → so_far ≡ count_by p (range_with_len a n) → block ≡ count_by p (range_with_len (a + n) m) → so_far + block ≡ count_by p (range_with_len a (n + m))
counts_more p a n m so_far block e f = omega (arith, count-append p a n m)

pub filters_more : (p : ℕ → Bool) (a n m : ℕ) (so_far after : List ℕ) → so_far ≡ filter p (range_with_len a n) → after ≡ so_far ++ filter p (range_with_len (a + n) m) → after ≡ filter p (range_with_len a (n + m))
filters_more p a n m so_far after e f = f ∙ ap (λ l. l ++ filter p (range_with_len (a + n) m)) e ∙ sym (filter-append-range p a n m)

pub maps_more : {X : Type 0} (g : ℕ → X) (a n m : ℕ) (so_far after : List X) → so_far ≡ map g (range_with_len a n) → after ≡ so_far ++ map g (range_with_len (a + n) m) → after ≡ map g (range_with_len a (n + m))
maps_more g a n m so_far after e f = f ∙ ap (λ l. l ++ map g (range_with_len (a + n) m)) e ∙ sym (map-append-range g a n m)

pub scanned : (s : Source) (m : Margins) (positions : List ℕ) (first cells : ℕ) (centres : List ℕ) → IsSource s → IsGround s.image.sides s.template m first cells → positions ≡ filter (is_eroded s.image s.template) (range_with_len first cells) → map category_of centres ≡ map (centre_in s.image s.template) (range_with_len first cells) → IsScanned s positions first centres
scanned s m positions first cells centres source ground are means = record {
  eroded = record {
    source = source;
    positions_are = whole;
    inside = subst (All (λ k. k < cells_of s.image.sides)) (sym whole) (filter-range-below (is_eroded s.image s.template) (cells_of s.image.sides));
    few = omega (arith, ap length whole, length-filter-range-le (is_eroded s.image s.template) (cells_of s.image.sides), source.image.shape.fits);
  };
  centres_are = record {
    span = subst (λ n. IsSpan (is_inside s.image.sides s.template) (cells_of s.image.sides) first n) (sym long) ground.span;
    are = means ∙ ap (λ n. map (centre_in s.image s.template) (range_with_len first n)) (sym long);
  };
}
  where
    whole : positions ≡ positions_of s.image s.template
    whole = are ∙ sym (positions_are s.image s.template first cells ground.span)

    long : length centres ≡ cells
    long = sym (length-map centres category_of) ∙ ap length means ∙ length-map-range_with_len (centre_in s.image s.template) first cells
