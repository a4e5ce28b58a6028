use Rattle.std.proofs.Common.{◌≡◌, ◌<◌, ◌*◌, ◌∙◌, ℕ, List, length, get_or, ap, sym, subst, arith}
use Rattle.mp_base.specs.Grid.{cells_of}
use Rattle.ti_scan.specs.Eroded.{positions_of}
use Rattle.pattern_store.specs.Building.{AreDrawn, ArePicked, IsDrawn}
use Rattle.pattern_store.specs.Levels.{AreEroded, around}
use Rattle.pattern_store.proofs.Bitwise.{has_block}
use Rattle.pattern_store.proofs.Lists.{written_over}
use Rattle.pattern_store.proofs.Picks.{all_drawn, picked_eroded}
use Rattle.pattern_store.proofs.drawing.drawn.Goals as goal

pub draw-requires-clause-cells : goal.draw-requires-clause-cells
draw-requires-clause-cells c =
    let s = c.args.eroded.now in
    let own = c.in_ok-own.own.items in
    let cells = c.in_ok-cells.cells.items in
    let owns = subst (λ (l : List ℕ). ArePicked c.args.places.now l own) c.deref.ensures.value c.in_ok-own.ensures in
    let stand = subst (λ (l : List ℕ). ArePicked (positions_of s.image s.template) l cells) c.deref-2.ensures.value c.in_ok-cells.ensures in
    subst (λ (l : List ℕ). AreEroded s l) (sym c.deref-3.ensures.value)
    (picked_eroded s c.positions.ensures.source c.args.places.now c.in_ok-picks.picks.items own cells c.requires.places c.in_ok-picks.ensures owns stand
    (λ i within. subst (λ (l : List ℕ). get_or l i 0 < cells_of s.image.sides) c.positions.ensures.positions (c.positions.ensures.inside i 0 (omega (arith, ap length c.positions.ensures.positions)))))

pub draw-requires-clause-room : goal.draw-requires-clause-room
draw-requires-clause-room c = λ i within.
    let s = c.args.eroded.now in
    let own = c.in_ok-own.own.items in
    let picks = c.in_ok-picks.picks.items in
    let owns = subst (λ (l : List ℕ). ArePicked c.args.places.now l own) c.deref.ensures.value c.in_ok-own.ensures in
    let known : i < length picks = omega (arith, ap length c.deref-4.ensures.value, owns.count) in
    let here : get_or c.deref-4.result.now i 0 ≡ get_or own i 0 = ap (λ (l : List ℕ). get_or l i 0) c.deref-4.ensures.value in
    let reach : c.len.result ≡ length s.template = c.len.ensures.len ∙ ap length c.template.ensures in
    has_block (get_or c.deref-4.result.now i 0) c.args.groups (length s.template * s.cats) c.deref_mut-2.result.now
    (omega (arith, here, owns.each i known, c.requires.below (get_or picks i 0) (c.in_ok-picks.ensures.within i known), c.requires.room))
    (c.deref_mut-2.ensures.len ∙ c.in_ok-words.ensures.len ∙ ap (λ r. c.args.groups * 64 * (r * c.cats.result)) reach ∙ ap (λ k. c.args.groups * 64 * (length s.template * k)) c.cats.ensures)

pub returns : goal.returns
returns c =
    let s = c.args.eroded.now in
    let own = c.in_ok-own.own.items in
    let cells = c.in_ok-cells.cells.items in
    let words = c.draw.new.words in
    let owns = subst (λ (l : List ℕ). ArePicked c.args.places.now l own) c.deref.ensures.value c.in_ok-own.ensures in
    let stand = subst (λ (l : List ℕ). ArePicked (positions_of s.image s.template) l cells) c.deref-2.ensures.value c.in_ok-cells.ensures in
    let around_cells = subst (λ (l : List ℕ). AreDrawn (around s l) (λ i. get_or c.deref-4.result.now i 0) (length c.deref-4.result.now) (length s.template) s.cats (length s.template) words) c.deref-3.ensures.value c.draw.ensures.drawn in
    let drawn = subst (λ (l : List ℕ). AreDrawn (around s cells) (λ i. get_or l i 0) (length l) (length s.template) s.cats (length s.template) words) c.deref-4.ensures.value around_cells in
    subst (λ (l : List ℕ). IsDrawn s (λ i. get_or c.args.places.now i 0) (length s.template) l) (sym (written_over c.in_ok-words.words.items words c.in_ok-words.words.len (c.draw.ensures.count ∙ c.deref_mut-2.ensures.len)))
    (all_drawn s c.positions.ensures.source c.args.places.now c.in_ok-picks.picks.items own cells c.requires.places c.in_ok-picks.ensures owns stand c.requires.alike words drawn)
