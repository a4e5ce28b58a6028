use Rattle.std.proofs.Common.{◌≡◌, ◌<◌, ◌∙◌, ap, sym, subst, ℕ, get_or, is_some, length, true, arith}
use Rattle.std.proofs.lemmas.Bool.{false≢true}
use Rattle.std.proofs.lemmas.Bool.Decides.{nat_tests}
use Rattle.std.proofs.lemmas.Grind.{get_or_default_zero}
use Rattle.ti_scan.specs.Eroded.{is_eroded}
use Rattle.pattern_store.proofs.Reading.{around_inside}
use Rattle.pattern_store.proofs.filling.read_around.Goals as goal

pub unreachable-requires : goal.unreachable-requires
unreachable-requires c =
    let s = c.args.eroded.now in
    let cells = c.args.cells.now in
    let some : 0 < length cells = grind (arith, nat_tests) in
    let cell = c.index-cells-0.result in
    let first : get_or cells 0 0 ≡ cell = sym (get_or_default_zero cells 0 cell some) ∙ sym c.index-cells-0.is in
    let there = subst (λ (k : ℕ). is_eroded s.image s.template k ≡ true) first (c.requires.cells.eroded 0 some) in
    let none = rw (c.shape.ensures.sides, c.image.ensures, c.vectors.ensures.vectors, c.template.ensures) at c.in-None.ensures.cell in
    false≢true (ap is_some none ∙ around_inside s c.args.position cell _ c.requires.first c.requires.last there)
