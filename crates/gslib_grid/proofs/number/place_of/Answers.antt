use Rattle.std.proofs.Common.{◌≡◌, ◌-◌, Some, None, true, false, cond, ltb, length, w32, ap, sym, ◌∙◌, arith}
use Rattle.std.specs.List.{position}
use Rattle.std.specs.Ordering.{int_eq}
use Rattle.std.proofs.lemmas.Bool.{le-ltb, lt-ltb}
use Rattle.std.proofs.lemmas.Int.{to_z-of_z}
use Rattle.gslib_grid.proofs.Categories.{place_at_end, place_behind, place_here, place_is}
use Rattle.gslib_grid.proofs.number.place_of.Goals as goal

pub loop-at-init : goal.loop-at-init
loop-at-init c = place_at_end c.args.codes.now _

pub bounds-codes-at : goal.bounds-codes-at
bounds-codes-at c = omega (arith, c.loop-at-test.true, c.loop-at.invariant.behind, c.loop-at.invariant.within)

pub loop-at-preserved-then-is_same : goal.loop-at-preserved-then-is_same
loop-at-preserved-then-is_same c =
    place_here c.args.codes.now _ (c.loop-at.at - 1) (omega (arith, c.loop-at-test.true, c.loop-at.invariant.behind, c.loop-at.invariant.within)) (sym c.is_same.ensures ∙ c.if-is_same.true)

pub loop-at-preserved : goal.loop-at-preserved
loop-at-preserved c = place_behind c.args.codes.now _ c.loop-at.at c.loop-at.place c.loop-at-test.true c.loop-at.invariant (sym c.is_same.ensures ∙ c.if-is_same.false)

pub returns-then-place-codes-clause-place : goal.returns-then-place-codes-clause-place
returns-then-place-codes-clause-place c =
    let place = c.loop-at.place in
    let codes = c.args.codes.now in
    let inside : ltb place (length codes) ≡ true = lt-ltb place (length codes) c.if-place-codes.true in
    sym (ap (λ t. cond t (Some place) None) inside) ∙ place_is codes _ c.loop-at.at place (omega (arith, c.loop-at-test.false)) c.loop-at.invariant
    ∙ ap (λ z. position (int_eq z) codes) (to_z-of_z w32 c.args.code c.ranges.code)

pub returns-else-place-codes-clause-place : goal.returns-else-place-codes-clause-place
returns-else-place-codes-clause-place c =
    let place = c.loop-at.place in
    let codes = c.args.codes.now in
    let outside : ltb place (length codes) ≡ false = le-ltb place (length codes) (omega (arith, c.if-place-codes.false)) in
    sym (ap (λ t. cond t (Some place) None) outside) ∙ place_is codes _ c.loop-at.at place (omega (arith, c.loop-at-test.false)) c.loop-at.invariant
    ∙ ap (λ z. position (int_eq z) codes) (to_z-of_z w32 c.args.code c.ranges.code)
