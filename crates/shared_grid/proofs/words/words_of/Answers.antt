use Rattle.std.proofs.Common.{◌∷◌, ◌++◌, [], sym, ap, ◌∙◌, arith}
use Rattle.mp_base.specs.Grid.{cells_of}
use Rattle.shared_grid.specs.Rule.{word_of}
use Rattle.shared_grid.proofs.Found.{more_words}
use Rattle.shared_grid.proofs.words.words_of.Goals as goal

pub loop-number-preserved : goal.loop-number-preserved
loop-number-preserved c =
    let cells = c.args.start.now.cells in
    let n = c.loop-number.number in
    let inside = c.loop-number-test.true in
    let grid = c.shape.ensures.grid in
    c.in_ok-push-2.ensures.items
    ∙ (λ i. c.loop-number.invariant i ++ (c.word_from.ensures.word ∙ ap word_of c.get.ensures.value) i ∷ [])
    ∙ ap (λ ws. 0 ∷ ws) (sym (more_words cells n (omega (arith, grid.count, inside, c.cells-count.ensures.count, ap cells_of c.shape.ensures.sides))))
