use Rattle.std.proofs.Common.{arith, ◌+◌, ◌-◌, is_some}
use Rattle.std.proofs.lemmas.List.Sums.{AllPass-from_list_all}
use Rattle.mp_base.specs.Grid.{cell_at}
use Rattle.ti_scan.proofs.Finding.{around}
use Rattle.ti_scan.proofs.scan.bytes_around.Goals as goal

pub bytes_at-requires-clause-ends : goal.bytes_at-requires-clause-ends
bytes_at-requires-clause-ends c = λ last is.
    rw (c.image.ensures, c.vectors.ensures.vectors, c.template.ensures)
    (AllPass-from_list_all (λ w. is_some (cell_at c.args.source.now.image.sides last w)) c.args.source.now.template (c.requires.span.ends last is (omega arith)) (c.args.position - 1) _ (omega arith))

pub returns : goal.returns
returns c = around c.args.source.now c.args.position (c.args.span.first + c.args.start) c.args.len c.bytes_at.result.now _ c.requires.first c.requires.last (rw (c.image.ensures, c.vectors.ensures.vectors, c.template.ensures) at c.bytes_at.ensures)
