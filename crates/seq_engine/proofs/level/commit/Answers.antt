use Rattle.std.proofs.Common.{arith, ◌≡◌, ◌∙◌, sym, ap, get_or, None}
use Rattle.mp_base.proofs.Tallies.{length-tally, tally-le-length, tally-set, cat_of-get_or}
use Rattle.mp_base.specs.Counts.{one_more}
use Rattle.mp_base.specs.Cells.{category_counts}
use Rattle.seq_engine.proofs.level.commit.Goals as goal

pub add_one-requires-clause-cat : goal.add_one-requires-clause-cat
add_one-requires-clause-cat c = rw (c.requires.known, length-tally (λ v. v) c.args.cats c.args.now.now.cells) c.requires.cat

pub add_one-requires-clause-room : goal.add_one-requires-clause-room
add_one-requires-clause-room c =
    rw c.requires.known
    (omega (arith, tally-le-length (λ v. v) c.args.cats c.args.now.now.cells c.args.entry.now.cat c.requires.cat, c.shape.ensures.grid.count, c.shape.ensures.grid.shape.fits))

pub returns-clause-known : goal.returns-clause-known
returns-clause-known c =
    let none : get_or c.args.now.now.cells c.args.entry.now.cell None ≡ None = sym (cat_of-get_or c.args.now.now.cells c.args.entry.now.cell) ∙ c.requires.unknown in
    c.add_one.ensures ∙ ap (λ k. one_more k c.args.entry.now.cat) c.requires.known
    ∙ sym (tally-set c.args.cats c.args.now.now.cells c.args.entry.now.cell c.args.entry.now.cat c.requires.cell none c.requires.cat)
    ∙ ap (λ g. category_counts c.args.cats g.cells) (sym c.set.ensures)
