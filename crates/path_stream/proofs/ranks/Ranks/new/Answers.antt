use Rattle.std.proofs.Common.{◌≡◌, ◌<◌, ℕ, length, get_or, arith, rules, length-set, ◌∙◌}
use Rattle.std.proofs.lemmas.Grind.{get_or_default_zero}
use Rattle.mp_base.specs.Grid.{cells_of}
use Rattle.path_stream.specs.Ranks.{IsRanked}
use Rattle.path_stream.proofs.Slots.{path-few, path_from-is, ranked_more, ranked_all}
use Rattle.path_stream.proofs.ranks.Ranks.new.Goals as goal

pub overflow_cast-i : goal.overflow_cast-i
overflow_cast-i c = omega (arith, path-few c.args.path.now (cells_of c.args.shape) c.requires.apart c.requires.inside, c.cells.ensures.shape.fits)

pub overflow_add-i : goal.overflow_add-i
overflow_add-i c = omega (arith, path-few c.args.path.now (cells_of c.args.shape) c.requires.apart c.requires.inside, c.cells.ensures.shape.fits)

pub overflow_cast-result : goal.overflow_cast-result
overflow_cast-result c = omega (arith, path-few c.args.path.now (cells_of c.args.shape) c.requires.apart c.requires.inside, c.cells.ensures.shape.fits)

pub loop-i-preserved : goal.loop-i-preserved
loop-i-preserved c =
    let within : c.loop-i.i < length c.args.path.now = search rules in
    let here : c.cell.inside.0 ≡ get_or c.args.path.now c.loop-i.i 0 = c.cell.view_is ∙ c.index-path-i.is ∙ get_or_default_zero c.args.path.now c.loop-i.i c.index-path-i.result within in
    let inside : get_or c.args.path.now c.loop-i.i 0 < cells_of c.args.shape = c.requires.inside c.loop-i.i 0 within in
    record {
      len = search rules;
      each = λ k k_inside. ranked_more c.loop-i.slots.items c.args.path.now c.loop-i.i c.cell.inside.0 within here (omega arith) c.requires.apart c.loop-i.invariant.each k (omega (arith, length-set {A = ℕ}));
    }

pub invariant_of-result : goal.invariant_of-result
invariant_of-result c =
    let ranked : IsRanked c.loop-i.slots.items c.args.path.now = ranked_all c.loop-i.slots.items c.args.path.now (cells_of c.args.shape) c.loop-i.i c.loop-i.invariant.len (search rules) c.requires.inside c.loop-i.invariant.each in
    rw (path_from-is c.loop-i.slots.items c.args.path.now ranked c.requires.apart) ranked

pub returns : goal.returns
returns c =
    let ranked : IsRanked c.loop-i.slots.items c.args.path.now = ranked_all c.loop-i.slots.items c.args.path.now (cells_of c.args.shape) c.loop-i.i c.loop-i.invariant.len (search rules) c.requires.inside c.loop-i.invariant.each in
    path_from-is c.loop-i.slots.items c.args.path.now ranked c.requires.apart
