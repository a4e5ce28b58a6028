use Rattle.std.proofs.Common.{◌≡◌, ℕ, List, ◌∙◌, ap, sym, subst, length, arith}
use Rattle.ti_scan.specs.Eroded.{positions_of}
use Rattle.pattern_store.specs.Levels.{AreCentres}
use Rattle.pattern_store.proofs.Lists.{written_over}
use Rattle.pattern_store.proofs.Numbers.{built}
use Rattle.pattern_store.proofs.building.blocks_of.Goals as goal

pub returns : goal.returns
returns c =
    let s = c.args.eroded.now in
    let source = c.positions-count.ensures.source in
    let centres = c.read_centres.new.centres in
    let same : c.deref.result.now ≡ centres = c.deref.ensures.value ∙ written_over c.in_ok-centres.centres.items centres c.in_ok-centres.centres.len (omega (arith, c.read_centres.ensures.count, ap length c.positions-count.ensures.positions, c.in_ok-centres.ensures.len)) in
    let are = subst (λ (l : List ℕ). AreCentres s (positions_of s.image s.template) l) (sym same) c.read_centres.ensures in
    built s source c.args.places.now c.deref.result.now c.in_ok-numbers.numbers.items c.deref-2.result.now c.in_ok-words.words.items c.args.classes c.args.groups c.len.result c.cats-cats.result c.of-2.result c.in_ok-counts.counts
    c.requires.places c.requires.below are c.cats-cats.ensures (c.len.ensures.len ∙ ap length c.template.ensures) c.in_ok-numbers.ensures.count c.in_ok-numbers.ensures.each c.deref-2.ensures.value c.in_ok-counts.ensures c.in_ok-words.ensures c.of-2.ensures
