use Rattle.std.proofs.Common.{rules, arith, ◌≡◌, ◌∙◌, ap, sym, subst, ℕ, length, take}
use Rattle.ti_scan.specs.Event.{Source}
use Rattle.ti_scan.specs.Window.{AreCentres, found_in}
use Rattle.ti_scan.proofs.Finding.{counts_are, found_none, found-append, found-le, zero_at}
use Rattle.ti_scan.proofs.eroded.Eroded.scan_counts.Goals as goal

pub loop-start-init : goal.loop-start-init
loop-start-init c = record {
  within = omega arith;
  eight = search rules;
  parts = λ k below. zero_at k (omega (arith, c.positions.ensures.source.cats_few)) ∙ sym (found_none c.args.self.now c.args.event.now k c.self.inside.first);
}

pub scan_block-requires-clause-room : goal.scan_block-requires-clause-room
scan_block-requires-clause-room c = λ k below.
    omega (arith, c.loop-start.invariant.parts k below, found-le c.args.self.now c.args.event.now k c.self.inside.first c.loop-start.start)

pub loop-start-preserved : goal.loop-start-preserved
loop-start-preserved c = record {
  within = omega (arith, c.min-len.ensures);
  eight = c.scan_block.ensures.count ∙ c.loop-start.invariant.eight;
  parts = λ k below.
      omega (arith, c.scan_block.ensures.each k below, c.loop-start.invariant.parts k below, found-append c.args.self.now c.args.event.now k c.self.inside.first c.loop-start.start c.min-len.result);
}

pub returns : goal.returns
returns c =
    let s = c.args.self.now in
    let event = c.args.event.now in
    let first = c.self.inside.first in
    let centres = c.self.inside.centres.items in
    let cats = ap (λ (t : Source). t.cats) c.self.view_is in
    let are = subst (λ (t : Source). AreCentres t first centres) c.self.view_is c.self.invariant.centres_are in
    let end : c.loop-start.start ≡ length centres = omega (arith, ap length c.as_slice-centres.ensures.value) in
    c.of.ensures ∙ ap (λ (n : ℕ). take n c.loop-start.parts) cats
    ∙ counts_are s event first centres c.loop-start.parts are (omega (arith, c.positions.ensures.source.cats_few, c.loop-start.invariant.eight)) (λ k below. c.loop-start.invariant.parts k below ∙ ap (λ (n : ℕ). found_in s event k first n) end)
