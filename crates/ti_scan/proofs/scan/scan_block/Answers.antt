use Rattle.std.proofs.Common.{arith, ap, ◌≡◌, ◌+◌, ◌-◌, take, drop, subst, ℕ}
use Rattle.ti_scan.specs.Window.{AddsMarked}
use Rattle.ti_scan.proofs.Finding.{found_block}
use Rattle.ti_scan.proofs.scan.scan_block.Goals as goal

pub returns : goal.returns
returns c =
    let count : c.args.start + c.args.len - c.args.start ≡ c.args.len = omega arith in
    found_block c.args.source.now c.args.event.now c.args.span.first c.args.start c.args.len 4096 c.args.centres.now _ c.keep_shown.new.marks c.args.parts.now c.add_marked.new.parts c.requires.cats c.requires.centres (omega arith) (ap (λ (n : ℕ). take n (drop c.args.start c.args.centres.now)) count) c.requires.few c.keep_shown.ensures
    (subst (λ (n : ℕ). AddsMarked c.keep_shown.new.marks (take (c.args.start + c.args.len - c.args.start) (drop c.args.start c.args.centres.now)) n c.args.parts.now c.add_marked.new.parts) c.cats.ensures c.add_marked.ensures)
