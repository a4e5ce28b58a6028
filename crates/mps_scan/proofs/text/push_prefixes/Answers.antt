use Rattle.std.proofs.Common.{◌≡◌, ◌++◌, ◌+◌, List, ℕ, ap, sym, ◌∙◌, length, take, arith}
use Rattle.std.specs.List.{flat_map, range_with_len}
use Rattle.std.proofs.lemmas.List.{flat_map_more}
use Rattle.mp_base.proofs.Ranges.{range_more}
use Rattle.ti_scan.specs.Event.{counts_of}
use Rattle.mps_scan.specs.Text.{counts_line, prefix_line}
use Rattle.mps_scan.proofs.TextLemmas.{as_many, counts_at}
use Rattle.mps_scan.proofs.text.push_prefixes.Goals as goal

pub loop-len-preserved : goal.loop-len-preserved
loop-len-preserved c =
    let f = counts_of c.args._plan.now.source in
    let event = c.args._event.now in
    let before = c.args.to.now.items in
    let n = c.loop-len.len in
    let found = c.index-counts-len.result in
    let at : found ≡ f (take n event) = counts_at f event c.args.counts.now c.requires n found (omega (arith, c.loop-len-test.true)) c.index-counts-len.is in
    c.in_ok-push_prefix.ensures ∙ ap (λ (now : List ℕ). now ++ counts_line n found) c.loop-len.invariant
    ∙ ap (λ (counts : List ℕ). (before ++ flat_map (prefix_line f event) (range_with_len 0 n)) ++ counts_line n counts) at
    ∙ flat_map_more (prefix_line f event) before (range_with_len 0 n) n ∙ ap (λ (lens : List ℕ). before ++ flat_map (prefix_line f event) lens) (sym (range_more n))

pub returns : goal.returns
returns c =
    let f = counts_of c.args._plan.now.source in
    let event = c.args._event.now in
    let all : c.loop-len.len ≡ length event + 1 = omega (arith, as_many f event c.args.counts.now c.requires, c.loop-len-test.false, c.loop-len.auto.len-end) in
    c.loop-len.invariant ∙ ap (λ n. c.args.to.now.items ++ flat_map (prefix_line f event) (range_with_len 0 n)) all
