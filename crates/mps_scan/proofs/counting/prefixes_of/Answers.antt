use Rattle.std.proofs.Common.{◌++◌, ◌∷◌, [], List, ap, sym, ◌∙◌, take, arith}
use Rattle.std.proofs.lemmas.List.FromFn.{map-range_with_len_more}
use Rattle.ti_scan.specs.declared.event.Datum.{Datum}
use Rattle.mps_scan.proofs.counting.prefixes_of.Goals as goal

pub loop-len-preserved : goal.loop-len-preserved
loop-len-preserved c =
    let event = c.args.event.now in
    let n = c.loop-len.len in
    c.in_ok-push.ensures.items ∙ (λ i. c.loop-len.invariant i ++ c.prefix.ensures i ∷ []) ∙ sym (map-range_with_len_more (λ len. take len event) 0 n n (omega arith))
