use Rattle.std.proofs.Common.{◌++◌, ℕ, List, ap, ◌∙◌}
use Rattle.std.proofs.lemmas.List.{append_assoc}
use Rattle.ti_scan.specs.Event.{counts_of}
use Rattle.mps_scan.specs.Text.{prefix_lines, retained_line, scan_text, store_line}
use Rattle.mps_scan.proofs.text.push_scan_text.Goals as goal

pub returns-clause-text : goal.returns-clause-text
unfolding scan_text
returns-clause-text g c =
    let p = c.args.plan.now in
    let event = c.args.event.now in
    let first : List ℕ = store_line c.args.choice c.args.size in
    let last : List ℕ = retained_line p event in
    let one = c.in_ok-push_size.ensures ∙ ap (λ (xs : List ℕ). xs ++ first) c.new-text.ensures.items in
    let two = c.in_ok-push_prefixes.ensures ∙ ap (λ (xs : List ℕ). xs ++ prefix_lines (counts_of p.source) event) one in
    let three = c.in_ok-push_retained.ensures ∙ ap (λ (xs : List ℕ). xs ++ last) two ∙ append_assoc first (prefix_lines (counts_of p.source) event) last in
    c.in_ok-extend_from_slice.ensures.items ∙ ap (λ (xs : List ℕ). c.args.to.now.items ++ xs) (c.deref.ensures.value ∙ three)
