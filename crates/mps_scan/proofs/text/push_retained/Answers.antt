use Rattle.std.proofs.Common.{◌≡◌, ◌++◌, ℕ, List, length, subst, ◌∙◌}
use Rattle.std.specs.Result.{OnOk}
use Rattle.event_retrieve.specs.Retrieval.{retained}
use Rattle.mps_scan.specs.Text.{kept_line, retained_line}
use Rattle.mps_scan.proofs.TextLemmas.{retained_len}
use Rattle.mps_scan.proofs.text.push_retained.Goals as goal

pub returns : goal.returns
returns g c =
    let p = c.args.plan.now in
    let event = c.args.event.now in
    let len : c.retain-kept.result.len ≡ length (retained p event) = c.retain-kept.ensures.len ∙ retained_len p event in
    let line : kept_line c.retain-kept.result.len c.retain-kept.result.reach c.retain-kept.result.counts ≡ retained_line p event =
    (λ i. kept_line (len i) (c.retain-kept.ensures.reach i) (c.retain-kept.ensures.counts i)) in
    subst (λ (text : List ℕ). OnOk c.push_kept.result (c.push_kept.new.to.items ≡ c.args.to.now.items ++ text)) line c.push_kept.ensures
