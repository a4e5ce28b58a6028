use Rattle.std.proofs.Common.{sym, ◌∙◌, map, string_bytes, String, Global}
use Rattle.mps_top.specs.Outcome.{outcome_of}
use Rattle.mps_top.proofs.Serving.{usage_cause}
use Rattle.mps_top.proofs.calls.answer.Goals as goal

pub returns-clause-usage : goal.returns-clause-usage
returns-clause-usage g c =
    let words = map (λ (w : String Global). string_bytes w) c.args.words.now in
    let before = g.F.Files.seen c.args.files.now in
    let now = g.F.Files.seen c.serve_beside-answer.new.files in
    let out = g.O.Sink.seen c.args.out.now in
    let told = g.O.Sink.seen c.serve_beside-answer.new.out in
    λ is. usage_cause (outcome_of words) before now out told c.serve_beside-answer.result c.serve_beside-answer.ensures.serves.cause (sym c.status.ensures ∙ is)
