use Rattle.std.proofs.Common.{sym, ◌∙◌, map, string_bytes, String, Global}
use Rattle.mps_top.proofs.Naming.{no_command}
use Rattle.mps_top.proofs.Serving.{refused}
use Rattle.mps_top.proofs.calls.serve.Goals as goal

pub returns-in-Some-clause-no_name : goal.returns-in-Some-clause-no_name
returns-in-Some-clause-no_name g c =
    let words = map (λ (w : String Global). string_bytes w) c.args.words.now in
    λ none. absurd (cc (sym c.in-Some.is ∙ c.in_ok-command.ensures.command ∙ no_command words none))

pub returns-in-None-clause-serves : goal.returns-in-None-clause-serves
returns-in-None-clause-serves g c =
    let words = map (λ (w : String Global). string_bytes w) c.args.words.now in
    let before = g.F.Files.seen c.args.files.now in
    let out = g.O.Sink.seen c.args.out.now in
    refused words before before out out (sym c.in_ok-command.ensures.command ∙ c.in-None.is)
