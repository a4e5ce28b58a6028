use Rattle.std.proofs.Common.{sym, subst}
use Rattle.mps_inputs.specs.Answers.{Serves, seen}
use Rattle.mps_top.specs.Outcome.{outcome_for}
use Rattle.mps_words.specs.declared.words.Command.{Command}
use Rattle.mps_top.proofs.calls.serve_command.Goals as goal

pub returns-in-Run : goal.returns-in-Run
returns-in-Run g c =
    let before = g.F.Files.seen c.args.files.now in
    let now = g.F.Files.seen c.run.new.files in
    let out = g.O.Sink.seen c.args.out.now in
    let told = g.O.Sink.seen c.run.new.out in
    subst (λ (command : Command). Serves (outcome_for command) (seen before out) (seen now told) c.run.result) (sym c.in-Run.is) c.run.ensures

pub returns-in-Demo : goal.returns-in-Demo
returns-in-Demo g c =
    let files = g.F.Files.seen c.args.files.now in
    let out = g.O.Sink.seen c.args.out.now in
    let told = g.O.Sink.seen c.demo.new.out in
    subst (λ (command : Command). Serves (outcome_for command) (seen files out) (seen files told) c.demo.result) (sym c.in-Demo.is) (c.demo.ensures files)
