use Rattle.std.proofs.Common.{refl, subst, Ok}
use Rattle.mp_outside.specs.Contents.{Held}
use Rattle.mps_inputs.specs.Answers.{Serves, seen}
use Rattle.mps_inputs.specs.declared.inputs.Inputs.{Inputs}
use Rattle.mps_inputs.proofs.Ending.{inputs_accepted}
use Rattle.mps_demo.specs.Outcome.{summary_of}
use Rattle.mps_demo.proofs.command.demo.Goals as goal

pub returns : goal.returns
returns g c =
    let out = g.O.Sink.seen c.args.out.now in
    let told = g.O.Sink.seen c.summarise.new.out in
    let inputs = c.in_ok-inputs.inputs in
    λ files.
    subst (λ (i : Inputs). Serves (λ (_ : Held). summary_of i) (seen files out) (seen files told) c.summarise.result) c.in_ok-inputs.ensures.inputs
    (inputs_accepted (λ (_ : Held). Ok inputs) summary_of files files out inputs files told (λ tells. refl) refl (λ name. refl) (λ name. refl) c.summarise.result (c.summarise.ensures files))
