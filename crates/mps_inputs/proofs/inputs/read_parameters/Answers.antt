use Rattle.std.proofs.Common.{◌≡◌, subst, ℕ, List, Ok}
use Rattle.std.specs.Prelude.{IfErr, IfOk, IsSomeAnd, IsTrue}
use Rattle.mp_outside.specs.Contents.{IsReadUpTo}
use Rattle.mps_inputs.specs.Answers.{IsRefusal}
use Rattle.mps_inputs.specs.Inputs.{parameters_in}
use Rattle.mps_inputs.proofs.Reading.{all_accepted, all_refused, as_file, parameters_of_front}
use Rattle.mps_inputs.proofs.inputs.read_parameters.Goals as goal

pub returns-clause-read : goal.returns-clause-read
returns-clause-read g c =
    let before = g.F.Files.seen c.args.files.now in
    let now = g.F.Files.seen c.read_file.new.files in
    let got = c.in_ok-bytes.bytes.items in
    let read : IsTrue before.tells → IsSomeAnd (before.held c.args.name.now) (λ bytes. parameters_in got ≡ parameters_in bytes) =
    λ told. as_file parameters_in 65536 (before.held c.args.name.now) got (λ bytes. parameters_of_front bytes got)
    (subst (λ (n : List ℕ). IsSomeAnd (before.held n) (λ bytes. IsReadUpTo 65536 bytes got)) c.as_str.ensures.name (c.in_ok-bytes.ensures.read told)) in
    all_accepted parameters_in c.args.name.now before now got read c.parameters_in.result
    (subst (λ (b : List ℕ). IfOk c.parameters_in.result (λ p. parameters_in b ≡ Ok p)) c.deref.ensures.value c.parameters_in.ensures.given)

pub returns-clause-fault : goal.returns-clause-fault
returns-clause-fault g c =
    let before = g.F.Files.seen c.args.files.now in
    let now = g.F.Files.seen c.read_file.new.files in
    let got = c.in_ok-bytes.bytes.items in
    let read : IsTrue before.tells → IsSomeAnd (before.held c.args.name.now) (λ bytes. parameters_in got ≡ parameters_in bytes) =
    λ told. as_file parameters_in 65536 (before.held c.args.name.now) got (λ bytes. parameters_of_front bytes got)
    (subst (λ (n : List ℕ). IsSomeAnd (before.held n) (λ bytes. IsReadUpTo 65536 bytes got)) c.as_str.ensures.name (c.in_ok-bytes.ensures.read told)) in
    all_refused parameters_in c.args.name.now before now got read c.parameters_in.result
    (subst (λ (b : List ℕ). IfErr c.parameters_in.result (IsRefusal (parameters_in b))) c.deref.ensures.value c.parameters_in.ensures.fault)
