use Rattle.std.proofs.Common.{◌≡◌, ◌^◌, subst, ℕ, List, Ok}
use Rattle.std.specs.Prelude.{IfErr, IfOk, IsSomeAnd, IsTrue}
use Rattle.mp_outside.specs.Contents.{IsReadUpTo}
use Rattle.mps_inputs.specs.Answers.{IsRefusal}
use Rattle.mps_inputs.proofs.Reading.{all_accepted, all_refused, as_file}
use Rattle.mps_replay.specs.Outcome.{schedule_in}
use Rattle.mps_replay.proofs.Schedules.{schedule_of_front}
use Rattle.mps_replay.proofs.schedule.read_schedule_file.Goals as goal

pub returns-clause-read : goal.returns-clause-read
returns-clause-read g c =
    let before = g.F.Files.seen c.args.files.now in
    let now = g.F.Files.seen c.read_file.new.files in
    let p = c.args.parameters.now in
    let got = c.in_ok-bytes.bytes.items in
    let read : IsTrue before.tells → IsSomeAnd (before.held c.args.name.now) (λ bytes. schedule_in p got ≡ schedule_in p bytes) =
    λ told. as_file (schedule_in p) (2 ^ 22) (before.held c.args.name.now) got (λ bytes. schedule_of_front p bytes got)
    (subst (λ (n : List ℕ). IsSomeAnd (before.held n) (λ bytes. IsReadUpTo (2 ^ 22) bytes got)) c.as_str.ensures.name (c.in_ok-bytes.ensures.read told)) in
    all_accepted (schedule_in p) c.args.name.now before now got read c.schedule_in.result
    (subst (λ (b : List ℕ). IfOk c.schedule_in.result (λ s. schedule_in p b ≡ Ok s)) c.deref.ensures.value c.schedule_in.ensures.given)

pub returns-clause-fault : goal.returns-clause-fault
returns-clause-fault g c =
    let before = g.F.Files.seen c.args.files.now in
    let now = g.F.Files.seen c.read_file.new.files in
    let p = c.args.parameters.now in
    let got = c.in_ok-bytes.bytes.items in
    let read : IsTrue before.tells → IsSomeAnd (before.held c.args.name.now) (λ bytes. schedule_in p got ≡ schedule_in p bytes) =
    λ told. as_file (schedule_in p) (2 ^ 22) (before.held c.args.name.now) got (λ bytes. schedule_of_front p bytes got)
    (subst (λ (n : List ℕ). IsSomeAnd (before.held n) (λ bytes. IsReadUpTo (2 ^ 22) bytes got)) c.as_str.ensures.name (c.in_ok-bytes.ensures.read told)) in
    all_refused (schedule_in p) c.args.name.now before now got read c.schedule_in.result
    (subst (λ (b : List ℕ). IfErr c.schedule_in.result (IsRefusal (schedule_in p b))) c.deref.ensures.value c.schedule_in.ensures.fault)
