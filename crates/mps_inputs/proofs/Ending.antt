-- What an answer leaves, by what a stage of the command left.
use Rattle.std.proofs.Common.{◌≡◌, ◌⊎◌, inl, inr, refl, sym, ◌∙◌, ap, subst, ℕ, List, ◌++◌, take, Option, Some, None, Result, Ok, Err}
use Rattle.std.specs.Prelude.{IsTrue, IsOk, IsOkAnd}
use Rattle.mp_outside.specs.Causes.{NoneFell, Rose, SameCounts}
use Rattle.mp_outside.specs.Contents.{Held, SameHeld}
use Rattle.mps_inputs.specs.Answers.{Causes, Ends, Finishes, HoldsFront, HoldsText, IsFront, IsPart, IsInputFault, IsRefusal, IsUsage, IsWhole, LeavesFiles, LeavesOut, OfOutput, Serves, WritesTo, seen}
use Rattle.mp_text.specs.Chain.{◌>>=◌}
use Rattle.mps_inputs.specs.Done.{Done, Output}
use Rattle.mp_outside.specs.Seen.{FilesSeen, SinkSeen}
use Rattle.mps_inputs.specs.declared.fault.Fault.{Fault}
use Rattle.mps_inputs.specs.declared.fault.Fault.TheVariants.{Usage, CannotRead, CannotWrite, OutOfMemory, CannotReport}
use Rattle.mps_inputs.proofs.Reading.{IsStage, first_refused, second_refused}

-- a refusal of work that has touched nothing
pub refused_ends : (outcome : Result Done Fault) (fault : Fault) (files : FilesSeen) (out : SinkSeen) → IsRefusal outcome fault → Ends outcome (seen files out) (seen files out) (Err fault)
refused_ends outcome Usage files out is = absurd is
refused_ends outcome (CannotRead name) files out is = absurd is
refused_ends outcome (CannotWrite name) files out is = absurd is
refused_ends outcome CannotReport files out is = absurd is
refused_ends outcome OutOfMemory files out is = record { cause = is; files = λ told. inl (λ name. refl); out = λ told. inl refl }
refused_ends outcome fault files out is = record { cause = is; files = λ told name. refl; out = λ told. refl }

-- the same whatever the files hold
pub refused_serves : (outcome : Held → Result Done Fault) (fault : Fault) (files : FilesSeen) (out : SinkSeen) → ((held : Held) → IsRefusal (outcome held) fault) → Serves outcome (seen files out) (seen files out) (Err fault)
refused_serves outcome Usage files out is = absurd (is files.held)
refused_serves outcome (CannotRead name) files out is = absurd (is files.held)
refused_serves outcome (CannotWrite name) files out is = absurd (is files.held)
refused_serves outcome CannotReport files out is = absurd (is files.held)
refused_serves outcome OutOfMemory files out is = record { cause = tt; files = λ told. inl (λ name. refl); out = λ told. inl refl }
refused_serves outcome fault files out is = record { cause = λ told. is files.held; files = λ told name. refl; out = λ told. refl }

-- The same files before.

text_same : (before mid now : Held) (file : Output) → SameHeld before mid → HoldsText mid now file → HoldsText before now file
text_same before mid now file same holds = record { text = holds.text; others = λ other differs. holds.others other differs ∙ same other }

front_same : (before mid now : Held) (file : Output) → SameHeld before mid → HoldsFront mid now file → HoldsFront before now file
front_same before mid now file same holds = record { front = from holds.front; others = λ other differs. holds.others other differs ∙ same other }
  where
    from : (now file.name ≡ mid file.name) ⊎ ((count : ℕ) × (now file.name ≡ Some (take count file.text))) → (now file.name ≡ before file.name) ⊎ ((count : ℕ) × (now file.name ≡ Some (take count file.text)))
    from (inl kept) = inl (kept ∙ same file.name)
    from (inr front) = inr front

whole_same : (before mid now : Held) (output : Option Output) → SameHeld before mid → OfOutput HoldsText mid now output → OfOutput HoldsText before now output
whole_same before mid now None same holds = λ name. holds name ∙ same name
whole_same before mid now (Some file) same holds = text_same before mid now file same holds

part_same : (before mid now : Held) (output : Option Output) → SameHeld before mid → OfOutput HoldsFront mid now output → OfOutput HoldsFront before now output
part_same before mid now None same holds = λ name. holds name ∙ same name
part_same before mid now (Some file) same holds = front_same before mid now file same holds

whole_from : (before mid now : Held) (outcome : Result Done Fault) → SameHeld before mid → IsOkAnd outcome (IsWhole mid now) → IsOkAnd outcome (IsWhole before now)
whole_from before mid now (Ok done) same holds = whole_same before mid now done.output same holds
whole_from before mid now (Err fault) same holds = holds

part_from : (before mid now : Held) (outcome : Result Done Fault) → SameHeld before mid → IsOkAnd outcome (IsPart mid now) → IsOkAnd outcome (IsPart before now)
part_from before mid now (Ok done) same holds = part_same before mid now done.output same holds
part_from before mid now (Err fault) same holds = holds

pub files_from : (before mid now : Held) (outcome : Result Done Fault) (answer : Result (Unit {0}) Fault) → SameHeld before mid → LeavesFiles outcome mid now answer → LeavesFiles outcome before now answer
files_from before mid now outcome (Ok done) same left = whole_from before mid now outcome same left
files_from before mid now outcome (Err CannotReport) same left = whole_from before mid now outcome same left
files_from before mid now outcome (Err (CannotWrite name)) same left = part_from before mid now outcome same left
files_from before mid now outcome (Err OutOfMemory) same left = either left
  where
    either : SameHeld mid now ⊎ IsOkAnd outcome (IsPart mid now) → SameHeld before now ⊎ IsOkAnd outcome (IsPart before now)
    either (inl kept) = inl (λ name. kept name ∙ same name)
    either (inr part) = inr (part_from before mid now outcome same part)
files_from before mid now outcome (Err fault) same left = λ name. left name ∙ same name

-- An outcome that is known where the files tell.

pub out_from : (Told : Type 0) (outcome known : Result Done Fault) (before now : List ℕ) (answer : Result (Unit {0}) Fault) → (Told → outcome ≡ known) → LeavesOut Told known before now answer → LeavesOut Told outcome before now answer
out_from Told outcome known before now (Ok done) is left = λ told. subst (λ (o : Result Done Fault). IsOkAnd o (λ done. now ≡ before ++ done.out)) (sym (is told)) (left told)
out_from Told outcome known before now (Err CannotReport) is left = λ told. subst (λ (o : Result Done Fault). IsOkAnd o (IsFront before now)) (sym (is told)) (left told)
out_from Told outcome known before now (Err OutOfMemory) is left = either left
  where
    either : (now ≡ before) ⊎ (Told → IsOkAnd known (IsFront before now)) → (now ≡ before) ⊎ (Told → IsOkAnd outcome (IsFront before now))
    either (inl kept) = inl kept
    either (inr front) = inr (λ told. subst (λ (o : Result Done Fault). IsOkAnd o (IsFront before now)) (sym (is told)) (front told))
out_from Told outcome known before now (Err fault) is left = left

module _ {A : Type 0} (stage : Held → Result A Fault) (next : A → Result Done Fault) (before mid : FilesSeen) (out_before : SinkSeen) where
  -- inputs that weren't accepted
  pub inputs_refused : (fault : Fault) → IsInputFault stage before mid fault → SameHeld before.held mid.held → Serves (λ held. stage held >>= next) (seen before out_before) (seen mid out_before) (Err fault)
  inputs_refused Usage is same = absurd is
  inputs_refused (CannotWrite name) is same = absurd is
  inputs_refused CannotReport is same = absurd is
  inputs_refused OutOfMemory is same = record { cause = is; files = λ told. inl same; out = λ told. inl refl }
  inputs_refused (CannotRead name) is same =
      record {
        cause = (is.0, λ told. ap (λ (r : Result A Fault). r >>= next) (is.1 told));
        files = λ told. same;
        out = λ told. refl;
      }
  inputs_refused fault is same = record { cause = λ told. ap (λ (r : Result A Fault). r >>= next) (is told); files = λ told. same; out = λ told. refl }

  module _ (a : A) (now : FilesSeen) (out_now : SinkSeen) (accepted : IsTrue before.tells → stage before.held ≡ Ok a) (tells : mid.tells ≡ before.tells) (held : SameHeld before.held mid.held) (writes : SameCounts before.writes mid.writes) where
    is_next : IsTrue before.tells → (stage before.held >>= next) ≡ next a
    is_next told = ap (λ (r : Result A Fault). r >>= next) (accepted told)

    told_then : IsTrue before.tells → IsTrue mid.tells
    told_then told = subst IsTrue (sym tells) told

    cause_from : (answer : Result (Unit {0}) Fault) → Finishes (next a) (seen mid out_before) (seen now out_now) answer → Causes (λ held. stage held >>= next) (seen before out_before) (seen now out_now) answer
    cause_from (Ok done) is = λ told. subst (λ (o : Result Done Fault). IsOk o) (sym (is_next told)) is
    cause_from (Err Usage) is = absurd is
    cause_from (Err (CannotRead name)) is = absurd is
    cause_from (Err OutOfMemory) is = is
    cause_from (Err (CannotWrite name)) is =
        (subst (λ count. Rose count (now.writes name)) (writes name) is.0, λ told. subst (λ (o : Result Done Fault). IsOkAnd o (WritesTo name)) (sym (is_next told)) is.1)
    cause_from (Err CannotReport) is = (is.0, λ told. subst (λ (o : Result Done Fault). IsOk o) (sym (is_next told)) is.1)
    cause_from (Err fault) is = λ told. is_next told ∙ is

    -- inputs that were accepted, and the work on them
    pub inputs_accepted : (answer : Result (Unit {0}) Fault) → Ends (next a) (seen mid out_before) (seen now out_now) answer → Serves (λ held. stage held >>= next) (seen before out_before) (seen now out_now) answer
    inputs_accepted answer ends =
        record {
          cause = cause_from answer ends.cause;
          files = λ told. files_from before.held mid.held now.held (stage before.held >>= next) answer held (subst (λ (o : Result Done Fault). LeavesFiles o mid.held now.held answer) (sym (is_next told)) (ends.files (told_then told)));
          out = λ told_out. out_from (IsTrue before.tells) (stage before.held >>= next) (next a) out_before.written out_now.written answer is_next (out_told answer (ends.out told_out));
        }
      where
        out_told : (answer : Result (Unit {0}) Fault) → LeavesOut (IsTrue mid.tells) (next a) out_before.written out_now.written answer → LeavesOut (IsTrue before.tells) (next a) out_before.written out_now.written answer
        out_told answer left = subst (λ tells. LeavesOut (IsTrue tells) (next a) out_before.written out_now.written answer) tells left

-- a first stage that wasn't accepted, whatever the next looks at
module _ {A : Type 0} (first : Held → Result A Fault) (second : A → Held → Result Done Fault) (before mid : FilesSeen) (out : SinkSeen) where
  pub stage_refused : (fault : Fault) → IsInputFault first before mid fault → SameHeld before.held mid.held → Serves (λ held. first held >>= λ a. second a held) (seen before out) (seen mid out) (Err fault)
  stage_refused Usage is same = absurd is
  stage_refused (CannotWrite name) is same = absurd is
  stage_refused CannotReport is same = absurd is
  stage_refused OutOfMemory is same = record { cause = is; files = λ told. inl same; out = λ told. inl refl }
  stage_refused (CannotRead name) is same = record { cause = first_refused first second before mid mid (CannotRead name) is; files = λ told. same; out = λ told. refl }
  stage_refused fault is same = record { cause = first_refused first second before mid mid fault is; files = λ told. same; out = λ told. refl }

-- A stage that was accepted, and then an answer.

module _ {A : Type 0} (first : Held → Result A Fault) (second : A → Held → Result Done Fault) (before mid now : FilesSeen) (out_before out_now : SinkSeen) where
  abbrev both : Held → Result Done Fault
  both held = first held >>= λ a. second a held

  module _ (a : A) (accepted : IsTrue before.tells → first before.held ≡ Ok a) (tells : mid.tells ≡ before.tells) (held : SameHeld before.held mid.held) (later : NoneFell before.reads mid.reads) (writes : SameCounts before.writes mid.writes) (stage : IsStage first) (usage : IsUsage (second a) mid → (held : Held) × (both held ≡ Err Usage)) where
    told_behind : IsTrue before.tells → IsTrue mid.tells
    told_behind told = subst IsTrue (sym tells) told

    is_second : IsTrue before.tells → both before.held ≡ second a mid.held
    is_second told = ap (λ (r : Result A Fault). r >>= λ a. second a before.held) (accepted told) ∙ ap (second a) (λ i name. sym (held name) i)

    cause_after : (answer : Result (Unit {0}) Fault) → Causes (second a) (seen mid out_before) (seen now out_now) answer → Causes both (seen before out_before) (seen now out_now) answer
    cause_after (Ok done) is = λ told. subst (λ (o : Result Done Fault). IsOk o) (sym (is_second told)) (is (told_behind told))
    cause_after (Err Usage) is = (usage is, λ told. is_second told ∙ is.1 (told_behind told))
    cause_after (Err (CannotRead name)) is = second_refused first second before mid now a accepted tells held stage later (CannotRead name) is
    cause_after (Err (CannotWrite name)) is =
        (subst (λ count. Rose count (now.writes name)) (writes name) is.0, λ told. subst (λ (o : Result Done Fault). IsOkAnd o (WritesTo name)) (sym (is_second told)) (is.1 (told_behind told)))
    cause_after (Err CannotReport) is = (is.0, λ told. subst (λ (o : Result Done Fault). IsOk o) (sym (is_second told)) (is.1 (told_behind told)))
    cause_after (Err OutOfMemory) is = is
    cause_after (Err fault) is = λ told. is_second told ∙ is (told_behind told)

    pub served_after : (answer : Result (Unit {0}) Fault) → Serves (second a) (seen mid out_before) (seen now out_now) answer → Serves both (seen before out_before) (seen now out_now) answer
    served_after answer serves =
        record {
          cause = cause_after answer serves.cause;
          files = λ told. files_from before.held mid.held now.held (both before.held) answer held (subst (λ (o : Result Done Fault). LeavesFiles o mid.held now.held answer) (sym (is_second told)) (serves.files (told_behind told)));
          out = λ told_out. out_from (IsTrue before.tells) (both before.held) (second a mid.held) out_before.written out_now.written answer is_second (subst (λ tells. LeavesOut (IsTrue tells) (second a mid.held) out_before.written out_now.written answer) tells (serves.out told_out));
        }
