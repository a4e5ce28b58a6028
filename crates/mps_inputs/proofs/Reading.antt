-- What was read of the files that a command names, stage after stage.
use Rattle.std.proofs.Common.{◌≡◌, ◌⊎◌, inl, inr, refl, sym, ◌∙◌, ap, subst, ℕ, ◌<◌, ◌≤◌, List, length, Bool, true, false, cond, ltb, Option, Some, None, Result, Ok, Err, arith}
use Rattle.std.specs.Prelude.{IfErr, IfOk, IsTrue, IsSomeAnd, ok_or}
use Rattle.std.specs.Str.{bytes_eq}
use Rattle.std.proofs.lemmas.Bool.{false≢true, lt-ltb}
use Rattle.std.proofs.lemmas.List.{length-take}
use Rattle.std.proofs.lemmas.Slice.Eq.{bytes_eq-Decides}
use Rattle.mp_outside.specs.Causes.{Rose}
use Rattle.mp_outside.specs.Contents.{Held, IsReadUpTo, SameHeld}
use Rattle.mp_params.specs.Params.{ParamsValue}
use Rattle.mp_params.specs.Reading.{params_of}
use Rattle.mp_params.specs.declared.fault.ParamsFault.{ParamsFault}
use Rattle.mp_params.specs.declared.fault.ParamsFault.TheVariants.{TooLong}
use Rattle.mps_inputs.specs.Answers.{IsInputFault, IsRefusal}
use Rattle.mp_text.specs.Chain.{◌>>=◌}
use Rattle.mps_inputs.specs.Files.{IsReadFault}
use Rattle.mps_inputs.specs.Inputs.{image_in, inputs_of, inputs_with, judged, no_points, parameters_in, points_in, points_of, read_as, tables_of, with_points}
use Rattle.mp_outside.specs.Seen.{FilesSeen, OnlyReads, without}
use Rattle.mps_inputs.specs.declared.fault.Fault.{Fault}
use Rattle.mps_inputs.specs.declared.fault.Fault.TheVariants.{Usage, Parameters, CannotRead, CannotWrite, OutOfMemory, CannotReport}

-- A file that is longer than its limit is judged by the part that was read.

refused_first : (r : Result ParamsValue ParamsFault) (t : Bool) → t ≡ true → judged Parameters (cond t (Err TooLong) r) ≡ Err (Parameters TooLong)
refused_first r true is = refl
refused_first r false is = absurd (false≢true is)

too_long : (b : List ℕ) → 65536 < length b → parameters_in b ≡ Err (Parameters TooLong)
unfolding parameters_in params_of
too_long b over = refused_first _ (ltb 65536 (length b)) (lt-ltb 65536 (length b) over)

pub parameters_of_front : (bytes got : List ℕ) → IsReadUpTo 65536 bytes got → parameters_in got ≡ parameters_in bytes
parameters_of_front bytes got (front, inl all) = ap parameters_in all
parameters_of_front bytes got (front, inr long) = too_long got long ∙ sym (too_long bytes (omega (arith, length-take (length got) bytes, ap length front)))

-- what was read is judged as the file is
pub as_file : {A : Type 0} (made : List ℕ → Result A Fault) (limit : ℕ) (content : Option (List ℕ)) (got : List ℕ) → ((bytes : List ℕ) → IsReadUpTo limit bytes got → made got ≡ made bytes) → IsSomeAnd content (λ bytes. IsReadUpTo limit bytes got) → IsSomeAnd content (λ bytes. made got ≡ made bytes)
as_file made limit None got law read = read
as_file made limit (Some bytes) got law read = law bytes read

-- One file.

of_content : {A : Type 0} (made : List ℕ → Result A Fault) (name : List ℕ) (content : Option (List ℕ)) (got : List ℕ) → IsSomeAnd content (λ bytes. made got ≡ made bytes) → (ok_or content (CannotRead name) >>= made) ≡ made got
of_content made name None got read = absurd read
of_content made name (Some bytes) got read = sym read

same_bytes : (name : List ℕ) → bytes_eq name name ≡ true
same_bytes name = (bytes_eq-Decides name name).1 refl

read_without : {A : Type 0} (made : List ℕ → Result A Fault) (name : List ℕ) (held : Held) → read_as made name (without held name) ≡ Err (CannotRead name)
read_without made name held = ap (λ b. ok_or (cond b None (held name)) (CannotRead name) >>= made) (same_bytes name)

module _ {A : Type 0} (made : List ℕ → Result A Fault) (name : List ℕ) (before now : FilesSeen) where
  pub file_failed : (fault : Fault) → IsReadFault name before now fault → IsInputFault (read_as made name) before now fault
  file_failed fault (inl memory) = subst (λ f. IsInputFault (read_as made name) before now f) (sym memory) tt
  file_failed fault (inr read) = subst (λ f. IsInputFault (read_as made name) before now f) (sym read.0) (read.1, λ told. read_without made name before.held)

  module _ (got : List ℕ) (read : IsTrue before.tells → IsSomeAnd (before.held name) (λ bytes. made got ≡ made bytes)) where
    pub file_refused : (fault : Fault) → IsRefusal (made got) fault → IsInputFault (read_as made name) before now fault
    file_refused Usage is = absurd is
    file_refused (CannotRead other) is = absurd is
    file_refused (CannotWrite other) is = absurd is
    file_refused CannotReport is = absurd is
    file_refused OutOfMemory is = is
    file_refused fault is = λ told. of_content made name (before.held name) got (read told) ∙ is

    pub file_accepted : (a : A) → made got ≡ Ok a → IsTrue before.tells → read_as made name before.held ≡ Ok a
    file_accepted a is told = of_content made name (before.held name) got (read told) ∙ is

    pub all_accepted : (result : Result A Fault) → IfOk result (λ a. made got ≡ Ok a) → IfOk result (λ a. IsTrue before.tells → read_as made name before.held ≡ Ok a)
    all_accepted (Ok a) is = file_accepted a is
    all_accepted (Err fault) is = is

    pub all_refused : (result : Result A Fault) → IfErr result (IsRefusal (made got)) → IfErr result (IsInputFault (read_as made name) before now)
    all_refused (Ok a) is = is
    all_refused (Err fault) is = file_refused fault is

-- two calls that only read
pub reads_through : (before mid now : FilesSeen) → OnlyReads before mid → OnlyReads mid now → OnlyReads before now
reads_through before mid now first second =
    record {
      tells_same = second.tells_same ∙ first.tells_same;
      held_same = λ name. second.held_same name ∙ first.held_same name;
      reads_later = λ name. at_most (before.reads name) (mid.reads name) (now.reads name) (first.reads_later name) (second.reads_later name);
      writes_same = λ name. second.writes_same name ∙ first.writes_same name;
    }
  where
    at_most : (a b c : ℕ) → a ≤ b → b ≤ c → a ≤ c
    at_most a b c up more = omega arith

-- A stage, and then the next.

-- where nothing is held under a name, a stage answers as before, or that it can't be read
abbrev pub IsStage : {A : Type 0} → (Held → Result A Fault) → Type 0
IsStage stage = (held : Held) (other : List ℕ) → (stage (without held other) ≡ stage held) ⊎ (stage (without held other) ≡ Err (CannotRead other))

pub one_file : {A : Type 0} (made : List ℕ → Result A Fault) (name : List ℕ) → IsStage (read_as made name)
one_file {A} made name held other = by_name (bytes_eq name other) refl
  where
    at : Bool → Result A Fault
    at b = ok_or (cond b None (held name)) (CannotRead name) >>= made

    by_name : (b : Bool) → bytes_eq name other ≡ b → (read_as made name (without held other) ≡ read_as made name held) ⊎ (read_as made name (without held other) ≡ Err (CannotRead other))
    by_name true same = inr (ap at same ∙ ap (λ (n : List ℕ). Err (CannotRead n)) ((bytes_eq-Decides name other).0 same))
    by_name false apart = inl (ap at apart)

pub no_file : {A : Type 0} (answer : Result A Fault) → IsStage (λ held. answer)
no_file answer held other = inl refl

-- two stages together are one
pub both_stages : {A B : Type 0} (first : Held → Result A Fault) (second : A → Held → Result B Fault) → IsStage first → ((a : A) → IsStage (second a)) → IsStage (λ held. first held >>= λ a. second a held)
both_stages {A} {B} first second one two held other = either (one held other)
  where
    next : Held → Result A Fault → Result B Fault
    next h r = r >>= λ a. second a h

    behind : (r : Result A Fault) → (next (without held other) r ≡ next held r) ⊎ (next (without held other) r ≡ Err (CannotRead other))
    behind (Ok a) = two a held other
    behind (Err fault) = inl refl

    at : (first (without held other) ≡ first held) → (next (without held other) (first held) ≡ next held (first held)) ⊎ (next (without held other) (first held) ≡ Err (CannotRead other)) → (next (without held other) (first (without held other)) ≡ next held (first held)) ⊎ (next (without held other) (first (without held other)) ≡ Err (CannotRead other))
    at same (inl as_before) = inl (ap (next (without held other)) same ∙ as_before)
    at same (inr unread) = inr (ap (next (without held other)) same ∙ unread)

    either : (first (without held other) ≡ first held) ⊎ (first (without held other) ≡ Err (CannotRead other)) → (next (without held other) (first (without held other)) ≡ next held (first held)) ⊎ (next (without held other) (first (without held other)) ≡ Err (CannotRead other))
    either (inl same) = at same (behind (first held))
    either (inr unread) = inr (ap (next (without held other)) unread)

points_stage : (p : ParamsValue) (name : Option (List ℕ)) → IsStage (points_of p name)
points_stage p None = no_file (Ok (no_points p))
points_stage p (Some name) = one_file (points_in p) name

tables_stage : (p : ParamsValue) → IsStage (tables_of p)
tables_stage p =
    both_stages (read_as (image_in p) p.image) (inputs_with p) (one_file (image_in p) p.image)
    (λ image. both_stages (points_of p p.points) (λ points held. with_points p image points) (points_stage p p.points) (λ points. no_file (with_points p image points)))

-- all inputs of a command are one stage
pub inputs_stage : (name : List ℕ) → IsStage (inputs_of name)
inputs_stage name = both_stages (read_as parameters_in name) tables_of (one_file parameters_in name) tables_stage

module _ {A B : Type 0} (first : Held → Result A Fault) (second : A → Held → Result B Fault) (before mid now : FilesSeen) where
  abbrev both : Held → Result B Fault
  both held = first held >>= λ a. second a held

  pub first_refused : (fault : Fault) → IsInputFault first before now fault → IsInputFault both before now fault
  first_refused Usage is = absurd is
  first_refused (CannotWrite other) is = absurd is
  first_refused CannotReport is = absurd is
  first_refused OutOfMemory is = is
  first_refused (CannotRead other) is = (is.0, λ told. ap (λ (r : Result A Fault). r >>= λ a. second a (without before.held other)) (is.1 told))
  first_refused fault is = λ told. ap (λ (r : Result A Fault). r >>= λ a. second a before.held) (is told)

  module _ (a : A) (accepted : IsTrue before.tells → first before.held ≡ Ok a) (tells : mid.tells ≡ before.tells) (held : SameHeld before.held mid.held) where
    told_then : IsTrue before.tells → IsTrue mid.tells
    told_then told = subst IsTrue (sym tells) told

    same_held : before.held ≡ mid.held
    same_held = λ i name. sym (held name) i

    -- what the second stage says, by what the files held at first
    after_first : IsTrue before.tells → both before.held ≡ second a mid.held
    after_first told = ap (λ (r : Result A Fault). r >>= λ a. second a before.held) (accepted told) ∙ ap (second a) same_held

    second_unread : IsStage first → (other : List ℕ) → IsTrue before.tells → second a (without mid.held other) ≡ Err (CannotRead other) → both (without before.held other) ≡ Err (CannotRead other)
    second_unread stage other told is = either (stage before.held other)
      where
        next : Result A Fault → Result B Fault
        next r = r >>= λ a. second a (without before.held other)

        either : (first (without before.held other) ≡ first before.held) ⊎ (first (without before.held other) ≡ Err (CannotRead other)) → both (without before.held other) ≡ Err (CannotRead other)
        either (inl same) = ap next (same ∙ accepted told) ∙ ap (λ (h : Held). second a (without h other)) same_held ∙ is
        either (inr unread) = ap next unread

    pub second_refused : IsStage first → ((n : List ℕ) → before.reads n ≤ mid.reads n) → (fault : Fault) → IsInputFault (second a) mid now fault → IsInputFault both before now fault
    second_refused stage later Usage is = absurd is
    second_refused stage later (CannotWrite other) is = absurd is
    second_refused stage later CannotReport is = absurd is
    second_refused stage later OutOfMemory is = is
    second_refused stage later (CannotRead other) is = (rose (before.reads other) (mid.reads other) (now.reads other) (later other) is.0, λ told. second_unread stage other told (is.1 (told_then told)))
      where
        rose : (a b c : ℕ) → a ≤ b → Rose b c → Rose a c
        rose a b c up more = omega arith
    second_refused stage later fault is = λ told. after_first told ∙ is (told_then told)

    pub second_accepted : (b : B) → (IsTrue mid.tells → second a mid.held ≡ Ok b) → IsTrue before.tells → both before.held ≡ Ok b
    second_accepted b is told = after_first told ∙ is (told_then told)

    -- the same of an answer
    pub then_accepted : (result : Result B Fault) → IfOk result (λ b. IsTrue mid.tells → second a mid.held ≡ Ok b) → IfOk result (λ b. IsTrue before.tells → both before.held ≡ Ok b)
    then_accepted (Ok b) is = second_accepted b is
    then_accepted (Err fault) is = is

    pub then_refused : IsStage first → ((n : List ℕ) → before.reads n ≤ mid.reads n) → (result : Result B Fault) → IfErr result (IsInputFault (second a) mid now) → IfErr result (IsInputFault both before now)
    then_refused stage later (Ok b) is = is
    then_refused stage later (Err fault) is = second_refused stage later fault is
