-- Words of which the first is no command's name.
use Rattle.std.proofs.Common.{◌≡◌, refl, ℕ, Bool, true, false, ◌||◌, List, [], ◌∷◌, Option, Some, None, codes, if◌then◌else◌}
use Rattle.std.specs.Str.{bytes_eq}
use Rattle.mps_words.specs.Words.{check_of, command_by, command_of, demo_of, names_a_command, replay_of, run_of, scan_of}
use Rattle.mps_words.specs.declared.words.Command.{Command}

none_of : (a b c d e : Bool) (run check scan replay demo : Option Command)
    → (a || b || c || d || e) ≡ false
    → (if a then run else if b then check else if c then scan else if d then replay else if e then demo else None) ≡ None
none_of false false false false false run check scan replay demo none = refl
none_of true b c d e run check scan replay demo none = absurd (cc none)
none_of false true c d e run check scan replay demo none = absurd (cc none)
none_of false false true d e run check scan replay demo none = absurd (cc none)
none_of false false false true e run check scan replay demo none = absurd (cc none)
none_of false false false false true run check scan replay demo none = absurd (cc none)

pub no_command : (words : List (List ℕ)) → names_a_command words ≡ false → command_of words ≡ None
unfolding command_of
no_command [] none = refl
no_command (name ∷ words) none =
    none_of (bytes_eq name (codes "run")) (bytes_eq name (codes "check")) (bytes_eq name (codes "scan")) (bytes_eq name (codes "replay")) (bytes_eq name (codes "demo"))
    (command_by run_of words) (command_by check_of words) (command_by scan_of words) (command_by replay_of words) (command_by demo_of words) none
