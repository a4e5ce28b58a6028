-- The names of keys: what they look like, and that no two are the same.
use Rattle.std.proofs.Common.{◌≡◌, ℕ, Bool, true, false, cond, not, ◌&&◌, ◌||◌, List, [], ◌∷◌, ◌++◌, length, Option, Some, None, refl, ap, subst, sym, ◌∙◌, inl, inr}
use Rattle.std.specs.Prelude.{nat_le, option_map}
use Rattle.std.specs.List.{cons_option, find, list_all, list_any}
use Rattle.std.specs.Str.{bytes_eq}
use Rattle.std.proofs.lemmas.Bool.{and_parts, cases_Bool, not-true}
use Rattle.std.proofs.lemmas.Slice.Eq.{bytes_eq-Decides}
use Rattle.mp_params.specs.declared.table.Key.{Key}
use Rattle.mp_params.specs.declared.table.Key.TheVariants as key
use Rattle.mp_params.specs.Lines.{SettingValue, given, is_key_text}
use Rattle.mp_params.specs.Params.{ParamsValue}
use Rattle.mp_params.specs.Printing.{settings_for, value_text}
use Rattle.mp_params.specs.Table.{key_name, key_of, keys}

pub key_found : (k : Key) → key_of (key_name k) ≡ Some k
key_found key.Version = refl
key_found key.Image = refl
key_found key.ImageShape = refl
key_found key.ImageColumn = refl
key_found key.Categories = refl
key_found key.Missing = refl
key_found key.Grid = refl
key_found key.Origin = refl
key_found key.Size = refl
key_found key.Points = refl
key_found key.PointColumns = refl
key_found key.Radii = refl
key_found key.Template = refl
key_found key.MaxData = refl
key_found key.MinReplicates = refl
key_found key.Levels = refl
key_found key.Servo = refl
key_found key.Targets = refl
key_found key.Seed = refl
key_found key.Realisations = refl
key_found key.Store = refl
key_found key.Window = refl
key_found key.Output = refl

-- what holds of all keys holds of each
found_all : (p q : Key → Bool) (ks : List Key) (k : Key) → find p ks ≡ Some k → list_all q ks ≡ true → q k ≡ true
found_all p q [] k found all = cc
found_all p q (j ∷ js) k found all =
    let parts = and_parts (q j) (list_all q js) all in
    elim (cases_Bool (p j)) [
      | inl is ↦
          let here : Some j ≡ Some k = sym (ap (λ b. cond b (Some j) (find p js)) is) ∙ found in
          let same : j ≡ k = cc here in
          ap q (sym same) ∙ parts.0
      | inr isnt ↦ found_all p q js k (sym (ap (λ b. cond b (Some j) (find p js)) isnt) ∙ found) parts.1
    ]

pub each_key : (q : Key → Bool) → list_all q keys ≡ true → (k : Key) → q k ≡ true
each_key q all k = found_all (λ j. bytes_eq (key_name j) (key_name k)) q keys k (key_found k) all

pub key_text : (k : Key) → is_key_text (key_name k) ≡ true
key_text k = each_key (λ j. is_key_text (key_name j)) refl k

pub key_short : (k : Key) → nat_le (length (key_name k)) 14 ≡ true
key_short k = each_key (λ j. nat_le (length (key_name j)) 14) refl k

-- none of these keys has the name of k
abbrev pub has_no : Key → List Key → Bool
has_no k ks = list_all (λ j. not (bytes_eq (key_name j) (key_name k))) ks

-- the name of a key of these is none of those behind it, or none of those in front of it
abbrev pub are_apart : List Key → Bool
are_apart [] = true
are_apart (k ∷ ks) = has_no k ks && are_apart ks

abbrev pub are_new : List Key → List Key → Bool
are_new earlier [] = true
are_new earlier (k ∷ ks) = has_no k earlier && are_new (earlier ++ k ∷ []) ks

abbrev pub is_in : Key → List Key → Bool
is_in k ks = list_any (λ j. bytes_eq (key_name j) (key_name k)) ks

found_in : (k : Key) (ks : List Key) → find (λ j. bytes_eq (key_name j) (key_name k)) ks ≡ Some k → is_in k ks ≡ true
found_in k [] found = cc
found_in k (j ∷ js) found = elim (cases_Bool (bytes_eq (key_name j) (key_name k))) [
  | inl is ↦ ap (λ b. b || is_in k js) is
  | inr isnt ↦ ap (λ b. b || is_in k js) isnt ∙ found_in k js (sym (ap (λ b. cond b (Some j) (find (λ i. bytes_eq (key_name i) (key_name k)) js)) isnt) ∙ found)
]

key_in : (k : Key) → is_in k keys ≡ true
key_in k = found_in k keys (key_found k)

keys_apart : are_apart keys ≡ true
keys_apart = refl

pub keys_new : are_new [] keys ≡ true
keys_new = refl

-- one name is one key
same_key : (j k : Key) → bytes_eq (key_name j) (key_name k) ≡ true → j ≡ k
same_key j k is =
    let names : key_name j ≡ key_name k = (bytes_eq-Decides (key_name j) (key_name k)).0 is in
    let both : Some j ≡ Some k = sym (key_found j) ∙ ap key_of names ∙ key_found k in
    cc both

-- a setting of another name, and one of this name
given_skip : (o : Option (List ℕ)) (name wanted : List ℕ) (es : List SettingValue) → bytes_eq name wanted ≡ false → given (cons_option (option_map (λ t. record { name = name; text = t }) o) es) wanted ≡ given es wanted
given_skip None name wanted es isnt = refl
given_skip (Some t) name wanted es isnt = rw isnt refl

given_here : (o : Option (List ℕ)) (name wanted : List ℕ) (es : List SettingValue) → bytes_eq name wanted ≡ true → given es wanted ≡ None → given (cons_option (option_map (λ t. record { name = name; text = t }) o) es) wanted ≡ o
given_here None name wanted es is none = none
given_here (Some t) name wanted es is none = rw is refl

pub given_none : (p : ParamsValue) (k : Key) (ks : List Key) → has_no k ks ≡ true → given (settings_for p ks) (key_name k) ≡ None
given_none p k [] none = refl
given_none p k (j ∷ js) none =
    let parts = and_parts (not (bytes_eq (key_name j) (key_name k))) (has_no k js) none in
    given_skip (value_text p j) (key_name j) (key_name k) (settings_for p js) (not-true _ parts.0) ∙ given_none p k js parts.1

-- the value of a key among others is given
given_in : (p : ParamsValue) (k : Key) (ks : List Key) → are_apart ks ≡ true → is_in k ks ≡ true → given (settings_for p ks) (key_name k) ≡ value_text p k
given_in p k [] apart among = cc
given_in p k (j ∷ js) apart among =
    let parts = and_parts (has_no j js) (are_apart js) apart in
    elim (cases_Bool (bytes_eq (key_name j) (key_name k))) [
      | inl is ↦
          let same : j ≡ k = same_key j k is in
          let none : has_no k js ≡ true = subst (λ i. has_no i js ≡ true) same parts.0 in
          given_here (value_text p j) (key_name j) (key_name k) (settings_for p js) is (given_none p k js none) ∙ ap (value_text p) same
      | inr isnt ↦
          let rest : is_in k js ≡ true = sym (ap (λ b. b || is_in k js) isnt) ∙ among in
          given_skip (value_text p j) (key_name j) (key_name k) (settings_for p js) isnt ∙ given_in p k js parts.1 rest
    ]

pub given_known : (p : ParamsValue) (k : Key) → given (settings_for p keys) (key_name k) ≡ value_text p k
given_known p k = given_in p k keys keys_apart (key_in k)
