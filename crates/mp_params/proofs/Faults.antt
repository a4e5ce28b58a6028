-- The first of some faults, and the lines of a file one after another.
use Rattle.std.proofs.Common.{◌≡◌, ℕ, zero, suc, ◌+◌, ◌<◌, Bool, true, false, cond, List, [], ◌∷◌, ◌++◌, length, take, drop, get_or, Option, Some, None, Ok, Err, refl, ap, sym, ◌∙◌, arith}
use Rattle.std.specs.List.{cons_option, filter_map, range_with_len, slice_get}
use Rattle.std.specs.Option.{option_to_list}
use Rattle.std.proofs.lemmas.List.{length-drop, drop_more, take_more}
use Rattle.mp_params.specs.declared.fault.ParamsFault.{ParamsFault}
use Rattle.mp_text.specs.Fields.{is_skipped}
use Rattle.mp_params.specs.declared.fault.ParamsFault.TheVariants.{BadLine}
use Rattle.mp_params.specs.Lines.{SettingValue, settings_in, name_and_text, setting_of, fault_at, is_setting, key_fault, line_fault, settings_of, unless}
use Rattle.mp_params.specs.Table.{key_of}

-- x is the element of xs behind n others, and ys are those behind it
pub record IsNext {X : Type 0} (xs : List X) (n : ℕ) (x : X) (ys : List X) (d : X) : Type 0 where
  pub within : n < length xs
  pub here : get_or xs n d ≡ x
  pub rest : drop (n + 1) xs ≡ ys
  pub more : take (n + 1) xs ≡ take n xs ++ x ∷ []

pub next_at : {X : Type 0} (xs : List X) (n : ℕ) (x : X) (ys : List X) (d : X) → drop n xs ≡ x ∷ ys → IsNext xs n x ys d
next_at xs n x ys d is =
    let within : n < length xs = omega (arith, ap length is, length-drop n xs) in
    let both : x ∷ ys ≡ get_or xs n d ∷ drop (n + 1) xs = sym is ∙ drop_more xs n d within in
    let here : get_or xs n d ≡ x = cc both in
    record { within = within; here = here; rest = cc both; more = take_more xs n d within ∙ ap (λ y. take n xs ++ y ∷ []) here }

module _ {X : Type 0} (f : ℕ → Option X) where
  from_zero : (a : ℕ) (o : Option X) → f (a + 0) ≡ o → f a ≡ o
  from_zero a o is = ap f (omega arith) ∙ is

  -- the first that there is
  pub first_found : (a n k : ℕ) (x : X) → k < n → ((j : ℕ) → j < k → f (a + j) ≡ None) → f (a + k) ≡ Some x → slice_get (filter_map f (range_with_len a n)) 0 ≡ Some x
  first_found a zero k x below none is = absurd (omega arith)
  first_found a (suc n) zero x below none is = rw (from_zero a (Some x) is) refl
  first_found a (suc n) (suc k) x below none is =
      rw (from_zero a None (none 0 (omega arith)))
      (first_found (a + 1) n k x (omega arith) (λ j in_front. ap f (omega arith) ∙ none (suc j) (omega arith)) (ap f (omega arith) ∙ is))

  -- where there is none
  pub none_found : (a n : ℕ) → ((j : ℕ) → j < n → f (a + j) ≡ None) → filter_map f (range_with_len a n) ≡ []
  none_found a zero none = refl
  none_found a (suc n) none = rw (from_zero a None (none 0 (omega arith))) (none_found (a + 1) n (λ j below. ap f (omega arith) ∙ none (suc j) (omega arith)))

cons_nothing : {Y : Type 0} (o : Option Y) → cons_option o [] ≡ option_to_list o
cons_nothing None = refl
cons_nothing (Some y) = refl

cons_behind : {Y : Type 0} (o : Option Y) (ys zs : List Y) → cons_option o (ys ++ zs) ≡ cons_option o ys ++ zs
cons_behind None ys zs = refl
cons_behind (Some y) ys zs = refl

-- one more at the end
pub filter_map_push : {X Y : Type 0} (h : X → Option Y) (xs : List X) (x : X) → filter_map h (xs ++ x ∷ []) ≡ filter_map h xs ++ option_to_list (h x)
filter_map_push h [] x = cons_nothing (h x)
filter_map_push h (z ∷ xs) x = ap (cons_option (h z)) (filter_map_push h xs x) ∙ cons_behind (h z) (filter_map h xs) (option_to_list (h x))

-- the fault of the next line
pub fault_next : (lines : List (List ℕ)) (n : ℕ) (line : List ℕ) (ys : List (List ℕ)) (earlier : List SettingValue) → IsNext lines n line ys [] → earlier ≡ settings_in (take n lines) → fault_at lines n ≡ line_fault (n + 1) earlier line
fault_next lines n line ys earlier next is = λ i. line_fault (n + 1) (sym is i) (next.here i)

-- the settings up to the next line
pub settings_next : (lines : List (List ℕ)) (n : ℕ) (line : List ℕ) (ys : List (List ℕ)) (earlier : List SettingValue) (e : Option SettingValue) → IsNext lines n line ys [] → earlier ≡ settings_in (take n lines) → setting_of line ≡ e → earlier ++ option_to_list e ≡ settings_in (take (n + 1) lines)
settings_next lines n line ys earlier e next is here =
    (λ i. is i ++ option_to_list (sym here i)) ∙ sym (ap settings_in next.more ∙ filter_map_push setting_of (take n lines) line)

-- the first fault of a line decides
pub settings_err : (lines : List (List ℕ)) (n : ℕ) (f : ParamsFault) → n < length lines → ((k : ℕ) → k < n → fault_at lines k ≡ None) → fault_at lines n ≡ Some f → settings_of lines ≡ Err f
unfolding settings_of
settings_err lines n f within clean is =
    ap (λ o. unless o (settings_in lines)) (first_found (fault_at lines) 0 (length lines) n f within (λ j below. ap (fault_at lines) (omega arith) ∙ clean j below) (ap (fault_at lines) (omega arith) ∙ is))

-- and where no line has one, there are the settings
pub settings_ok : (lines : List (List ℕ)) → ((k : ℕ) → k < length lines → fault_at lines k ≡ None) → settings_of lines ≡ Ok (settings_in lines)
unfolding settings_of
settings_ok lines clean =
    ap (λ fs. unless (slice_get fs 0) (settings_in lines)) (none_found (fault_at lines) 0 (length lines) (λ j below. ap (fault_at lines) (omega arith) ∙ clean j below))

-- what is read where there is no fault, and where there is one
pub unless_ok : {X : Type 0} (o : Option ParamsFault) (x y : X) → unless o x ≡ Ok y → (o ≡ None) × (x ≡ y)
unless_ok None x y is = (refl, cc)
unless_ok (Some f) x y is = cc

pub unless_err : {X : Type 0} (o : Option ParamsFault) (x : X) (f : ParamsFault) → unless o x ≡ Err f → o ≡ Some f
unless_err None x f is = cc
unless_err (Some g) x f is = cc

setting_is : (b : Bool) (e s : SettingValue) → cond b (Some e) None ≡ Some s → (b ≡ true) × (e ≡ s)
setting_is true e s is = (refl, cc)
setting_is false e s is = cc

-- a line that isn't skipped and is a setting
module _ (line : List ℕ) (s : SettingValue) (seen : is_skipped line ≡ false) (is : cond (is_setting line) (Some (name_and_text line)) None ≡ Some s) where
  pub fault_of_setting : (n : ℕ) (earlier : List SettingValue) → line_fault n earlier line ≡ key_fault n earlier s (key_of s.name)
  unfolding line_fault
  fault_of_setting n earlier =
      let both = setting_is (is_setting line) (name_and_text line) s is in
      let judge : SettingValue → Option ParamsFault = λ e. key_fault n earlier e (key_of e.name) in
      ap (λ b. cond b None (cond (is_setting line) (judge (name_and_text line)) (Some (BadLine n)))) seen ∙ ap (λ b. cond b (judge (name_and_text line)) (Some (BadLine n))) both.0 ∙ ap judge both.1

  pub setting_kept : setting_of line ≡ Some s
  unfolding setting_of
  setting_kept = ap (λ b. cond b None (Some (name_and_text line))) seen ∙ ap Some (setting_is (is_setting line) (name_and_text line) s is).1
