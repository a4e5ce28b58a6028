-- Data by codes, and the same data by categories.
use Rattle.std.proofs.Common.{◌≡◌, ℕ, ℤ, zero, suc, pos, ◌<◌, ◌≤◌, Bool, true, false, cond, List, [], ◌∷◌, length, take, get_or, map, Some, None, refl, ap, sym, ◌∙◌, arith}
use Rattle.std.specs.Prelude.{nat_le, ◌&&◌}
use Rattle.std.specs.List.{list_all, list_any, position}
use Rattle.std.specs.Ordering.{int_eq}
use Rattle.std.proofs.lemmas.Bool.{and_parts, and_from, le-leb, leb-true}
use Rattle.std.proofs.lemmas.List.Sums.{AllPass-from_list_all}
use Rattle.ti_scan.specs.Rising.{RisesFrom, next_from as next_datum}
use Rattle.mps_scan.specs.declared.coded.CodedDatum.{CodedDatum}
use Rattle.mps_scan.specs.Coded.{positions_rise, next_from, IsCoded}
use Rattle.mps_scan.specs.Words.{decoded, is_datum}
use Rattle.mp_text.proofs.Places.{none_any, some_any, some_is}

refused : {X : Type 0} (a b : Bool) (x : X) → b ≡ false → None ≡ cond (a && b) (Some x) None
refused true b x fails = ap (λ c. cond c (Some x) None) (sym fails)
refused false b x fails = refl

pub datum_absent : (last : ℕ) (categories : List ℤ) (d : CodedDatum) → None ≡ position (λ c. int_eq c d.code) categories → None ≡ cond (is_datum last categories d) (Some (decoded categories d)) None
datum_absent last categories d none =
    refused (nat_le d.position last) (list_any (λ c. int_eq c d.code) categories) (decoded categories d) (none_any (λ c. int_eq c d.code) categories none)

pub datum_present : (last : ℕ) (categories : List ℤ) (d : CodedDatum) (i : ℕ) → d.position ≤ last → Some i ≡ position (λ c. int_eq c d.code) categories → Some (record { position = d.position; cat = i }) ≡ cond (is_datum last categories d) (Some (decoded categories d)) None
datum_present last categories d i within some =
    let is : is_datum last categories d ≡ true =
    and_from (nat_le d.position last) (list_any (λ c. int_eq c d.code) categories) (le-leb d.position last within) (some_any (λ c. int_eq c d.code) categories i (pos 0) some) in
    ap (λ k. Some (record { position = d.position; cat = k })) (some_is (λ c. int_eq c d.code) categories i some) ∙ sym (ap (λ b. cond b (Some (decoded categories d)) None) is)

module _ (categories : List ℤ) where
  -- the least position that may follow is the same
  pub next_datum-map : (least : ℕ) (event : List CodedDatum) → next_datum least (map (decoded categories) event) ≡ next_from least event
  next_datum-map least [] = refl
  next_datum-map least (d ∷ event) = next_datum-map (suc d.position) event

  -- within the template the data are an event
  pub rises_within : (least last : ℕ) (event : List CodedDatum) → positions_rise least event ≡ true → list_all (is_datum last categories) event ≡ true → RisesFrom least last (map (decoded categories) event)
  rises_within least last [] rise all = tt
  rises_within least last (d ∷ event) rise all =
      let rises = and_parts (nat_le least d.position) (positions_rise (suc d.position) event) rise in
      let fits = and_parts (is_datum last categories d) (list_all (is_datum last categories) event) all in
      let here = and_parts (nat_le d.position last) (list_any (λ c. int_eq c d.code) categories) fits.0 in
      (leb-true least d.position rises.0, leb-true d.position last here.0, rises_within (suc d.position) last event rises.1 fits.1)

-- the next datum may follow those before it
next_from-take : (least i : ℕ) (event : List CodedDatum) (d : CodedDatum) → positions_rise least event ≡ true → i < length event → next_from least (take i event) ≤ (get_or event i d).position
next_from-take least i [] d rise in_list = absurd (omega arith)
next_from-take least zero (e ∷ event) d rise in_list = leb-true least e.position (and_parts (nat_le least e.position) (positions_rise (suc e.position) event) rise).0
next_from-take least (suc i) (e ∷ event) d rise in_list =
    next_from-take (suc e.position) i event d (and_parts (nat_le least e.position) (positions_rise (suc e.position) event) rise).1 (omega arith)

pub may_follow : (categories : List ℤ) (event : List CodedDatum) (i : ℕ) (d : CodedDatum) → IsCoded event → i < length event → next_datum 1 (map (decoded categories) (take i event)) ≤ (get_or event i d).position
may_follow categories event i d is in_list =
    let next = next_datum-map categories 1 (take i event) in
    omega (arith, next, next_from-take 1 i event d is.rise in_list)

pub position_few : (event : List CodedDatum) (i : ℕ) (d : CodedDatum) → IsCoded event → i < length event → (get_or event i d).position ≤ 64
position_few event i d is in_list = leb-true (get_or event i d).position 64 (AllPass-from_list_all (λ x. nat_le x.position 64) event is.last i d in_list)
