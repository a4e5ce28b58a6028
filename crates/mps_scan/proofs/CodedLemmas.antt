-- Data by codes, at rising positions.
use Rattle.std.proofs.Common.{◌≡◌, ℕ, suc, ◌+◌, ◌≤◌, Bool, true, false, List, [], ◌∷◌, ◌++◌, length, take, get_or, refl, ap, sym, ◌∙◌, arith}
use Rattle.std.specs.Prelude.{nat_le, ◌&&◌}
use Rattle.std.specs.List.{list_all}
use Rattle.std.proofs.lemmas.Bool.{and_parts, and_from, leb-true, le-leb}
use Rattle.std.proofs.lemmas.List.{take_more, take_all}
use Rattle.std.proofs.lemmas.List.Folds.{list_all-append}
use Rattle.mps_scan.specs.declared.coded.CodedDatum.{CodedDatum}
use Rattle.mps_scan.specs.Coded.{positions_rise, next_from, next_position, IsCoded}

and_assoc : (a b c : Bool) → (a && (b && c)) ≡ ((a && b) && c)
and_assoc true b c = refl
and_assoc false b c = refl

-- further data behind an event
pub rise-append : (least : ℕ) (event : List CodedDatum) (d : CodedDatum) (more : List CodedDatum) → positions_rise least (event ++ d ∷ more) ≡ (positions_rise least event && positions_rise (next_from least event) (d ∷ more))
rise-append least [] d more = refl
rise-append least (e ∷ event) d more =
    ap (λ b. nat_le least e.position && b) (rise-append (suc e.position) event d more) ∙ and_assoc (nat_le least e.position) (positions_rise (suc e.position) event) (positions_rise (next_from (suc e.position) event) (d ∷ more))

pub rise_push : (event : List CodedDatum) (d : CodedDatum) → positions_rise 1 event ≡ true → next_position event ≤ d.position → positions_rise 1 (event ++ d ∷ []) ≡ true
rise_push event d rise after =
    rise-append 1 event d [] ∙ and_from (positions_rise 1 event) (positions_rise (next_position event) (d ∷ [])) rise (and_from (nat_le (next_position event) d.position) true (le-leb (next_position event) d.position after) refl)

pub coded_push : (event : List CodedDatum) (d : CodedDatum) → IsCoded event → next_position event ≤ d.position → d.position ≤ 64 → IsCoded (event ++ d ∷ [])
coded_push event d is after last = record {
  rise = rise_push event d is.rise after;
  last = list_all-append (λ x. nat_le x.position 64) event (d ∷ []) ∙ and_from (list_all (λ x. nat_le x.position 64) event) (list_all (λ x. nat_le x.position 64) (d ∷ [])) is.last (and_from (nat_le d.position 64) true (le-leb d.position 64 last) refl);
}

length-next_from : (least : ℕ) (event : List CodedDatum) → positions_rise least event ≡ true → length event + least ≤ next_from least event
length-next_from least [] rise = omega arith
length-next_from least (d ∷ event) rise =
    let parts = and_parts (nat_le least d.position) (positions_rise (suc d.position) event) rise in
    omega (arith, leb-true least d.position parts.0, length-next_from (suc d.position) event parts.1)

next_from-le : (least : ℕ) (event : List CodedDatum) → least ≤ 65 → list_all (λ x. nat_le x.position 64) event ≡ true → next_from least event ≤ 65
next_from-le least [] le last = le
next_from-le least (d ∷ event) le last =
    let parts = and_parts (nat_le d.position 64) (list_all (λ x. nat_le x.position 64) event) last in
    next_from-le (suc d.position) event (omega (arith, leb-true d.position 64 parts.0)) parts.1

pub next-few : (event : List CodedDatum) → IsCoded event → next_position event ≤ 65
next-few event is = next_from-le 1 event (omega arith) is.last

pub length-few : (event : List CodedDatum) → IsCoded event → length event + 1 ≤ next_position event
length-few event is = length-next_from 1 event is.rise

next_from-push : (least : ℕ) (event : List CodedDatum) (d : CodedDatum) → next_from least (event ++ d ∷ []) ≡ suc d.position
next_from-push least [] d = refl
next_from-push least (e ∷ event) d = next_from-push (suc e.position) event d

-- behind the last datum
pub next_after : (event : List CodedDatum) (i : ℕ) (d : CodedDatum) → i + 1 ≡ length event → next_position event ≡ suc (get_or event i d).position
next_after event i d last =
    let whole : event ≡ take i event ++ get_or event i d ∷ [] =
    sym (take_all (i + 1) event (omega (arith, last))) ∙ take_more event i d (omega (arith, last)) in
    ap next_position whole ∙ next_from-push 1 (take i event) (get_or event i d)
