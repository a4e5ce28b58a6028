-- What makes an offer stale.
use Rattle.std.proofs.Common.{◌≡◌, ℕ, ◌-◌, ◌<◌, ◌≤◌, Bool, true, false, not, ◌&&◌, ◌==◌, Option, Some, None, is_some, option_map, inl, inr, refl, ap, sym, ◌∙◌, arith}
use Rattle.std.specs.Option.{option_and_then}
use Rattle.std.proofs.lemmas.Bool.{cases_lt, false≢true}
use Rattle.std.proofs.lemmas.Bool.Decides.{nat_tests}
use Rattle.event_retrieve.specs.declared.offer.Offer.{Offer}
use Rattle.event_retrieve.specs.declared.offer.Missed.{Missed}
use Rattle.event_retrieve.specs.Plan.{Plan, cell_of, cell_at_position}
use Rattle.event_retrieve.specs.Offer.{IsStaleBy, IsFirstMissed, stale_by, missed_entry, missed_at, is_missed, is_cell, has_position}
use Rattle.event_retrieve.proofs.First.{FailsBefore, find_none, find_some, find_is_none, find_is_some}
use Rattle.event_retrieve.proofs.Fronts.{none_some, some_same}

-- the test of a missed cell
pub missed_if : (cell : Option ℕ) (c : ℕ) (has : Bool) → cell ≡ Some c → has ≡ false → (is_cell cell c && not has) ≡ true
missed_if None c has at missing = absurd (none_some c at)
missed_if (Some other) c true at missing = absurd (false≢true (sym missing))
missed_if (Some other) c false at missing = let same : other ≡ c = some_same other c at in grind (arith, nat_tests)

pub if_missed : (cell : Option ℕ) (c : ℕ) (has : Bool) → (is_cell cell c && not has) ≡ true → (cell ≡ Some c) × (has ≡ false)
if_missed None c has e = absurd (false≢true e)
if_missed (Some other) c has e = go (other == c) refl has e
  where
    go : (b : Bool) → (other == c) ≡ b → (has : Bool) → (b && not has) ≡ true → (Some other ≡ Some c) × (has ≡ false)
    go true same false e = let eq : other ≡ c = grind (arith, nat_tests) in (ap (λ (x : ℕ). Some x) eq, refl)
    go true same true e = absurd (false≢true e)
    go false same has e = absurd (false≢true e)

abbrev pub missed : ℕ → ℕ → Missed
missed e q = record { entry = e; position = q }

no_missed : (m : Missed) → Some m ≡ None → ⊥
no_missed m e = cc

same_missed : (m n : Missed) → Some m ≡ Some n → m ≡ n
same_missed m n e = cc

none_mapped : (e : ℕ) (v : Option ℕ) → option_map (missed e) v ≡ None → v ≡ None
none_mapped e None is = refl
none_mapped e (Some q) is = absurd (no_missed (missed e q) is)

some_mapped : (e : ℕ) (v : Option ℕ) (m : Missed) → option_map (missed e) v ≡ Some m → (m.entry ≡ e) × (v ≡ Some m.position)
some_mapped e None m is = absurd (no_missed m (sym is))
some_mapped e (Some q) m is =
    let same = same_missed (missed e q) m is in
    (ap (λ (x : Missed). x.entry) (sym same), ap (λ (x : Missed). Some x.position) same)

module _ (p : Plan) (o : Offer) where
  abbrev misses : ℕ → Bool
  misses e = is_some (missed_at p o (cell_of p e))

  abbrev with_position : ℕ → Option Missed
  with_position e = option_map (missed e) (missed_at p o (cell_of p e))

  -- an entry by which the offer is stale is one that it misses
  misses_by : (m : Missed) → IsStaleBy p o m → (v : Option ℕ) → missed_at p o (cell_of p m.entry) ≡ v → is_some v ≡ true
  misses_by m by (Some q) is = refl
  misses_by m by None is =
      let fails = find_none (is_missed p o.index o.event (cell_of p m.entry)) 1 o.retained.reach is m.position by.first (omega (arith, by.within)) in
      let passes = missed_if (cell_at_position p o.index m.position) (cell_of p m.entry) (has_position o.event m.position) by.here by.missing in
      absurd (false≢true (sym fails ∙ passes))

  -- Where nothing makes the offer stale, it is stale by no entry.
  pub stale_by_none : stale_by p o ≡ None → (m : Missed) → IsStaleBy p o m → ⊥
  unfolding stale_by
  stale_by_none none m by = go (missed_entry p o) refl none
    where
      go : (v : Option ℕ) → missed_entry p o ≡ v → option_and_then with_position v ≡ None → ⊥
      go None is none =
          let fails = find_none misses o.seen (o.index - o.seen) is m.entry by.later (omega (arith, by.later, by.earlier)) in
          false≢true (sym fails ∙ misses_by m by (missed_at p o (cell_of p m.entry)) refl)
      go (Some e) is none =
          let found = find_some misses o.seen (o.index - o.seen) e is in
          false≢true (ap (λ (v : Option ℕ). is_some v) (sym (none_mapped e (missed_at p o (cell_of p e)) none)) ∙ found.passes)

  -- What makes it stale is the least entry by which it is stale, with the least position of that entry.
  pub stale_by_some : (m : Missed) → stale_by p o ≡ Some m → o.seen ≤ o.index → IsFirstMissed p o m
  unfolding stale_by
  stale_by_some m some before = go (missed_entry p o) refl some
    where
      go : (v : Option ℕ) → missed_entry p o ≡ v → option_and_then with_position v ≡ Some m → IsFirstMissed p o m
      go None is some = absurd (no_missed m (sym some))
      go (Some e) is some =
          let found = find_some misses o.seen (o.index - o.seen) e is in
          let at = some_mapped e (missed_at p o (cell_of p e)) m some in
          let first = find_some (is_missed p o.index o.event (cell_of p e)) 1 o.retained.reach m.position at.1 in
          let said = if_missed (cell_at_position p o.index m.position) (cell_of p e) (has_position o.event m.position) first.passes in
          let same = at.0 in
          record {
            by = record {
              later = omega (arith, found.low, same);
              earlier = omega (arith, found.high, same, before);
              first = first.low;
              within = omega (arith, first.high);
              here = said.0 ∙ ap (λ (x : ℕ). Some (cell_of p x)) (sym same);
              missing = said.1;
            };
            least = λ other by. elim (cases_lt other.entry e) [
              | inl less ↦ absurd (false≢true (sym (found.before other.entry by.later less) ∙ misses_by other by (missed_at p o (cell_of p other.entry)) refl))
              | inr more ↦ omega (arith, same, more)
            ];
          }

  pub stale_by_is_none : (end : ℕ) → o.index ≤ end → FailsBefore misses o.seen end → stale_by p o ≡ None
  unfolding stale_by
  stale_by_is_none end all fails =
      let none : missed_entry p o ≡ None = find_is_none misses o.seen (o.index - o.seen) (λ k low high. fails k low (omega (arith, low, high, all))) in
      ap (option_and_then with_position) none

  pub stale_by_is_some : (e q : ℕ) → FailsBefore misses o.seen e → o.seen ≤ e → e < o.index → missed_at p o (cell_of p e) ≡ Some q → stale_by p o ≡ Some (missed e q)
  unfolding stale_by
  stale_by_is_some e q fails low high at =
      let found : missed_entry p o ≡ Some e = find_is_some misses o.seen (o.index - o.seen) e fails low (omega (arith, low, high)) (ap (λ (v : Option ℕ). is_some v) at) in
      ap (option_and_then with_position) found ∙ ap (option_map (missed e)) at
