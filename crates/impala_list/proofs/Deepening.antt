-- Keys of longer and longer prefixes.
use Rattle.std.proofs.Common.{◌≡◌, ℕ, ◌+◌, ◌*◌, ◌^◌, ◌<◌, List, length, get_or, replicate, ◌∙◌, arith}
use Rattle.std.proofs.lemmas.List.{get_or-replicate, length-replicate}
use Rattle.ti_scan.specs.Eroded.{positions_of}
use Rattle.ti_scan.specs.Event.{Source, IsSource}
use Rattle.pattern_blocks.proofs.Pairs.{row-fits}
use Rattle.pattern_store.specs.Levels.{AreShown, many}
use Rattle.pattern_store.proofs.Longer.{first_alike, shown-below, slots_alike}
use Rattle.impala_list.specs.Keys.{AppendsDigits, AreBelow, AreKeys}
use Rattle.impala_list.specs.Ranking.{AreAs}

-- before anything is shown all positions have one key
pub no_keys : (s : Source) → AreKeys s 0 (replicate (many s) 0) 1
no_keys s =
    let all : (i : ℕ) → i < many s → ◌≡◌ {A = ℕ} (get_or (replicate (many s) 0) i 0) 0 = λ i within. get_or-replicate (many s) i 0 0 within in
    record {
      count = length-replicate (many s) 0;
      below = λ i within. omega (arith, all i within);
      alike = first_alike s (replicate (many s) 0) 0 all;
    }

-- others in the place of keys
pub keys_as : (s : Source) (depth bound next_bound : ℕ) (keys next : List ℕ) → AreKeys s depth keys bound → AreAs keys next → AreBelow next_bound next → AreKeys s depth next next_bound
keys_as s depth bound next_bound keys next are agree below = record {
  count = agree.count ∙ are.count;
  below = λ i within. below i (omega (arith, agree.count, are.count));
  alike = λ i j i_within j_within. agree.alike i j (omega (arith, are.count)) (omega (arith, are.count)) ∙ are.alike i j i_within j_within;
}

module _ (s : Source) (is : IsSource s) (depth : ℕ) (short : depth < length s.template) (shown : List ℕ) (are : AreShown s (depth + 1) (positions_of s.image s.template) shown) (keys : List ℕ) (bound : ℕ) (have : AreKeys s depth keys bound) (cats : ℕ) (cats_are : cats ≡ s.cats) where
  below_next : (i : ℕ) → i < many s → get_or keys i 0 * cats + get_or shown i 0 < bound * cats
  below_next i within = row-fits (get_or keys i 0) bound cats (get_or shown i 0) (have.below i within) (omega (arith, cats_are, shown-below s is depth keys short shown are i within))

  pub digits_fit : (i : ℕ) → bound * cats < 2 ^ 64 → i < length keys → get_or keys i 0 * cats + get_or shown i 0 < 2 ^ 64
  digits_fit i room inside = omega (arith, below_next i (omega (arith, have.count)))

  pub keys_more : (after : List ℕ) → AppendsDigits cats shown keys after → AreKeys s (depth + 1) after (bound * cats)
  keys_more after appends = record {
    count = appends.count ∙ have.count;
    below = λ i within. omega (arith, appends.each i (omega (arith, have.count)), below_next i within);
    alike = slots_alike s is depth keys short shown are have.alike cats after cats_are (λ i within. appends.each i (omega (arith, have.count)));
  }
