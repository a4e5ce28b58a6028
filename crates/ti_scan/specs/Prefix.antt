-- The longest prefix of an event that has enough replicates.
use Rattle.std.specs.Prelude.{ℕ, zero, suc, Bool, nat_le, if◌then◌else◌, List, take, sum}
use Rattle.ti_scan.specs.declared.event.Datum.{Datum}

-- the greatest number up to n that passes, or 0
abbrev pub greatest : (ℕ → Bool) → ℕ → ℕ
greatest passes zero = zero
greatest passes (suc n) = if passes (suc n) then suc n else greatest passes n

-- the first len data of the event are shown at min positions or more, by what is answered for each event
abbrev pub has_enough : (List Datum → List ℕ) → ℕ → List Datum → ℕ → Bool
has_enough gives min event len = nat_le min (sum (gives (take len event)))

-- how many data the longest prefix with enough replicates has, of those with at most `most` data
unfoldable pub longest : (List Datum → List ℕ) → ℕ → List Datum → ℕ → ℕ
longest gives min event most = greatest (has_enough gives min event) most
