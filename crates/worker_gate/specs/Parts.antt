-- What a worker at a place is to a gate that holds worker 0.
use Rattle.std.specs.Prelude.{ℕ, zero, suc}
use Rattle.worker_gate.specs.declared.place.Place.{Place}
use Rattle.worker_gate.specs.declared.place.Place.TheVariants.{Claimed, Speculated}
use Rattle.worker_gate.specs.declared.hold.Part.{Part}
use Rattle.worker_gate.specs.declared.hold.Part.TheVariants.{Held, Awaited, Neither}

-- worker 0 is held where it has claimed, and each other is awaited where it has counted ahead
abbrev pub part_of : ℕ → Place → Part
part_of zero Claimed = Held
part_of zero Speculated = Neither
part_of (suc n) Claimed = Neither
part_of (suc n) Speculated = Awaited
