-- What a runner has gone through.
use Rattle.std.specs.Prelude.{◌≡◌, List, [], ◌∷◌}

-- the runner went through these plans, in this order
abbrev pub RanThrough : {R P : Type 0} → (R → P → R → Type 0) → R → List P → R → Type 0
RanThrough ran before [] after = before ≡ after
RanThrough {R} ran before (plan ∷ plans) after = (next : R) × ran before plan next × RanThrough ran next plans after
