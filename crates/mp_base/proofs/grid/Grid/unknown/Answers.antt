use Rattle.std.proofs.Common.{rules, ◌≡◌, ap, replicate, ◌∙◌, map, List, Option, ℕ}
use Rattle.mp_base.specs.Grid.{category_of}
use Rattle.mp_base.proofs.Bytes.{map-replicate}
use Rattle.mp_base.proofs.grid.Grid.unknown.Goals as goal

pub returns : goal.returns
returns c =
    let bytes : c.in_ok-bytes.bytes.items ≡ replicate c.cells.result 8 = search rules in
    ap (λ (cs : List (Option ℕ)). record { sides = c.args.shape; cells = cs }) (ap (map category_of) bytes ∙ map-replicate category_of c.cells.result 8 ∙ ap (λ n. replicate n (category_of 8)) c.cells.ensures.count)
