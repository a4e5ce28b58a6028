use Rattle.std.proofs.Common.{List, ℕ, [], ◌∷◌, ◌++◌, get_or, arith, ap, ◌∙◌}
use Rattle.mp_params.specs.declared.table.Key.TheVariants.{Version}
use Rattle.mp_params.specs.Printing.{lines_text}
use Rattle.mp_params.proofs.Printed.{lines_more}
use Rattle.mp_params.proofs.printing.printed.Goals as goal

pub loop-key-preserved : goal.loop-key-preserved
loop-key-preserved c =
    let p = c.args.params.now in
    let keys = c.args.keys.now in
    let i = c.loop-key.key-index in
    c.in_ok-push_line.ensures ∙ ap (λ (xs : List ℕ). xs ++ lines_text p (get_or keys i Version ∷ [])) c.loop-key.invariant ∙ lines_more p keys i Version (omega arith)
