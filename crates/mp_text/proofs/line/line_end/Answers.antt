use Rattle.std.proofs.Common.{◌+◌, arith, ap, sym}
use Rattle.std.specs.Prelude.{◌==◌, option_map}
use Rattle.std.proofs.lemmas.Bool.{false_from_ne_true}
use Rattle.mp_text.proofs.Places.{first_at, first_none}
use Rattle.mp_text.proofs.line.line_end.Goals as goal

pub returns-in-Some-clause-end : goal.returns-in-Some-clause-end
returns-in-Some-clause-end c =
    let found = c.in-Some.ensures in
    ap (option_map (λ i. i + 1))
    (sym (first_at (λ b. b == 10) c.args.bytes.now c.in-Some.place 0 found.0.high found.1 (λ k below. false_from_ne_true _ (found.0.before k (omega arith) below))))

pub returns-in-None-clause-end : goal.returns-in-None-clause-end
returns-in-None-clause-end c =
    ap (option_map (λ i. i + 1)) (sym (first_none (λ b. b == 10) c.args.bytes.now 0 (λ k below. false_from_ne_true _ (c.in-None.ensures k (omega arith) below))))
