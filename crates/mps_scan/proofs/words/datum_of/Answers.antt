use Rattle.mps_scan.proofs.Parts.{no_datum}
use Rattle.mps_scan.proofs.words.datum_of.Goals as goal

pub returns-in_default-clause-value : goal.returns-in_default-clause-value
returns-in_default-clause-value c = no_datum c.args.text.now c.in_default.ensures.none
