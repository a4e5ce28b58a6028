use Rattle.std.proofs.Common.{◌≡◌, Some, ◌++◌, Err, ap, sym, ◌∙◌, subst}
use Rattle.gslib_grid.specs.Reader.{Reading, long_fault, with_part}
use Rattle.gslib_grid.proofs.Feeding.{part_long}
use Rattle.gslib_grid.proofs.reader.TableReader.take_part.Goals as goal

pub returns-in-Some-clause-fault : goal.returns-in-Some-clause-fault
returns-in-Some-clause-fault c =
    let part = c.args.part.now in
    let long : long_fault c.self.inside.progress (c.self.inside.begun.items ++ part) ≡ Some c.in-Some.fault =
    ap (λ begun. long_fault c.self.inside.progress (begun ++ part)) (sym c.deref.ensures.value) ∙ sym c.long_fault.ensures ∙ c.in-Some.is in
    subst (λ (r : Reading). with_part r part ≡ Err c.in-Some.fault) c.self.view_is (part_long _ part c.in-Some.fault long)
