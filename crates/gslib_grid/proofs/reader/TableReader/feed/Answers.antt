use Rattle.std.proofs.Common.{◌≡◌, Some, ap, sym, ◌∙◌}
use Rattle.gslib_grid.specs.Reader.{Reading}
use Rattle.gslib_grid.proofs.Feeding.{fed_again, told_again}
use Rattle.gslib_grid.proofs.reader.TableReader.feed.Goals as goal

pub returns-in-Some-clause-fed : goal.returns-in-Some-clause-fed
returns-in-Some-clause-fed c want codes bytes fed =
    let told : c.args.self.now.told ≡ Some c.in-Some.error = ap (λ (r : Reading). r.told) (sym c.self.view_is) ∙ c.in-Some.is in
    fed_again want codes c.args.self.now bytes c.args.piece.now c.in-Some.error told fed

pub returns-in-Some-clause-answer : goal.returns-in-Some-clause-answer
returns-in-Some-clause-answer c want codes bytes fed =
    let told : c.args.self.now.told ≡ Some c.in-Some.error = ap (λ (r : Reading). r.told) (sym c.self.view_is) ∙ c.in-Some.is in
    told_again want codes c.args.self.now bytes c.args.piece.now c.in-Some.error told fed
