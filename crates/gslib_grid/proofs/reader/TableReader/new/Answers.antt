use Rattle.std.proofs.Common.{refl}
use Rattle.gslib_grid.proofs.Feeding.{stands_first}
use Rattle.gslib_grid.proofs.reader.TableReader.new.Goals as goal

pub returns-clause-fed : goal.returns-clause-fed
returns-clause-fed c = stands_first c.args.want c.args.codes _ c.of-wanted.ensures refl c.new.ensures c.new-2.ensures.items
