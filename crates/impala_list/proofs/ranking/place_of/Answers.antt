use Rattle.impala_list.proofs.Ranks.{found}
use Rattle.impala_list.proofs.ranking.place_of.Goals as goal

pub unreachable-requires : goal.unreachable-requires
unreachable-requires c = found c.args.distinct.now c.args.key c.in-Err.field-0 c.binary_search.result c.binary_search.ensures.position c.requires.rise c.requires.known c.in-Err.is
