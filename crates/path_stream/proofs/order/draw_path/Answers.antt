use Rattle.std.proofs.Common.{rules}
use Rattle.path_stream.specs.Words.{word_of}
use Rattle.path_stream.specs.Path.{path_of}
use Rattle.path_stream.proofs.Paths.{word_of-below, path_of-permutation, path_of-differ}
use Rattle.path_stream.proofs.order.draw_path.Goals as goal

pub loop-i-init : goal.loop-i-init
unfolding path_of
loop-i-init c = search rules

pub returns-clause-path : goal.returns-clause-path
returns-clause-path c = search rules

pub returns-clause-permutation : goal.returns-clause-permutation
returns-clause-permutation c =
    rw (returns-clause-path c)
    (path_of-permutation (word_of c.args.words.now.seed c.args.words.now.number) (word_of-below c.args.words.now.seed c.args.words.now.number) c.args.nodes.now)

pub returns-clause-apart : goal.returns-clause-apart
returns-clause-apart c =
    rw (returns-clause-path c)
    (path_of-differ (word_of c.args.words.now.seed c.args.words.now.number) (word_of-below c.args.words.now.seed c.args.words.now.number) c.args.nodes.now c.requires.rising)
