use Rattle.std.proofs.Common.{rules}
use Rattle.path_stream.specs.Words.{word_of}
use Rattle.path_stream.proofs.words.WordCursor.next_word.Goals as goal

pub returns-clause-word : goal.returns-clause-word
unfolding word_of
returns-clause-word c = search rules
