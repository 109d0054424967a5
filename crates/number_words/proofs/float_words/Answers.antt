-- `number_words::float_words` meets its contract: the word is that of what the operation makes of the two floats. Assumes nothing.

use Rattle.number_words.proofs.Floats.{float_word}
use Rattle.number_words.proofs.float_words.Goals as goal

pub returns-clause-value : goal.returns-clause-value
returns-clause-value g c = float_word c.args.operation g.F.FloatBits.format c.to_word.ensures.word c.computed.ensures c.of_word.ensures c.of_word-2.ensures
