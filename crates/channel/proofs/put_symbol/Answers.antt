-- The symbol's bits lie in the two bytes.
use Rattle.channel.proofs.Two.{moved_small, put_moved}
use Rattle.channel.proofs.put_symbol.Goals as goal

pub overflow_cast-words : goal.overflow_cast-words
overflow_cast-words c = let s = c in record { fits = moved_small s.args.t s.args.m s.args.q s.args.words.now s.requires }

pub returns : goal.returns
returns c = let s = c in put_moved s.args.t s.args.m s.args.q s.args.words.now s.requires
