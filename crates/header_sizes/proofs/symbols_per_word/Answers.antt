-- It is the definition, and m is not 0.
use mathlib.Core.Path.{refl}
use Rattle.header_sizes.specs.Quantities.{symbols_per_word}
use Rattle.header_sizes.proofs.symbols_per_word.Goals as goal

pub returns : goal.returns
unfolding symbols_per_word
returns c = refl
