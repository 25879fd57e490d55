-- The code of the answer, which fits.
use mathlib.Core.Path.{ap, ◌∙◌}
use Rattle.answers.specs.Answer.{Answer, code_of, after}
use Rattle.spread.specs.Spread.{spread_of}
use Rattle.spread.proofs.Laws.Spread.{spread_fits}
use Rattle.c_calls.proofs.mahyrei_bit_spread.Goals as goal

pub code-requires : goal.code-requires
code-requires c = rw c.mark.ensures.value (spread_fits _ _ _)

pub returns : goal.returns
returns c =
    let a = c.args in
    let r = c.mark in record {
      value = c.code.ensures ∙ ap code_of r.ensures.value;
      places_after = r.ensures.places_after ∙ ap (λ (x : Answer). after x (spread_of a.rate a.bit) a.places.now) r.ensures.value;
    }
