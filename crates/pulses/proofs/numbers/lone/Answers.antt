-- What shifts up to 2 ^ 63 is a power of 2.
use Rattle.pulses.proofs.Lone.{power}
use Rattle.pulses.proofs.numbers.lone.Goals as goal

pub returns-then-v-r : goal.returns-then-v-r
returns-then-v-r c = λ l. power _ _ c.leading-r.ensures c.if-v-r.true
