-- A test of all bytes.
use native.Mathlib.Omega.{arith}
use Rattle.uplink_heard.proofs.Reading.{two_bits}
use Rattle.uplink_heard.proofs.two_bits.Goals as goal

pub returns : goal.returns
returns c = two_bits c.args.b (omega arith)
