-- The zeros in front tell the highest power of 2 below the number.
use mathlib.Core.Path.{◌≡◌}
use Prim.Native.Nat.{ℕ, suc, ◌+◌, ◌-◌, ◌^◌, ◌≤◌, ◌<◌}
use native.Mathlib.Omega.{arith}
use lib.Count.{count_leading_zeros, leading_top}
use Rattle.bits.specs.Inner.{Leads}
use Rattle.bits.proofs.scan.leading.Goals as goal

leads : (v j r : ℕ) → r + suc j ≡ 64 → 2 ^ j ≤ v → v < 2 ^ suc j → Leads 64 v r
leads v j r e lo hi =
    let a : 64 - r ≡ suc j = omega arith in
    let b : 64 - 1 - r ≡ j = omega arith in
    record { small = omega arith; pass = rw a hi; stop = rw b lo }

pub returns : goal.returns
returns c =
    let top = leading_top 64 c.args.v (omega arith) c.ranges.v.fits in
    leads c.args.v top.0 (count_leading_zeros 64 c.args.v) top.1 top.2 top.3
