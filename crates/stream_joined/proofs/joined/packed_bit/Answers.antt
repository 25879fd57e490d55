-- A block's bytes lie after those of the blocks before it.
use Prim.Native.Nat.{◌*◌, ◌≤◌}
use native.Mathlib.Omega.{arith}
use native.Mathlib.Nat.{mul-le-mul}
use Rattle.sizes.proofs.Laws.Rate.{info_le, block_room}
use Rattle.stream_joined.proofs.joined.packed_bit.Goals as goal

pub overflow_mul-result : goal.overflow_mul-result
overflow_mul-result c =
    let s = c in
    let e = c.block_bytes.ensures in
    let h : 8 * c.block_bytes.result ≤ 10048 = let w = block_room s.args.rate s.requires.0 in omega arith in
    let m = mul-le-mul s.requires.1 h in
    let k = info_le s.args.rate in
    omega (arith, s.requires.2)

pub overflow_mul-result-2 : goal.overflow_mul-result-2
overflow_mul-result-2 c =
    let s = c in
    let e = c.block_bytes.ensures in
    let h : 8 * c.block_bytes.result ≤ 10048 = let w = block_room s.args.rate s.requires.0 in omega arith in
    let m = mul-le-mul s.requires.1 h in
    let k = info_le s.args.rate in
    omega (arith, s.requires.2)

pub overflow_add-result : goal.overflow_add-result
overflow_add-result c =
    let s = c in
    let e = c.block_bytes.ensures in
    let h : 8 * c.block_bytes.result ≤ 10048 = let w = block_room s.args.rate s.requires.0 in omega arith in
    let m = mul-le-mul s.requires.1 h in
    let k = info_le s.args.rate in
    omega (arith, s.requires.2)
