-- 64 frames of 2,048 bytes are far below 2^64.
use mathlib.Core.Path.{refl}
use Prim.Native.Nat.{◌*◌, ◌≤◌}
use native.Mathlib.Omega.{arith}
use Rattle.header_sizes.specs.Quantities.{frame_bytes}
use Rattle.header_sizes.proofs.Laws.Bounds.{frame_bytes_most}
use Rattle.header_sizes.proofs.frame_bytes.Goals as goal

pub overflow_mul-result : goal.overflow_mul-result
unfolding frame_bytes
overflow_mul-result c =
    let f = c.args.f in
    let most : f.frames * f.size ≤ 131072 = frame_bytes_most f c.requires in
    omega arith

pub returns : goal.returns
unfolding frame_bytes
returns c = refl
