-- The symbol's bits lie in the one byte.
use Prim.Native.Nat.{◌-◌, ◌*◌, ◌%◌, ◌<◌}
use native.Mathlib.Omega.{arith}
use native.Mathlib.Nat.{mul-le-mul, le_refl}
use Rattle.slots_residues.proofs.Laws.Bytes.{whole_within, shift, byte_small, put_one}
use Rattle.slots_residues.proofs.put_in_byte.Goals as goal

pub add_at-requires : goal.add_at-requires
add_at-requires c =
    let a = c.args in
    let h = c.requires in
    let e = shift a.t a.m a.q a.words.now h.0 h.1 in
    let room = c.requires.0.room in
    let least = c.requires.0.bits_least in
    let l : 8 - a.m - a.m * a.t % 8 < 8 = omega arith in
    (omega arith, rw e l, rw e (byte_small a.t a.m a.q a.words.now h.0 (whole_within a.t a.m a.q a.words.now h.0 h.1)))

pub returns : goal.returns
returns c =
    let s = c in
    let a = c.args in
    let h = c.requires in
    rw (c.add_at.ensures, shift a.t a.m a.q a.words.now h.0 h.1) (put_one a.t a.m a.q a.words.now h.0 (whole_within a.t a.m a.q a.words.now h.0 h.1))
