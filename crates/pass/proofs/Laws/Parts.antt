-- The part of a slice that is lent for a piece is the piece.
use mathlib.Core.Path.{◌≡◌, ap, ◌∙◌}
use mathlib.Core.List.{List}
use Prim.Native.Nat.{ℕ, ◌+◌, ◌-◌, ◌*◌}
use native.Mathlib.Omega.{arith}
use lib.ListN.{take, drop}
use Rattle.bits.specs.Pack.{piece}

pub part_piece : (n size : ℕ) (xs : List ℕ) (j : ℕ) → n ≡ size → take (j * n + n - j * n) (drop (j * n) xs) ≡ piece size xs j
part_piece n size xs j e =
    let k : j * n + n - j * n ≡ n = omega arith in
    ap (λ (x : ℕ). take x (drop (j * n) xs)) k ∙ ap (λ (x : ℕ). piece x xs j) e
