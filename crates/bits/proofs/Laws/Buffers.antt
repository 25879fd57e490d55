-- A buffer of n zeros: its length and its bytes, by laws over n, since counting out some hundred thousand bytes takes seconds.
use mathlib.Core.Path.{◌≡◌}
use mathlib.Core.Logic.{⊎_elim}
use Prim.Native.Nat.{ℕ, ◌≤◌, ◌<◌}
use lib.ListN.{length, get_or, replicate, length-replicate, get_or-replicate, get_or-eq_default}
use Rattle.bits.proofs.Laws.Choice.{lt_or_le}

-- it has room for k bytes
pub buffer_holds : (k n : ℕ) → k ≤ n → k ≤ length (replicate {A = ℕ} n 0)
buffer_holds k n l = rw (length-replicate {A = ℕ} n 0) l

-- every byte, also past its end, reads as 0
pub buffer_empty : (n k : ℕ) → get_or (replicate {A = ℕ} n 0) k 0 ≡ 0
buffer_empty n k =
    ⊎_elim
    (λ (l : k < n). get_or-replicate {A = ℕ} n k 0 0 l)
    (λ (l : n ≤ k). get_or-eq_default (replicate {A = ℕ} n 0) 0 (rw (length-replicate {A = ℕ} n 0) l))
    (lt_or_le k n)
