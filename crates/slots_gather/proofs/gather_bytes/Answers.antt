-- Four bytes more at each turn, and then the others.
use mathlib.Core.Path.{◌≡◌, ap}
use mathlib.Core.List.{List}
use Prim.Native.Nat.{ℕ, ◌+◌, ◌-◌, ◌*◌, ◌/◌, ◌%◌, ◌^◌, ◌≤◌}
use native.Mathlib.Omega.{arith}
use native.Mathlib.Nat.{add-mul}
use lib.Bits.{bit_and}
use lib.ListN.{get_or}
use Rattle.slots_gather.specs.Inner.{cut_from, Column}
use Rattle.slots_gather.proofs.Laws.Columns.{column_on}
use Rattle.slots_gather.proofs.gather_bytes.Goals as goal

-- the bytes of a part are those that follow
on : (at step shift mask : ℕ) (words : List ℕ) (from n : ℕ) (before row after : List ℕ) (d k : ℕ) → 1 ≤ n
    → Column before from n d (cut_from words at step shift mask) row
    → Column row (from + d * n) n k (cut_from words (at + d * step) step shift mask) after
    → Column before from n (d + k) (cut_from words at step shift mask) after
on at step shift mask words from n before row after d k least done more =
    column_on before row after from n d k (cut_from words at step shift mask) (cut_from words (at + d * step) step shift mask) least done more
    (λ j h.
    let e : at + d * step + j * step ≡ at + (d + j) * step = omega (arith, add-mul d j step) in
    ap (λ (x : ℕ). bit_and (get_or words x 0 / 2 ^ shift) mask) e)

pub loop-k-preserved : goal.loop-k-preserved
loop-k-preserved c =
    let k : ℕ = c.loop-k.k in
    let next : 4 * (k + 1) ≡ 4 * k + 4 = omega arith in
    rw next (on _ _ _ _ _ _ _ _ _ _ (4 * k) 4 c.requires.n_least c.loop-k.invariant c.gather_part.ensures)

pub returns : goal.returns
returns c =
    let n : ℕ = c.args.to.count in
    let most : 4 * c.loop-k.k ≡ n - n % 4 = omega arith in
    let all : n - n % 4 + n % 4 ≡ n = omega arith in
    rw all at (on _ _ _ _ _ _ _ _ _ _ (n - n % 4) (n % 4) c.requires.n_least (rw most at c.loop-k.invariant) c.gather_part-2.ensures)
