-- What a window shows: at least one bit and no more than 64, those from a bit on.
use mathlib.Core.Path.{◌≡◌, sym, ap, ◌∙◌}
use mathlib.Core.Bool.{Bool, true, false}
use mathlib.Core.List.{List}
use mathlib.Core.Logic.{⊎_elim}
use Prim.Native.Nat.{ℕ, ◌+◌, ◌-◌, ◌*◌, ◌/◌, ◌%◌, ◌^◌, ◌≤◌, ◌<◌}
use native.Mathlib.Omega.{arith}
use lib.Dec.{leb}
use lib.ListN.{get_or}
use Rattle.bits.specs.Basics.{pick}
use Rattle.bits.proofs.Laws.Choice.{lt_or_le}
use Rattle.bits.specs.Pack.{val, bit_at, cut, Bits, Bytes}
use Rattle.bits.proofs.Laws.Pack.{bit_lt, val_same, cut_in, cut_past, cut_bits}
use Rattle.bits.proofs.Laws.Parts.{byte_val, val_cut, val_shift}
use Rattle.bits.specs.Inner.{shown, reach, bits_from}

pub shown_is : (n i : ℕ) → (8 ≤ shown n i) × (shown n i ≤ 64)
unfolding shown
shown_is n i = cases (leb (i + 8) n)
  where
    cases : (t : Bool) → (8 ≤ pick t 64 8) × (pick t 64 8 ≤ 64)
    cases true = omega arith
    cases false = omega arith

pub reach_is : (n x : ℕ) → (1 ≤ reach n x) × (reach n x ≤ 64)
unfolding reach
reach_is n x = let s = shown_is n (x / 8) in omega arith

-- the window of one byte
pub one_byte : (b : List ℕ) → Bytes b → (i : ℕ) → get_or b i 0 * 2 ^ 56 % 2 ^ 64 ≡ val (cut 8 (bits_from b (8 * i))) 64
one_byte b h i =
    let small : get_or b i 0 < 256 = h i in
    let fits : get_or b i 0 * 2 ^ 56 % 2 ^ 64 ≡ get_or b i 0 * 2 ^ 56 = omega arith in
    fits ∙ ap (λ (v : ℕ). v * 2 ^ 56) (sym (byte_val b i (h i))) ∙ sym (val_cut (bits_from b (8 * i)) 8 64 (omega arith))

-- and of eight
pub eight_bytes : (b : List ℕ) (i : ℕ) → val (bits_from b (8 * i)) 64 ≡ val (cut 64 (bits_from b (8 * i))) 64
eight_bytes b i = sym (val_same (cut 64 (bits_from b (8 * i))) (bits_from b (8 * i)) 64 (λ k l. cut_in 64 (bits_from b (8 * i)) k l))

-- shifted up to bit x
pub window_from : (b : List ℕ) (n x : ℕ) → val (cut (shown n (x / 8)) (bits_from b (8 * (x / 8)))) 64 * 2 ^ (x % 8) % 2 ^ 64 ≡ val (cut (reach n x) (bits_from b x)) 64
unfolding reach
window_from b n x =
    let s : ℕ = shown n (x / 8) in
    let i = shown_is n (x / 8) in
    let r : ℕ = x % 8 in
    let f : ℕ → ℕ = bits_from b (8 * (x / 8)) in
    let bits : Bits f = λ k. bit_lt b (8 * (x / 8) + k) in
    val_shift (cut s f) (cut_bits s f bits) r 64 (omega arith)
    ∙ val_same (cut (64 - r) (λ t. cut s f (r + t))) (cut (s - r) (bits_from b x)) 64 (λ k l.
    ⊎_elim
    (λ (h : k < s - r).
    let e : 8 * (x / 8) + (r + k) ≡ x + k = omega arith in
    cut_in (64 - r) (λ t. cut s f (r + t)) k (omega arith)
    ∙ cut_in s f (r + k) (omega arith)
    ∙ ap (bit_at b) e
    ∙ sym (cut_in (s - r) (bits_from b x) k h))
    (λ (h : s - r ≤ k).
    ⊎_elim
    (λ (g : k < 64 - r). cut_in (64 - r) (λ t. cut s f (r + t)) k g ∙ cut_past s f (r + k) (omega arith))
    (λ (g : 64 - r ≤ k). cut_past (64 - r) (λ t. cut s f (r + t)) k g)
    (lt_or_le k (64 - r))
    ∙ sym (cut_past (s - r) (bits_from b x) k h))
    (lt_or_le k (s - r)))
