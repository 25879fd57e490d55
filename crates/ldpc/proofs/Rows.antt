-- The rows of the generator as a table, and the parity of a frame by it.
use mathlib.Core.Path.{◌≡◌, refl, sym, ap, ap₂, ◌∙◌}
use mathlib.Core.List.{List}
use mathlib.Core.Logic.{⊎_elim}
use Prim.Native.Nat.{ℕ, ◌+◌, ◌-◌, ◌*◌, ◌/◌, ◌^◌, ◌<◌}
use native.Mathlib.Omega.{arith}
use native.Mathlib.Nat.{mul_comm}
use native.Mathlib.Numerals.{add-one}
use lib.Bits.{bit_xor, bit_and, and_mask}
use lib.Dec.{T, eqb, eqb→eq}
use lib.ListN.{get_or}
use Rattle.bits.proofs.Laws.Choice.{bit_cases}
use Rattle.bits.proofs.Laws.Table.{all_below, below_all}
use Rattle.bits.specs.Pack.{Bits, val, bit_of}
use Rattle.bits.proofs.Laws.Pack.{bit_of_lt, val_lt}
use Rattle.bits.proofs.Laws.Parts.{val_none, val_plus, val_times}
use Rattle.bits.specs.Count.{xor_sum}
use Rattle.bits.proofs.Laws.XorSum.{xor_sum_bits}
use Rattle.ldpc.specs.Code.{row_bit, parity_bit}
use Rattle.ldpc.proofs.Laws.Code.{row_bits_lem, counted_bits}

-- entry i is row i of the generator, the first bit highest
pub record Rows (table : List ℕ) : Type 0 where
  pub entry : (i : ℕ) → i < 64 → get_or table i 0 ≡ val (row_bit i) 64

-- a table is right where this test passes, which antt computes
pub table_right : (table : List ℕ) → T (all_below 64 (λ i. eqb (get_or table i 0) (val (row_bit i) 64))) → Rows table
table_right table t = record {
  entry = λ i l. eqb→eq (get_or table i 0) (val (row_bit i) 64) (below_all 64 (λ i. eqb (get_or table i 0) (val (row_bit i) 64)) t i l);
}

-- a row that counts or not fits 64 bits
pub row_fits : (table : List ℕ) → Rows table → (i b : ℕ) → i < 64 → b < 2 → get_or table i 0 * b < 2 ^ 64
row_fits table h i b l hb =
    let fits : get_or table i 0 < 2 ^ 64 = rw (h.entry i l) (val_lt (row_bit i) (row_bits_lem i) 64) in
    ⊎_elim (λ (e : b ≡ 0). rw e (omega arith)) (λ (e : b ≡ 1). rw e (omega arith)) (bit_cases b hb)

-- the sum of the rows of the first n bits of a frame
unfoldable pub parity_of : ℕ → ℕ → ℕ
parity_of frame n = val (λ t. xor_sum (λ i. bit_of frame i * row_bit i t) n) 64

pub parity_none : (frame : ℕ) → parity_of frame 0 ≡ 0
unfolding parity_of xor_sum
parity_none frame = val_none (λ t. 0) 64 (λ t l. refl)

-- one bit more: its row is added where it is 1
pub parity_more : (table : List ℕ) → Rows table → (frame i p : ℕ) → i < 64 → p ≡ parity_of frame i
    → bit_xor p (get_or table i 0 * bit_and (frame / 2 ^ (63 - i)) 1) ≡ parity_of frame (i + 1)
unfolding parity_of xor_sum
parity_more table h frame i p l e =
    let row : ℕ → ℕ = λ t. bit_of frame i * row_bit i t in
    let so_far : ℕ → ℕ = λ t. xor_sum (λ i. bit_of frame i * row_bit i t) i in
    let bits : Bits so_far = λ t. xor_sum_bits (λ i. bit_of frame i * row_bit i t) (counted_bits (bit_of frame) (bit_of_lt frame) t) i in
    let entry : get_or table i 0 * bit_and (frame / 2 ^ (63 - i)) 1 ≡ val row 64 =
    ap (λ (b : ℕ). get_or table i 0 * b) (and_mask (frame / 2 ^ (63 - i)) 1) ∙ mul_comm (get_or table i 0) (bit_of frame i)
    ∙ ap (λ (v : ℕ). bit_of frame i * v) (h.entry i l) ∙ sym (val_times (bit_of frame i) (row_bit i) 64) in
    ap₂ bit_xor e entry
    ∙ sym (val_plus so_far row bits (λ t. counted_bits (bit_of frame) (bit_of_lt frame) t i) 64)
    ∙ ap (parity_of frame) (sym (add-one i))

pub parity_all : (frame : ℕ) → parity_of frame 64 ≡ val (parity_bit (bit_of frame)) 64
unfolding parity_of parity_bit
parity_all frame = refl
