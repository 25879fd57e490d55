-- The bytes of slots that lie anywhere in a capture.
use mathlib.Core.Path.{◌≡◌, refl, sym, ap, ◌∙◌}
use mathlib.Core.List.{List}
use mathlib.Core.Logic.{⊎_elim}
use Prim.Native.Nat.{ℕ, ◌+◌, ◌-◌, ◌*◌, ◌/◌, ◌%◌, ◌^◌, ◌≤◌, ◌<◌}
use native.Mathlib.Omega.{arith}
use native.Mathlib.Nat.{zero-div, mul-le-mul}
use lib.Dec.{leb}
use lib.ListN.{length, get_or, set, length-set, get_or-eq_default}
use lib.Seq.{get_or-set_same, get_or-set_other}
use borrow.Author.Tests.{le-leb, lt-leb}
use Rattle.bits.proofs.Laws.Choice.{lt_or_le, eq_or_ne}
use Rattle.bits.specs.Inner.{Ends, Laid}
use Rattle.bits.specs.Pack.{val, bit_at, bytes_of, cut, Bits, Bytes}
use Rattle.bits.proofs.Laws.Pack.{val_same, bit_lt, bit_bytes, bytes_made, bytes_by_byte, cut_in, cut_past, cut_same}
use Rattle.bits.proofs.Laws.Parts.{byte_val, val_shift}
use Rattle.header.specs.declared.Fields.{Fields}
use Rattle.header_sizes.specs.Quantities.{symbols_per_word, symbol_count, slots_per_symbol, slot_count}
use Rattle.header_sizes.specs.Inner.{Valid}
use Rattle.header_sizes.proofs.Laws.Shape.{symbols_least, group_least}
use Rattle.header_sizes.proofs.Laws.Bounds.{lines_least}

-- the last byte of a capture, shifted up to slot y: after it all is zero
pub end_byte : (b : List ℕ) (y : ℕ) → get_or b (y / 8) 0 < 256 → length b ≤ y / 8 + 1
    → get_or b (y / 8) 0 * 2 ^ (y % 8) % 2 ^ 8 ≡ val (λ t. bit_at b (y + t)) 8
unfolding bit_at
end_byte b y small near =
    let i : ℕ = y / 8 in
    let r : ℕ = y % 8 in
    let f : ℕ → ℕ = λ t. bit_at b (8 * i + t) in
    let bits : Bits f = λ t. bit_lt b (8 * i + t) in
    ap (λ (v : ℕ). v * 2 ^ r % 2 ^ 8) (sym (byte_val b i small))
    ∙ val_shift f bits r 8 (omega arith)
    ∙ val_same (cut (8 - r) (λ t. f (r + t))) (λ t. bit_at b (y + t)) 8 (λ t l.
    ⊎_elim
    (λ (h : t < 8 - r).
    let e : 8 * i + (r + t) ≡ y + t = omega arith in
    cut_in (8 - r) (λ t. f (r + t)) t h ∙ ap (bit_at b) e)
    (λ (h : 8 - r ≤ t).
    let past : length b ≤ (y + t) / 8 = omega arith in
    cut_past (8 - r) (λ t. f (r + t)) t h ∙ sym (rw (get_or-eq_default b 0 past, zero-div (2 ^ (7 - (y + t) % 8))) refl))
    (lt_or_le t (8 - r)))

-- whole bytes, the last one, and no spare bits
pub packed : (b before middle after : List ℕ) (s count n last v : ℕ) → last + 1 ≡ n → count ≤ 8 * n → length before ≡ n
    → Laid before 0 last (λ t. bit_at b (s + t)) middle
    → v ≡ val (λ t. bit_at b (s + 8 * last + t)) 8 → Ends (set middle last v) count after → Bytes after
    → after ≡ bytes_of n (cut count (λ i. bit_at b (s + i)))
packed b before middle after s count n last v en ec long laid ev ends bytes =
    let f : ℕ → ℕ = λ t. bit_at b (s + t) in
    let bits : Bits f = λ t. bit_lt b (s + t) in
    let xs : List ℕ = set middle last v in
    let lm : length middle ≡ n = laid.long ∙ long in
    let lx : length xs ≡ n = length-set middle last v ∙ lm in
    let whole : xs ≡ bytes_of n f = bytes_by_byte n f xs lx (λ i l.
    ⊎_elim
    (λ (e : i ≡ last).
    ap (λ (k : ℕ). get_or xs k 0) e
    ∙ get_or-set_same middle last v 0 (omega arith)
    ∙ ev
    ∙ val_same (λ t. bit_at b (s + 8 * last + t)) (λ t. f (8 * i + t)) 8 (λ t k. ap (bit_at b) (omega arith)))
    (λ (ne : i ≡ last → ⊥). get_or-set_other middle last i v 0 ne ∙ ap (λ (k : ℕ). get_or middle k 0) (omega arith) ∙ laid.here i
    (⊎_elim (λ (h : i < last). h) (λ (h : last ≤ i). absurd (ne (omega arith))) (lt_or_le i last)))
    (eq_or_ne i last)) in
    bytes_made n (cut count f) after (ends.long ∙ lx) bytes (λ x l.
    ends.bits x (omega arith)
    ∙ cut_same count (bit_at xs) f (λ i k. ap (λ (ys : List ℕ). bit_at ys i) whole ∙ bit_bytes n f bits i (omega arith)) x)

-- a sum's test without the sum
pub room_is : (s count end : ℕ) → count ≤ end → leb s (end - count) ≡ leb (s + count) end
room_is s count end h =
    ⊎_elim
    (λ (l : s < end - count + 1).
    let a : s ≤ end - count = omega arith in
    let c : s + count ≤ end = omega arith in
    le-leb s (end - count) a ∙ sym (le-leb (s + count) end c))
    (λ (l : end - count + 1 ≤ s).
    let a : end - count < s = omega arith in
    let c : end < s + count = omega arith in
    lt-leb s (end - count) a ∙ sym (lt-leb (s + count) end c))
    (lt_or_le s (end - count + 1))

-- a run has slots
pub slots_some : (f : Fields) → Valid f → 1 ≤ f.copies → 1 ≤ slot_count f
unfolding slot_count symbol_count
slots_some f v k =
    let s : 1 ≤ symbols_per_word f + f.markers = let l = symbols_least f v.shaped in omega arith in
    let g : 1 ≤ slots_per_symbol f = let l = group_least f v.shaped in omega arith in
    mul-le-mul {n₁ = 1} (mul-le-mul {n₁ = 1} (mul-le-mul {n₁ = 1} (lines_least f v) s) k) g
