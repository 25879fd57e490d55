-- What shifts and masks cut out of 64 bits.
use mathlib.Core.Path.{◌≡◌, sym, ap, ◌∙◌}
use mathlib.Core.List.{List}
use Prim.Native.Nat.{ℕ, ◌+◌, ◌-◌, ◌*◌, ◌/◌, ◌^◌}
use native.Mathlib.Omega.{arith}
use native.Mathlib.Nat.{div-one}
use lib.Bits.{bit_and}
use Rattle.bits.specs.Pack.{val, bit_at, Bits}
use Rattle.bits.proofs.Laws.Pack.{val_same, bit_lt}
use Rattle.bits.proofs.Laws.Parts.{cut_part}
use Rattle.header.specs.Header.{field, fields_of, spare_of, old_spare_of}
use Rattle.header.proofs.Laws.Form.{fields_same}
use Rattle.header.specs.declared.Fields.{Fields}

-- what is cut out of the first eight bytes as a number
abbrev pub cut_from : ℕ → Fields
cut_from h = record {
  rate = bit_and (h / 2 ^ 62) 3;
  bits = bit_and (h / 2 ^ 58) 15;
  rows = bit_and (h / 2 ^ 50) 255;
  step = bit_and (h / 2 ^ 41) 511;
  size = bit_and (h / 2 ^ 29) 4095;
  markers = bit_and (h / 2 ^ 23) 63;
  frames = bit_and (h / 2 ^ 16) 127;
  copies = bit_and (h / 2 ^ 10) 63;
}

-- the bits from byte 0 on are all of them
pub whole : (header : List ℕ) → val (λ t. bit_at header (8 * 0 + t)) 64 ≡ val (bit_at header) 64
whole header = val_same (λ t. bit_at header (8 * 0 + t)) (bit_at header) 64 (λ t l. ap (bit_at header) (omega arith))

pub fields_cut : (header : List ℕ) → cut_from (val (bit_at header) 64) ≡ fields_of header
unfolding fields_of field
fields_cut header =
    let b : Bits (bit_at header) = bit_lt header in
    fields_same (cut_from (val (bit_at header) 64)) (fields_of header)
    (cut_part (bit_at header) b 0 2 62)
    (cut_part (bit_at header) b 2 4 58)
    (cut_part (bit_at header) b 6 8 50)
    (cut_part (bit_at header) b 14 9 41)
    (cut_part (bit_at header) b 23 12 29)
    (cut_part (bit_at header) b 35 6 23)
    (cut_part (bit_at header) b 41 7 16)
    (cut_part (bit_at header) b 48 6 10)

-- the spare bits are the lowest of the last eight bytes
lowest : (header : List ℕ) (at a n : ℕ) → bit_and (val (λ t. bit_at header (8 * at + t)) (a + n + 0)) (2 ^ n - 1) ≡ field header (8 * at + a) n
unfolding field
lowest header at a n =
    let b : ℕ → ℕ = λ t. bit_at header (8 * at + t) in
    ap (λ (v : ℕ). bit_and v (2 ^ n - 1)) (sym (div-one (val b (a + n + 0))))
    ∙ cut_part b (λ t. bit_lt header (8 * at + t)) a n 0
    ∙ val_same (λ t. b (a + t)) (λ t. bit_at header (8 * at + a + t)) n (λ t l. ap (bit_at header) (omega arith))

pub spare_cut : (header : List ℕ) → bit_and (val (λ t. bit_at header (8 * 2 + t)) 64) 67108863 ≡ spare_of header
unfolding spare_of
spare_cut header = lowest header 2 38 26

pub old_spare_cut : (header : List ℕ) → bit_and (val (λ t. bit_at header (8 * 0 + t)) 64) 65535 ≡ old_spare_of header
unfolding old_spare_of
old_spare_cut header = lowest header 0 48 16
