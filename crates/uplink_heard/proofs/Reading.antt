-- Slots to bits.
use mathlib.Core.Path.{◌≡◌, refl, sym, ap, ap₂, subst, ◌∙◌}
use mathlib.Core.Bool.{Bool, true, false, ◌||◌}
use mathlib.Core.List.{List}
use Prim.Native.Nat.{ℕ, ◌+◌, ◌-◌, ◌*◌, ◌/◌, ◌%◌, ◌^◌, ◌<◌}
use native.Mathlib.Omega.{arith}
use lib.Bits.{bit_xor, bit_or, bit_and, and_mask, mask_lt}
use lib.Dec.{eqb, eqb→eq}
use lib.ListN.{get_or}
use Rattle.bits.specs.Basics.{bool}
use Rattle.bits.proofs.Laws.Table.{below_all}
use Rattle.bits.specs.Pack.{val, bit_at, bit_of}
use Rattle.bits.proofs.Laws.Pack.{bit_lt, val_same, bit_val}
use Rattle.bits.proofs.Laws.Parts.{val_plus, push_some}
use Rattle.bits.proofs.Laws.Field.{cut_out}
use Rattle.bits.specs.Inner.{Laid}
use Rattle.bits.proofs.Laws.Stretch.{laid_on}
use Rattle.randomizer.specs.Randomizer.{sequence, randomize}
use Rattle.randomizer.proofs.Laws.Randomizer.{sequence_bits}
use Rattle.ldpc.specs.Code.{parity_bit, is_codeword}
use Rattle.ldpc.proofs.Laws.Code.{parity_same}
use Rattle.ldpc.proofs.Laws.Exactly.{by_parity}
use Rattle.uplink.specs.Uplink.{group, is_bit, received}
use Rattle.uplink.proofs.Laws.Uplink.{received_bits, first_bits, second_bits}

-- ---- a group

-- half a byte
pub group_is : (slots : List ℕ) (g : ℕ) → bit_and (get_or slots (g / 2) 0 / 2 ^ (4 - 4 * (g % 2))) 15 ≡ group slots g
unfolding group bit_at
group_is slots g =
    let b : ℕ = get_or slots (g / 2) 0 in
    let r : ℕ = 4 * (g % 2) in
    and_mask (b / 2 ^ (4 - r)) 4
    ∙ sym (val_same (λ t. bit_at slots (4 * g + t)) (λ t. b / 2 ^ (8 - 1 - (r + t)) % 2) 4 (λ t l.
    let d : (4 * g + t) / 8 ≡ g / 2 = omega arith in
    let m : 7 - (4 * g + t) % 8 ≡ 8 - 1 - (r + t) = omega arith in
    ap₂ (λ (i k : ℕ). get_or slots i 0 / 2 ^ k % 2) d m)
    ∙ cut_out b 8 r 4 (omega arith))

pub group_lt : (slots : List ℕ) (g : ℕ) → bit_and (get_or slots (g / 2) 0 / 2 ^ (4 - 4 * (g % 2))) 15 < 16
group_lt slots g = mask_lt (get_or slots (g / 2) 0 / 2 ^ (4 - 4 * (g % 2))) 4

-- 272 has a 1 at 8 and at 4: a test of all groups, which antt computes
picked : (v : ℕ) → v < 16 → bit_and (272 / 2 ^ v) 1 ≡ bool (eqb v 8 || eqb v 4)
picked v h =
    eqb→eq (bit_and (272 / 2 ^ v) 1) (bool (eqb v 8 || eqb v 4))
    (below_all 16 (λ v. eqb (bit_and (272 / 2 ^ v) 1) (bool (eqb v 8 || eqb v 4))) tt v h)

held : (b : Bool) → eqb (bool b) 1 ≡ b
held true = refl
held false = refl

pub bit_tested : (slots : List ℕ) (g v : ℕ) → v < 16 → v ≡ group slots g → eqb (bit_and (272 / 2 ^ v) 1) 1 ≡ is_bit slots g
unfolding is_bit
bit_tested slots g v h e =
    ap (λ (n : ℕ). eqb n 1) (picked v h) ∙ held (eqb v 8 || eqb v 4) ∙ ap (λ (n : ℕ). eqb n 8 || eqb n 4) e

-- ---- the bits of a byte: a test of all bytes, which antt computes

pub two_bits : (b : ℕ) → b < 256 → bit_or (bit_and (b / 2 ^ 5) 2) (bit_and (b / 2 ^ 2) 1) ≡ val (λ t. b / 2 ^ (7 - (4 * t + 1)) % 2) 2
unfolding val
two_bits b h =
    eqb→eq (bit_or (bit_and (b / 2 ^ 5) 2) (bit_and (b / 2 ^ 2) 1)) (val (λ t. b / 2 ^ (7 - (4 * t + 1)) % 2) 2)
    (below_all 256 (λ b. eqb (bit_or (bit_and (b / 2 ^ 5) 2) (bit_and (b / 2 ^ 2) 1)) (val (λ t. b / 2 ^ (7 - (4 * t + 1)) % 2) 2)) tt b h)

-- the bits from byte `at` on
abbrev pub heard_from : List ℕ → ℕ → ℕ → ℕ
heard_from slots at j = bit_at slots (8 * at + (4 * j + 1))

-- two bits more
pub heard_more : (slots : List ℕ) (at q v two : ℕ) → q < 32 → v ≡ val (heard_from slots at) (2 * q)
    → two ≡ val (λ t. get_or slots (at + q) 0 / 2 ^ (7 - (4 * t + 1)) % 2) 2
    → bit_or (v * 2 ^ 2 % 2 ^ 64) two ≡ val (heard_from slots at) (2 * (q + 1))
unfolding bit_at
heard_more slots at q v two l e d =
    let n : 2 * q + 2 ≡ 2 * (q + 1) = omega arith in
    let f : ℕ → ℕ = heard_from slots at in
    let next : two ≡ val (λ t. f (2 * q + t)) 2 =
    d ∙ val_same (λ t. get_or slots (at + q) 0 / 2 ^ (7 - (4 * t + 1)) % 2) (λ t. f (2 * q + t)) 2 (λ t k.
    let i : at + q ≡ (8 * at + (4 * (2 * q + t) + 1)) / 8 = omega arith in
    let m : 7 - (4 * t + 1) ≡ 7 - (8 * at + (4 * (2 * q + t) + 1)) % 8 = omega arith in
    ap₂ (λ (a b : ℕ). get_or slots a 0 / 2 ^ b % 2) i m) in
    ap₂ (λ (a b : ℕ). bit_or (a * 2 ^ 2 % 2 ^ 64) b) e next
    ∙ push_some f (λ j. bit_lt slots (8 * at + (4 * j + 1))) (2 * q) 2 (omega arith)
    ∙ ap (val f) n

-- ---- a codeblock

module _ (slots : List ℕ) (i : ℕ) where
  pub frame_heard : (v : ℕ) → v ≡ val (heard_from slots (64 * i)) 64 → bit_xor v 0xFF480EC09A0D70BC ≡ val (received slots i) 64
  unfolding received randomize
  frame_heard v e =
      let f : ℕ → ℕ = heard_from slots (64 * i) in
      ap₂ bit_xor e (sym first_bits)
      ∙ sym (val_plus f sequence (λ j. bit_lt slots (8 * (64 * i) + (4 * j + 1))) sequence_bits 64)
      ∙ val_same (λ j. bit_xor (f j) (sequence j)) (received slots i) 64 (λ j l.
      let x : 8 * (64 * i) + (4 * j + 1) ≡ 4 * (128 * i + j) + 1 = omega arith in
      ap (λ (k : ℕ). bit_xor (bit_at slots k) (sequence j)) x)

  pub parity_heard : (v : ℕ) → v ≡ val (heard_from slots (64 * i + 32)) 64 → bit_xor v 0x8E2C93ADA7B746CE ≡ val (λ t. received slots i (64 + t)) 64
  unfolding received randomize
  parity_heard v e =
      let f : ℕ → ℕ = heard_from slots (64 * i + 32) in
      ap₂ bit_xor e (sym second_bits)
      ∙ sym (val_plus f (λ t. sequence (64 + t)) (λ j. bit_lt slots (8 * (64 * i + 32) + (4 * j + 1))) (λ t. sequence_bits (64 + t)) 64)
      ∙ val_same (λ t. bit_xor (f t) (sequence (64 + t))) (λ t. received slots i (64 + t)) 64 (λ t l.
      let x : 8 * (64 * i + 32) + (4 * t + 1) ≡ 4 * (128 * i + (64 + t)) + 1 = omega arith in
      ap (λ (k : ℕ). bit_xor (bit_at slots k) (sequence (64 + t))) x)

  -- the bits of its frame
  frame_bit_lem : (frame : ℕ) → frame ≡ val (received slots i) 64 → (j : ℕ) → j < 64 → bit_of frame j ≡ received slots i j
  frame_bit_lem frame e j l = ap (λ (v : ℕ). bit_of v j) e ∙ bit_val (received slots i) (received_bits slots i) (63 - j) j 64 (omega arith)

  pub compared : (frame made there : ℕ) → frame ≡ val (received slots i) 64 → made ≡ val (parity_bit (bit_of frame)) 64
      → there ≡ val (λ t. received slots i (64 + t)) 64
      → eqb made there ≡ is_codeword (received slots i)
  compared frame made there e m t =
      ap₂ eqb
      (m ∙ val_same (parity_bit (bit_of frame)) (parity_bit (received slots i)) 64
      (λ t l. parity_same (bit_of frame) (received slots i) (frame_bit_lem frame e) t))
      t
      ∙ sym (by_parity (received slots i) (received_bits slots i))

  -- one frame more
  pub frames_more : (before middle after : List ℕ) (frame : ℕ) → frame ≡ val (received slots i) 64
      → Laid before 0 (8 * i) (λ y. received slots (y / 64) (y % 64)) middle → Laid middle (8 * i) 8 (bit_of frame) after
      → Laid before 0 (8 * (i + 1)) (λ y. received slots (y / 64) (y % 64)) after
  frames_more before middle after frame e l m =
      let n : 8 * i + 8 ≡ 8 * (i + 1) = omega arith in
      let z : 8 * i ≡ 0 + 8 * i = omega arith in
      let here : Laid middle (0 + 8 * i) 8 (bit_of frame) after = subst (λ (k : ℕ). Laid middle k 8 (bit_of frame) after) z m in
      rw n at (laid_on before middle after 0 (8 * i) 8 (λ y. received slots (y / 64) (y % 64)) (bit_of frame) l here (λ x h.
      let d : i ≡ (8 * (8 * i) + x) / 64 = omega arith in
      let r : x ≡ (8 * (8 * i) + x) % 64 = omega arith in
      frame_bit_lem frame e x (omega arith) ∙ ap₂ (received slots) d r))
