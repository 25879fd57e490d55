-- Bits to slots, and a codeblock in two halves.
use mathlib.Core.Path.{◌≡◌, refl, sym, ap, ap₂, subst, ◌∙◌}
use mathlib.Core.List.{List}
use mathlib.Core.Logic.{⊎_elim}
use Prim.Native.Nat.{ℕ, ◌+◌, ◌-◌, ◌*◌, ◌/◌, ◌%◌, ◌^◌, ◌<◌}
use native.Mathlib.Omega.{arith}
use lib.Bits.{bit_xor, bit_or, bit_and, and_mask}
use lib.Dec.{eqb}
use Rattle.bits.specs.Basics.{bool}
use Rattle.bits.proofs.Laws.Choice.{bit_cases}
use Rattle.bits.specs.Pack.{Bits, val, bit_at, bit_of}
use Rattle.bits.proofs.Laws.Pack.{bit_of_lt, val_same, bit_val}
use Rattle.bits.proofs.Laws.Parts.{val_plus}
use Rattle.bits.specs.Inner.{Laid}
use Rattle.bits.proofs.Laws.Stretch.{laid_on, laid_same}
use Rattle.randomizer.specs.Randomizer.{sequence, randomize}
use Rattle.randomizer.proofs.Laws.Randomizer.{sequence_bits}
use Rattle.ldpc.specs.Code.{parity_bit}
use Rattle.ldpc.proofs.Laws.Code.{codeword_first, codeword_behind, parity_bits, parity_same}
use Rattle.uplink.specs.Uplink.{frame_bit, codeblock, sent_bit, slot_of}
use Rattle.uplink.proofs.Laws.Uplink.{first_bits, second_bits, frame_bits, codeblock_bits, sent_at_lem, slot_same}

-- ---- slots

two_slots : (f : ℕ → ℕ) → Bits f → bit_or (128 / 2 ^ f 0) (8 / 2 ^ f 1) ≡ val (slot_of f) 8
unfolding val slot_of
two_slots f b =
    ⊎_elim
    (λ (e : f 0 ≡ 0). ⊎_elim (λ (d : f 1 ≡ 0). rw (e, d) refl) (λ (d : f 1 ≡ 1). rw (e, d) refl) (bit_cases (f 1) (b 1)))
    (λ (e : f 0 ≡ 1). ⊎_elim (λ (d : f 1 ≡ 0). rw (e, d) refl) (λ (d : f 1 ≡ 1). rw (e, d) refl) (bit_cases (f 1) (b 1)))
    (bit_cases (f 0) (b 0))

-- bits 2q and 2q + 1 of v, as the code takes them
pub pair_slots : (v q : ℕ) → q < 32
    → bit_or (128 / 2 ^ bit_and (v / 2 ^ (63 - 2 * q)) 1) (8 / 2 ^ bit_and (v / 2 ^ (62 - 2 * q)) 1) ≡ val (λ u. slot_of (bit_of v) (8 * q + u)) 8
unfolding slot_of
pair_slots v q l =
    let h : ℕ → ℕ = λ g. bit_of v (2 * q + g) in
    let e0 : bit_and (v / 2 ^ (63 - 2 * q)) 1 ≡ h 0 =
    and_mask (v / 2 ^ (63 - 2 * q)) 1 ∙ ap (λ (k : ℕ). v / 2 ^ k % 2) (let z : 63 - 2 * q ≡ 63 - (2 * q + 0) = omega arith in z) in
    let e1 : bit_and (v / 2 ^ (62 - 2 * q)) 1 ≡ h 1 =
    and_mask (v / 2 ^ (62 - 2 * q)) 1 ∙ ap (λ (k : ℕ). v / 2 ^ k % 2) (let z : 62 - 2 * q ≡ 63 - (2 * q + 1) = omega arith in z) in
    ap₂ (λ (a b : ℕ). bit_or (128 / 2 ^ a) (8 / 2 ^ b)) e0 e1
    ∙ two_slots h (λ g. bit_of_lt v (2 * q + g))
    ∙ val_same (slot_of h) (λ u. slot_of (bit_of v) (8 * q + u)) 8 (λ u k.
    let m : u % 4 ≡ (8 * q + u) % 4 = omega arith in
    let d : 2 * q + u / 4 ≡ (8 * q + u) / 4 = omega arith in
    ap₂ (λ (a b : ℕ). bool (eqb a (bit_of v b))) m d)

-- ---- a codeblock

-- eight bytes are a frame
pub frame_eight : (frames : List ℕ) (i v : ℕ) → v ≡ val (λ t. bit_at frames (8 * (8 * i) + t)) 64 → v ≡ val (frame_bit frames i) 64
frame_eight frames i v e =
    e ∙ val_same (λ t. bit_at frames (8 * (8 * i) + t)) (frame_bit frames i) 64
    (λ t l. let x : 8 * (8 * i) + t ≡ 64 * i + t = omega arith in ap (bit_at frames) x)

module _ (frames : List ℕ) (i frame : ℕ) (e : frame ≡ val (frame_bit frames i) 64) where
  -- its bits
  frame_bit_lem : (j : ℕ) → j < 64 → bit_of frame j ≡ frame_bit frames i j
  frame_bit_lem j l = ap (λ (v : ℕ). bit_of v j) e ∙ bit_val (frame_bit frames i) (frame_bits frames i) (63 - j) j 64 (omega arith)

  first_half : bit_xor frame 0xFF480EC09A0D70BC ≡ val (codeblock frames i) 64
  unfolding codeblock randomize
  first_half =
      ap₂ bit_xor e (sym first_bits)
      ∙ sym (val_plus (frame_bit frames i) sequence (frame_bits frames i) sequence_bits 64)
      ∙ val_same (λ j. bit_xor (frame_bit frames i j) (sequence j)) (codeblock frames i) 64 (λ j l.
      ap (λ (b : ℕ). bit_xor b (sequence j)) (sym (codeword_first (frame_bit frames i) j l)))

  second_half : (parity : ℕ) → parity ≡ val (parity_bit (bit_of frame)) 64
      → bit_xor parity 0x8E2C93ADA7B746CE ≡ val (λ t. codeblock frames i (64 + t)) 64
  unfolding codeblock randomize
  second_half parity p =
      ap₂ bit_xor p (sym second_bits)
      ∙ sym (val_plus (parity_bit (bit_of frame)) (λ t. sequence (64 + t)) (parity_bits (bit_of frame) (bit_of_lt frame))
      (λ t. sequence_bits (64 + t)) 64)
      ∙ val_same (λ t. bit_xor (parity_bit (bit_of frame) t) (sequence (64 + t))) (λ t. codeblock frames i (64 + t)) 64 (λ t l.
      let d : 64 + t - 64 ≡ t = omega arith in
      ap (λ (b : ℕ). bit_xor b (sequence (64 + t)))
      (parity_same (bit_of frame) (frame_bit frames i) frame_bit_lem t
      ∙ sym (codeword_behind (frame_bit frames i) (64 + t) (omega arith) ∙ ap (parity_bit (frame_bit frames i)) d)))

  -- both halves, laid one after the other
  pub halves_laid : (before middle after : List ℕ) (at parity : ℕ) → parity ≡ val (parity_bit (bit_of frame)) 64
      → Laid before at 32 (slot_of (bit_of (bit_xor frame 0xFF480EC09A0D70BC))) middle
      → Laid middle (at + 32) 32 (slot_of (bit_of (bit_xor parity 0x8E2C93ADA7B746CE))) after
      → Laid before at 64 (slot_of (codeblock frames i)) after
  unfolding slot_of
  halves_laid before middle after at parity p l m =
      laid_on before middle after at 32 32 (slot_of (codeblock frames i)) (slot_of (bit_of (bit_xor parity 0x8E2C93ADA7B746CE)))
      (laid_same before middle at 32 (slot_of (bit_of (bit_xor frame 0xFF480EC09A0D70BC))) (slot_of (codeblock frames i)) (λ x h.
      slot_same (bit_of (bit_xor frame 0xFF480EC09A0D70BC)) (codeblock frames i) x
      (ap (λ (v : ℕ). bit_of v (x / 4)) first_half ∙ bit_val (codeblock frames i) (codeblock_bits frames i) (63 - x / 4) (x / 4) 64 (omega arith))) l)
      m (λ x h.
      let r : x % 4 ≡ (8 * 32 + x) % 4 = omega arith in
      let g : 64 + x / 4 ≡ (8 * 32 + x) / 4 = omega arith in
      ap₂ (λ (a b : ℕ). bool (eqb a b)) r
      (ap (λ (v : ℕ). bit_of v (x / 4)) (second_half parity p)
      ∙ bit_val (λ t. codeblock frames i (64 + t)) (λ t. codeblock_bits frames i (64 + t)) (63 - x / 4) (x / 4) 64 (omega arith)
      ∙ ap (codeblock frames i) g))

-- one codeblock more
pub blocks_more : (frames before middle after : List ℕ) (i : ℕ) → Laid before 0 (64 * i) (slot_of (sent_bit frames)) middle
    → Laid middle (64 * i) 64 (slot_of (codeblock frames i)) after
    → Laid before 0 (64 * (i + 1)) (slot_of (sent_bit frames)) after
unfolding slot_of
blocks_more frames before middle after i l m =
    let e : 64 * i + 64 ≡ 64 * (i + 1) = omega arith in
    let z : 64 * i ≡ 0 + 64 * i = omega arith in
    let here : Laid middle (0 + 64 * i) 64 (slot_of (codeblock frames i)) after =
    subst (λ (k : ℕ). Laid middle k 64 (slot_of (codeblock frames i)) after) z m in
    rw e at (laid_on before middle after 0 (64 * i) 64 (slot_of (sent_bit frames)) (slot_of (codeblock frames i)) l here (λ x h.
    let r : x % 4 ≡ (8 * (64 * i) + x) % 4 = omega arith in
    let g : 128 * i + x / 4 ≡ (8 * (64 * i) + x) / 4 = omega arith in
    ap₂ (λ (a b : ℕ). bool (eqb a b)) r (sym (sent_at_lem frames i (x / 4) (omega arith)) ∙ ap (sent_bit frames) g)))
