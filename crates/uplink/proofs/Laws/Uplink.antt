-- What the definitions come to, bit by bit.
use mathlib.Core.Path.{◌≡◌, refl, sym, ap, ap₂, ◌∙◌}
use mathlib.Core.Bool.{true, ◌||◌}
use mathlib.Core.List.{List}
use mathlib.Core.Logic.{⊎_elim}
use Prim.Native.Nat.{ℕ, ◌+◌, ◌*◌, ◌/◌, ◌%◌, ◌≤◌, ◌<◌}
use native.Mathlib.Omega.{arith}
use lib.Dec.{leb, eqb}
use lib.ListN.{length}
use borrow.Author.Tests.{eq-eqb, ne_eqb, eqb-true, le-leb, leb-true}
use Rattle.bits.specs.Basics.{bool, both}
use Rattle.bits.proofs.Laws.Choice.{bool_lt, bit_cases, eq_or_ne}
use Rattle.bits.proofs.Laws.Table.{both_true}
use Rattle.bits.specs.Pack.{Bits, val, bit_at}
use Rattle.bits.proofs.Laws.Pack.{bit_lt, val_same, length_bytes, bit_bytes}
use Rattle.bits.proofs.Laws.Parts.{same_val}
use Rattle.randomizer.specs.Randomizer.{randomize, next, window, sequence}
use Rattle.randomizer.proofs.Laws.Randomizer.{randomize_bits, randomize_same, randomize_twice}
use Rattle.ldpc.specs.Code.{codeword}
use Rattle.ldpc.proofs.Laws.Code.{codeword_bits}
use Rattle.uplink.specs.Uplink.{frame_bit, codeblock, sent_bit, slot_of, frame_count, codeblock_count, uplink_slots_of, group, is_bit, received, uplink_frames_of, uplink_lengths_right}

-- ---- lengths

-- so many codeblocks, in frames and slots of these lengths
pub record Sized (count frames_length slots_length : ℕ) : Type 0 where
  pub least : 1 ≤ count
  pub most : count ≤ 64
  pub frames : frames_length ≡ 8 * count
  pub slots : slots_length ≡ 64 * count

pub lengths_sized : (count frames_length slots_length : ℕ) → uplink_lengths_right count frames_length slots_length ≡ true → Sized count frames_length slots_length
unfolding uplink_lengths_right
lengths_sized n f s e =
    let halves = both_true (both (leb 1 n) (leb n 64)) (both (eqb f (8 * n)) (eqb s (64 * n))) e in
    let counts = both_true (leb 1 n) (leb n 64) halves.0 in
    let sizes = both_true (eqb f (8 * n)) (eqb s (64 * n)) halves.1 in
    record {
      least = leb-true 1 n counts.0;
      most = leb-true n 64 counts.1;
      frames = eqb-true f (8 * n) sizes.0;
      slots = eqb-true s (64 * n) sizes.1;
    }

pub sized_lengths : (count frames_length slots_length : ℕ) → Sized count frames_length slots_length → uplink_lengths_right count frames_length slots_length ≡ true
unfolding uplink_lengths_right
sized_lengths n f s z =
    rw (le-leb 1 n z.least, le-leb n 64 z.most, eq-eqb f (8 * n) z.frames, eq-eqb s (64 * n) z.slots) refl

-- ---- frames to slots

pub frame_bits : (frames : List ℕ) (i : ℕ) → Bits (frame_bit frames i)
frame_bits frames i j = bit_lt frames (64 * i + j)

pub codeblock_bits : (frames : List ℕ) (i : ℕ) → Bits (codeblock frames i)
unfolding codeblock
codeblock_bits frames i = randomize_bits (codeword (frame_bit frames i)) (codeword_bits (frame_bit frames i) (frame_bits frames i))

pub sent_bits : (frames : List ℕ) → Bits (sent_bit frames)
unfolding sent_bit
sent_bits frames g = codeblock_bits frames (g / 128) _

pub sent_at_lem : (frames : List ℕ) (i j : ℕ) → j < 128 → sent_bit frames (128 * i + j) ≡ codeblock frames i j
unfolding sent_bit
sent_at_lem frames i j l =
    let d : (128 * i + j) / 128 ≡ i = omega arith in
    let m : (128 * i + j) % 128 ≡ j = omega arith in
    ap₂ (codeblock frames) d m

pub slot_bits : (f : ℕ → ℕ) → Bits (slot_of f)
unfolding slot_of
slot_bits f x = bool_lt (eqb (x % 4) (f (x / 4)))

pub slot_at : (f : ℕ → ℕ) (g t : ℕ) → t < 4 → slot_of f (4 * g + t) ≡ bool (eqb t (f g))
unfolding slot_of
slot_at f g t l =
    let d : (4 * g + t) / 4 ≡ g = omega arith in
    let m : (4 * g + t) % 4 ≡ t = omega arith in
    ap₂ (λ (a b : ℕ). bool (eqb a (f b))) m d

-- bits that agree have the same slots
pub slot_same : (f h : ℕ → ℕ) (x : ℕ) → f (x / 4) ≡ h (x / 4) → slot_of f x ≡ slot_of h x
unfolding slot_of
slot_same f h x e = ap (λ (b : ℕ). bool (eqb (x % 4) b)) e

pub slots_long : (frames : List ℕ) → length (uplink_slots_of frames) ≡ 64 * frame_count frames
unfolding uplink_slots_of
slots_long frames = length_bytes (64 * frame_count frames) (slot_of (sent_bit frames))

pub slots_bit : (frames : List ℕ) (x : ℕ) → x < 8 * (64 * frame_count frames) → bit_at (uplink_slots_of frames) x ≡ slot_of (sent_bit frames) x
unfolding uplink_slots_of
slots_bit frames x l = bit_bytes (64 * frame_count frames) (slot_of (sent_bit frames)) (slot_bits (sent_bit frames)) x l

-- ---- slots to frames

-- what four slots of one bit say
said : (b : ℕ) → b < 2 → (eqb (val (λ t. bool (eqb t b)) 4) 8 || eqb (val (λ t. bool (eqb t b)) 4) 4 ≡ true) × (bool (eqb 1 b) ≡ b)
unfolding val
said b h = ⊎_elim (λ (e : b ≡ 0). rw e (refl, refl)) (λ (e : b ≡ 1). rw e (refl, refl)) (bit_cases b h)

-- the slots of a bit are a bit, and their second is what it is
pub group_made : (slots : List ℕ) (g b : ℕ) → b < 2 → ((t : ℕ) → t < 4 → bit_at slots (4 * g + t) ≡ bool (eqb t b))
    → (is_bit slots g ≡ true) × (bit_at slots (4 * g + 1) ≡ b)
unfolding is_bit group
group_made slots g b h e =
    let v : val (λ t. bit_at slots (4 * g + t)) 4 ≡ val (λ t. bool (eqb t b)) 4 = val_same (λ t. bit_at slots (4 * g + t)) (λ t. bool (eqb t b)) 4 e in
    (ap (λ (n : ℕ). eqb n 8 || eqb n 4) v ∙ (said b h).0, e 1 (omega arith) ∙ (said b h).1)

-- and back: four slots that are a bit are those of the bit that their second says
pub group_got : (slots : List ℕ) (g : ℕ) → is_bit slots g ≡ true → (t : ℕ) → t < 4 → bit_at slots (4 * g + t) ≡ bool (eqb t (bit_at slots (4 * g + 1)))
unfolding is_bit group val
group_got slots g e =
    ⊎_elim
    (λ (q : group slots g ≡ 8). from 0 (omega arith) q)
    (λ (n : group slots g ≡ 8 → ⊥). from 1 (omega arith) (eqb-true (group slots g) 4 (rw (ne_eqb (group slots g) 8 n) at e)))
    (eq_or_ne (group slots g) 8)
  where
    from : (b : ℕ) → b < 2 → val (λ t. bit_at slots (4 * g + t)) 4 ≡ val (λ t. bool (eqb t b)) 4 → (t : ℕ) → t < 4
        → bit_at slots (4 * g + t) ≡ bool (eqb t (bit_at slots (4 * g + 1)))
    from b h v t l =
        let each : (t : ℕ) → t < 4 → bit_at slots (4 * g + t) ≡ bool (eqb t b) =
        same_val (λ t. bit_at slots (4 * g + t)) (λ t. bool (eqb t b)) (λ t. bit_lt slots (4 * g + t)) (λ t. bool_lt (eqb t b)) 4 v in
        each t l ∙ ap (λ (c : ℕ). bool (eqb t c)) (sym (each 1 (omega arith) ∙ (said b h).1))

pub received_bits : (slots : List ℕ) (i : ℕ) → Bits (received slots i)
unfolding received
received_bits slots i = randomize_bits (λ j. bit_at slots (4 * (128 * i + j) + 1)) (λ j. bit_lt slots (4 * (128 * i + j) + 1))

-- what is received of the bits that were sent
pub received_sent : (slots : List ℕ) (i j : ℕ) (f : ℕ → ℕ) → bit_at slots (4 * (128 * i + j) + 1) ≡ randomize f j → received slots i j ≡ f j
unfolding received
received_sent slots i j f e =
    randomize_same (λ j. bit_at slots (4 * (128 * i + j) + 1)) (randomize f) j e ∙ randomize_twice f j

-- and the bits that are sent of what was received
pub sent_received : (slots : List ℕ) (i j : ℕ) → randomize (received slots i) j ≡ bit_at slots (4 * (128 * i + j) + 1)
unfolding received
sent_received slots i j = randomize_twice (λ j. bit_at slots (4 * (128 * i + j) + 1)) j

pub frames_long : (slots : List ℕ) → length (uplink_frames_of slots) ≡ 8 * codeblock_count slots
unfolding uplink_frames_of
frames_long slots = length_bytes (8 * codeblock_count slots) (λ y. received slots (y / 64) (y % 64))

pub frames_bit : (slots : List ℕ) (i j : ℕ) → i < codeblock_count slots → j < 64 → frame_bit (uplink_frames_of slots) i j ≡ received slots i j
unfolding uplink_frames_of
frames_bit slots i j li lj =
    let d : (64 * i + j) / 64 ≡ i = omega arith in
    let m : (64 * i + j) % 64 ≡ j = omega arith in
    bit_bytes (8 * codeblock_count slots) (λ y. received slots (y / 64) (y % 64)) (λ y. received_bits slots (y / 64) (y % 64)) (64 * i + j) (omega arith)
    ∙ ap₂ (received slots) d m

-- The bits of step 7's sequence that a codeblock gets, 64 for its frame and 64 for its parity bits, as two numbers, which antt computes.

pub first_bits : val sequence 64 ≡ 0xFF480EC09A0D70BC
unfolding val next window sequence
first_bits = refl

pub second_bits : val (λ t. sequence (64 + t)) 64 ≡ 0x8E2C93ADA7B746CE
unfolding val next window sequence
second_bits = refl
