-- Writer and reader undo each other, and codeblocks stand alone.
use mathlib.Core.Path.{◌≡◌, refl, sym, ap, ◌∙◌}
use mathlib.Core.Bool.{true}
use mathlib.Core.List.{List}
use Prim.Native.Nat.{ℕ, ◌+◌, ◌*◌, ◌/◌, ◌%◌, ◌≤◌, ◌<◌}
use native.Mathlib.Omega.{arith}
use lib.Bits.{bit_xor}
use lib.Dec.{eqb}
use lib.ListN.{length}
use borrow.Author.Tests.{eq-eqb, ne_eqb, eqb-true}
use Rattle.bits.specs.Basics.{bool}
use Rattle.bits.specs.Pack.{Bytes, bit_at, bytes_of, piece}
use Rattle.bits.proofs.Laws.Pack.{bit_lt, val_same, byte_at, bytes_made, bytes_by_byte}
use Rattle.bits.proofs.Laws.First.{all_pass, none_fails}
use Rattle.bits.proofs.Laws.Pieces.{length_piece, piece_at, piece_bit}
use Rattle.answers.specs.Answer.{Done, ask}
use Rattle.answers.proofs.Laws.Answer.{ask_done, ask_yes, then_done}
use Rattle.randomizer.specs.Randomizer.{sequence, randomize}
use Rattle.randomizer.proofs.Laws.Randomizer.{randomize_same}
use Rattle.ldpc.specs.Code.{codeword, is_codeword}
use Rattle.ldpc.proofs.Laws.Code.{codeword_first, codeword_same}
use Rattle.ldpc.proofs.Laws.Exactly.{passing_codeword, codeword_accepted}
use Rattle.uplink.specs.Uplink.{frame_bit, codeblock, sent_bit, slot_of, frame_count, codeblock_count, uplink_slots_of, is_bit, received, uplink_frames_of, uplink_lengths_right, first_no_bit, first_bad_block, uplink_write_says, uplink_slots_say, uplink_read_says}
use Rattle.uplink.proofs.Laws.Uplink.{Sized, lengths_sized, sized_lengths, sent_bits, sent_at_lem, slot_at, slots_long, slots_bit, group_made, group_got, received_bits, received_sent, sent_received, frames_long, frames_bit}

-- ---- what acceptance says

pub write_sized : (frames : List ℕ) (m : ℕ) → uplink_write_says frames m ≡ Done → Sized (frame_count frames) (length frames) m
unfolding uplink_write_says
write_sized frames m e = lengths_sized (frame_count frames) (length frames) m (ask_done (uplink_lengths_right (frame_count frames) (length frames) m) 8 0 e)

pub sized_write : (frames : List ℕ) (m : ℕ) → Sized (frame_count frames) (length frames) m → uplink_write_says frames m ≡ Done
unfolding uplink_write_says
sized_write frames m s = ask_yes (uplink_lengths_right (frame_count frames) (length frames) m) 8 0 (sized_lengths (frame_count frames) (length frames) m s)

-- slots that pass 28 and 29
pub record Sound (slots : List ℕ) : Type 0 where
  pub groups : (g : ℕ) → g < 128 * codeblock_count slots → is_bit slots g ≡ true
  pub blocks : (i : ℕ) → i < codeblock_count slots → is_codeword (received slots i) ≡ true

pub read_sound : (slots : List ℕ) (m : ℕ) → uplink_read_says slots m ≡ Done → Sized (codeblock_count slots) m (length slots) × Sound slots
unfolding uplink_read_says uplink_slots_say first_no_bit first_bad_block
read_sound slots m e =
    let n : ℕ = codeblock_count slots in
    let asked8 = then_done (ask (uplink_lengths_right n m (length slots)) 8 0) (uplink_slots_say slots) e in
    let asked28 = then_done (ask (eqb (first_no_bit slots) (128 * n)) 28 (first_no_bit slots))
    (ask (eqb (first_bad_block slots) n) 29 (first_bad_block slots)) asked8.1 in
    let sized = lengths_sized n m (length slots) (ask_done (uplink_lengths_right n m (length slots)) 8 0 asked8.0) in
    let groups = eqb-true (first_no_bit slots) (128 * n) (ask_done (eqb (first_no_bit slots) (128 * n)) 28 (first_no_bit slots) asked28.0) in
    let blocks = eqb-true (first_bad_block slots) n (ask_done (eqb (first_bad_block slots) n) 29 (first_bad_block slots) asked28.1) in
    (sized, record { groups = none_fails (is_bit slots) (128 * n) groups; blocks = none_fails (λ i. is_codeword (received slots i)) n blocks })

pub sound_read : (slots : List ℕ) (m : ℕ) → Sized (codeblock_count slots) m (length slots) → Sound slots → uplink_read_says slots m ≡ Done
unfolding uplink_read_says uplink_slots_say first_no_bit first_bad_block
sound_read slots m z s =
    let n : ℕ = codeblock_count slots in
    rw (
      sized_lengths n m (length slots) z,
      eq-eqb (first_no_bit slots) (128 * n) (all_pass (is_bit slots) (128 * n) s.groups),
      eq-eqb (first_bad_block slots) n (all_pass (λ i. is_codeword (received slots i)) n s.blocks),
    )
    refl

-- of slots of the right length, exactly the sound ones
pub accepted_exactly : (slots : List ℕ) (m n : ℕ) → 1 ≤ n → n ≤ 64 → length slots ≡ 64 * n → m ≡ 8 * n
    → (uplink_read_says slots m ≡ Done → ((g : ℕ) → g < 128 * n → is_bit slots g ≡ true) × ((i : ℕ) → i < n → is_codeword (received slots i) ≡ true))
    × (((g : ℕ) → g < 128 * n → is_bit slots g ≡ true) → ((i : ℕ) → i < n → is_codeword (received slots i) ≡ true) → uplink_read_says slots m ≡ Done)
accepted_exactly slots m n least most long frames =
    let same : codeblock_count slots ≡ n = omega arith in
    let sized : Sized (codeblock_count slots) m (length slots) = rw same (record { least = least; most = most; frames = frames; slots = long }) in (
      λ e. let s = (read_sound slots m e).1 in (λ g l. s.groups g (omega arith), λ i l. s.blocks i (omega arith)),
      λ groups blocks. sound_read slots m sized (record { groups = λ g l. groups g (omega arith); blocks = λ i l. blocks i (omega arith) }),
    )

-- frames of the right length are written, whatever they hold
pub always_written : (frames : List ℕ) (m n : ℕ) → 1 ≤ n → n ≤ 64 → length frames ≡ 8 * n → m ≡ 64 * n → uplink_write_says frames m ≡ Done
always_written frames m n least most long slots =
    let same : frame_count frames ≡ n = omega arith in
    sized_write frames m (rw same (record { least = least; most = most; frames = long; slots = slots }))

-- a group is a bit exactly if its slots are those of one
pub bit_is : (slots : List ℕ) (g : ℕ)
    → (is_bit slots g ≡ true → (t : ℕ) → t < 4 → bit_at slots (4 * g + t) ≡ bool (eqb t (bit_at slots (4 * g + 1))))
    × (((t : ℕ) → t < 4 → bit_at slots (4 * g + t) ≡ bool (eqb t (bit_at slots (4 * g + 1)))) → is_bit slots g ≡ true)
bit_is slots g = (group_got slots g, λ h. (group_made slots g (bit_at slots (4 * g + 1)) (bit_lt slots (4 * g + 1)) h).0)

-- ---- there and back

module _ (frames : List ℕ) where
  count_same : codeblock_count (uplink_slots_of frames) ≡ frame_count frames
  count_same = omega (arith, slots_long frames)

  -- the four slots of bit g
  written : (g : ℕ) → g < 128 * frame_count frames → (is_bit (uplink_slots_of frames) g ≡ true) × (bit_at (uplink_slots_of frames) (4 * g + 1) ≡ sent_bit frames g)
  written g l =
      group_made (uplink_slots_of frames) g (sent_bit frames g) (sent_bits frames g)
      (λ t k. slots_bit frames (4 * g + t) (omega arith) ∙ slot_at (sent_bit frames) g t k)

  -- what is received is the codeword of the frame
  came : (i j : ℕ) → i < frame_count frames → j < 128 → received (uplink_slots_of frames) i j ≡ codeword (frame_bit frames i) j
  unfolding codeblock
  came i j li lj =
      received_sent (uplink_slots_of frames) i j (codeword (frame_bit frames i)) ((written (128 * i + j) (omega arith)).1 ∙ sent_at_lem frames i j lj)

  came_codeword : (i : ℕ) → i < frame_count frames → is_codeword (received (uplink_slots_of frames) i) ≡ true
  came_codeword i l =
      codeword_accepted (received (uplink_slots_of frames) i) (received_bits (uplink_slots_of frames) i) (λ j k.
      came i j l k
      ∙ codeword_same (frame_bit frames i) (received (uplink_slots_of frames) i)
      (λ t h. sym (came i t l (omega arith) ∙ codeword_first (frame_bit frames i) t h)) j)

  pub written_read : (m : ℕ) → Bytes frames → uplink_write_says frames m ≡ Done
      → (uplink_read_says (uplink_slots_of frames) (length frames) ≡ Done) × (uplink_frames_of (uplink_slots_of frames) ≡ frames)
  unfolding uplink_frames_of
  written_read m b e =
      let z = write_sized frames m e in
      let n : ℕ = frame_count frames in
      let long = z.frames in
      let sized : Sized (codeblock_count (uplink_slots_of frames)) (length frames) (length (uplink_slots_of frames)) =
      rw (count_same, slots_long frames) (record { least = z.least; most = z.most; frames = z.frames; slots = refl }) in
      let sound : Sound (uplink_slots_of frames) = record {
        groups = λ g l. (written g (omega (arith, count_same))).0;
        blocks = λ i l. came_codeword i (omega (arith, count_same));
      } in (
        sound_read (uplink_slots_of frames) (length frames) sized sound,
        ap (λ (k : ℕ). bytes_of (8 * k) (λ y. received (uplink_slots_of frames) (y / 64) (y % 64))) count_same
            ∙ sym (bytes_made (8 * n) (λ y. received (uplink_slots_of frames) (y / 64) (y % 64)) frames long b (λ y l.
            let at : y ≡ 64 * (y / 64) + y % 64 = omega arith in
            ap (bit_at frames) at
            ∙ sym (came (y / 64) (y % 64) (omega arith) (omega arith) ∙ codeword_first (frame_bit frames (y / 64)) (y % 64) (omega arith)))),
      )

module _ (slots : List ℕ) (m : ℕ) (b : Bytes slots) (e : uplink_read_says slots m ≡ Done) where
  sized : Sized (codeblock_count slots) m (length slots)
  sized = (read_sound slots m e).0

  sound : Sound slots
  sound = (read_sound slots m e).1

  same_count : frame_count (uplink_frames_of slots) ≡ codeblock_count slots
  same_count = omega (arith, frames_long slots)

  -- the frames that were read are sent as what was received
  again : (i j : ℕ) → i < codeblock_count slots → j < 128 → codeblock (uplink_frames_of slots) i j ≡ bit_at slots (4 * (128 * i + j) + 1)
  unfolding codeblock
  again i j li lj =
      randomize_same (codeword (frame_bit (uplink_frames_of slots) i)) (received slots i) j
      (codeword_same (frame_bit (uplink_frames_of slots) i) (received slots i) (λ t h. frames_bit slots i t li h) j
      ∙ sym (passing_codeword (received slots i) (received_bits slots i) (sound.blocks i li) j lj))
      ∙ sent_received slots i j

  pub read_written : (uplink_write_says (uplink_frames_of slots) (length slots) ≡ Done) × (uplink_slots_of (uplink_frames_of slots) ≡ slots)
  unfolding uplink_slots_of
  read_written =
      let n : ℕ = codeblock_count slots in
      let long : length slots ≡ 64 * n = sized.slots in
      let fits : Sized (frame_count (uplink_frames_of slots)) (length (uplink_frames_of slots)) (length slots) =
      rw (same_count, frames_long slots) (record { least = sized.least; most = sized.most; frames = refl; slots = long }) in (
        sized_write (uplink_frames_of slots) (length slots) fits,
        ap (λ (k : ℕ). bytes_of (64 * k) (slot_of (sent_bit (uplink_frames_of slots)))) same_count
            ∙ sym (bytes_made (64 * n) (slot_of (sent_bit (uplink_frames_of slots))) slots long b (λ x l.
            let g : ℕ = x / 4 in
            let at : x ≡ 4 * g + x % 4 = omega arith in
            let of : g ≡ 128 * (g / 128) + g % 128 = omega arith in
            let bit : sent_bit (uplink_frames_of slots) g ≡ bit_at slots (4 * g + 1) =
            ap (sent_bit (uplink_frames_of slots)) of ∙ sent_at_lem (uplink_frames_of slots) (g / 128) (g % 128) (omega arith)
            ∙ again (g / 128) (g % 128) (omega arith) (omega arith)
            ∙ ap (λ (k : ℕ). bit_at slots (4 * k + 1)) (sym of) in
            ap (bit_at slots) at
            ∙ group_got slots g (sound.groups g (omega arith)) (x % 4) (omega arith)
            ∙ ap (λ (c : ℕ). bool (eqb (x % 4) c)) (sym bit)
            ∙ sym (slot_at (sent_bit (uplink_frames_of slots)) g (x % 4) (omega arith))
            ∙ ap (slot_of (sent_bit (uplink_frames_of slots))) (sym at))),
      )

-- ---- codeblocks one after another

-- bit j of codeblock i has bit j of the sequence, whatever i is
pub restarted : (frames : List ℕ) (i j : ℕ) → j < 128 → sent_bit frames (128 * i + j) ≡ bit_xor (codeword (frame_bit frames i) j) (sequence j)
unfolding codeblock randomize
restarted frames i j l = sent_at_lem frames i j l

pub slot_is : (frames : List ℕ) (i j t : ℕ) → i < frame_count frames → j < 128 → t < 4
    → bit_at (uplink_slots_of frames) (4 * (128 * i + j) + t) ≡ bool (eqb t (bit_xor (codeword (frame_bit frames i) j) (sequence j)))
slot_is frames i j t li lj lt =
    slots_bit frames (4 * (128 * i + j) + t) (omega arith)
    ∙ slot_at (sent_bit frames) (128 * i + j) t lt
    ∙ ap (λ (b : ℕ). bool (eqb t b)) (restarted frames i j lj)

pub guards_empty : (frames : List ℕ) (i j t : ℕ) → i < frame_count frames → j < 128 → 2 ≤ t → t < 4
    → bit_at (uplink_slots_of frames) (4 * (128 * i + j) + t) ≡ 0
guards_empty frames i j t li lj l2 lt =
    let b : ℕ = bit_xor (codeword (frame_bit frames i) j) (sequence j) in
    let bit : b < 2 = rw (restarted frames i j lj) at (sent_bits frames (128 * i + j)) in
    slot_is frames i j t li lj lt ∙ ap bool (ne_eqb t b (λ q. omega arith))

block_alone : (frames : List ℕ) (i j : ℕ) → codeblock frames i j ≡ codeblock (piece 8 frames i) 0 j
unfolding codeblock
block_alone frames i j =
    randomize_same (codeword (frame_bit frames i)) (codeword (frame_bit (piece 8 frames i) 0)) j
    (codeword_same (frame_bit frames i) (frame_bit (piece 8 frames i) 0) (λ t h.
    let z : 64 * 0 + t ≡ t = omega arith in
    let x : i * (8 * 8) + t ≡ 64 * i + t = omega arith in
    sym (ap (bit_at (piece 8 frames i)) z ∙ piece_bit 8 frames i t h ∙ ap (bit_at frames) x)) j)

-- codeblock i is what frame i alone is written to
pub each_alone : (frames : List ℕ) (i : ℕ) → i < frame_count frames → piece 64 (uplink_slots_of frames) i ≡ uplink_slots_of (piece 8 frames i)
unfolding uplink_slots_of
each_alone frames i l =
    let one : List ℕ = piece 8 frames i in
    let long : length one ≡ 8 = length_piece 8 frames i (omega arith) in
    let single : frame_count one ≡ 1 = omega (arith, long) in
    let alike : (j : ℕ) → j < 128 → sent_bit frames (128 * i + j) ≡ sent_bit one j = λ j h.
    let z : 128 * 0 + j ≡ j = omega arith in
    sent_at_lem frames i j h ∙ block_alone frames i j ∙ sym (ap (sent_bit one) (sym z) ∙ sent_at_lem one 0 j h) in
    bytes_by_byte 64 (slot_of (sent_bit one)) (piece 64 (uplink_slots_of frames) i) (length_piece 64 (uplink_slots_of frames) i (omega (arith, slots_long frames))) (λ t h.
    piece_at 64 (uplink_slots_of frames) i t h
    ∙ byte_at (64 * frame_count frames) (slot_of (sent_bit frames)) (i * 64 + t) (omega arith)
    ∙ val_same (λ u. slot_of (sent_bit frames) (8 * (i * 64 + t) + u)) (λ u. slot_of (sent_bit one) (8 * t + u)) 8 (λ u k.
    let j : ℕ = (8 * t + u) / 4 in
    let r : ℕ = u % 4 in
    let x : 8 * (i * 64 + t) + u ≡ 4 * (128 * i + j) + r = omega arith in
    let y : 8 * t + u ≡ 4 * j + r = omega arith in
    ap (slot_of (sent_bit frames)) x ∙ slot_at (sent_bit frames) (128 * i + j) r (omega arith)
    ∙ ap (λ (c : ℕ). bool (eqb r c)) (alike j (omega arith))
    ∙ sym (ap (slot_of (sent_bit one)) y ∙ slot_at (sent_bit one) j r (omega arith))))
    ∙ ap (λ (k : ℕ). bytes_of (64 * k) (slot_of (sent_bit one))) (sym single)
