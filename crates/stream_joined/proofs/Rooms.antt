-- What fits: places in the blocks, and the bits of frames among those of the blocks.
use mathlib.Core.Path.{◌≡◌}
use mathlib.Core.List.{List}
use mathlib.Core.Logic.{⊎_elim}
use Prim.Native.Nat.{ℕ, ◌+◌, ◌*◌, ◌/◌, ◌≤◌, ◌<◌}
use native.Mathlib.Omega.{arith}
use native.Mathlib.Nat.{mul_left_comm, mul-le-mul, le_refl}
use lib.ListN.{length}
use Rattle.bits.proofs.Laws.Choice.{lt_or_le}
use Rattle.bits.specs.Inner.{At}
use Rattle.bits.specs.declared.pieces.Position.{Position}
use Rattle.sizes.specs.Sizes.{marker_bits, span, info_bits, block_bytes}
use Rattle.sizes.proofs.Laws.Rate.{block_size, info_le}
use Rattle.stream_reader.specs.Inner.{Judged, Blocks, Held, bit_of, HeldAt}

-- the bits of `pieces` blocks
pub pieces_room : (rate pieces : ℕ) → pieces ≤ 210 → pieces * info_bits rate ≤ 210 * 10046
pieces_room rate pieces h = mul-le-mul h (info_le rate)

pub judged_blocks : {rate pieces size count : ℕ} {blocks : List ℕ} → Judged rate pieces size count blocks → Blocks rate pieces blocks
judged_blocks g = record { rate3 = g.rate3; pieces2 = g.pieces2; room = g.room }

-- fewer bits, further on
pub held_part : {rate x n : ℕ} {blocks : List ℕ} → Held rate blocks x n → (y m : ℕ) → y + m ≤ x + n → Held rate blocks y m
held_part h y m l = let fit = h.fit in record { pieces = h.pieces; lie = h.lie; fit = omega arith }

-- the place of one of them
pub held_at : {rate x n : ℕ} {blocks : List ℕ} {at : Position} → Held rate blocks x n → (y m : ℕ) → At (info_bits rate) y at → y + m ≤ x + n → HeldAt rate blocks at m
held_at {rate} {x} {n} {blocks} {at} h y m a l =
    let place = a.place in
    record { inside = a.inside; held = held_part h (bit_of rate at) m (omega arith) }

module _ (rate n : ℕ) (blocks : List ℕ) (at : Position) (h : HeldAt rate blocks at n) (one : 1 ≤ n) where
  -- its block is one of them
  pub piece_in : at.piece + 1 ≤ h.held.pieces
  piece_in =
      ⊎_elim
      (λ (l : at.piece < h.held.pieces). let q : at.piece + 1 ≤ h.held.pieces = omega arith in q)
      (λ (l : h.held.pieces ≤ at.piece).
      let m : h.held.pieces * info_bits rate ≤ at.piece * info_bits rate = mul-le-mul l (le_refl (info_bits rate)) in
      let fit = h.held.fit in
      absurd (omega arith))
      (lt_or_le at.piece h.held.pieces)

  pub piece_le : at.piece ≤ 210
  piece_le = let p = piece_in in let t = h.held.lie.pieces2 in omega arith

  -- m bytes of the block from the place on, and the byte after them, lie in the blocks
  pub stretch_in : (m : ℕ) → at.bit + 8 * m ≤ info_bits rate → (at.piece * (8 * block_bytes rate) + at.bit) / 8 + m < length blocks
  stretch_in m l =
      let p : (at.piece + 1) * block_bytes rate ≤ h.held.pieces * block_bytes rate = mul-le-mul piece_in (le_refl (block_bytes rate)) in
      let room = h.held.lie.room in
      let s : 8 * block_bytes rate ≡ info_bits rate + 2 = block_size rate h.held.lie.rate3 in
      let e : at.piece * (8 * block_bytes rate) ≡ 8 * (at.piece * block_bytes rate) = mul_left_comm at.piece 8 (block_bytes rate) in
      omega arith

  pub bit_in : at.piece * (8 * block_bytes rate) + at.bit < 8 * length blocks
  bit_in = let inside = h.inside in let w = stretch_in 0 (omega arith) in omega arith

-- bits of the block of bit x end within the blocks
pub block_fit : (rate pieces : ℕ) {x : ℕ} {at : Position} (n : ℕ) → At (info_bits rate) x at → x < pieces * info_bits rate → at.bit + n ≤ info_bits rate → x + n ≤ pieces * info_bits rate
block_fit rate pieces {x} {at} n a l h =
    let place = a.place in
    ⊎_elim
    (λ (q : at.piece < pieces).
    let m : (at.piece + 1) * info_bits rate ≤ pieces * info_bits rate = mul-le-mul (omega arith) (le_refl (info_bits rate)) in
    let r : x + n ≤ pieces * info_bits rate = omega arith in r)
    (λ (q : pieces ≤ at.piece).
    let m : pieces * info_bits rate ≤ at.piece * info_bits rate = mul-le-mul q (le_refl (info_bits rate)) in
    absurd (omega arith))
    (lt_or_le at.piece pieces)

-- ---- the frames' bits among those of the blocks

module _ {rate pieces size count : ℕ} {blocks : List ℕ} (g : Judged rate pieces size count blocks) where
  -- frame j with its marker
  pub span_fits : (j : ℕ) → j < count → j * span size + span size ≤ pieces * info_bits rate
  span_fits j h =
      let m : (j + 1) * span size ≤ count * span size = mul-le-mul (omega arith) (le_refl (span size)) in
      let fit = g.fit in
      omega arith

  -- frame j's bytes in the frames
  pub bytes_fit : (j : ℕ) → j < count → (j * size + size ≤ count * size) × (count * size ≤ 131072)
  bytes_fit j h =
      let m : (j + 1) * size ≤ count * size = mul-le-mul (omega arith) (le_refl size) in
      let b : count * size ≤ 64 * 2048 = mul-le-mul g.count2 g.size2 in
      (omega arith, omega arith)

  pub marker_held : (j : ℕ) → j < count → Held rate blocks (j * span size) marker_bits
  marker_held j h = let s = span_fits j h in record { pieces = pieces; lie = judged_blocks g; fit = omega arith }

  pub frame_held : (j : ℕ) → j < count → Held rate blocks (j * span size + marker_bits) (8 * size)
  frame_held j h = let s = span_fits j h in record { pieces = pieces; lie = judged_blocks g; fit = omega arith }
