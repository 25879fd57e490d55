-- How large the quantities of a valid header are, and how they hang together. 64 bits hold all of them with room to spare.
use mathlib.Core.Path.{◌≡◌, refl, ap, ◌∙◌}
use Prim.Native.Nat.{ℕ, zero, suc, ◌+◌, ◌-◌, ◌*◌, ◌/◌, ◌%◌, ◌^◌, ◌≤◌, ◌<◌}
use native.Mathlib.Omega.{arith}
use native.Mathlib.Nat.{mul-le-mul, mul-le-mul_left, mul-le-mul_right, div-mul-le_self, lt-div-mul-add, lt_of_mul-lt-mul_right, div-add-mod', mul-add-mod_self_right}
use Rattle.sizes.specs.Sizes.{info_bits, word_bytes, span}
use Rattle.sizes.proofs.Laws.Rate.{by_rate}
use Rattle.header.specs.declared.Fields.{Fields}
use Rattle.header_sizes.specs.Quantities.{symbols_per_word, marked_bits, block_count, fill_bits, interleaver_delay, sequence_length, line_count, symbol_count, sent_symbols, slots_per_symbol, slot_count, frame_bytes}
use Rattle.header_sizes.specs.Inner.{Valid}
use Rattle.header_sizes.proofs.Laws.Shape.{symbols_least, symbols_most, group_most, spread_most, spread_steps}

-- ---- C: the least number of blocks that hold the marked frames

module _ (t k : ℕ) (k1 : 1 ≤ k) where
  abbrev cuts : ℕ
  cuts = (t + (k - 1)) / k

  cuts_hold : t ≤ cuts * k
  cuts_hold = let l : t + (k - 1) < cuts * k + k = lt-div-mul-add k1 in omega arith

  cuts_needed : 1 ≤ t → (cuts - 1) * k < t
  cuts_needed t1 =
      let l : cuts * k ≤ t + (k - 1) = div-mul-le_self (t + (k - 1)) k in
      by cuts refl l
    where
      by : (c : ℕ) → cuts ≡ c → c * k ≤ t + (k - 1) → (cuts - 1) * k < t
      by zero e l = rw e (omega arith)
      by (suc c) e l =
          let d : suc c ≡ c + 1 = omega arith in
          let up : (c + 1) * k ≤ t + (k - 1) = rw d at l in
          let down : suc c - 1 ≡ c = omega arith in
          rw (e, down) (omega arith)

  cuts_least : 1 ≤ t → (n : ℕ) → t ≤ n * k → cuts ≤ n
  cuts_least t1 n h =
      let l : cuts - 1 < n = lt_of_mul-lt-mul_right k (let a = cuts_needed t1 in omega arith) in
      omega arith

-- step 9's length is a multiple of S: question 5 says so
pub sequence_multiple : (f : Fields) → Valid f → sequence_length f % symbols_per_word f ≡ 0
unfolding sequence_length
sequence_multiple f v = mul-add-mod_self_right (block_count f) (symbols_per_word f) (interleaver_delay f) ∙ v.whole

info_least : (rate : ℕ) → rate < 3 → 5006 ≤ info_bits rate
unfolding info_bits
info_least = by_rate (λ (r : ℕ). 5006 ≤ info_bits r) (omega arith) (omega arith) (omega arith)

module _ (f : Fields) (v : Valid f) where
  pub info_some : 1 ≤ info_bits f.rate
  info_some = let k = info_least f.rate v.rate in omega arith

  -- T = A (8F + 32) is 40 to 1,050,624
  pub marked_least : 40 ≤ marked_bits f
  unfolding marked_bits
  marked_least = let one : 40 ≤ span f.size = let s = v.size_least in omega arith in mul-le-mul {n₁ = 1} v.frames_least one

  pub marked_most : marked_bits f ≤ 1050624
  unfolding marked_bits
  marked_most = let one : span f.size ≤ 16416 = let s = v.size_most in omega arith in mul-le-mul v.frames_most one

  -- C blocks hold T bits, and one less do not: fewer than k bits are fill
  pub blocks_hold : marked_bits f ≤ block_count f * info_bits f.rate
  unfolding block_count
  blocks_hold = cuts_hold (marked_bits f) (info_bits f.rate) info_some

  pub blocks_needed : (block_count f - 1) * info_bits f.rate < marked_bits f
  unfolding block_count
  blocks_needed = cuts_needed (marked_bits f) (info_bits f.rate) info_some (let l = marked_least in omega arith)

  pub blocks_fewest : (n : ℕ) → marked_bits f ≤ n * info_bits f.rate → block_count f ≤ n
  unfolding block_count
  blocks_fewest = cuts_least (marked_bits f) (info_bits f.rate) info_some (let l = marked_least in omega arith)

  pub blocks_least : 1 ≤ block_count f
  blocks_least = by (block_count f) blocks_hold
    where
      by : (c : ℕ) → marked_bits f ≤ c * info_bits f.rate → 1 ≤ c
      by zero h = absurd (let l = marked_least in omega arith)
      by (suc c) h = omega arith

  pub fill_sum : marked_bits f + fill_bits f ≡ block_count f * info_bits f.rate
  unfolding fill_bits
  fill_sum = let h = blocks_hold in omega arith

  pub fill_few : fill_bits f < info_bits f.rate
  fill_few =
      let a : (block_count f - 1 + 1) * info_bits f.rate < marked_bits f + info_bits f.rate = let n = blocks_needed in omega arith in
      let e : block_count f - 1 + 1 ≡ block_count f = let l = blocks_least in omega arith in
      let b : block_count f * info_bits f.rate < marked_bits f + info_bits f.rate = rw e at a in
      let s = fill_sum in omega arith

  pub blocks_most : block_count f ≤ 210
  blocks_most =
      let n = blocks_needed in
      let m = marked_most in
      let k : (block_count f - 1) * 5006 ≤ (block_count f - 1) * info_bits f.rate = mul-le-mul_left (block_count f - 1) (info_least f.rate v.rate) in
      omega arith

  -- ---- step 9

  pub coded_most : block_count f * symbols_per_word f ≤ 210 * 7560
  coded_most = mul-le-mul blocks_most (symbols_most f v.shaped)

  pub sequence_most : sequence_length f ≤ 5749136
  unfolding sequence_length
  sequence_most = let a = coded_most in let b = spread_most f v.shaped in omega arith

  -- R lines of S symbols are the whole sequence
  pub lines_whole : line_count f * symbols_per_word f ≡ sequence_length f
  unfolding line_count
  lines_whole =
      let e : sequence_length f / symbols_per_word f * symbols_per_word f + sequence_length f % symbols_per_word f ≡ sequence_length f = div-add-mod' (sequence_length f) (symbols_per_word f) in
      let z : sequence_length f % symbols_per_word f ≡ 0 = sequence_multiple f v in
      omega arith

  pub lines_sum : line_count f * symbols_per_word f ≡ block_count f * symbols_per_word f + interleaver_delay f
  unfolding sequence_length
  lines_sum = lines_whole

  pub lines_steps : line_count f * symbols_per_word f ≡ block_count f * symbols_per_word f + (f.rows - 1) * (f.step * f.rows)
  lines_steps = lines_sum ∙ ap (λ (n : ℕ). block_count f * symbols_per_word f + n) (spread_steps f)

  pub lines_least : 1 ≤ line_count f
  lines_least = by (line_count f) lines_sum
    where
      by : (r : ℕ) → r * symbols_per_word f ≡ block_count f * symbols_per_word f + interleaver_delay f → 1 ≤ r
      by zero e =
          let c : 1 * symbols_per_word f ≤ block_count f * symbols_per_word f = mul-le-mul_right (symbols_per_word f) blocks_least in
          absurd (let l = symbols_least f v.shaped in omega arith)
      by (suc r) e = omega arith

  pub lines_most : line_count f ≤ 3041
  lines_most =
      let m = sequence_most in
      let e = lines_whole in
      let l : line_count f * word_bytes ≤ line_count f * symbols_per_word f = mul-le-mul_left (line_count f) (symbols_least f v.shaped) in
      omega arith

  -- ---- step 10

  -- W markers stand before each line
  pub symbol_sum : symbol_count f ≡ sequence_length f + line_count f * f.markers
  unfolding symbol_count
  symbol_sum = let e = lines_whole in omega arith

  symbol_bound : symbol_count f ≤ 5846448
  symbol_bound =
      let e = symbol_sum in
      let m = sequence_most in
      let w : line_count f * f.markers ≤ 3041 * 32 = mul-le-mul lines_most v.markers_most in
      omega arith

  pub symbol_most : symbol_count f < 2 ^ 23
  symbol_most = let m = symbol_bound in omega arith

  -- a copy of each symbol
  once_bound : symbol_count f * slots_per_symbol f ≤ 5846448 * 320
  once_bound = mul-le-mul symbol_bound (group_most f v.shaped)

  pub once_most : symbol_count f * slots_per_symbol f < 2 ^ 31
  once_most = let m = once_bound in omega arith

  pub frame_bytes_most : frame_bytes f ≤ 131072
  unfolding frame_bytes
  frame_bytes_most = mul-le-mul v.frames_most v.size_most

  -- and with all copies, of which there are at most 32
  module _ (few : f.copies ≤ 32) where
    sent_bound : symbol_count f * f.copies ≤ 5846448 * 32
    sent_bound = mul-le-mul symbol_bound few

    pub sent_most : sent_symbols f < 2 ^ 28
    unfolding sent_symbols
    sent_most = let m = sent_bound in omega arith

    slot_bound : slot_count f ≤ 5846448 * 32 * 320
    unfolding slot_count
    slot_bound = mul-le-mul sent_bound (group_most f v.shaped)

    pub slot_most : slot_count f < 2 ^ 36
    slot_most = let m = slot_bound in omega arith
