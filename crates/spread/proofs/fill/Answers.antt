-- The coded bits that change, packed.
use mathlib.Core.Path.{◌≡◌, sym, ap, ◌∙◌}
use mathlib.Core.List.{List}
use Prim.Native.Nat.{ℕ, ◌+◌, ◌*◌, ◌≤◌, ◌<◌}
use native.Mathlib.Omega.{arith}
use lib.ListN.{get_or, length-replicate}
use lib.Seq.{length-take-le}
use Rattle.bits.specs.Pack.{bytes_of}
use Rattle.bits.proofs.Laws.Pack.{bytes_same}
use Rattle.bits.proofs.Laws.Table.{get_or_tab, tab_bits}
use Rattle.sizes.specs.Inner.{input_bits}
use Rattle.sizes.specs.Sizes.{block_bytes, word_bits, word_bytes}
use Rattle.sizes.proofs.Laws.Rate.{block_size, block_room}
use Rattle.convolution.specs.Code.{encode}
use Rattle.convolution.proofs.Laws.Code.{encode_bits}
use Rattle.spread.specs.Inner.{input_change}
use Rattle.spread.proofs.Laws.Spread.{change_input_bits}
use Rattle.spread.proofs.Changed.{front_zeros, spread_made}
use Rattle.spread.proofs.fill.Goals as goal

-- the buffer holds the input bits of any rate
fits : (rate n : ℕ) → rate < 3 → n ≡ block_bytes rate → n + 4 ≤ 1260
fits rate n h e = omega (arith, block_room rate h)

size : (rate n : ℕ) → rate < 3 → n ≡ block_bytes rate → 8 * (n + 4) ≡ input_bits rate
unfolding input_bits
size rate n h e = omega (arith, block_size rate h)

pub overflow_add-n : goal.overflow_add-n
overflow_add-n c = omega (arith, fits c.args.rate _ c.requires.rate_is c.block_bytes-n.ensures)

pub slice_bounds-room-end : goal.slice_bounds-room-end
slice_bounds-room-end c = fits c.args.rate _ c.requires.rate_is c.block_bytes-n.ensures

pub slice_bounds-change_coded-end-2 : goal.slice_bounds-change_coded-end-2
slice_bounds-change_coded-end-2 c = sym (length-take-le _ _ (fits c.args.rate _ c.requires.rate_is c.block_bytes-n.ensures))

pub change_coded-requires : goal.change_coded-requires
change_coded-requires c =
    let s = c in
    let e = c.block_bytes-n.ensures in
    record {
      changes = record {
        rate_is = s.requires.rate_is;
        bit_is = s.requires.bit_is;
        block_is = length-replicate {A = ℕ} 1256 0;
        input_is = ap (λ (n : ℕ). 8 * n) (length-take-le _ _ (fits c.args.rate _ c.requires.rate_is e)) ∙ size c.args.rate _ c.requires.rate_is e;
        zeros_are = front_zeros (c.block_bytes-n.result + 4) 1260;
      };
      coded_is = length-replicate {A = ℕ} 15120 0;
    }

pub pack-requires : goal.pack-requires
pack-requires c =
    let s = c in
    let r = c.args.rate in
    let δ : ℕ → ℕ = input_change r s.args.bit in (
      omega (arith, s.requires.places_are),
      λ i. rw c.change_coded.ensures (tab_bits word_bits (encode r δ) (encode_bits r δ (change_input_bits r s.args.bit)) i),
    )

pub returns : goal.returns
returns c =
    let s = c in
    let r = c.args.rate in
    let δ : ℕ → ℕ = input_change r s.args.bit in
    let t = c.change_coded in
    let coded : List ℕ = t.new.coded in
    c.pack.ensures
    ∙ ap (λ (n : ℕ). bytes_of n (λ i. get_or coded i 0)) s.requires.places_are
    ∙ bytes_same word_bytes (λ i. get_or coded i 0) (encode r δ) (λ j l.
    ap (λ (xs : List ℕ). get_or xs j 0) t.ensures ∙ get_or_tab word_bits (encode r δ) j (omega arith))
    ∙ sym (spread_made r s.args.bit s.requires.rate_is s.requires.bit_is)
