-- Laws of blocks that are joined: a stream cut into blocks and joined is itself again, and so are packed blocks joined and cut.
use mathlib.Core.Path.{◌≡◌, sym, ap, ap₂, ◌∙◌}
use mathlib.Core.List.{List}
use mathlib.Core.Logic.{⊎_elim}
use Prim.Native.Nat.{ℕ, ◌+◌, ◌*◌, ◌/◌, ◌%◌, ◌≤◌, ◌<◌}
use native.Mathlib.Nat.{mod-lt, div-add-mod', div-lt_iff_lt-mul}
use lib.Arith.{digits_div, digits_mod}
use lib.ListN.{length}
use Rattle.bits.proofs.Laws.Choice.{lt_or_le}
use Rattle.bits.specs.Pack.{Bits, Bytes, bit_at, cut}
use Rattle.bits.proofs.Laws.Pack.{bit_lt, bytes_made, cut_in, cut_past}
use Rattle.sizes.specs.Sizes.{info_bits, block_bytes}
use Rattle.sizes.proofs.Laws.Rate.{info_pos}
use Rattle.stream_writer.specs.Stream.{block_at}
use Rattle.stream_writer.proofs.Laws.Stream.{block_bit}
use Rattle.stream_reader.specs.Frames.{joined}

pub joined_bits : (rate : ℕ) (block : ℕ → List ℕ) → Bits (joined rate block)
unfolding joined
joined_bits rate block x = bit_lt (block (x / info_bits rate)) (x % info_bits rate)

pub joined_at : (rate : ℕ) (block : ℕ → List ℕ) (j i : ℕ) → i < info_bits rate → joined rate block (j * info_bits rate + i) ≡ bit_at (block j) i
unfolding joined
joined_at rate block j i l = ap₂ (λ (a b : ℕ). bit_at (block a) b) (digits_div j l) (digits_mod j l)

pub joined_same : (rate pieces : ℕ) (block other : ℕ → List ℕ) → ((j : ℕ) → j < pieces → block j ≡ other j) → (x : ℕ) → x < pieces * info_bits rate → joined rate block x ≡ joined rate other x
unfolding joined
joined_same rate pieces block other h x l =
    ap (λ (b : List ℕ). bit_at b (x % info_bits rate)) (h (x / info_bits rate) ((div-lt_iff_lt-mul (info_pos rate)).1 l))

pub joined_blocks : (rate : ℕ) (stream : ℕ → ℕ) → rate < 3 → Bits stream → (x : ℕ) → joined rate (block_at rate stream) x ≡ stream x
unfolding joined
joined_blocks rate stream h b x =
    block_bit rate stream h b (x / info_bits rate) (x % info_bits rate) (mod-lt x (info_pos rate)) ∙ ap stream (div-add-mod' x (info_bits rate))

-- a packed block is the block of the joined bits
pub blocks_made : (rate : ℕ) (block : ℕ → List ℕ) (j : ℕ) → rate < 3 → length (block j) ≡ block_bytes rate → Bytes (block j)
    → ((i : ℕ) → info_bits rate ≤ i → i < 8 * block_bytes rate → bit_at (block j) i ≡ 0) → block j ≡ block_at rate (joined rate block) j
unfolding block_at
blocks_made rate block j h long bytes spare =
    let k : ℕ = info_bits rate in
    let f : ℕ → ℕ = λ i. joined rate block (j * k + i) in
    bytes_made (block_bytes rate) (cut k f) (block j) long bytes (λ i l.
    ⊎_elim
    (λ (s : i < k). sym (cut_in k f i s ∙ joined_at rate block j i s))
    (λ (s : k ≤ i). spare i s l ∙ sym (cut_past k f i s))
    (lt_or_le i k))
