-- The stream from the block's first bit on, with the last two bits of the last byte cleared.
use mathlib.Core.Path.{◌≡◌, ap, ◌∙◌}
use mathlib.Core.List.{List}
use Prim.Native.Nat.{ℕ, ◌+◌, ◌-◌, ◌*◌, ◌≤◌}
use native.Mathlib.Omega.{arith}
use native.Mathlib.Nat.{mul-le-mul}
use lib.Bits.{bit_and}
use lib.ListN.{length, get_or, set}
use Rattle.bits.specs.Pack.{bytes_of}
use Rattle.bits.proofs.Laws.Pack.{length_bytes}
use Rattle.sizes.specs.Sizes.{info_bits, block_bytes}
use Rattle.sizes.proofs.Laws.Rate.{info_le, block_size, block_room}
use Rattle.stream_writer.specs.Stream.{stream_bit, block_at}
use Rattle.stream_writer.proofs.Laws.Stream.{stream_bits}
use Rattle.stream_blocks.proofs.Spare.{spare_cleared}
use Rattle.stream_blocks.proofs.fill_block.Goals as goal

pub overflow_mul-j : goal.overflow_mul-j
overflow_mul-j c =
    let s = c in
    let e = c.info_bits.ensures in
    let j : s.args.j ≤ 255 = let h = c.requires.rate_bound.1 in omega arith in
    let k : c.info_bits.result ≤ 10046 = let h = info_le s.args.rate in omega arith in
    let m = mul-le-mul j k in
    omega arith

pub fill_bytes-requires : goal.fill_bytes-requires
fill_bytes-requires c =
    let s = c in
    let e = c.info_bits.ensures in
    let j : s.args.j ≤ 255 = let h = c.requires.rate_bound.1 in omega arith in
    let k : c.info_bits.result ≤ 10046 = let h = info_le s.args.rate in omega arith in
    let m = mul-le-mul j k in
    let w = block_room s.args.rate s.requires.rate_bound.0 in
    (s.requires.frames, omega (arith, s.requires.rate_bound.2))

pub overflow_sub-last : goal.overflow_sub-last
overflow_sub-last c =
    let s = c in
    let long = c.fill_bytes.auto.block in
    let w = block_size s.args.rate s.requires.rate_bound.0 in
    omega (arith, s.requires.rate_bound.2)

pub bounds-block-last : goal.bounds-block-last
bounds-block-last c =
    let s = c in
    let long = c.fill_bytes.auto.block in
    let w = block_size s.args.rate s.requires.rate_bound.0 in
    omega (arith, s.requires.rate_bound.2)

pub bounds-block-last-2 : goal.bounds-block-last-2
bounds-block-last-2 c =
    let s = c in
    let long = c.fill_bytes.auto.block in
    let w = block_size s.args.rate s.requires.rate_bound.0 in
    omega (arith, s.requires.rate_bound.2)

pub returns : goal.returns
unfolding block_at
returns c =
    let s = c in
    let a = c.args in
    let stream : ℕ → ℕ = stream_bit a.size a.count a.frames.now in
    let h = block_bytes a.rate in
    let f : ℕ → ℕ = λ t. stream (a.j * info_bits a.rate + t) in
    let cleared : ℕ → List ℕ → List ℕ = λ n xs. set xs (n - 1) (bit_and (get_or xs (n - 1) 0) 252) in
    let last = c.fill_bytes.new.block in
    let from : ℕ → ℕ → ℕ = λ k t. stream (a.j * k + t) in
    let k = c.info_bits.result in
    let filled : last ≡ bytes_of h f =
    c.fill_bytes.ensures ∙ ap (λ (n : ℕ). bytes_of n (from k)) s.requires.rate_bound.2 ∙ ap (λ (n : ℕ). bytes_of h (from n)) c.info_bits.ensures in
    let w = block_size a.rate s.requires.rate_bound.0 in
    ap (λ (xs : List ℕ). cleared (length xs) xs) filled ∙ ap (λ (n : ℕ). cleared n (bytes_of h f)) (length_bytes h f)
    ∙ spare_cleared h (info_bits a.rate) f (λ t. stream_bits a.size a.count a.frames.now (a.j * info_bits a.rate + t)) (omega arith) w
