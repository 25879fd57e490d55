-- The bits so far make the number so far; the reader hands out the next one, which is pushed in from below.
use Rattle.std.proofs.Common.{arith, ◌≡◌, ◌+◌, ◌*◌, ◌%◌, ◌^◌, ℕ, List, refl, ap, ◌∙◌}
use Rattle.std.specs.Int.Bits.{bit_or}
use Rattle.bits.specs.Pack.{val}
use Rattle.bits.proofs.Laws.Loops.{push}
use Rattle.stream_writer.specs.Stream.{stream_bit}
use Rattle.stream_writer.proofs.Laws.Stream.{stream_bits}
use Rattle.stream_bits.proofs.reader.eight_bits.Goals as goal

pub loop-t-init : goal.loop-t-init
unfolding val
loop-t-init c = let e = c.new-stream.ensures in (rw e.0 refl, omega arith, refl)

pub loop-t-preserved : goal.loop-t-preserved
loop-t-preserved c =
    let a = c.args in
    let l = c.loop-t in
    let i = l.invariant in
    let e = c.next.ensures in
    let f : ℕ → ℕ = λ k. stream_bit a.size a.count a.frames.now (a.x + k) in
    let bit : c.next.result ≡ f l._t =
    e.0 ∙ ap (λ (s : List ℕ). stream_bit a.size a.count s l.stream.at) i.0 ∙ ap (stream_bit a.size a.count a.frames.now) i.1 in (
      rw e.1 i.0,
      omega arith,
      c.pushed-v.ensures ∙ ap (λ (v : ℕ). bit_or (v * 2 % 2 ^ 64) c.next.result) i.2 ∙ ap (bit_or (val f l._t * 2 % 2 ^ 64)) bit
          ∙ push 64 f l._t (λ k. stream_bits a.size a.count a.frames.now (a.x + k)) (omega arith),
    )
