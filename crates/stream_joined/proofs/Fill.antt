-- A look at the fill: the zeros seen are passed over, and a one is where the search ends.
use mathlib.Core.Path.{◌≡◌, sym, ap, ◌∙◌}
use Prim.Native.Nat.{ℕ, ◌+◌, ◌-◌, ◌≤◌, ◌<◌}
use native.Mathlib.Omega.{arith}
use borrow.Author.Tests.{eq-eqb, ne_eqb}
use Rattle.bits.specs.Basics.{up_to}
use Rattle.bits.proofs.Laws.First.{first_here, first_skip}
use Rattle.bits.specs.Inner.{At}
use Rattle.bits.specs.declared.pieces.Position.{Position}
use Rattle.sizes.specs.Sizes.{info_bits}
use Rattle.stream_reader.specs.Frames.{zero_at}
use Rattle.stream_reader.specs.Inner.{bit_of, Zeros}

module _ (rate : ℕ) (stream : ℕ → ℕ) (x end n : ℕ) (at : Position) (z : Zeros rate stream at n) (a : At (info_bits rate) x at) where
  pub fill_on : x + n ≤ end → up_to (zero_at stream) (x + n) end ≡ up_to (zero_at stream) x end
  fill_on l =
      first_skip (zero_at stream) n end x l (λ k g h.
      let e : bit_of rate at + (k - x) ≡ k = let place = a.place in omega arith in
      eq-eqb (stream k) 0 (ap stream (sym e) ∙ z.pass (k - x) (omega arith)))

  pub fill_here : n ≡ 0 → x < end → up_to (zero_at stream) x end ≡ x
  fill_here e l = first_here (zero_at stream) end x l (ne_eqb (stream x) 0 (λ q. z.stop e (ap stream a.place ∙ q)))
