-- All numbers but one are 0, and that tells.
use mathlib.Core.Path.{◌≡◌, ap, ◌∙◌}
use native.Mathlib.Omega.{arith}
use native.Mathlib.Nat.{mul_left_comm}
use Rattle.bits.proofs.Laws.Pack.{val_lt, bit_lt}
use Rattle.bits.specs.Inner.{bits_from}
use Prim.Native.Nat.{ℕ, ◌+◌, ◌*◌, ◌/◌, ◌^◌, ◌<◌}
use mathlib.Core.List.{List}
use Rattle.pulses.specs.Inner.{Far}
use Rattle.pulses.specs.Pulses.{symbol_in}
use Rattle.pulses.proofs.Swept.{number_at}
use Rattle.pulses.proofs.Seen.{front_more, front_sum, far_none, far_some, far_seen}
use Rattle.pulses.proofs.numbers.seen_far.Goals as goal

-- the group begins on a byte, and its symbol's number is one of n
at_byte : (order group s : ℕ) (b : List ℕ) → Far order group b s → symbol_in order group b s < order
    → (s * group ≡ 8 * (s * group / 8)) × (symbol_in order group b s / 64 < order / 64)
at_byte order group s b h l =
    let k : ℕ = group / 8 in
    let bytes : s * group ≡ 8 * (s * k) = ap (λ (g : ℕ). s * g) h.bytes ∙ mul_left_comm s 8 k in
    let e = h.numbers in
    (omega arith, omega arith)

pub overflow_add-any : goal.overflow_add-any
overflow_add-any c =
    let s = c in
    let a = c.args in
    let h = c.requires.0 in
    let l = c.loop-k in
    let e = at_byte c.args.order c.args.group c.args.s c.args.b.now c.requires.0 c.requires.1 in
    let big = c.requires.0.guard_least in
    let whole = c.requires.0.numbers in
    let at : ℕ = a.s * a.group / 8 in
    record {
      fits = front_sum (number_at a.b.now at) (symbol_in a.order a.group a.b.now a.s / 64) l.k l.any l.zeros c.eight-any.result (2 ^ 64)
          (λ i. val_lt (bits_from a.b.now (8 * (at + 8 * i))) (λ t. bit_lt a.b.now (8 * (at + 8 * i) + t)) 64)
          (λ n. far_none a.order a.group a.b.now a.s at (omega arith) e.0 s.requires.1 l.k (omega arith) n) l.invariant.1 c.eight-any.ensures;
    }

pub loop-k-preserved : goal.loop-k-preserved
loop-k-preserved c =
    let s = c in
    let a = c.args in
    let h = c.requires.0 in
    let l = c.loop-k in
    let e = at_byte c.args.order c.args.group c.args.s c.args.b.now c.requires.0 c.requires.1 in
    let big = c.requires.0.guard_least in
    let whole = c.requires.0.numbers in
    let at : ℕ = a.s * a.group / 8 in (
      omega arith,
      front_more (number_at a.b.now at) (symbol_in a.order a.group a.b.now a.s / 64) l.k l.any l.zeros _ _
          (far_some a.order a.group a.b.now a.s at (omega arith) e.0 s.requires.1 h.numbers)
          (λ n. far_none a.order a.group a.b.now a.s at (omega arith) e.0 s.requires.1 l.k (omega arith) n) l.invariant.1 c.eight-any.ensures c.none-zeros.ensures,
    )

pub leading-requires : goal.leading-requires
leading-requires c =
    let s = c in
    let a = c.args in
    let h = c.requires.0 in
    let l = c.loop-k in
    let e = at_byte c.args.order c.args.group c.args.s c.args.b.now c.requires.0 c.requires.1 in
    let big = c.requires.0.guard_least in
    let all = (l.invariant.1.high (omega arith)).0 in
    let one = far_some a.order a.group a.b.now a.s (a.s * a.group / 8) (omega arith) e.0 s.requires.1 h.numbers in
    omega arith

pub returns : goal.returns
returns c =
    let s = c in
    let a = c.args in
    let h = c.requires.0 in
    let l = c.loop-k in
    let e = at_byte c.args.order c.args.group c.args.s c.args.b.now c.requires.0 c.requires.1 in
    let big = c.requires.0.guard_least in
    let o = l.invariant.1.high (omega arith) in
    ap (λ (z : ℕ). 64 * z + c.leading.result) o.1
    ∙ far_seen a.order a.group a.b.now a.s (a.s * a.group / 8) (omega arith) e.0 s.requires.1 h.numbers c.leading.result (rw o.0 at c.leading.ensures)
