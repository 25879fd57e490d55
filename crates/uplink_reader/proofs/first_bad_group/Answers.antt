-- The groups passed are bits, so the first that is none is found among the rest.
use mathlib.Core.Path.{◌≡◌, refl, sym, ap, ◌∙◌}
use Prim.Native.Nat.{◌*◌}
use native.Mathlib.Omega.{arith}
use Rattle.bits.specs.Basics.{up_to}
use Rattle.bits.proofs.Laws.First.{first_on, first_here, first_end}
use Rattle.uplink.specs.Uplink.{is_bit, codeblock_count, first_no_bit}
use Rattle.uplink_reader.proofs.first_bad_group.Goals as goal

pub overflow_mul-end : goal.overflow_mul-end
overflow_mul-end c = let m = c.requires.most in omega arith

pub loop-g-init : goal.loop-g-init
loop-g-init c = refl

pub is_bit-requires : goal.is_bit-requires
is_bit-requires c =
    let p = c.requires.long in
    omega arith

pub returns-then-not-is_bit : goal.returns-then-not-is_bit
unfolding first_no_bit
returns-then-not-is_bit c =
    let l = c.loop-g in
    let s = c in
    let a = c.args in
    let end : 128 * codeblock_count a.slots.now ≡ 128 * a.count = let p = c.requires.long in omega arith in
    sym (ap (up_to (is_bit a.slots.now) 0) end ∙ sym l.invariant
    ∙ first_here (is_bit a.slots.now) (128 * a.count) l.g (omega arith) (sym c.is_bit.ensures
    ∙ c.if-not-is_bit.true))

pub loop-g-preserved : goal.loop-g-preserved
loop-g-preserved c =
    let l = c.loop-g in
    let a = c.args in
    first_on (is_bit a.slots.now) (128 * a.count) l.g (omega arith)
    (sym c.is_bit.ensures ∙ c.if-not-is_bit.false) ∙ l.invariant

pub returns : goal.returns
unfolding first_no_bit
returns c =
    let l = c.loop-g in
    let s = c in
    let a = c.args in
    let end : 128 * codeblock_count a.slots.now ≡ 128 * a.count = let p = c.requires.long in omega arith in
    sym (ap (up_to (is_bit a.slots.now) 0) end ∙ sym l.invariant
    ∙ first_end (is_bit a.slots.now) (128 * a.count) l.g (omega arith) (omega arith) ∙ omega arith)
