-- The codeblocks passed are codewords, so the first that is none is found among the rest.
use mathlib.Core.Path.{◌≡◌, refl, sym, ap, ◌∙◌}
use mathlib.Core.Bool.{Bool}
use Prim.Native.Nat.{ℕ}
use native.Mathlib.Omega.{arith}
use Rattle.bits.specs.Basics.{up_to}
use Rattle.bits.proofs.Laws.First.{first_on, first_here, first_end}
use Rattle.ldpc.specs.Code.{is_codeword}
use Rattle.uplink.specs.Uplink.{received, codeblock_count, first_bad_block}
use Rattle.uplink_reader.proofs.first_bad_block.Goals as goal

pub loop-i-init : goal.loop-i-init
loop-i-init c = refl

pub passes-requires : goal.passes-requires
passes-requires c =
    let p = c.requires in
    let long = c.requires.long in
    let most = c.requires.most in
    (omega arith, omega arith)

pub returns-then-not-passes : goal.returns-then-not-passes
unfolding first_bad_block
returns-then-not-passes c =
    let l = c.loop-i in
    let s = c in
    let a = c.args in
    let good : ℕ → Bool = λ i. is_codeword (received a.slots.now i) in
    let end : codeblock_count a.slots.now ≡ a.count = let p = c.requires.long in omega arith in
    sym (ap (up_to good 0) end ∙ sym l.invariant
    ∙ first_here good a.count l.i (omega arith) (sym c.passes.ensures ∙ c.if-not-passes.true))

pub loop-i-preserved : goal.loop-i-preserved
loop-i-preserved c =
    let l = c.loop-i in
    let a = c.args in
    let good : ℕ → Bool = λ i. is_codeword (received a.slots.now i) in
    first_on good a.count l.i (omega arith)
    (sym c.passes.ensures ∙ c.if-not-passes.false) ∙ l.invariant

pub returns : goal.returns
unfolding first_bad_block
returns c =
    let l = c.loop-i in
    let s = c in
    let a = c.args in
    let good : ℕ → Bool = λ i. is_codeword (received a.slots.now i) in
    let end : codeblock_count a.slots.now ≡ a.count = let p = c.requires.long in omega arith in
    sym (ap (up_to good 0) end ∙ sym l.invariant ∙ first_end good a.count l.i (omega arith) (omega arith) ∙ omega arith)
