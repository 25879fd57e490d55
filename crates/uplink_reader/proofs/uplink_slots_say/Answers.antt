-- Each answer is `uplink_slots_say`'s, by the first that fails 28 and the first that fails 29.
use mathlib.Core.Path.{◌≡◌, refl}
use mathlib.Core.List.{List}
use Prim.Native.Nat.{ℕ, ◌*◌}
use native.Mathlib.Omega.{arith}
use borrow.Author.Tests.{eq-eqb, ne_eqb}
use Rattle.answers.specs.Answer.{Done, No}
use Rattle.answers.proofs.Laws.Answer.{refuses}
use Rattle.uplink.specs.Uplink.{codeblock_count, first_no_bit, first_bad_block, uplink_slots_say}
use Rattle.uplink_reader.proofs.uplink_slots_say.Goals as goal

module _ (slots : List ℕ) (count g : ℕ) (n : count ≡ codeblock_count slots) (e : g ≡ first_no_bit slots) where
  say_group : (g ≡ 128 * count → ⊥) → No 28 g ≡ uplink_slots_say slots
  unfolding uplink_slots_say
  say_group h = rw (← e, ← n, ne_eqb g (128 * count) h) refl

  module _ (h : g ≡ 128 * count) (i : ℕ) (f : i ≡ first_bad_block slots) where
    say_block : (i ≡ count → ⊥) → No 29 i ≡ uplink_slots_say slots
    unfolding uplink_slots_say
    say_block k = rw (← e, ← n, eq-eqb g (128 * count) h, ← f, ne_eqb i count k) refl

    say_done : i ≡ count → Done ≡ uplink_slots_say slots
    unfolding uplink_slots_say
    say_done k = rw (← e, ← n, eq-eqb g (128 * count) h, ← f, eq-eqb i count k) refl

pub returns-then-g-count : goal.returns-then-g-count
returns-then-g-count c =
    let s = c in
    let a = c.args in
    let g = c.first_bad_group-g in
    let count : a.count ≡ codeblock_count a.slots.now = let long = c.requires.long in omega arith in
    refuses _ _ _ _ c.at.ensures (say_group a.slots.now a.count g.result count g.ensures c.if-g-count.true)

pub returns-then-i-count : goal.returns-then-i-count
returns-then-i-count c =
    let s = c in
    let a = c.args in
    let g = c.first_bad_group-g in
    let i = c.first_bad_block-i in
    let count : a.count ≡ codeblock_count a.slots.now = let long = c.requires.long in omega arith in
    refuses _ _ _ _ c.at-then-i-count.ensures (say_block a.slots.now a.count g.result count g.ensures c.if-g-count.false i.result i.ensures c.if-i-count.true)

pub returns : goal.returns
returns c =
    let s = c in
    let a = c.args in
    let g = c.first_bad_group-g in
    let i = c.first_bad_block-i in
    let count : a.count ≡ codeblock_count a.slots.now = let long = c.requires.long in omega arith in
    say_done a.slots.now a.count g.result count g.ensures c.if-g-count.false i.result i.ensures c.if-i-count.false
