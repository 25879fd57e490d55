-- Two bits more at each turn.
use mathlib.Core.Path.{◌≡◌, refl, ap, ◌∙◌}
use Prim.Native.Nat.{ℕ, ◌+◌, ◌-◌, ◌*◌, ◌/◌, ◌%◌, ◌^◌}
use native.Mathlib.Omega.{arith}
use lib.ListN.{get_or, length, take, drop}
use borrow.Author.Rules.{rules}
use Rattle.std.proofs.lemmas.List.{places}
use Rattle.bits.specs.Pack.{val}
use Rattle.uplink_heard.proofs.Reading.{heard_more}
use Rattle.uplink_heard.proofs.heard.Goals as goal

pub loop-byte-init : goal.loop-byte-init
unfolding val
loop-byte-init c = refl

pub loop-byte-preserved : goal.loop-byte-preserved
loop-byte-preserved c =
    let l = c.loop-byte in
    let xs = c.args.slots.now in
    let at : ℕ = c.args.at in
    let whole : length (take (at + 32 - at) (drop at xs)) ≡ 32 = search (rules, places) in
    let byte : get_or (take (at + 32 - at) (drop at xs)) l.byte-index 0 ≡ get_or xs (at + l.byte-index) 0 = search (rules, places) in
    heard_more xs at l.byte-index l.v c.two_bits.result (omega arith) l.invariant
    (c.two_bits.ensures ∙ ap (λ (b : ℕ). val (λ t. b / 2 ^ (7 - (4 * t + 1)) % 2) 2) byte)
