-- A wrong place that is known stays the first; otherwise these symbols tell.
use mathlib.Core.Path.{◌≡◌}
use native.Mathlib.Omega.{arith}
use Rattle.channel.specs.Channel.{layout_symbols}
use Rattle.slots.proofs.Laws.Bounds.{bounds}
use Rattle.slots_places.proofs.Laws.Passing.{known_stay, known_wrong, known_right}
use Rattle.slots_places.proofs.rest_after.Goals as goal

pub overflow_add-n : goal.overflow_add-n
overflow_add-n c = let k = bounds c.args.p c.requires.0.fine in omega arith

pub returns-then-rest-n : goal.returns-then-rest-n
returns-then-rest-n c =
    let s = c in
    let a = c.args in
    let h = c.requires in
    λ b row k. known_stay a.p h.0.fine b a.from a.to a.rest a.words.now k h.0.order h.0.most c.if-rest-n.true

pub returns-then-r-to : goal.returns-then-r-to
returns-then-r-to c =
    let s = c in
    let a = c.args in
    let h = c.requires in
    let o = c.take-r in
    λ b row k.
    let none : a.rest ≡ layout_symbols a.p.layout = let l = c.if-rest-n.false in let m = k.most in omega arith in
    known_wrong a.p h.0.fine b a.from a.to a.rest a.words.now k h.0.order h.0.most none o.result (o.ensures.first b row (k.took none)) _ c.if-r-to.true

pub returns : goal.returns
returns c =
    let s = c in
    let a = c.args in
    let h = c.requires in
    let o = c.take-r in
    λ b row k.
    let none : a.rest ≡ layout_symbols a.p.layout = let l = c.if-rest-n.false in let m = k.most in omega arith in
    known_right a.p h.0.fine b a.from a.to a.rest a.words.now k h.0.order h.0.most none o.result (o.ensures.first b row (k.took none)) _ c.if-r-to.false (o.ensures.took b row (k.took none) c.if-r-to.false)
