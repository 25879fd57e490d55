-- From c on to r, or through 0.
use mathlib.Core.Path.{◌≡◌, ap, ◌∙◌}
use Prim.Native.Nat.{ℕ, ◌+◌, ◌-◌, ◌*◌, ◌/◌, ◌%◌, ◌<◌}
use native.Mathlib.Omega.{arith}
use native.Mathlib.Nat.{div-add-mod', mod-lt}
use lib.Arith.{digits_mod}
use Rattle.channel.proofs.first_place.Goals as goal

below : (start n r c : ℕ) → c ≡ start % n → r < n → c < n
below start n r c e h = let l : 0 < n = omega arith in let m = mod-lt start l in omega arith

pub returns-then-r-c : goal.returns-then-r-c
returns-then-r-c c =
    let a = c.args in
    let h = c.requires in
    let l = below _ _ _ _ c.requires.0 c.requires.1 in
    let d = div-add-mod' a.start a.n in
    let m = c.requires.0 in
    let e : a.start + (a.r + a.n - a.c) ≡ (a.start / a.n + 1) * a.n + a.r = omega arith in
    (ap (λ (x : ℕ). x % a.n) e ∙ digits_mod (a.start / a.n + 1) h.1, omega arith, omega arith)

pub returns : goal.returns
returns c =
    let a = c.args in
    let h = c.requires in
    let d = div-add-mod' a.start a.n in
    let m = c.requires.0 in
    let e : a.start + (a.r - a.c) ≡ a.start / a.n * a.n + a.r = omega arith in
    (ap (λ (x : ℕ). x % a.n) e ∙ digits_mod (a.start / a.n) h.1, omega arith, omega arith)
