-- The plane is copied, and turned after itself.
use mathlib.Core.Path.{◌≡◌, ap, ◌∙◌}
use mathlib.Core.List.{List}
use Prim.Native.Nat.{ℕ, ◌+◌, ◌-◌, ◌*◌, ◌≤◌}
use native.Mathlib.Omega.{arith}
use lib.ListN.{length, get_or, take, drop}
use borrow.Author.Rules.{rules}
use Rattle.std.proofs.lemmas.List.{places}
use Rattle.word_columns.proofs.Loops.{plane_doubled}
use Rattle.word_columns.proofs.rows.plane.Goals as goal

pub returns : goal.returns
returns c =
    let s = c in
    let m : ℕ = c.args.m in
    let part : List ℕ = take (270 * m + 270 - 270 * m) (drop (270 * m) s.args.planes.now) in
    let room : 540 * m + 540 ≤ length s.args.v.now = omega arith in
    let copied : c.copy_from_slice.new.self ≡ part = c.copy_from_slice.ensures.after in
    let size : length part ≡ 270 = search (rules, places) in
    plane_doubled s.args.planes.now m s.args.v.now _ _ room (ap (λ (xs : List ℕ). length xs) copied ∙ size)
    (λ x l. ap (λ (xs : List ℕ). get_or xs x 0) copied ∙ search (rules, places)) c.turned.ensures c.requires.3
