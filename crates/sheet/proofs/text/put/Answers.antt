-- What comes before it stays, and the piece follows.
use mathlib.Core.Path.{refl, ap, ◌∙◌}
use mathlib.Core.List.{List, ◌++◌}
use Prim.Native.Nat.{ℕ}
use native.Mathlib.Omega.{arith}
use lib.ListN.{length, take}
use Rattle.std.proofs.lemmas.Slice.{take-put_mid}
use Rattle.sheet.proofs.text.put.Goals as goal

pub returns : goal.returns
returns c =
    let a = c.args in
    let same = c.copy_from_slice.ensures.after in
    record {
      next_is = refl;
      text = take-put_mid a.at _ a.out.now c.copy_from_slice.new.self _ (let l = ap length same in omega arith) (omega arith)
          ∙ ap (λ (x : List ℕ). take a.at a.out.now ++ x) same;
    }
