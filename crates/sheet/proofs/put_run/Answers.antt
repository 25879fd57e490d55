-- The rate, and after it the numbers.
use mathlib.Core.Path.{ap₂}
use mathlib.Core.List.{List, ◌++◌}
use Prim.Native.Nat.{ℕ}
use Rattle.sheet.specs.Text.{items}
use Rattle.sheet.proofs.Pieces.{put_same, put_put}
use Rattle.sheet.specs.Line.{run_line}
use Rattle.sheet.proofs.put_run.Goals as goal

pub returns : goal.returns
unfolding run_line
returns c =
    let s = c in
    let p = c.put-at in
    let q = c.put_items in
    let rate = c.rate_text-rate in
    let numbers = c.run_numbers-numbers in
    put_same s.args.out.now q.new.out (rate.result ++ items numbers.result) (run_line s.args.f) 0 q.result
    (ap₂ (λ (x y : List ℕ). x ++ items y) rate.ensures numbers.ensures)
    (put_put s.args.out.now p.new.out q.new.out rate.result (items numbers.result) 0 p.result q.result p.ensures q.ensures)
