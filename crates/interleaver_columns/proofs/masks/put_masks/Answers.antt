-- The columns that the word's columns before c take have their masks.
use mathlib.Core.Path.{◌≡◌, sym, ap, ◌∙◌}
use Prim.Native.Nat.{ℕ, ◌%◌, ◌^◌, ◌<◌}
use native.Mathlib.Omega.{arith}
use lib.ListN.{get_or}
use Rattle.interleaver_columns.specs.Inner.{taken_by, column_of}
use Rattle.interleaver_columns.proofs.Numbers.{column_lt, column_place, columns_more}
use Rattle.interleaver_columns.proofs.masks.put_masks.Goals as goal

pub loop-c-preserved : goal.loop-c-preserved
loop-c-preserved c =
    let l = c.loop-c in
    let s = c in
    let o = c.put in
    let up = c.args.up.now in
    let h : l.c < 72 = omega arith in
    let column : get_or s.args.column.now l.c 0 ≡ taken_by l.c = s.requires.0.1 l.c h in (
      o.auto.mask ∙ l.invariant.0,
      λ y g k. columns_more (λ b. 2 ^ get_or up (column_of b) 0) l.c y (2 ^ get_or up l.c 0) (get_or l.mask y 0) (get_or o.new.mask y 0) h
          (ap (λ (j : ℕ). 2 ^ get_or up j 0) (sym (column_place l.c h)))
          (rw (← column) (o.ensures y g))
          (l.invariant.1 y g) k,
    )

pub returns : goal.returns
returns c =
    let l = c.loop-c in
    record { size = l.invariant.0; entry = λ y h. l.invariant.1 y h (let k = column_lt (y % 72) in omega arith) }
