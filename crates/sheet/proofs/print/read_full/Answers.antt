-- Each read puts what it took from the input after what the slice already holds.
use Rattle.std.proofs.Common.{◌≡◌, ℕ, ◌+◌, ◌≤◌, List, ◌++◌, sym, ap, ap₂, ◌∙◌, subst, length, length-take-le, drop, drop_at, take, refl, arith, rules}
use lib.Seq.{take-add, take-append-le}
use borrow.Rule.Slice.PartMut.{put_mid, post_of, take_put}
use Rattle.std.specs.declared.option.Option.{Option}
use Rattle.std.specs.Io.KnownBytes.{Consumes}
use Rattle.std.proofs.KnownBytes.{Consumes-trans}
use Rattle.sheet.proofs.print.read_full.Goals as goal

-- a read of n bytes into the slice from `at` on, after which m are filled
read_more : (a b c : Option (List ℕ)) (at k n m : ℕ) (xs ys : List ℕ) → m ≡ at + n → at ≤ length xs → n ≤ length ys
    → Consumes a b (take at xs) → Consumes b c (take n ys) → Consumes a c (take m (put_mid at k xs ys))
read_more a b c at k n m xs ys sum within fits before read =
    let after = post_of at k xs in
    let behind : take n (drop at (put_mid at k xs ys)) ≡ take n ys =
    ap (take n) (drop_at (take at xs) (ys ++ after) at (length-take-le at xs within)) ∙ take-append-le n ys after fits in
    let joined = take-add at n (put_mid at k xs ys) ∙ ap₂ (λ u v. u ++ v) (take_put at k xs ys within) behind in
    subst (Consumes a c) (sym joined ∙ ap (λ m. take m (put_mid at k xs ys)) (sym sum)) (Consumes-trans a b c (take at xs) (take n ys) before read)

pub returns-after-loop-n-clause-bytes : goal.returns-after-loop-n-clause-bytes
returns-after-loop-n-clause-bytes g c = c.loop-n.invariant.1

pub loop-n-preserved : goal.loop-n-preserved
loop-n-preserved g c =
    let l = c.loop-n in
    let k = c.in_ok-k in
    (search rules, read_more _ _ _ l.n _ k.k _ l.header c.read.new.buf refl l.invariant.0 k.ensures.bound.0 l.invariant.1 k.ensures.bytes.0)

pub returns-then-k-eq0-clause-bytes : goal.returns-then-k-eq0-clause-bytes
returns-then-k-eq0-clause-bytes g c =
    let l = c.loop-n in
    let k = c.in_ok-k in
    read_more _ _ _ l.n _ k.k _ l.header c.read.new.buf (omega (arith, c.if-k-eq0.true)) l.invariant.0 k.ensures.bound.0 l.invariant.1 k.ensures.bytes.0
