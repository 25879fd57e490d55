-- After a symbol the counts are the definition with the symbols up to it for those of the run.
use mathlib.Core.Path.{◌≡◌, refl}
use Prim.Native.Nat.{◌+◌}
use native.Mathlib.Omega.{arith}
use Rattle.channel.specs.Channel as channel
use Rattle.fades_list.proofs.Listed.{left_all}
use Rattle.fades_walk.proofs.Walked.{stands_first, counted_none, counted_more, counted_room, counted_all}
use borrow.Author.Rules.{rules}
use Rattle.fades_walk.proofs.walk.Goals as goal

pub loop-a-init : goal.loop-a-init
loop-a-init c =
    let s = c in
    let g = c.args.g in
    let fades = c.args.fades.now in
    let w = c.requires in
    (refl, search rules, stands_first g, left_all (channel.layout_symbols g) fades w.list, counted_none g fades s.args.counts.now w.long w.zeros)

pub count_one-requires : goal.count_one-requires
count_one-requires c =
    let s = c in
    let l = c.loop-a in
    let few = c.requires.small.count_most in
    (s.requires.small, l.invariant.2, l.invariant.3, counted_room s.args.g s.args.fades.now l.a.symbol l.counts (omega arith) l.invariant.4)

pub loop-a-preserved : goal.loop-a-preserved
loop-a-preserved c =
    let s = c in
    let l = c.loop-a in
    let o = c.count_one in
    let on : c.next-a.result.symbol ≡ l.a.symbol + 1 = c.next-a.ensures.1 in (
      refl,
      search rules,
      c.next-a.ensures.0,
      rw on c.past-i.ensures,
      rw on (counted_more s.args.g s.args.fades.now l.a.symbol l.counts o.new.counts l.invariant.4 o.ensures),
    )

pub returns : goal.returns
returns c =
    let s = c in
    let l = c.loop-a in
    let e = c.loop-a.invariant.0 in
    counted_all s.args.g s.args.fades.now l.a.symbol l.counts (omega arith) l.invariant.4
