-- A filler comes from C-as-S, which divided by S is C.
use mathlib.Core.Path.{ap, ◌∙◌}
use Prim.Native.Nat.{ℕ, ◌/◌}
use native.Mathlib.Omega.{arith}
use Rattle.channel.specs.Channel.{hit_by}
use Rattle.channel.proofs.Laws.Places.{own_numbers}
use Rattle.fades.specs.Fades.{source_of}
use Rattle.fades_walk.proofs.Walked.{marker_word, source_word}
use Rattle.fades_walk.proofs.word_at.Goals as goal

pub returns-then-a-g : goal.returns-then-a-g
returns-then-a-g c =
    let s = c in
    let g = c.args.g in
    let e = c.requires.1.column_is in
    marker_word g s.requires.0.symbols_least s.args.a.symbol (omega arith)

pub returns : goal.returns
unfolding source_of
returns c =
    let s = c in
    let g = c.args.g in
    let a = c.args.a in
    let e = c.requires.1.column_is in
    ap (λ (t : ℕ). t / g.symbols) (c.hit_by.ensures g (own_numbers g) ∙ ap (hit_by g) s.requires.1.place_is)
    ∙ source_word g s.requires.0.symbols_least a.symbol (omega arith)
