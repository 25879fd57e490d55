-- A symbol that is covered adds one to its word; another adds nothing.
use mathlib.Core.Path.{refl, sym, ◌∙◌}
use Rattle.fades_walk.proofs.Walked.{added_one, added_none}
use Rattle.fades_walk.proofs.count_one.Goals as goal

pub returns-then-not-reached : goal.returns-then-not-reached
returns-then-not-reached c =
    let s = c in
    let r = c.reached in
    added_none s.args.g s.requires.0.symbols_least s.args.fades.now s.args.a.symbol s.args.counts.now s.args.counts.now
    s.requires.3.long (sym r.ensures ∙ c.if-not-reached.true) refl

pub add_one-requires : goal.add_one-requires
add_one-requires c = let s = c in s.requires.3.room c.word_at.result

pub returns : goal.returns
returns c =
    let s = c in
    let w = c.word_at in
    let r = c.reached in
    let p = c.add_one in
    added_one s.args.g s.requires.0.symbols_least s.args.fades.now s.args.a.symbol s.args.counts.now p.new.counts
    s.requires.3.long (sym r.ensures ∙ c.if-not-reached.false) (rw w.ensures at p.ensures)
