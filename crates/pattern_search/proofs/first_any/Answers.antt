-- The starts of a short capture with zeros after it are those of the capture.
use mathlib.Core.Path.{◌∙◌}
use borrow.Author.Rules.{rules}
use Rattle.std.proofs.lemmas.List.{places}
use Rattle.pattern_search.proofs.Passing.{padded}
use Rattle.pattern_search.proofs.first_any.Goals as goal

pub returns-then-b-lt8 : goal.returns-then-b-lt8
returns-then-b-lt8 c =
    let a = c.args in
    c.first_start.ensures ∙ padded a.b.now _ a.slots.now a.m.n a.from a.end (λ k l. search (rules, places)) c.requires.ends
