-- The words lie back to back, and m divides a word's bits: symbol t is the m bits from m·t on.
use mathlib.Core.Path.{◌∙◌, sym}
use Rattle.channel.proofs.Laws.Symbols.{data_flat}
use Rattle.channel.proofs.data_at.Goals as goal

pub returns : goal.returns
returns c g size = let a = c.args in c.field.ensures ∙ sym (data_flat a.m g size a.words.now a.t)
