-- The part of the words is word j.
use mathlib.Core.Path.{◌≡◌, refl, ap, ◌∙◌}
use mathlib.Core.List.{List}
use Prim.Native.Nat.{ℕ, ◌+◌, ◌-◌, ◌*◌}
use lib.ListN.{length, take, drop}
use Rattle.answers.specs.Answer.{after}
use Rattle.answers.specs.Inner.{answer_of}
use Rattle.sizes.specs.Sizes.{word_bytes}
use Rattle.word.specs.Word.{block_in, word_read_says}
use Rattle.bits.specs.Pack.{piece}
use Rattle.pass.proofs.Laws.Parts.{part_piece}
use Rattle.pass_words.proofs.read_word.Goals as goal

pub returns : goal.returns
returns c =
    let s = c in
    let r = c.read in
    let at : ℕ = s.args.j * word_bytes in
    let word : List ℕ = piece word_bytes s.args.words.now s.args.j in
    let part : take (at + word_bytes - at) (drop at s.args.words.now) ≡ word = part_piece word_bytes word_bytes s.args.words.now s.args.j refl in record {
      value = r.ensures.value ∙ ap (λ (x : List ℕ). word_read_says s.args.rate x (length s.args.block.now)) part ∙ ap (word_read_says s.args.rate word) s.requires.block_is;
      block_after = r.ensures.block_after ∙ ap (λ (x : List ℕ). after (answer_of r.result) (block_in s.args.rate x) s.args.block.now) part;
    }
