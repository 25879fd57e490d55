-- The coded bits are taken out of a copy of the word, and the block is read from them.
use mathlib.Core.Path.{sym, ap, ◌∙◌}
use mathlib.Core.List.{List}
use Prim.Native.Nat.{ℕ, ◌*◌}
use lib.ListN.{length}
use lib.Seq.{length-take-le}
use Rattle.bits.proofs.Laws.Table.{length_tab, tab_bits}
use Rattle.sizes.specs.Sizes.{word_bits}
use Rattle.answers.specs.Answer.{after}
use Rattle.answers.specs.Inner.{answer_of}
use Rattle.word.specs.Word.{coded_in}
use Rattle.word.proofs.Laws.Word.{coded_in_bits}
use Rattle.word.proofs.Laws.Lists.{judged_coded, block_coded}
use Rattle.word.proofs.Laws.Inputs.{input_size, input_fits}
use Rattle.word_reader.proofs.decode.Goals as goal

pub slice_bounds-room-end : goal.slice_bounds-room-end
slice_bounds-room-end c =
    let s = c in
    input_fits s.args.rate _ s.requires.rate_is s.requires.block_is

pub slice_bounds-read_coded-end-2 : goal.slice_bounds-read_coded-end-2
slice_bounds-read_coded-end-2 c =
    let s = c in
    sym (length-take-le _ _ (input_fits s.args.rate _ s.requires.rate_is s.requires.block_is))

pub read_coded-requires : goal.read_coded-requires
read_coded-requires c =
    let s = c in
    let e = c.take_out.ensures in
    record {
      decodes = record {
        rate_ok = s.requires.rate_is;
        coded_size = ap length e ∙ length_tab word_bits (coded_in s.args.word.now);
        coded_bits = λ i. rw e (tab_bits word_bits (coded_in s.args.word.now) (coded_in_bits s.args.word.now) i);
        input_size = ap (λ (n : ℕ). 8 * n) (length-take-le _ _ (input_fits s.args.rate _ s.requires.rate_is s.requires.block_is))
            ∙ input_size s.args.rate _ s.requires.rate_is s.requires.block_is;
      };
      block_is = s.requires.block_is;
    }

pub returns : goal.returns
returns c =
    let s = c in
    let e = c.take_out in
    let t = c.read_coded in record {
      value = t.ensures.value ∙ judged_coded s.args.rate s.args.word.now e.new.coded s.requires.rate_is e.ensures;
      block_after = t.ensures.block_after ∙ ap (λ (b : List ℕ). after (answer_of t.result) b s.args.block.now) (block_coded s.args.rate s.args.word.now e.new.coded s.requires.rate_is e.ensures);
    }
