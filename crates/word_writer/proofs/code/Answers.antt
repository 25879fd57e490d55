-- Coded bits, then the word of them.
use mathlib.Core.Path.{refl, sym, ap, ◌∙◌}
use Prim.Native.Nat.{ℕ, ◌*◌}
use lib.ListN.{length}
use lib.Seq.{length-take-le}
use Rattle.bits.proofs.Laws.Table.{length_tab, tab_bits}
use Rattle.sizes.specs.Sizes.{word_bits}
use Rattle.word.specs.Word.{coded_of}
use Rattle.word.proofs.Laws.Word.{coded_bits, word_from_lem}
use Rattle.word.proofs.Laws.Inputs.{input_size, input_fits}
use Rattle.word_writer.proofs.code.Goals as goal

pub slice_bounds-room-end : goal.slice_bounds-room-end
slice_bounds-room-end c =
    let s = c in
    input_fits s.args.rate _ s.requires.rate_is s.requires.block_is

pub slice_bounds-encode-end : goal.slice_bounds-encode-end
slice_bounds-encode-end c =
    let s = c in
    sym (length-take-le _ _ (input_fits s.args.rate _ s.requires.rate_is s.requires.block_is))

pub encode-requires : goal.encode-requires
encode-requires c =
    let s = c in
    record {
      inputs = record {
        rate_is = s.requires.rate_is;
        block_is = s.requires.block_is;
        input_is = ap (λ (n : ℕ). 8 * n) (length-take-le _ _ (input_fits s.args.rate _ s.requires.rate_is s.requires.block_is))
            ∙ input_size s.args.rate _ s.requires.rate_is s.requires.block_is;
      };
      coded_is = refl;
    }

pub shuffle-requires : goal.shuffle-requires
shuffle-requires c =
    let s = c in
    let r = c.args.rate in
    let b = c.args.block.now in
    let e = c.encode.ensures in
    record {
      coded_is = ap length e ∙ length_tab word_bits (coded_of r b);
      bits_are = λ i. rw e (tab_bits word_bits (coded_of r b) (coded_bits r b) i);
      word_is = s.requires.word_is;
    }

pub returns : goal.returns
returns c =
    let s = c in
    c.shuffle.ensures
    ∙ word_from_lem s.args.rate s.args.block.now _ c.encode.ensures
