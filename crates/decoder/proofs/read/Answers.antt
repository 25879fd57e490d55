-- Read at once where nothing is wrong; otherwise the input bits are those of the definition, and so is the first coded bit that they do not make.
use mathlib.Core.Path.{◌≡◌, ap, ◌∙◌}
use Prim.Native.Nat.{ℕ}
use native.Mathlib.Omega.{arith}
use lib.Dec.{eqb}
use lib.ListN.{get_or}
use Rattle.bits.proofs.Laws.First.{first_same}
use Rattle.bits.specs.Pack.{bit_at}
use Rattle.sizes.specs.Sizes.{word_bits}
use Rattle.convolution.specs.Code.{encode, decode}
use Rattle.convolution.proofs.Laws.Code.{encode_same}
use Rattle.decoder.proofs.Agreeing.{made_bits, made_all}
use Rattle.decoder.proofs.read.Goals as goal

pub returns-then-quick-eq0 : goal.returns-then-quick-eq0
returns-then-quick-eq0 c =
    let s = c in
    let q = c.quick in
    let none : q.result ≡ 0 = omega arith in
    let made = q.ensures none in
    record {
      value = made_all s.args.rate s.args.coded.now q.new.input s.requires.rate_ok made;
      by_index = made_bits s.args.rate s.args.coded.now q.new.input s.requires.rate_ok made;
    }

pub returns : goal.returns
returns c =
    let s = c in
    let d = c.decode in
    let r = c.args.rate in
    let y : ℕ → ℕ = λ j. get_or s.args.coded.now j 0 in
    let x : ℕ → ℕ = bit_at d.new.input in record {
      value = c.first_wrong.ensures
          ∙ first_same (λ j. eqb (y j) (encode r x j)) (λ j. eqb (y j) (encode r (decode r y) j)) word_bits (λ j l.
          ap (eqb (y j)) (encode_same r x (decode r y) s.requires.rate_ok d.ensures j l));
      by_index = d.ensures;
    }
