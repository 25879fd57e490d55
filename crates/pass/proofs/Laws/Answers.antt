-- The two calls' answers, and what an acceptance says.
use mathlib.Core.Path.{◌≡◌, refl, sym, ap, ◌∙◌}
use mathlib.Core.Bool.{Bool, true, false}
use mathlib.Core.List.{List, [], ◌∷◌}
use Prim.Native.Nat.{ℕ, ◌*◌, ◌/◌, ◌≤◌, ◌<◌}
use native.Mathlib.Omega.{arith}
use lib.Dec.{ltb, leb, eqb}
use lib.ListN.{length}
use borrow.Author.Tests.{lt-ltb, le-leb, eq-eqb, ltb-true, leb-true, eqb-true}
use Rattle.bits.specs.Basics.{both}
use Rattle.bits.proofs.Laws.Table.{both_true}
use Rattle.bits.proofs.Laws.First.{first_here, found_at}
use Rattle.bits.specs.Pack.{piece}
use Rattle.bits.proofs.Laws.Pieces.{length_piece}
use Rattle.answers.specs.Answer.{Answer, Done, No, number_of, ask, then, is_done, put_in_order, among}
use Rattle.answers.proofs.Laws.Answer.{then_done, ask_done, fits_ask, fits_then, all_done, done_all, order_no, fits_order, among_ask, among_then, among_order}
use Rattle.answers.specs.Inner.{Fits}
use Rattle.sizes.specs.Sizes.{block_bytes, word_bytes}
use Rattle.sizes.proofs.Laws.Rate.{block_size, info_pos}
use Rattle.word.proofs.Laws.Exports as word_laws
use Rattle.pass.specs.Pass.{pass_most, blocks_in, words_in, pass_lengths_right, pass_block_says, pass_word_says, pass_write_says, pass_read_says}
use Rattle.pass.proofs.Laws.Row.{inside, whole}

-- a block has bytes
pub block_pos : (rate : ℕ) → rate < 3 → 0 < block_bytes rate
block_pos rate h = omega (arith, block_size rate h, info_pos rate)

-- the counts of whole pieces
pub blocks_count : (rate n : ℕ) (blocks : List ℕ) → rate < 3 → length blocks ≡ n * block_bytes rate → blocks_in rate blocks ≡ n
blocks_count rate n blocks h e = ap (λ (x : ℕ). x / block_bytes rate) e ∙ whole n (block_bytes rate) (block_pos rate h)

pub words_count : (n : ℕ) (words : List ℕ) → length words ≡ n * word_bytes → words_in words ≡ n
words_count n words e = ap (λ (x : ℕ). x / word_bytes) e ∙ whole n word_bytes (omega arith)

-- ---- question 8

pub record Right (n size blocks_length words_length : ℕ) : Type 0 where
  pub some : 1 ≤ n
  pub few : n ≤ pass_most
  pub blocks_are : blocks_length ≡ n * size
  pub words_are : words_length ≡ n * word_bytes

pub right : (n size b w : ℕ) → Right n size b w → pass_lengths_right n size b w ≡ true
unfolding pass_lengths_right
right n size b w r =
    rw (le-leb 1 n r.some, le-leb n pass_most r.few, eq-eqb b (n * size) r.blocks_are, eq-eqb w (n * word_bytes) r.words_are) refl

pub right_said : (n size b w : ℕ) → pass_lengths_right n size b w ≡ true → Right n size b w
unfolding pass_lengths_right
right_said n size b w e =
    let p = both_true (leb 1 n) (both (leb n pass_most) (both (eqb b (n * size)) (eqb w (n * word_bytes)))) e in
    let q = both_true (leb n pass_most) (both (eqb b (n * size)) (eqb w (n * word_bytes))) p.1 in
    let r = both_true (eqb b (n * size)) (eqb w (n * word_bytes)) q.1 in
    record { some = leb-true 1 n p.0; few = leb-true n pass_most q.0; blocks_are = eqb-true b (n * size) r.0; words_are = eqb-true w (n * word_bytes) r.1 }

-- ---- the writer

module _ (rate : ℕ) (blocks : List ℕ) (m : ℕ) (h : rate < 3) where
  pub write_each : pass_lengths_right (blocks_in rate blocks) (block_bytes rate) (length blocks) m ≡ true → pass_write_says rate blocks m ≡ put_in_order (blocks_in rate blocks) (pass_block_says rate blocks)
  unfolding pass_write_says
  write_each e = rw (lt-ltb rate 3 h, e) refl

  -- no block of the right length is refused
  pub write_done : pass_lengths_right (blocks_in rate blocks) (block_bytes rate) (length blocks) m ≡ true → pass_write_says rate blocks m ≡ Done
  write_done e =
      let r = right_said (blocks_in rate blocks) (block_bytes rate) (length blocks) m e in
      write_each e ∙ done_all (blocks_in rate blocks) (pass_block_says rate blocks) (λ j l.
      word_laws.always_written rate (piece (block_bytes rate) blocks j) h
      (length_piece (block_bytes rate) blocks j (omega (arith, inside (blocks_in rate blocks) (block_bytes rate) j l, r.blocks_are))))

-- what an acceptance says
pub record Accepted (rate n blocks_length words_length : ℕ) (say : ℕ → Answer) : Type 0 where
  pub rate_is : rate < 3
  pub right_is : Right n (block_bytes rate) blocks_length words_length
  pub each : (j : ℕ) → j < n → say j ≡ Done

pub write_accepted : (rate : ℕ) (blocks : List ℕ) (m : ℕ) → pass_write_says rate blocks m ≡ Done → Accepted rate (blocks_in rate blocks) (length blocks) m (pass_block_says rate blocks)
unfolding pass_write_says
write_accepted rate blocks m e =
    let n : ℕ = blocks_in rate blocks in
    let test : Bool = pass_lengths_right n (block_bytes rate) (length blocks) m in
    let q2 = then_done (ask (ltb rate 3) 2 0) (then (ask test 8 0) (put_in_order n (pass_block_says rate blocks))) e in
    let q8 = then_done (ask test 8 0) (put_in_order n (pass_block_says rate blocks)) q2.1 in
    record {
      rate_is = ltb-true rate 3 (ask_done (ltb rate 3) 2 0 q2.0);
      right_is = right_said n (block_bytes rate) (length blocks) m (ask_done test 8 0 q8.0);
      each = all_done n (pass_block_says rate blocks) q8.1;
    }

-- every count from 1 to 211 is accepted
pub write_all : (rate : ℕ) (blocks : List ℕ) (n m : ℕ) → rate < 3 → 1 ≤ n → n ≤ pass_most → length blocks ≡ n * block_bytes rate → m ≡ n * word_bytes → pass_write_says rate blocks m ≡ Done
write_all rate blocks n m h some few eb ew =
    let c : blocks_in rate blocks ≡ n = blocks_count rate n blocks h eb in
    write_done rate blocks m h (ap (λ (x : ℕ). pass_lengths_right x (block_bytes rate) (length blocks) m) c ∙ right n (block_bytes rate) (length blocks) m (record { some = some; few = few; blocks_are = eb; words_are = ew }))

-- ---- the reader

module _ (rate : ℕ) (words : List ℕ) (m : ℕ) (h : rate < 3) where
  pub read_each : pass_lengths_right (words_in words) (block_bytes rate) m (length words) ≡ true → pass_read_says rate words m ≡ put_in_order (words_in words) (pass_word_says rate words)
  unfolding pass_read_says
  read_each e = rw (lt-ltb rate 3 h, e) refl

pub read_accepted : (rate : ℕ) (words : List ℕ) (m : ℕ) → pass_read_says rate words m ≡ Done → Accepted rate (words_in words) m (length words) (pass_word_says rate words)
unfolding pass_read_says
read_accepted rate words m e =
    let n : ℕ = words_in words in
    let test : Bool = pass_lengths_right n (block_bytes rate) m (length words) in
    let q2 = then_done (ask (ltb rate 3) 2 0) (then (ask test 8 0) (put_in_order n (pass_word_says rate words))) e in
    let q8 = then_done (ask test 8 0) (put_in_order n (pass_word_says rate words)) q2.1 in
    record {
      rate_is = ltb-true rate 3 (ask_done (ltb rate 3) 2 0 q2.0);
      right_is = right_said n (block_bytes rate) m (length words) (ask_done test 8 0 q8.0);
      each = all_done n (pass_word_says rate words) q8.1;
    }

-- where the lengths are right, the words decide
pub read_right : (rate : ℕ) (words : List ℕ) (n m : ℕ) → rate < 3 → 1 ≤ n → n ≤ pass_most → m ≡ n * block_bytes rate → length words ≡ n * word_bytes
    → pass_read_says rate words m ≡ put_in_order n (pass_word_says rate words)
read_right rate words n m h some few eb ew =
    let c : words_in words ≡ n = words_count n words ew in
    read_each rate words m h (ap (λ (x : ℕ). pass_lengths_right x (block_bytes rate) m (length words)) c ∙ right n (block_bytes rate) m (length words) (record { some = some; few = few; blocks_are = eb; words_are = ew }))
    ∙ ap (λ (x : ℕ). put_in_order x (pass_word_says rate words)) c

-- the lowest piece that is refused gives its number, and its index is the place
pub order_lowest : (n j : ℕ) (say : ℕ → Answer) → j < n → ((i : ℕ) → i < j → say i ≡ Done) → is_done (say j) ≡ false → put_in_order n say ≡ No (number_of (say j)) j
order_lowest n j say l before bad =
    let gives : ℕ → Bool = λ j. is_done (say j) in
    sym (order_no n n j say (say j) refl l
    (first_here gives n j l bad ∙ sym (found_at gives 0 n j (omega arith) l (λ i a b. ap is_done (before i b)) bad)) refl bad)

-- ---- the answers fit the number that C gets

pub write_fits : (rate : ℕ) (blocks : List ℕ) (m : ℕ) → Fits (pass_write_says rate blocks m)
unfolding pass_write_says
write_fits rate blocks m =
    let n : ℕ = blocks_in rate blocks in
    let test : Bool = pass_lengths_right n (block_bytes rate) (length blocks) m in
    fits_then (ask (ltb rate 3) 2 0) _ (fits_ask (ltb rate 3) 2 0 (omega arith) (omega arith) (λ z. omega arith))
    (λ e. fits_then (ask test 8 0) _ (fits_ask test 8 0 (omega arith) (omega arith) (λ z. omega arith))
    (λ f. fits_order n (pass_block_says rate blocks) (omega (arith, (right_said n (block_bytes rate) (length blocks) m (ask_done test 8 0 f)).few))
    (λ j. word_laws.write_fits rate (piece (block_bytes rate) blocks j) word_bytes)))

pub read_fits : (rate : ℕ) (words : List ℕ) (m : ℕ) → Fits (pass_read_says rate words m)
unfolding pass_read_says
read_fits rate words m =
    let n : ℕ = words_in words in
    let test : Bool = pass_lengths_right n (block_bytes rate) m (length words) in
    fits_then (ask (ltb rate 3) 2 0) _ (fits_ask (ltb rate 3) 2 0 (omega arith) (omega arith) (λ z. omega arith))
    (λ e. fits_then (ask test 8 0) _ (fits_ask test 8 0 (omega arith) (omega arith) (λ z. omega arith))
    (λ f. fits_order n (pass_word_says rate words) (omega (arith, (right_said n (block_bytes rate) m (length words) (ask_done test 8 0 f)).few))
    (λ j. word_laws.read_fits rate (piece word_bytes words j) (block_bytes rate))))

-- ---- the numbers that the two calls can answer

pub write_numbers : (rate : ℕ) (blocks : List ℕ) (m : ℕ) → among (0 ∷ 2 ∷ 8 ∷ []) (number_of (pass_write_says rate blocks m)) ≡ true
unfolding pass_write_says
write_numbers rate blocks m =
    let ns : List ℕ = 0 ∷ 2 ∷ 8 ∷ [] in
    let n : ℕ = blocks_in rate blocks in
    let test : Bool = pass_lengths_right n (block_bytes rate) (length blocks) m in
    among_then ns (ask (ltb rate 3) 2 0) _ (among_ask ns (ltb rate 3) 2 0 refl refl)
    (among_then ns (ask test 8 0) (put_in_order n (pass_block_says rate blocks)) (among_ask ns test 8 0 refl refl)
    (among_order ns n (pass_block_says rate blocks) refl (λ j. word_laws.write_numbers rate (piece (block_bytes rate) blocks j) word_bytes)))

pub read_numbers : (rate : ℕ) (words : List ℕ) (m : ℕ) → among (0 ∷ 2 ∷ 8 ∷ 13 ∷ 14 ∷ 15 ∷ []) (number_of (pass_read_says rate words m)) ≡ true
unfolding pass_read_says
read_numbers rate words m =
    let ns : List ℕ = 0 ∷ 2 ∷ 8 ∷ 13 ∷ 14 ∷ 15 ∷ [] in
    let n : ℕ = words_in words in
    let test : Bool = pass_lengths_right n (block_bytes rate) m (length words) in
    among_then ns (ask (ltb rate 3) 2 0) _ (among_ask ns (ltb rate 3) 2 0 refl refl)
    (among_then ns (ask test 8 0) (put_in_order n (pass_word_says rate words)) (among_ask ns test 8 0 refl refl)
    (among_order ns n (pass_word_says rate words) refl (λ j. word_laws.read_numbers rate (piece word_bytes words j) (block_bytes rate))))
