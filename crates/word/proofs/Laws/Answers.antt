-- What the word calls answer: each refusal, acceptance, and which numbers there are.
use mathlib.Core.Path.{◌≡◌, refl}
use mathlib.Core.Bool.{Bool, true, false}
use mathlib.Core.List.{List, [], ◌∷◌}
use Prim.Native.Nat.{ℕ, ◌+◌, ◌≤◌, ◌<◌}
use native.Mathlib.Omega.{arith}
use lib.Dec.{ltb, eqb}
use lib.ListN.{length}
use borrow.Author.Tests.{lt-ltb, le-ltb, eq-eqb, ne_eqb, ltb-true, eqb-true}
use Rattle.bits.specs.Basics.{both, up_to}
use Rattle.bits.specs.Pack.{val}
use Rattle.bits.proofs.Laws.Table.{both_true}
use Rattle.bits.proofs.Laws.First.{up_to_le}
use Rattle.sizes.specs.Sizes.{info_bits, block_bytes, word_bits, word_bytes}
use Rattle.crc.specs.Check.{register}
use Rattle.convolution.specs.Code.{encode, decode}
use Rattle.answers.specs.Answer.{Done, No, number_of, ask, then, among}
use Rattle.answers.proofs.Laws.Answer.{then_done, ask_done, fits_ask, fits_then, among_ask, among_then}
use Rattle.answers.specs.Inner.{Fits}
use Rattle.word.specs.Word.{coded_in, input_in, agrees, first_wrong, ends_in_zeros, check_right, word_write_says, judged, word_read_says}
use Rattle.word.proofs.Laws.Word.{Sound, sound}
use Rattle.word.specs.Inner.{WriteAccepted}

-- ---- the writer

module _ (rate : ℕ) (block : List ℕ) (n : ℕ) where
  pub write_rate : 3 ≤ rate → word_write_says rate block n ≡ No 2 0
  unfolding word_write_says
  write_rate h = rw (le-ltb rate 3 h) refl

  module _ (h : rate < 3) where
    pub write_block_length : (length block ≡ block_bytes rate → ⊥) → word_write_says rate block n ≡ No 8 0
    unfolding word_write_says
    write_block_length ne = rw (lt-ltb rate 3 h, ne_eqb (length block) (block_bytes rate) ne) refl

    module _ (e : length block ≡ block_bytes rate) where
      pub write_word_length : (n ≡ word_bytes → ⊥) → word_write_says rate block n ≡ No 8 0
      unfolding word_write_says
      write_word_length ne = rw (lt-ltb rate 3 h, eq-eqb (length block) (block_bytes rate) e, ne_eqb n word_bytes ne) refl

      pub write_done : n ≡ word_bytes → word_write_says rate block n ≡ Done
      unfolding word_write_says
      write_done w = rw (lt-ltb rate 3 h, eq-eqb (length block) (block_bytes rate) e, eq-eqb n word_bytes w) refl

pub write_accepted : (rate : ℕ) (block : List ℕ) (n : ℕ) → word_write_says rate block n ≡ Done → WriteAccepted rate block n
unfolding word_write_says
write_accepted rate block n e =
    let q2 = then_done (ask (ltb rate 3) 2 0) (ask (both (eqb (length block) (block_bytes rate)) (eqb n word_bytes)) 8 0) e in
    let l = both_true (eqb (length block) (block_bytes rate)) (eqb n word_bytes) (ask_done (both (eqb (length block) (block_bytes rate)) (eqb n word_bytes)) 8 0 q2.1) in
    record {
      rate_is = ltb-true rate 3 (ask_done (ltb rate 3) 2 0 q2.0);
      block_is = eqb-true (length block) (block_bytes rate) l.0;
      word_is = eqb-true n word_bytes l.1;
    }

-- a block of the right length is accepted, whatever its spare bits
pub always_written : (rate : ℕ) (block : List ℕ) → rate < 3 → length block ≡ block_bytes rate → word_write_says rate block word_bytes ≡ Done
always_written rate block h e = write_done rate block word_bytes h e refl

-- ---- the reader

module _ (rate : ℕ) (c x : ℕ → ℕ) where
  pub judged_miscoded : (first_wrong rate c x ≡ word_bits → ⊥) → judged rate c x ≡ (No 13 (first_wrong rate c x))
  unfolding judged
  judged_miscoded ne = rw (ne_eqb (first_wrong rate c x) word_bits ne) refl

  module _ (e : first_wrong rate c x ≡ word_bits) where
    pub judged_unterminated : ends_in_zeros rate x ≡ false → judged rate c x ≡ No 14 0
    unfolding judged
    judged_unterminated z = rw (eq-eqb (first_wrong rate c x) word_bits e, z) refl

    module _ (z : ends_in_zeros rate x ≡ true) where
      pub judged_check : check_right rate x ≡ false → judged rate c x ≡ No 15 0
      unfolding judged
      judged_check r = rw (eq-eqb (first_wrong rate c x) word_bits e, z, r) refl

      pub judged_done : check_right rate x ≡ true → judged rate c x ≡ Done
      unfolding judged
      judged_done r = rw (eq-eqb (first_wrong rate c x) word_bits e, z, r) refl

module _ (rate : ℕ) (word : List ℕ) (n : ℕ) where
  pub read_rate : 3 ≤ rate → word_read_says rate word n ≡ No 2 0
  unfolding word_read_says
  read_rate h = rw (le-ltb rate 3 h) refl

  module _ (h : rate < 3) where
    pub read_word_length : (length word ≡ word_bytes → ⊥) → word_read_says rate word n ≡ No 8 0
    unfolding word_read_says
    read_word_length ne = rw (lt-ltb rate 3 h, ne_eqb (length word) word_bytes ne) refl

    module _ (e : length word ≡ word_bytes) where
      pub read_block_length : (n ≡ block_bytes rate → ⊥) → word_read_says rate word n ≡ No 8 0
      unfolding word_read_says
      read_block_length ne = rw (lt-ltb rate 3 h, eq-eqb (length word) word_bytes e, ne_eqb n (block_bytes rate) ne) refl

      pub read_judged : n ≡ block_bytes rate → word_read_says rate word n ≡ judged rate (coded_in word) (input_in rate word)
      unfolding word_read_says
      read_judged b = rw (lt-ltb rate 3 h, eq-eqb (length word) word_bytes e, eq-eqb n (block_bytes rate) b) refl

pub record ReadAccepted (rate : ℕ) (word : List ℕ) (n : ℕ) : Type 0 where
  pub rate_is : rate < 3
  pub word_is : length word ≡ word_bytes
  pub block_is : n ≡ block_bytes rate
  pub sound_is : Sound rate word

pub read_accepted : (rate : ℕ) (word : List ℕ) (n : ℕ) → word_read_says rate word n ≡ Done → ReadAccepted rate word n
unfolding word_read_says judged
read_accepted rate word n e =
    let x : ℕ → ℕ = input_in rate word in
    let at : ℕ = first_wrong rate (coded_in word) x in
    let q2 = then_done (ask (ltb rate 3) 2 0) _ e in
    let q8 = then_done (ask (both (eqb (length word) word_bytes) (eqb n (block_bytes rate))) 8 0) _ q2.1 in
    let q13 = then_done (ask (eqb at word_bits) 13 at) _ q8.1 in
    let q14 = then_done (ask (ends_in_zeros rate x) 14 0) (ask (check_right rate x) 15 0) q13.1 in
    let l = both_true (eqb (length word) word_bytes) (eqb n (block_bytes rate)) (ask_done (both (eqb (length word) word_bytes) (eqb n (block_bytes rate))) 8 0 q8.0) in
    record {
      rate_is = ltb-true rate 3 (ask_done (ltb rate 3) 2 0 q2.0);
      word_is = eqb-true (length word) word_bytes l.0;
      block_is = eqb-true n (block_bytes rate) l.1;
      sound_is = sound rate word (eqb-true at word_bits (ask_done (eqb at word_bits) 13 at q13.0)) (ask_done (ends_in_zeros rate x) 14 0 q14.0) (ask_done (check_right rate x) 15 0 q14.1);
    }

-- ---- the answers fit the number that C gets

pub write_fits : (rate : ℕ) (block : List ℕ) (n : ℕ) → Fits (word_write_says rate block n)
unfolding word_write_says
write_fits rate block n =
    fits_then (ask (ltb rate 3) 2 0) _ (fits_ask (ltb rate 3) 2 0 (omega arith) (omega arith) (λ z. omega arith))
    (λ e. fits_ask (both (eqb (length block) (block_bytes rate)) (eqb n word_bytes)) 8 0 (omega arith) (omega arith) (λ z. omega arith))

pub read_fits : (rate : ℕ) (word : List ℕ) (n : ℕ) → Fits (word_read_says rate word n)
unfolding word_read_says judged first_wrong
read_fits rate word n =
    let x : ℕ → ℕ = input_in rate word in
    let at : ℕ = first_wrong rate (coded_in word) x in
    let small : at ≤ word_bits = up_to_le (agrees rate (coded_in word) x) word_bits in
    fits_then (ask (ltb rate 3) 2 0) _ (fits_ask (ltb rate 3) 2 0 (omega arith) (omega arith) (λ z. omega arith))
    (λ e. fits_then (ask (both (eqb (length word) word_bytes) (eqb n (block_bytes rate))) 8 0) _
    (fits_ask (both (eqb (length word) word_bytes) (eqb n (block_bytes rate))) 8 0 (omega arith) (omega arith) (λ z. omega arith))
    (λ f. fits_then (ask (eqb at word_bits) 13 at) _ (fits_ask (eqb at word_bits) 13 at (omega arith) (omega arith) (λ z. omega arith))
    (λ g. fits_then (ask (ends_in_zeros rate x) 14 0) (ask (check_right rate x) 15 0) (fits_ask (ends_in_zeros rate x) 14 0 (omega arith) (omega arith) (λ z. omega arith))
    (λ h. fits_ask (check_right rate x) 15 0 (omega arith) (omega arith) (λ z. omega arith)))))

-- ---- the numbers that the two calls can answer

pub write_numbers : (rate : ℕ) (block : List ℕ) (n : ℕ) → among (0 ∷ 2 ∷ 8 ∷ []) (number_of (word_write_says rate block n)) ≡ true
unfolding word_write_says
write_numbers rate block n =
    let ns : List ℕ = 0 ∷ 2 ∷ 8 ∷ [] in
    let right : Bool = both (eqb (length block) (block_bytes rate)) (eqb n word_bytes) in
    among_then ns (ask (ltb rate 3) 2 0) (ask right 8 0) (among_ask ns (ltb rate 3) 2 0 refl refl) (among_ask ns right 8 0 refl refl)

pub read_numbers : (rate : ℕ) (word : List ℕ) (n : ℕ) → among (0 ∷ 2 ∷ 8 ∷ 13 ∷ 14 ∷ 15 ∷ []) (number_of (word_read_says rate word n)) ≡ true
unfolding word_read_says judged
read_numbers rate word n =
    let ns : List ℕ = 0 ∷ 2 ∷ 8 ∷ 13 ∷ 14 ∷ 15 ∷ [] in
    let x : ℕ → ℕ = input_in rate word in
    let at : ℕ = first_wrong rate (coded_in word) x in
    let right : Bool = both (eqb (length word) word_bytes) (eqb n (block_bytes rate)) in
    among_then ns (ask (ltb rate 3) 2 0) _ (among_ask ns (ltb rate 3) 2 0 refl refl)
    (among_then ns (ask right 8 0) _ (among_ask ns right 8 0 refl refl)
    (among_then ns (ask (eqb at word_bits) 13 at) _ (among_ask ns (eqb at word_bits) 13 at refl refl)
    (among_then ns (ask (ends_in_zeros rate x) 14 0) (ask (check_right rate x) 15 0) (among_ask ns (ends_in_zeros rate x) 14 0 refl refl)
    (among_ask ns (check_right rate x) 15 0 refl refl))))

-- ---- the questions of each call, in their order, with their numbers

pub write_asks : (rate : ℕ) (block : List ℕ) (n : ℕ)
    → word_write_says rate block n
    ≡ then (ask (ltb rate 3) 2 0)
    (ask (both (eqb (length block) (block_bytes rate)) (eqb n word_bytes)) 8 0)
unfolding word_write_says
write_asks rate block n = refl

pub read_asks : (rate : ℕ) (word : List ℕ) (n : ℕ)
    → word_read_says rate word n
    ≡ then (ask (ltb rate 3) 2 0)
    (then (ask (both (eqb (length word) word_bytes) (eqb n (block_bytes rate))) 8 0)
    (then (ask (eqb (first_wrong rate (coded_in word) (input_in rate word)) word_bits) 13 (first_wrong rate (coded_in word) (input_in rate word)))
    (then (ask (ends_in_zeros rate (input_in rate word)) 14 0)
    (ask (check_right rate (input_in rate word)) 15 0))))
unfolding word_read_says judged
read_asks rate word n = refl

-- the same with 13 to 15 together, as the code asks them
pub read_judges : (rate : ℕ) (word : List ℕ) (n : ℕ)
    → word_read_says rate word n
    ≡ then (ask (ltb rate 3) 2 0)
    (then (ask (both (eqb (length word) word_bytes) (eqb n (block_bytes rate))) 8 0)
    (judged rate (coded_in word) (input_in rate word)))
unfolding word_read_says
read_judges rate word n = refl

-- and what 13, 14 and 15 ask of the coded bits and of the input bits that are read from them
pub questions_opened : (rate : ℕ) (word : List ℕ) (x : ℕ → ℕ) → x ≡ decode rate (coded_in word)
    → (first_wrong rate (coded_in word) (input_in rate word) ≡ up_to (λ j. eqb (coded_in word j) (encode rate x j)) 0 word_bits)
    × (ends_in_zeros rate (input_in rate word) ≡ both (eqb (x (info_bits rate + 32)) 0) (eqb (x (info_bits rate + 33)) 0))
    × (check_right rate (input_in rate word) ≡ eqb (val (λ i. x (info_bits rate + i)) 32) (register x (info_bits rate)))
unfolding first_wrong agrees ends_in_zeros check_right input_in
questions_opened rate word x e = rw e (refl, refl, refl)
