-- The lengths that pass, the slots that are cut out, and that the answers fit the number that C gets.
use mathlib.Core.Path.{◌≡◌, refl, ◌∙◌}
use mathlib.Core.Bool.{Bool, true}
use mathlib.Core.List.{List}
use mathlib.Core.Logic.{⊎_elim}
use Prim.Native.Nat.{ℕ, ◌+◌, ◌*◌, ◌≤◌, ◌<◌}
use native.Mathlib.Omega.{arith}
use lib.ListN.{length}
use borrow.Author.Tests.{le-leb, eq-eqb}
use Rattle.bits.proofs.Laws.Choice.{lt_or_le}
use Rattle.bits.specs.Pack.{bit_at, cut, Bits}
use Rattle.bits.proofs.Laws.Pack.{bit_lt, length_bytes, bit_bytes, bit_bytes_past, cut_in, cut_past, cut_bits as bits-cut}
use Rattle.answers.specs.Answer.{ask}
use Rattle.answers.specs.Inner.{Fits}
use Rattle.answers.proofs.Laws.Answer.{fits_ask, fits_then}
use Rattle.header.specs.Header.{fields_of}
use Rattle.header.specs.declared.Fields.{Fields}
use Rattle.header_sizes.specs.Quantities.{slot_count, slot_bytes}
use Rattle.header_questions.specs.Questions.{header_says}
use Rattle.header_questions.proofs.Laws.Good.{header_fits}
use Rattle.capture_search.specs.Search.{capture_most}
use Rattle.capture_cut.specs.Cut.{cut_of, cut_lengths_right, cut_says}

-- the lengths, and their test
pub record Right (f : Fields) (capture_length s slots_length : ℕ) : Type 0 where
  pub most : capture_length ≤ capture_most
  pub slots_are : slots_length ≡ slot_bytes f
  pub inside : s + slot_count f ≤ 8 * capture_length

pub are_lengths : (f : Fields) (n s m : ℕ) → Right f n s m → cut_lengths_right f n s m ≡ true
unfolding cut_lengths_right
are_lengths f n s m r =
    rw (le-leb n capture_most r.most, eq-eqb m (slot_bytes f) r.slots_are, le-leb (s + slot_count f) (8 * n) r.inside) refl

pub cut_fits : (header : List ℕ) (n s m : ℕ) → Fits (cut_says header n s m)
unfolding cut_says
cut_fits header n s m =
    let t : Bool = cut_lengths_right (fields_of header) n s m in
    fits_then (header_says header) (ask t 8 0) (header_fits header) (λ e. fits_ask t 8 0 (omega arith) (omega arith) (λ z. omega arith))

-- the slots that are cut out are those of the capture, with spare bits of 0
pub cut_bits : (f : Fields) (b : List ℕ) (s : ℕ)
    → (length (cut_of f b s) ≡ slot_bytes f)
    × ((i : ℕ) → i < slot_count f → bit_at (cut_of f b s) i ≡ bit_at b (s + i))
    × ((i : ℕ) → slot_count f ≤ i → bit_at (cut_of f b s) i ≡ 0)
unfolding cut_of slot_bytes
cut_bits f b s =
    let n : ℕ = slot_bytes f in
    let x : ℕ → ℕ = λ i. bit_at b (s + i) in
    let bits : Bits (cut (slot_count f) x) = bits-cut (slot_count f) x (λ i. bit_lt b (s + i)) in (
      length_bytes n (cut (slot_count f) x),
      λ i l. bit_bytes n (cut (slot_count f) x) bits i (omega arith) ∙ cut_in (slot_count f) x i l,
      λ i l. ⊎_elim
          (λ (h : i < 8 * n). bit_bytes n (cut (slot_count f) x) bits i h ∙ cut_past (slot_count f) x i l)
          (λ (h : 8 * n ≤ i). bit_bytes_past n (cut (slot_count f) x) i h)
          (lt_or_le i (8 * n)),
    )
