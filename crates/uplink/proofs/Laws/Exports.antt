-- What is known of the answers: they fit the number that C gets, their numbers are these, and a refusal names the first that fails.
use mathlib.Core.Path.{◌≡◌, refl, sym, ap, ◌∙◌}
use mathlib.Core.Bool.{Bool, true, false}
use mathlib.Core.List.{List, [], ◌∷◌}
use mathlib.Core.Logic.{⊎_elim}
use Prim.Native.Nat.{ℕ, ◌*◌, ◌≤◌, ◌<◌}
use native.Mathlib.Omega.{arith}
use lib.Dec.{eqb}
use lib.ListN.{length}
use borrow.Author.Tests.{eqb-true, eqb-false}
use Rattle.bits.proofs.Laws.Choice.{lt_or_le}
use Rattle.bits.proofs.Laws.First.{up_to_le, none_fails, one_fails, passes_before}
use Rattle.answers.specs.Answer.{Done, No, number_of, ask, among}
use Rattle.answers.specs.Inner.{Fits}
use Rattle.answers.proofs.Laws.Answer.{ask_done, ask_refused, then_refused, fits_ask, fits_then, among_ask, among_then}
use Rattle.ldpc.specs.Code.{is_codeword}
use Rattle.uplink.specs.Uplink.{frame_count, codeblock_count, is_bit, received, uplink_lengths_right, first_no_bit, first_bad_block, uplink_write_says, uplink_slots_say, uplink_read_says}
use Rattle.uplink.proofs.Laws.Uplink.{Sized, lengths_sized}

below : (a n : ℕ) → a ≤ n → (a ≡ n → ⊥) → a < n
below a n l ne = ⊎_elim (λ (h : a < n). h) (λ (h : n ≤ a). absurd (ne (omega arith))) (lt_or_le a n)

-- ---- the reader's questions, where 8 is answered yes

module _ (slots : List ℕ) (m : ℕ) where
  sized : ask (uplink_lengths_right (codeblock_count slots) m (length slots)) 8 0 ≡ Done → Sized (codeblock_count slots) m (length slots)
  sized e = lengths_sized (codeblock_count slots) m (length slots) (ask_done (uplink_lengths_right (codeblock_count slots) m (length slots)) 8 0 e)

  group_le : first_no_bit slots ≤ 128 * codeblock_count slots
  unfolding first_no_bit
  group_le = up_to_le (is_bit slots) (128 * codeblock_count slots)

  block_le : first_bad_block slots ≤ codeblock_count slots
  unfolding first_bad_block
  block_le = up_to_le (λ i. is_codeword (received slots i)) (codeblock_count slots)

  pub read_fits : Fits (uplink_read_says slots m)
  unfolding uplink_read_says uplink_slots_say
  read_fits =
      fits_then (ask (uplink_lengths_right (codeblock_count slots) m (length slots)) 8 0) (uplink_slots_say slots)
      (fits_ask (uplink_lengths_right (codeblock_count slots) m (length slots)) 8 0 (omega arith) (omega arith) (λ q. omega arith)) (λ e.
      let most = (sized e).most in
      fits_then (ask (eqb (first_no_bit slots) (128 * codeblock_count slots)) 28 (first_no_bit slots))
      (ask (eqb (first_bad_block slots) (codeblock_count slots)) 29 (first_bad_block slots))
      (fits_ask (eqb (first_no_bit slots) (128 * codeblock_count slots)) 28 (first_no_bit slots) (omega arith) (omega (arith, group_le))
      (λ q. omega arith))
      (λ d. fits_ask (eqb (first_bad_block slots) (codeblock_count slots)) 29 (first_bad_block slots) (omega arith) (omega (arith, block_le))
      (λ q. omega arith)))

  pub read_numbers : among (0 ∷ 8 ∷ 28 ∷ 29 ∷ []) (number_of (uplink_read_says slots m)) ≡ true
  unfolding uplink_read_says uplink_slots_say
  read_numbers =
      among_then (0 ∷ 8 ∷ 28 ∷ 29 ∷ []) (ask (uplink_lengths_right (codeblock_count slots) m (length slots)) 8 0) (uplink_slots_say slots)
      (among_ask (0 ∷ 8 ∷ 28 ∷ 29 ∷ []) (uplink_lengths_right (codeblock_count slots) m (length slots)) 8 0 refl refl)
      (among_then (0 ∷ 8 ∷ 28 ∷ 29 ∷ []) (ask (eqb (first_no_bit slots) (128 * codeblock_count slots)) 28 (first_no_bit slots))
      (ask (eqb (first_bad_block slots) (codeblock_count slots)) 29 (first_bad_block slots))
      (among_ask (0 ∷ 8 ∷ 28 ∷ 29 ∷ []) (eqb (first_no_bit slots) (128 * codeblock_count slots)) 28 (first_no_bit slots) refl refl)
      (among_ask (0 ∷ 8 ∷ 28 ∷ 29 ∷ []) (eqb (first_bad_block slots) (codeblock_count slots)) 29 (first_bad_block slots) refl refl))

  -- a refusal by 28 or 29 comes from the questions put to the slots
  from_slots : (n p : ℕ) → (8 ≡ n → ⊥) → uplink_read_says slots m ≡ No n p → Sized (codeblock_count slots) m (length slots) × (uplink_slots_say slots ≡ No n p)
  unfolding uplink_read_says
  from_slots n p other e =
      ⊎_elim
      (λ (q : ask (uplink_lengths_right (codeblock_count slots) m (length slots)) 8 0 ≡ No n p).
      absurd (other (ask_refused (uplink_lengths_right (codeblock_count slots) m (length slots)) 8 0 n p q).1))
      (λ (q : (ask (uplink_lengths_right (codeblock_count slots) m (length slots)) 8 0 ≡ Done) × (uplink_slots_say slots ≡ No n p)). (sized q.0, q.1))
      (then_refused (ask (uplink_lengths_right (codeblock_count slots) m (length slots)) 8 0) (uplink_slots_say slots) n p e)

  -- 28: its place is the first group that is no bit
  pub bad_group : (p : ℕ) → uplink_read_says slots m ≡ No 28 p
      → (p < 128 * codeblock_count slots) × (codeblock_count slots ≤ 64) × (is_bit slots p ≡ false) × ((g : ℕ) → g < p → is_bit slots g ≡ true)
  unfolding uplink_slots_say first_no_bit
  bad_group p e =
      let from = from_slots 28 p (λ q. omega arith) e in
      let n : ℕ = 128 * codeblock_count slots in
      ⊎_elim
      (λ (q : ask (eqb (first_no_bit slots) n) 28 (first_no_bit slots) ≡ No 28 p).
      let r = ask_refused (eqb (first_no_bit slots) n) 28 (first_no_bit slots) 28 p q in
      let ne : first_no_bit slots ≡ n → ⊥ = eqb-false (first_no_bit slots) n r.0 in
      let lt : first_no_bit slots < n = below (first_no_bit slots) n group_le ne in
      let at : first_no_bit slots ≡ p = r.2 in
      (omega arith, from.0.most, ap (is_bit slots) (sym at) ∙ one_fails (is_bit slots) n lt, λ g l. passes_before (is_bit slots) n g (omega arith)))
      (λ (q : (ask (eqb (first_no_bit slots) n) 28 (first_no_bit slots) ≡ Done) ×
      (ask (eqb (first_bad_block slots) (codeblock_count slots)) 29 (first_bad_block slots) ≡ No 28 p)).
      let z = (ask_refused (eqb (first_bad_block slots) (codeblock_count slots)) 29 (first_bad_block slots) 28 p q.1).1 in
      absurd (omega arith))
      (then_refused (ask (eqb (first_no_bit slots) n) 28 (first_no_bit slots))
      (ask (eqb (first_bad_block slots) (codeblock_count slots)) 29 (first_bad_block slots)) 28 p from.1)

  -- 29: every group is a bit, and its place is the first codeblock that fails
  pub bad_block : (p : ℕ) → uplink_read_says slots m ≡ No 29 p
      → (p < codeblock_count slots) × (codeblock_count slots ≤ 64) × ((g : ℕ) → g < 128 * codeblock_count slots → is_bit slots g ≡ true)
      × (is_codeword (received slots p) ≡ false) × ((i : ℕ) → i < p → is_codeword (received slots i) ≡ true)
  unfolding uplink_slots_say first_no_bit first_bad_block
  bad_block p e =
      let from = from_slots 29 p (λ q. omega arith) e in
      let n : ℕ = codeblock_count slots in
      ⊎_elim
      (λ (q : ask (eqb (first_no_bit slots) (128 * n)) 28 (first_no_bit slots) ≡ No 29 p).
      let z = (ask_refused (eqb (first_no_bit slots) (128 * n)) 28 (first_no_bit slots) 29 p q).1 in
      absurd (omega arith))
      (λ (q : (ask (eqb (first_no_bit slots) (128 * n)) 28 (first_no_bit slots) ≡ Done) ×
      (ask (eqb (first_bad_block slots) n) 29 (first_bad_block slots) ≡ No 29 p)).
      let groups : first_no_bit slots ≡ 128 * n =
      eqb-true (first_no_bit slots) (128 * n) (ask_done (eqb (first_no_bit slots) (128 * n)) 28 (first_no_bit slots) q.0) in
      let r = ask_refused (eqb (first_bad_block slots) n) 29 (first_bad_block slots) 29 p q.1 in
      let lt : first_bad_block slots < n = below (first_bad_block slots) n block_le (eqb-false (first_bad_block slots) n r.0) in
      let at : first_bad_block slots ≡ p = r.2 in
      let good : ℕ → Bool = λ i. is_codeword (received slots i) in (
        omega arith,
        from.0.most,
        none_fails (is_bit slots) (128 * n) groups,
        ap good (sym at) ∙ one_fails good n lt,
        λ i l. passes_before good n i (omega arith),
      ))
      (then_refused (ask (eqb (first_no_bit slots) (128 * n)) 28 (first_no_bit slots))
      (ask (eqb (first_bad_block slots) n) 29 (first_bad_block slots)) 29 p from.1)

-- ---- the writer's

pub write_fits : (frames : List ℕ) (m : ℕ) → Fits (uplink_write_says frames m)
unfolding uplink_write_says
write_fits frames m = fits_ask (uplink_lengths_right (frame_count frames) (length frames) m) 8 0 (omega arith) (omega arith) (λ q. omega arith)

pub write_numbers : (frames : List ℕ) (m : ℕ) → among (0 ∷ 8 ∷ []) (number_of (uplink_write_says frames m)) ≡ true
unfolding uplink_write_says
write_numbers frames m = among_ask (0 ∷ 8 ∷ []) (uplink_lengths_right (frame_count frames) (length frames) m) 8 0 refl refl
