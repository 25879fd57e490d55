-- One start after another: those that are passed, the one that is left, and the one that is found.
use mathlib.Core.Path.{◌≡◌, refl, ap, ◌∙◌}
use mathlib.Core.Bool.{Bool, true, false, not}
use mathlib.Core.List.{List}
use mathlib.Core.Logic.{⊎_elim}
use Prim.Native.Nat.{ℕ, ◌+◌, ◌-◌, ◌*◌, ◌/◌, ◌%◌, ◌^◌, ◌≤◌, ◌<◌}
use native.Mathlib.Omega.{arith}
use lib.Dec.{eqb}
use lib.ListN.{length, get_or}
use borrow.Author.Tests.{eqb-true}
use Rattle.bits.proofs.Laws.Choice.{lt_or_le, eq_or_ne}
use Rattle.bits.specs.Basics.{up_to}
use Rattle.bits.proofs.Laws.First.{first_on, first_here, first_skip, first_same, same_from, found}
use Rattle.bits.specs.Pack.{bit_at, clear_at, first_set}
use Rattle.pattern_search.proofs.Laws.Starts.{stands_all, all_stands}
use Rattle.pattern_search.specs.Inner.{Candidates, Passes, Next}
use Rattle.pattern_look.specs.Inner.{Agrees}
use Rattle.pattern_search.specs.Starts.{right, first_mismatch, stands, missed}

-- ---- the next start

-- of the starts from x on, r is the next with a pulse at slot `first`
pub record Pulsed (b : List ℕ) (first x end r : ℕ) : Type 0 where
  pub least : x ≤ r
  pub most : r ≤ end
  pub empty : (k : ℕ) → x ≤ k → k < r → bit_at b (k + first) ≡ 0

pub pulsed : (b : List ℕ) (first x end q : ℕ) → x ≤ end → q ≡ first_set b (x + first) (end + first) → Pulsed b first x end (q - first)
unfolding first_set
pulsed b first x end q h e =
    let f = found (clear_at b) (x + first) (end + first) (omega arith) in
    let eq : q ≡ up_to (clear_at b) (x + first) (end + first) = e in
    let least = f.least in
    let most = f.most in
    record {
      least = omega arith;
      most = omega arith;
      empty = λ k l u. eqb-true (bit_at b (k + first)) 0 (f.before (k + first) (omega arith) (omega arith));
    }

-- and one with a pulse at slot `last` too is looked for
pub next_begin : (b : List ℕ) (first last x end r : ℕ) → Pulsed b first x end r → Next b first last x end r
next_begin b first last x end r p = record { least = p.least; most = p.most; none = λ k l u one other. let z = p.empty k l u in omega arith }

pub next_more : (b : List ℕ) (first last x end at r : ℕ) → Next b first last x end at → bit_at b (at + last) ≡ 0 → Pulsed b first (at + 1) end r
    → Next b first last x end r
next_more b first last x end at r n e p =
    record {
      least = let a = n.least in let c = p.least in omega arith;
      most = p.most;
      none = λ k l u one other. ⊎_elim
          (λ (h : k < at). n.none k l h one other)
          (λ (h : at ≤ k). ⊎_elim
          (λ (q : k ≡ at). let z : bit_at b (k + last) ≡ 0 = ap (λ (i : ℕ). bit_at b (i + last)) q ∙ e in omega arith)
          (λ (q : k ≡ at → ⊥).
          let m : at + 1 ≤ k = ⊎_elim (λ (v : k < at + 1). absurd (q (omega arith))) (λ (v : at + 1 ≤ k). v) (lt_or_le k (at + 1)) in
          let z = p.empty k m u in
          omega arith)
          (eq_or_ne k at))
          (lt_or_le k at);
    }

-- ---- all of them

-- one wrong slot is enough
wrong_misses : (marker : ℕ → ℕ) (n : ℕ) (b : List ℕ) (x i : ℕ) → i < n → (bit_at b (x + i) ≡ marker i → ⊥) → missed marker n b x ≡ true
wrong_misses marker n b x i l ne = cases (stands marker n b x) refl
  where
    cases : (t : Bool) → stands marker n b x ≡ t → not t ≡ true
    cases true e = absurd (ne (stands_all marker n b x e i l))
    cases false e = refl

module _ (b marker : List ℕ) (n first last from end : ℕ) (h : Candidates b marker n first last from end) where
  pub passes : (x : ℕ) → x ≤ end → Passes b x first last end
  passes x l =
      let s = h.begins in
      let e = s.ends in
      let f = s.first_in in
      let g = s.last_in in
      record { eight = h.long; most = s.most; order = l; room_first = omega arith; room_last = omega arith }

  -- a start without a pulse where the marker has its first, or its last, is none
  pub passed : (x r : ℕ) → Next b first last x end r → up_to (missed (bit_at marker) n b) r end ≡ up_to (missed (bit_at marker) n b) x end
  passed x r next =
      let s = h.begins in
      let t : ℕ → Bool = missed (bit_at marker) n b in
      let a = next.least in
      let c = next.most in
      let e : r ≡ x + (r - x) = omega arith in
      ap (λ (y : ℕ). up_to t y end) e
      ∙ first_skip t (r - x) end x (omega arith) (λ k l m.
      ⊎_elim
      (λ (q : bit_at b (k + first) ≡ 1).
      wrong_misses (bit_at marker) n b k last s.last_in (λ z. next.none k l (omega arith) q (z ∙ s.last_pulse)))
      (λ (q : bit_at b (k + first) ≡ 1 → ⊥). wrong_misses (bit_at marker) n b k first s.first_in (λ z. q (z ∙ s.first_pulse)))
      (eq_or_ne (bit_at b (k + first)) 1))

  -- nor is one with a wrong slot
  pub left : (x i r : ℕ) → x < end → i < n → (bit_at b (x + i) ≡ bit_at marker i → ⊥) → Next b first last (x + 1) end r
      → up_to (missed (bit_at marker) n b) r end ≡ up_to (missed (bit_at marker) n b) x end
  left x i r l k wrong next = passed (x + 1) r next ∙ first_on (missed (bit_at marker) n b) end x l (wrong_misses (bit_at marker) n b x i k wrong)

  -- one with n right slots is
  pub here : (x : ℕ) → x < end → ((k : ℕ) → k < n → bit_at b (x + k) ≡ bit_at marker k) → up_to (missed (bit_at marker) n b) x end ≡ x
  here x l right = first_here (missed (bit_at marker) n b) end x l (ap not (all_stands (bit_at marker) n b x right))

-- r slots more are right
pub more : (b marker : List ℕ) (x i n r : ℕ) → Agrees b (x + i) marker i n r → ((k : ℕ) → k < i → bit_at b (x + k) ≡ bit_at marker k)
    → (k : ℕ) → k < i + r → bit_at b (x + k) ≡ bit_at marker k
more b marker x i n r agrees before k l =
    ⊎_elim
    (λ (a : k < i). before k a)
    (λ (a : i ≤ k).
    let y : x + k ≡ x + i + (k - i) = omega arith in
    let z : i + (k - i) ≡ k = omega arith in
    ap (bit_at b) y ∙ agrees.same (k - i) (omega arith) ∙ ap (bit_at marker) z)
    (lt_or_le k i)

-- the bits of bytes that were copied
copied_bit : (b room : List ℕ) → ((k : ℕ) → k < length b → get_or room k 0 ≡ get_or b k 0) → (x : ℕ) → x < 8 * length b → bit_at room x ≡ bit_at b x
unfolding bit_at
copied_bit b room same x l = ap (λ (v : ℕ). v / 2 ^ (7 - x % 8) % 2) (same (x / 8) (omega arith))

-- a short capture with zeros after it: its starts are as they were
pub padded : (b room marker : List ℕ) (n from end : ℕ) → ((k : ℕ) → k < length b → get_or room k 0 ≡ get_or b k 0) → end + n ≤ 8 * length b + 1
    → up_to (missed (bit_at marker) n room) from end ≡ up_to (missed (bit_at marker) n b) from end
unfolding stands first_mismatch
padded b room marker n from end same h =
    same_from (missed (bit_at marker) n room) (missed (bit_at marker) n b) (end - from) from (λ x a l.
    ap (λ (k : ℕ). not (eqb k n)) (first_same (right (bit_at marker) room x) (right (bit_at marker) b x) n (λ i u.
    ap (λ (v : ℕ). eqb v (bit_at marker i)) (copied_bit b room same (x + i) (omega arith)))))
