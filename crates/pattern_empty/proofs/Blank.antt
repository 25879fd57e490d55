-- Empty bytes have no pulse, and slots without one are passed.
use mathlib.Core.Path.{◌≡◌, sym, ap, ◌∙◌}
use mathlib.Core.List.{List}
use Prim.Native.Nat.{ℕ, ◌+◌, ◌-◌, ◌*◌, ◌/◌, ◌%◌, ◌^◌, ◌≤◌, ◌<◌}
use native.Mathlib.Omega.{arith}
use native.Mathlib.Nat.{zero-div}
use lib.ListN.{get_or}
use borrow.Author.Tests.{eq-eqb}
use Rattle.bits.specs.Basics.{up_to}
use Rattle.bits.specs.Pack.{val, bit_at, cut, clear_at}
use Rattle.bits.specs.Inner.{Leads, bits_from, lesser}
use Rattle.bits.proofs.Laws.First.{first_skip}
use Rattle.bits.proofs.Laws.Pack.{val_same, cut_in}
use Rattle.bits.proofs.Laws.Window.{lesser_min, window_pass, window_stop}

pub blank : (b : List ℕ) (i n : ℕ) → ((k : ℕ) → i ≤ k → k < n → get_or b k 0 ≡ 0) → (x : ℕ) → 8 * i ≤ x → x < 8 * n → bit_at b x ≡ 0
unfolding bit_at
blank b i n empty x from to =
    ap (λ (v : ℕ). v / 2 ^ (7 - x % 8) % 2) (empty (x / 8) (omega arith) (omega arith)) ∙ ap (λ (v : ℕ). v % 2) (zero-div (2 ^ (7 - x % 8)))

pub skipped : (b : List ℕ) (x r end : ℕ) → x ≤ r → r ≤ end → ((k : ℕ) → x ≤ k → k < r → bit_at b k ≡ 0)
    → up_to (clear_at b) r end ≡ up_to (clear_at b) x end
skipped b x r end l m empty =
    let d : x + (r - x) ≡ r = omega arith in
    ap (λ (k : ℕ). up_to (clear_at b) k end) (sym d)
    ∙ first_skip (clear_at b) (r - x) end x (omega arith) (λ k g h. eq-eqb (bit_at b k) 0 (empty k g (omega arith)))

-- eight whole bytes before the end: passed where they are empty, and where they are not the first pulse is theirs
whole : (b : List ℕ) (i : ℕ) → val (λ t. bit_at b (8 * i + t)) 64 ≡ val (cut 64 (bits_from b (8 * i))) 64
whole b i = val_same (λ t. bit_at b (8 * i + t)) (cut 64 (bits_from b (8 * i))) 64 (λ k l. sym (cut_in 64 (bits_from b (8 * i)) k l))

module _ (b : List ℕ) (i end v : ℕ) (room : 8 * i + 64 ≤ end) (e : v ≡ val (λ t. bit_at b (8 * i + t)) 64) where
  pub eight_pass : v ≡ 0 → up_to (clear_at b) (8 * (i + 8)) end ≡ up_to (clear_at b) (8 * i) end
  eight_pass z =
      let m = lesser_min 64 (end - 8 * i) in
      let k : 8 * (i + 8) ≡ 8 * i + lesser 64 (end - 8 * i) = omega arith in
      ap (λ (x : ℕ). up_to (clear_at b) x end) k ∙ window_pass b (8 * i) end 64 (omega arith) (omega arith) (sym (whole b i) ∙ sym e ∙ z)

  pub eight_stop : (r : ℕ) → Leads 64 v r → 8 * i + r ≡ up_to (clear_at b) (8 * i) end
  eight_stop r l =
      let m = lesser_min r (end - 8 * i) in
      let s = l.small in
      let k : r ≡ lesser r (end - 8 * i) = omega arith in
      ap (λ (x : ℕ). 8 * i + x) k ∙ sym (window_stop b (8 * i) end 64 r (omega arith) (rw (e ∙ whole b i) at l))
