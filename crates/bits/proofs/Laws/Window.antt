-- What a window of up to 64 bits tells about the first one among packed bits.
use mathlib.Core.Path.{◌≡◌, sym, ap, ◌∙◌}
use mathlib.Core.Bool.{true}
use mathlib.Core.List.{List}
use mathlib.Core.Logic.{⊎_elim}
use Prim.Native.Nat.{ℕ, ◌+◌, ◌-◌, ◌≤◌, ◌<◌, min}
use native.Mathlib.Omega.{arith}
use borrow.Author.Tests.{lt-ltb, le-ltb, eq-eqb, ne_eqb}
use Rattle.bits.proofs.Laws.Choice.{lt_or_le}
use Rattle.bits.specs.Basics.{up_to}
use Rattle.bits.proofs.Laws.First.{first_skip, found, found_at, found_none}
use Rattle.bits.specs.Pack.{val, bit_at, cut, Bits, clear_at, first_set}
use Rattle.bits.proofs.Laws.Pack.{bit_lt, cut_in, cut_past, cut_bits}
use Rattle.bits.specs.Inner.{Leads, lesser, bits_from}
use Rattle.bits.proofs.Laws.Leading.{first_one, no_one}

pub lesser_le : (x y : ℕ) → (lesser x y ≤ x) × (lesser x y ≤ y)
unfolding lesser
lesser_le x y =
    ⊎_elim (λ (l : x < y). rw (lt-ltb x y l) (omega arith)) (λ (l : y ≤ x). rw (le-ltb x y l) (omega arith)) (lt_or_le x y)

pub lesser_min : (x y : ℕ) → lesser x y ≡ min x y
unfolding lesser
lesser_min x y =
    ⊎_elim (λ (l : x < y). rw (lt-ltb x y l) (omega arith)) (λ (l : y ≤ x). rw (le-ltb x y l) (omega arith)) (lt_or_le x y)

pub lesser_some : (x y : ℕ) → 1 ≤ x → 1 ≤ y → 1 ≤ lesser x y
unfolding lesser
lesser_some x y a b =
    ⊎_elim (λ (l : x < y). rw (lt-ltb x y l) a) (λ (l : y ≤ x). rw (le-ltb x y l) b) (lt_or_le x y)

-- an empty window is passed
pub window_pass : (b : List ℕ) (x end w : ℕ) → x ≤ end → w ≤ 64 → val (cut w (bits_from b x)) 64 ≡ 0
    → up_to (clear_at b) (x + lesser w (end - x)) end ≡ up_to (clear_at b) x end
window_pass b x end w h m e =
    let i = lesser_le w (end - x) in
    let bits : Bits (bits_from b x) = λ k. bit_lt b (x + k) in
    first_skip (clear_at b) (lesser w (end - x)) end x (omega arith) (λ k a l.
    let at : k ≡ x + (k - x) = omega arith in
    eq-eqb (bit_at b k) 0
    (ap (bit_at b) at
    ∙ sym (cut_in w (bits_from b x) (k - x) (omega arith))
    ∙ no_one (cut w (bits_from b x)) (cut_bits w (bits_from b x) bits) e (k - x) (omega arith)))

-- a window with a one in it shows the next one, if that is not after the end
pub window_stop : (b : List ℕ) (x end w r : ℕ) → x ≤ end → Leads 64 (val (cut w (bits_from b x)) 64) r → up_to (clear_at b) x end ≡ x + lesser r (end - x)
unfolding lesser
window_stop b x end w r h l =
    let f : ℕ → ℕ = cut w (bits_from b x) in
    let one = first_one f (cut_bits w (bits_from b x) (λ k. bit_lt b (x + k))) r l in
    let inside : r < w =
    ⊎_elim (λ (g : r < w). g) (λ (g : w ≤ r). let z : 0 ≡ 1 = sym (cut_past w (bits_from b x) r g) ∙ one.1 in absurd (omega arith)) (lt_or_le r w) in
    let none : (k : ℕ) → x ≤ k → k < x + r → clear_at b k ≡ true = λ k a g.
    let at : k ≡ x + (k - x) = omega arith in
    eq-eqb (bit_at b k) 0 (ap (bit_at b) at ∙ sym (cut_in w (bits_from b x) (k - x) (omega arith)) ∙ one.0 (k - x) (omega arith)) in
    ⊎_elim
    (λ (g : r < end - x).
    let one-here : bit_at b (x + r) ≡ 1 = sym (cut_in w (bits_from b x) r inside) ∙ one.1 in
    rw (lt-ltb r (end - x) g)
    (found_at (clear_at b) x end (x + r) (omega arith) (omega arith) none (ne_eqb (bit_at b (x + r)) 0 (λ z. omega arith))))
    (λ (g : end - x ≤ r). rw (le-ltb r (end - x) g) (found_none (clear_at b) x end h (λ k a q. none k a (omega arith)) ∙ omega arith))
    (lt_or_le r (end - x))

-- a one that is looked for from x on lies there
pub one_in : (b : List ℕ) (x end : ℕ) → x ≤ end → (x ≤ first_set b x end) × (first_set b x end ≤ end)
unfolding first_set
one_in b x end h = let f = found (clear_at b) x end h in (f.least, f.most)
