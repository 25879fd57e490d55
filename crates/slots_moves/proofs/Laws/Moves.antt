-- A zero's pulse moved: its group then holds another symbol, and no other group is touched. A symbol's copies, one after the other.
use mathlib.Core.Path.{◌≡◌, refl, sym, ap, ap₂, ◌∙◌}
use mathlib.Core.List.{List}
use mathlib.Core.Logic.{⊎_elim}
use Prim.Native.Nat.{ℕ, ◌+◌, ◌*◌, ◌/◌, ◌%◌, ◌≤◌, ◌<◌}
use native.Mathlib.Omega.{arith}
use native.Mathlib.Nat.{le_refl, mul-le-mul, div-add-mod', div-lt_iff_lt-mul, le-div_iff_mul-le}
use lib.Arith.{digits_div, digits_mod}
use lib.Bits.{bit_xor, xor_self, xor_zero_l, xor_zero_r}
use lib.Dec.{ltb, eqb}
use lib.ListN.{length}
use borrow.Author.Tests.{lt-ltb, le-ltb, eq-eqb, ne_eqb}
use Rattle.bits.specs.Pack.{flip_bit, bit_at, Bytes}
use Rattle.bits.proofs.Laws.Change.{length_flip, flip_bit_lem}
use Rattle.bits.specs.Basics.{pick, bool}
use Rattle.bits.proofs.Laws.Choice.{lt_or_le, eq_or_ne}
use Rattle.bits.proofs.Laws.Pack.{cut_in, cut_past}
use Rattle.plan.specs.declared.Plan.{Plan}
use Rattle.plan.specs.Inner.{Fine, slot_bytes}
use Rattle.plan.specs.Plan.{sent_count}
use Rattle.channel.specs.Channel.{layout_symbols}
use Rattle.slots.proofs.Laws.Bounds.{bounds}
use Rattle.slots.specs.Writing.{symbol_at}
use Rattle.slots_moves.specs.Inner.{Copied, Of, Groups, Holds, Moved, front}

-- slot x is slot q of group s just where it is in that group and q is its place there
in_group : (g s q x : ℕ) → q < g → x / g ≡ s → eqb x (s * g + q) ≡ eqb (x % g) q
in_group g s q x l e =
    ⊎_elim
    (λ (h : x % g ≡ q).
    let at : x ≡ s * g + q = sym (div-add-mod' x g) ∙ ap₂ (λ (a b : ℕ). a * g + b) e h in
    eq-eqb x (s * g + q) at ∙ sym (eq-eqb (x % g) q h))
    (λ (h : x % g ≡ q → ⊥).
    let other : x ≡ s * g + q → ⊥ = λ z. h (ap (λ (y : ℕ). y % g) z ∙ digits_mod s l) in
    ne_eqb x (s * g + q) other ∙ sym (ne_eqb (x % g) q h))
    (eq_or_ne (x % g) q)

elsewhere : (g s q x : ℕ) → q < g → (x / g ≡ s → ⊥) → bool (eqb x (s * g + q)) ≡ 0
elsewhere g s q x l n = ap bool (ne_eqb x (s * g + q) (λ z. n (ap (λ (y : ℕ). y / g) z ∙ digits_div s l)))

-- the slots of a sent group lie within
pub inside : (p : Plan) (s q : ℕ) → s < sent_count p → q < p.group → s * p.group + q < 8 * slot_bytes p
inside p s q l h = let k : s + 1 ≤ sent_count p = omega arith in omega (arith, mul-le-mul k (le_refl p.group))

pub groups_same : (p : Plan) (f g : ℕ → ℕ) (end : ℕ) (slots : List ℕ) → ((s : ℕ) → f s ≡ g s) → Groups p f end slots → Groups p g end slots
groups_same p f g end slots same h =
    record { room = h.room; bytes = h.bytes; bits = λ x l. h.bits x l ∙ ap (λ (v : ℕ). bool (eqb (x % p.group) v)) (same (x / p.group)) }

pub holds_same : (p : Plan) (f g : ℕ → ℕ) (end : ℕ) (slots : List ℕ) → ((s : ℕ) → f s ≡ g s) → Holds p f end slots → Holds p g end slots
holds_same p f g end slots same h = groups_same p (λ u. f (u / p.copies)) (λ u. g (u / p.copies)) end slots (λ u. same (u / p.copies)) h

-- two flips of one slot are none, so that q may be 0
groups_moved : (p : Plan) (f g : ℕ → ℕ) (end s q : ℕ) (slots : List ℕ) → s < sent_count p → q < p.group → f s ≡ 0 → g s ≡ q → ((u : ℕ) → (u ≡ s → ⊥) → f u ≡ g u)
    → Groups p f end slots → (after : List ℕ) → after ≡ flip_bit (flip_bit slots (s * p.group)) (s * p.group + q) → Bytes after → Groups p g end after
groups_moved p f g end s q slots l small zero there else h after e bytes =
    let G : ℕ = p.group in
    let none : 0 < G = omega arith in
    let front : s * G + 0 ≡ s * G = omega arith in
    let low : s * G < 8 * length slots = rw h.room (let i : s * G + 0 < 8 * slot_bytes p = inside p s 0 l none in omega arith) in
    let high : s * G + q < 8 * length (flip_bit slots (s * G)) = rw (length_flip slots (s * G), h.room) (inside p s q l small) in
    let both : (x : ℕ) → bit_at after x ≡ bit_xor (bit_xor (bit_at slots x) (bool (eqb x (s * G + 0)))) (bool (eqb x (s * G + q))) = λ x.
    ap (λ (xs : List ℕ). bit_at xs x) e
    ∙ flip_bit_lem (flip_bit slots (s * G)) (s * G + q) x high
    ∙ ap (λ (v : ℕ). bit_xor v (bool (eqb x (s * G + q)))) (flip_bit_lem slots (s * G) x low ∙ ap (λ (y : ℕ). bit_xor (bit_at slots x) (bool (eqb x y))) (sym front)) in
    record {
      room = ap length e ∙ length_flip (flip_bit slots (s * G)) (s * G + q) ∙ length_flip slots (s * G) ∙ h.room;
      bytes = bytes;
      bits = λ x k. both x ∙ ⊎_elim
          (λ (d : x / G ≡ s).
          let was : bit_at slots x ≡ bool (eqb (x % G) 0) = h.bits x k ∙ ap (λ (v : ℕ). bool (eqb (x % G) v)) (ap f d ∙ zero) in
          rw (was, in_group G s 0 x none d, in_group G s q x small d, xor_self (bool (eqb (x % G) 0)), xor_zero_l (bool (eqb (x % G) q)))
          (ap (λ (v : ℕ). bool (eqb (x % G) v)) (sym (ap g d ∙ there))))
          (λ (d : x / G ≡ s → ⊥).
          rw (elsewhere G s 0 x none d, elsewhere G s q x small d, xor_zero_r (bit_at slots x), xor_zero_r (bit_at slots x))
          (h.bits x k ∙ ap (λ (v : ℕ). bool (eqb (x % G) v)) (else (x / G) d)))
          (eq_or_ne (x / G) s);
    }

-- ---- the copies of symbol s, which was 0 and is to be q

-- the sent groups before n are those of g, and the others still those of f
abbrev pub halfway : Plan → (ℕ → ℕ) → (ℕ → ℕ) → ℕ → ℕ → ℕ
halfway p f g n u = pick (ltb u n) (g (u / p.copies)) (f (u / p.copies))

module _ (p : Plan) (pos : 1 ≤ p.copies) (s : ℕ) where
  -- copy c of it
  pub copy_in : (c : ℕ) → s < layout_symbols p.layout → c < p.copies → s * p.copies + c < sent_count p
  copy_in c l h = let k : s + 1 ≤ layout_symbols p.layout = omega arith in omega (arith, mul-le-mul k (le_refl p.copies))

  module _ (f g : ℕ → ℕ) (else : (u : ℕ) → (u ≡ s → ⊥) → f u ≡ g u) (end : ℕ) where
    pub copies_begun : (slots : List ℕ) → Holds p f end slots → Groups p (halfway p f g (s * p.copies + 0)) end slots
    copies_begun slots h =
        groups_same p (λ u. f (u / p.copies)) (halfway p f g (s * p.copies + 0)) end slots (λ u. ⊎_elim
        (λ (l : u < s * p.copies + 0).
        let d : u / p.copies < s = (div-lt_iff_lt-mul pos).1 (omega arith) in
        else (u / p.copies) (λ z. omega arith) ∙ sym (rw (lt-ltb u (s * p.copies + 0) l) refl))
        (λ (l : s * p.copies + 0 ≤ u). sym (rw (le-ltb u (s * p.copies + 0) l) refl))
        (lt_or_le u (s * p.copies + 0)))
        h

    pub copies_more : (c q : ℕ) (slots after : List ℕ) → s < layout_symbols p.layout → c < p.copies → q < p.group → f s ≡ 0 → g s ≡ q
        → Groups p (halfway p f g (s * p.copies + c)) end slots
        → after ≡ flip_bit (flip_bit slots ((s * p.copies + c) * p.group)) ((s * p.copies + c) * p.group + q) → Bytes after
        → Groups p (halfway p f g (s * p.copies + (c + 1))) end after
    copies_more c q slots after l m small zero there h e bytes =
        let n : ℕ = s * p.copies + c in
        let le : n ≤ n = omega arith in
        let next : s * p.copies + (c + 1) ≡ n + 1 = omega arith in
        let lt : n < n + 1 = omega arith in
        let of : n / p.copies ≡ s = digits_div s m in
        rw next
        (groups_moved p (halfway p f g n) (halfway p f g (n + 1)) end n q slots (copy_in c l m) small
        (rw (le-ltb n n le) (ap f of ∙ zero)) (rw (lt-ltb n (n + 1) lt) (ap g of ∙ there))
        (λ u ne. ⊎_elim
        (λ (a : u < n). let b : u < n + 1 = omega arith in rw (lt-ltb u n a, lt-ltb u (n + 1) b) refl)
        (λ (a : n ≤ u). let b : n + 1 ≤ u = omega arith in rw (le-ltb u n a, le-ltb u (n + 1) b) refl)
        (lt_or_le u n))
        h after e bytes)

    pub copies_ended : (c : ℕ) (slots : List ℕ) → c ≡ p.copies → Groups p (halfway p f g (s * p.copies + c)) end slots → Holds p g end slots
    copies_ended c slots all h =
        let n : ℕ = s * p.copies + c in
        groups_same p (halfway p f g n) (λ u. g (u / p.copies)) end slots (λ u. ⊎_elim
        (λ (l : u < n). rw (lt-ltb u n l) refl)
        (λ (l : n ≤ u).
        let d : s + 1 ≤ u / p.copies = (le-div_iff_mul-le pos).1 (omega arith) in
        rw (le-ltb u n l) (else (u / p.copies) (λ z. omega arith)))
        (lt_or_le u n))
        h

-- what moving them asks for
pub copied : (p : Plan) → Fine p → (s q : ℕ) (slots : List ℕ) → length slots ≡ slot_bytes p → s < layout_symbols p.layout → q < p.group → Copied p.copies p.group s q slots
copied p fine s q slots long l small =
    let next : s + 1 ≤ layout_symbols p.layout = omega arith in
    let all : (s + 1) * p.copies ≤ sent_count p = mul-le-mul next (le_refl p.copies) in
    let last : s * p.copies + p.copies ≤ sent_count p = omega arith in
    let inside : (s * p.copies + p.copies) * p.group ≤ sent_count p * p.group = mul-le-mul last (le_refl p.group) in
    let k = (bounds p fine).slots_bound in
    record { small = small; inside = omega arith; bound = omega arith }

pub of : (p : Plan) → Fine p → (s q : ℕ) → s < layout_symbols p.layout → q < p.group → Of p p.copies p.group s q
of p fine s q l small = record { copies_are = refl; copies_least = fine.copies_least; group_is = refl; among = l; small = small }

-- the only copy
pub one_moved : (p : Plan) (copies group s q : ℕ) → Of p copies group s q → copies ≡ 1 → (slots after : List ℕ)
    → after ≡ flip_bit (flip_bit slots (s * group)) (s * group + q) → Bytes after → Moved p s q slots after
one_moved p copies group s q o one slots after e bytes =
    let pos : 1 ≤ p.copies = o.copies_least in
    let single : 1 ≡ p.copies = sym one ∙ o.copies_are in
    let at : s * group ≡ (s * p.copies + 0) * p.group =
    ap (λ (n : ℕ). n * group) (let z : s ≡ s * 1 + 0 = omega arith in z) ∙ ap₂ (λ (k g : ℕ). (s * k + 0) * g) single o.group_is in
    record {
      becomes = λ f g end zero there else h. copies_ended p pos s f g else end 1 after single
          (copies_more p pos s f g else end 0 q slots after o.among pos o.small zero there (copies_begun p pos s f g else end slots h)
          (e ∙ ap (λ (x : ℕ). flip_bit (flip_bit slots x) (x + q)) at) bytes);
    }

-- ---- the first symbols of a run, in their order

pub holds_is : (p : Plan) (word : ℕ → List ℕ) (n m end : ℕ) (slots : List ℕ) → n ≡ m → Holds p (front p word n) end slots → Holds p (front p word m) end slots
holds_is p word n m end slots e h = rw e at h

-- one symbol more, in their order
pub holds_next : (p : Plan) (word : ℕ → List ℕ) (s end q : ℕ) (slots after : List ℕ) → q ≡ symbol_at p word s
    → Holds p (front p word s) end slots → Moved p s q slots after → Holds p (front p word (s + 1)) end after
holds_next p word s end q slots after same h m =
    let f : ℕ → ℕ = symbol_at p word in
    let le : s ≤ s = omega arith in
    let lt : s < s + 1 = omega arith in
    m.becomes (front p word s) (front p word (s + 1)) end (cut_past s f s le) (cut_in (s + 1) f s lt ∙ sym same)
    (λ u n. ⊎_elim
    (λ (a : u < s). let b : u < s + 1 = omega arith in cut_in s f u a ∙ sym (cut_in (s + 1) f u b))
    (λ (a : s ≤ u). let b : s + 1 ≤ u = omega arith in cut_past s f u a ∙ sym (cut_past (s + 1) f u b))
    (lt_or_le u s))
    h
