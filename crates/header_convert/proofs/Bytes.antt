-- The bits of the two headers, byte by byte: six bytes are those that were there, and what is after them is computed.
use mathlib.Core.Path.{◌≡◌, sym, ap, ◌∙◌}
use mathlib.Core.List.{List}
use mathlib.Core.Logic.{⊎_elim}
use Prim.Native.Nat.{ℕ, ◌+◌, ◌*◌, ◌≤◌, ◌<◌}
use native.Mathlib.Omega.{arith}
use lib.Dec.{ltb, eqb}
use lib.ListN.{get_or}
use borrow.Author.Tests.{lt-ltb, le-ltb, ne_eqb}
use Rattle.bits.specs.Basics.{bool, pick, tab}
use Rattle.bits.proofs.Laws.Choice.{lt_or_le}
use Rattle.bits.specs.Pack.{val, bit_at, bytes_of, Bytes, cut}
use Rattle.bits.proofs.Laws.Pack.{val_same, cut_in, cut_past}
use Rattle.bits.proofs.Laws.Table.{tab_same}
use Rattle.bits.proofs.Laws.Parts.{byte_val, val_none}
use Rattle.header_convert.specs.Convert.{wide_bit, widened, narrowed}
use Rattle.header_convert.proofs.Laws.Theorems.{wide_front, wide_behind}

-- byte i: six bytes as they were, then one that has the factor, and zeros
unfoldable pub byte_of : List ℕ → ℕ → ℕ → ℕ
byte_of from seventh i = pick (ltb i 6) (get_or from i 0) (pick (eqb i 6) seventh 0)

-- the six bytes, whatever is after them
front : (from : List ℕ) → Bytes from → (seventh i : ℕ) → i < 6 → (f : ℕ → ℕ) → ((j : ℕ) → j < 48 → f j ≡ bit_at from j) → byte_of from seventh i ≡ val (λ t. f (8 * i + t)) 8
unfolding byte_of
front from b seventh i l f same =
    rw (lt-ltb i 6 l)
    (sym (byte_val from i (b i)) ∙ val_same (λ t. bit_at from (8 * i + t)) (λ t. f (8 * i + t)) 8 (λ t k. sym (same (8 * i + t) (omega arith))))

-- and the last ones
last : (from : List ℕ) (seventh i : ℕ) → 7 ≤ i → (f : ℕ → ℕ) → ((j : ℕ) → 56 ≤ j → f j ≡ 0) → byte_of from seventh i ≡ val (λ t. f (8 * i + t)) 8
unfolding byte_of
last from seventh i l f none =
    let other : i ≡ 6 → ⊥ = λ q. omega arith in
    rw (le-ltb i 6 (omega arith), ne_eqb i 6 other) (sym (val_none (λ t. f (8 * i + t)) 8 (λ t k. none (8 * i + t) (omega arith))))

wide_seventh : (old : List ℕ) → byte_of old 4 6 ≡ val (λ t. wide_bit old (8 * 6 + t)) 8
unfolding byte_of val
wide_seventh old = val_same (λ t. bool (eqb (48 + t) 53)) (λ t. wide_bit old (48 + t)) 8 (λ t l. sym (wide_behind old (48 + t) (omega arith)))

narrow_seventh : (header : List ℕ) → byte_of header 0 6 ≡ val (λ t. cut 48 (bit_at header) (8 * 6 + t)) 8
unfolding byte_of
narrow_seventh header = sym (val_none (λ t. cut 48 (bit_at header) (48 + t)) 8 (λ t l. cut_past 48 (bit_at header) (48 + t) (omega arith)))

-- all of them
each : (from : List ℕ) → Bytes from → (seventh : ℕ) (f : ℕ → ℕ) → ((j : ℕ) → j < 48 → f j ≡ bit_at from j) → ((j : ℕ) → 56 ≤ j → f j ≡ 0)
    → byte_of from seventh 6 ≡ val (λ t. f (8 * 6 + t)) 8 → (i : ℕ) → byte_of from seventh i ≡ val (λ t. f (8 * i + t)) 8
each from b seventh f same none e i =
    ⊎_elim
    (λ (l : i < 6). front from b seventh i l f same)
    (λ (l : 6 ≤ i).
    ⊎_elim
    (λ (m : i < 7). let q : i ≡ 6 = omega arith in rw q e)
    (λ (m : 7 ≤ i). last from seventh i m f none)
    (lt_or_le i 7))
    (lt_or_le i 6)

pub wide_made : (old to : List ℕ) → Bytes old → to ≡ tab 10 (byte_of old 4) → to ≡ widened old
unfolding widened bytes_of
wide_made old to b e =
    e
    ∙ tab_same 10 (byte_of old 4) (λ i. val (λ t. wide_bit old (8 * i + t)) 8) (λ i l.
    each old b 4 (wide_bit old) (wide_front old)
    (λ j h. let other : j ≡ 53 → ⊥ = λ q. omega arith in wide_behind old j (omega arith) ∙ ap bool (ne_eqb j 53 other)) (wide_seventh old) i)

pub narrow_made : (header to : List ℕ) → Bytes header → to ≡ tab 8 (byte_of header 0) → to ≡ narrowed header
unfolding narrowed bytes_of
narrow_made header to b e =
    e
    ∙ tab_same 8 (byte_of header 0) (λ i. val (λ t. cut 48 (bit_at header) (8 * i + t)) 8) (λ i l.
    each header b 0 (cut 48 (bit_at header)) (cut_in 48 (bit_at header)) (λ j h. cut_past 48 (bit_at header) j (omega arith)) (narrow_seventh header) i)
