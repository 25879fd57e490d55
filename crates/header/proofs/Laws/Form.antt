-- Where the fields lie.
use mathlib.Core.Path.{◌≡◌, refl}
use mathlib.Core.List.{List}
use Prim.Native.Nat.{ℕ, ◌+◌, ◌≤◌, ◌<◌}
use native.Mathlib.Omega.{arith}
use Rattle.bits.specs.Pack.{bit_at}
use Rattle.bits.proofs.Laws.Pack.{val_same}
use Rattle.header.specs.Header.{field, fields_of, with_copies}
use Rattle.header.specs.declared.Fields.{Fields}

-- fields that agree are the same
pub fields_same : (f g : Fields) → f.rate ≡ g.rate → f.bits ≡ g.bits → f.rows ≡ g.rows → f.step ≡ g.step → f.size ≡ g.size
    → f.markers ≡ g.markers → f.frames ≡ g.frames → f.copies ≡ g.copies → f ≡ g
fields_same f g e1 e2 e3 e4 e5 e6 e7 e8 = joined
  where
    whole : ℕ → ℕ → ℕ → ℕ → ℕ → ℕ → ℕ → ℕ → Fields
    whole rate bits rows step size markers frames copies =
        record { rate = rate; bits = bits; rows = rows; step = step; size = size; markers = markers; frames = frames; copies = copies }

    joined : whole f.rate f.bits f.rows f.step f.size f.markers f.frames f.copies
        ≡ whole g.rate g.bits g.rows g.step g.size g.markers g.frames g.copies
    joined = cc

-- headers with the same first 48 bits have the same fields but for the factor
pub fields_front : (a b : List ℕ) → ((j : ℕ) → j < 48 → bit_at a j ≡ bit_at b j) → fields_of a ≡ with_copies (fields_of a).copies (fields_of b)
unfolding fields_of with_copies field
fields_front a b same =
    fields_same (fields_of a) (with_copies (fields_of a).copies (fields_of b))
    (part 0 2 (omega arith))
    (part 2 4 (omega arith))
    (part 6 8 (omega arith))
    (part 14 9 (omega arith))
    (part 23 12 (omega arith))
    (part 35 6 (omega arith))
    (part 41 7 (omega arith))
    refl
  where
    part : (at n : ℕ) → at + n ≤ 48 → field a at n ≡ field b at n
    part at n l = val_same (λ t. bit_at a (at + t)) (λ t. bit_at b (at + t)) n (λ t k. same (at + t) (omega arith))
