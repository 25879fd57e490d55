-- Of packed bits the last two are cleared: `& 252` of the last byte.
use mathlib.Core.Path.{◌≡◌, sym, ap, ◌∙◌}
use mathlib.Core.List.{List}
use mathlib.Core.Logic.{⊎_elim}
use Prim.Native.Nat.{ℕ, ◌+◌, ◌-◌, ◌*◌, ◌/◌, ◌%◌, ◌≤◌, ◌<◌}
use native.Mathlib.Omega.{arith}
use lib.Bits.{bit_and, and_high}
use lib.ListN.{length, get_or, set, length-set}
use lib.Seq.{get_or-set_same, get_or-set_other}
use Rattle.bits.proofs.Laws.Choice.{eq_or_ne, lt_or_le}
use Rattle.bits.specs.Pack.{Bits, val, bytes_of, cut}
use Rattle.bits.proofs.Laws.Pack.{val_lt, val_same, length_bytes, byte_at, bytes_by_byte, cut_in, cut_past}
use Rattle.bits.proofs.Laws.Parts.{val_split, val_cut}

-- the lowest two of eight bits cleared
six_bits_lem : (g : ℕ → ℕ) → Bits g → bit_and (val g 8) 252 ≡ val (cut 6 g) 8
six_bits_lem g b =
    let whole : val g 8 ≡ val g 6 * 4 + val (λ t. g (6 + t)) 2 = val_split g 6 2 in
    let upper : val g 6 < 64 = val_lt g b 6 in
    let lower : val (λ t. g (6 + t)) 2 < 4 = val_lt (λ t. g (6 + t)) (λ t. b (6 + t)) 2 in
    let e : val g 8 / 4 % 64 ≡ val g 6 = omega arith in
    and_high (val g 8) 6 2 ∙ ap (λ (v : ℕ). v * 4) e ∙ sym (val_cut g 6 8 (omega arith))

cut_from_lem : (k at : ℕ) (f : ℕ → ℕ) → k ≡ at + 6 → (t : ℕ) → cut k f (at + t) ≡ cut 6 (λ u. f (at + u)) t
cut_from_lem k at f e t =
    ⊎_elim
    (λ (l : t < 6). cut_in k f (at + t) (omega arith) ∙ sym (cut_in 6 (λ u. f (at + u)) t l))
    (λ (l : 6 ≤ t). cut_past k f (at + t) (omega arith) ∙ sym (cut_past 6 (λ u. f (at + u)) t l))
    (lt_or_le t 6)

pub spare_cleared : (h k : ℕ) (f : ℕ → ℕ) → Bits f → 1 ≤ h → 8 * h ≡ k + 2
    → set (bytes_of h f) (h - 1) (bit_and (get_or (bytes_of h f) (h - 1) 0) 252) ≡ bytes_of h (cut k f)
spare_cleared h k f b one size =
    let xs : List ℕ = bytes_of h f in
    let v : ℕ = bit_and (get_or xs (h - 1) 0) 252 in
    let long : length xs ≡ h = length_bytes h f in
    bytes_by_byte h (cut k f) (set xs (h - 1) v) (length-set xs (h - 1) v ∙ long) (λ i l.
    ⊎_elim
    (λ (e : i ≡ h - 1).
    let g : ℕ → ℕ = λ t. f (8 * i + t) in
    let last : get_or xs (h - 1) 0 ≡ val g 8 = ap (λ (j : ℕ). get_or xs j 0) (sym e) ∙ byte_at h f i l in
    ap (λ (j : ℕ). get_or (set xs (h - 1) v) j 0) e ∙ get_or-set_same xs (h - 1) v 0 (omega arith)
    ∙ ap (λ (w : ℕ). bit_and w 252) last ∙ six_bits_lem g (λ t. b (8 * i + t))
    ∙ val_same (cut 6 g) (λ t. cut k f (8 * i + t)) 8 (λ t m. sym (cut_from_lem k (8 * i) f (omega arith) t)))
    (λ (e : i ≡ h - 1 → ⊥).
    let before : 8 * i + 8 ≤ k = ⊎_elim (λ (q : i < h - 1). omega arith) (λ (q : h - 1 ≤ i). absurd (e (omega arith))) (lt_or_le i (h - 1)) in
    get_or-set_other xs (h - 1) i v 0 e ∙ byte_at h f i l
    ∙ val_same (λ t. f (8 * i + t)) (λ t. cut k f (8 * i + t)) 8 (λ t m. sym (cut_in k f (8 * i + t) (omega arith))))
    (eq_or_ne i (h - 1)))
