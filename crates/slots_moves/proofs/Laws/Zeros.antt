-- Zeros' slots, laid forty bytes by forty: what a line begins with.
use mathlib.Core.Path.{◌≡◌, refl, sym, ap, ap₂, ◌∙◌}
use mathlib.Core.List.{List}
use mathlib.Core.Logic.{⊎_elim}
use Prim.Native.Nat.{ℕ, ◌+◌, ◌-◌, ◌*◌, ◌/◌, ◌%◌, ◌^◌, ◌≤◌, ◌<◌}
use native.Mathlib.Omega.{arith}
use native.Mathlib.Nat.{mul_assoc, le-div_iff_mul-le, add-mul-mod_self_right}
use lib.Dec.{eqb}
use lib.ListN.{length, get_or}
use Rattle.bits.specs.Inner.{Copied}
use Rattle.bits.specs.Basics.{bool}
use Rattle.bits.proofs.Laws.Choice.{lt_or_le}
use Rattle.bits.specs.Pack.{bit_at, Bytes}
use Rattle.bits.proofs.Laws.Pack.{cut_past}
use Rattle.pulses.specs.Inner as forty
use Rattle.pulses.proofs.Laws.Zeros as forty_laws
use Rattle.plan.specs.declared.Plan.{Plan}
use Rattle.plan.specs.Inner.{Fine}
use Rattle.slots.proofs.Laws.Bounds.{bounds, shape}
use Rattle.slots.specs.Writing.{symbol_at}
use Rattle.slots_moves.specs.Inner.{Holds, front, Repeats, Laid, Zeros}

-- ---- part after part

pub laid_none : (z before : List ℕ) (from : ℕ) → Laid z before from from before
laid_none z before from = record { long = refl; earlier = λ k l. refl; here = λ k a b. absurd (omega arith) }

pub laid_more : (z before mid after : List ℕ) (from i n : ℕ) → Repeats z → from ≤ i → i % 40 + n ≤ length z → Laid z before from i mid → Copied z (i % 40) mid i n after → Laid z before from (i + n) after
laid_more z before mid after from i n rep h l d c =
    record {
      long = c.long ∙ d.long;
      earlier = λ k a. c.earlier k (omega arith) ∙ d.earlier k a;
      here = λ k a b. ⊎_elim
          (λ (q : k < i). c.earlier k q ∙ d.here k a q)
          (λ (q : i ≤ k).
          let e : k ≡ i + (k - i) = omega arith in
          let m : (i % 40 + (k - i)) % 40 ≡ k % 40 = omega arith in
          ap (λ (x : ℕ). get_or after x 0) e ∙ c.here (k - i) (omega arith) ∙ rep.again (i % 40 + (k - i)) (omega arith) ∙ ap (λ (x : ℕ). get_or z x 0) m)
          (lt_or_le k i);
    }

-- forty bytes repeat, and so do more that are laid from them
pub forty_repeats : (z : List ℕ) → length z ≡ 40 → Repeats z
forty_repeats z e = record { least = omega arith; again = λ k l. ap (λ (x : ℕ). get_or z x 0) (omega arith) }

pub zeros_filled : (group : ℕ) (z before after : List ℕ) → forty.Zeros group z → 40 ≤ length before → Laid z before 0 (length before) after → Zeros group after
unfolding bit_at
zeros_filled group z before after zeros l d =
    let long : length after ≡ length before = d.long in
    record {
      repeats = record {
        least = omega arith;
        again = λ k a.
            let m : k % 40 ≡ k % 40 % 40 = omega arith in
            d.here k (omega arith) (omega arith) ∙ ap (λ (x : ℕ). get_or z x 0) m ∙ sym (d.here (k % 40) (omega arith) (omega arith));
      };
      slot = λ i a.
          let m : i / 8 % 40 ≡ i / 8 = omega arith in
          ap (λ (v : ℕ). v / 2 ^ (7 - i % 8) % 2) (d.here (i / 8) (omega arith) (omega arith) ∙ ap (λ (x : ℕ). get_or z x 0) m) ∙ zeros.slot i a;
    }

-- ---- under the symbols of a run

-- at every pulse order forty bytes hold whole groups
pub turns : (p : Plan) → Fine p → (x : ℕ) → x % 320 % p.group ≡ x % p.group
turns p fine x =
    let g : ℕ = p.group in
    let whole : 320 / g * g ≡ 320 = forty_laws.whole_groups p.order g (shape p fine) in
    let e : x ≡ x % 320 + x / 320 * (320 / g) * g = let a = mul_assoc (x / 320) (320 / g) g in let b : x / 320 * (320 / g * g) ≡ x / 320 * 320 = ap (λ (v : ℕ). x / 320 * v) whole in omega arith in
    sym (ap (λ (y : ℕ). y % g) e ∙ add-mul-mod_self_right (x % 320) (x / 320 * (320 / g)) g)

-- after the first n symbols zeros are what belongs there so far
pub holds_laid : (p : Plan) → Fine p → (word : ℕ → List ℕ) (n from to : ℕ) (z slots after : List ℕ) → n * p.copies * p.group ≤ 8 * from
    → Zeros p.group z → Holds p (front p word n) from slots → Laid z slots from to after → Bytes after → Holds p (front p word n) to after
unfolding bit_at
holds_laid p fine word n from to z slots after h zeros d c bytes =
    record {
      room = c.long ∙ d.room;
      bytes = bytes;
      bits = λ x l. ⊎_elim
          (λ (a : x < 8 * from). ap (λ (v : ℕ). v / 2 ^ (7 - x % 8) % 2) (c.earlier (x / 8) (omega arith)) ∙ d.bits x a)
          (λ (a : 8 * from ≤ x).
          let g : 0 < p.group = let k = bounds p fine in omega arith in
          let past : n ≤ x / p.group / p.copies = (le-div_iff_mul-le fine.copies_least).1 ((le-div_iff_mul-le g).1 (omega arith)) in
          let i : x / 8 % 40 ≡ x % 320 / 8 = omega arith in
          let r : x % 8 ≡ x % 320 % 8 = omega arith in
          ap (λ (v : ℕ). v / 2 ^ (7 - x % 8) % 2) (c.here (x / 8) (omega arith) (omega arith))
          ∙ ap₂ (λ (u v : ℕ). get_or z u 0 / 2 ^ (7 - v) % 2) i r
          ∙ zeros.slot (x % 320) (omega arith)
          ∙ ap₂ (λ (u v : ℕ). bool (eqb u v)) (turns p fine x) (sym (cut_past n (symbol_at p word) (x / p.group / p.copies) past)))
          (lt_or_le x (8 * from));
    }
