-- The number's bytes, highest first, are those of its bits.
use mathlib.Core.Path.{◌≡◌, refl, sym, ap, ◌∙◌}
use Prim.Native.Nat.{ℕ, zero, suc, ◌-◌, ◌*◌, ◌/◌, ◌%◌, ◌^◌, ◌<◌}
use native.Mathlib.Omega.{arith}
use mathlib.Core.List.{List}
use lib.ListN.{length, get_or}
use Rattle.std.specs.Int.{w64, to_be_bytes}
use Rattle.bits.specs.Pack.{bit_of}
use Rattle.bits.proofs.Laws.Field.{cut_out}
use Rattle.bits.proofs.Laws.Stretch.{laid_part}
use Rattle.bits.proofs.packing.put_eight.Goals as goal

byte : (v t : ℕ) → t < 8 → get_or (to_be_bytes w64 v) t 0 ≡ v / 2 ^ (56 - 8 * t) % 2 ^ 8
byte v zero h = refl
byte v (suc zero) h = refl
byte v (suc (suc zero)) h = refl
byte v (suc (suc (suc zero))) h = refl
byte v (suc (suc (suc (suc zero)))) h = refl
byte v (suc (suc (suc (suc (suc zero))))) h = refl
byte v (suc (suc (suc (suc (suc (suc zero)))))) h = refl
byte v (suc (suc (suc (suc (suc (suc (suc zero))))))) h = omega arith
byte v (suc (suc (suc (suc (suc (suc (suc (suc t)))))))) h = absurd (omega arith)

pub returns : goal.returns
returns c =
    let v : ℕ = c.args.v in
    let bytes : c.copy_from_slice.new.self ≡ to_be_bytes w64 v = c.copy_from_slice.ensures.after ∙ c.to_be_bytes.ensures in
    laid_part c.args.out.now _ c.args.at 8 (bit_of v) c.requires (ap (λ (xs : List ℕ). length xs) bytes)
    (λ t l. ap (λ (xs : List ℕ). get_or xs t 0) bytes ∙ byte v t l ∙ sym (cut_out v 64 (8 * t) 8 (omega arith)))
