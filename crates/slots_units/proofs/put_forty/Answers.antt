-- The lowest five bytes of the number, highest first.
use mathlib.Core.Path.{◌≡◌, refl, sym, ap, ◌∙◌}
use mathlib.Core.List.{List}
use Prim.Native.Nat.{ℕ, zero, suc, ◌+◌, ◌-◌, ◌*◌, ◌/◌, ◌%◌, ◌^◌, ◌≤◌, ◌<◌}
use native.Mathlib.Omega.{arith}
use lib.ListN.{length, get_or, take, drop}
use borrow.Author.Rules.{rules}
use borrow.Rule.Slice.PartMut.{put_mid}
use Rattle.std.proofs.lemmas.List.{places}
use Rattle.std.specs.Int.{w64, to_be_bytes}
use Rattle.bits.specs.Pack.{val}
use Rattle.bits.specs.Inner.{Laid}
use Rattle.bits.proofs.Laws.Field.{cut_out}
use Rattle.slots_units.proofs.put_forty.Goals as goal

byte : (v t : ℕ) → t < 5 → get_or (take 5 (drop 3 (to_be_bytes w64 v))) t 0 ≡ v / 2 ^ (32 - 8 * t) % 2 ^ 8
byte v zero h = refl
byte v (suc zero) h = refl
byte v (suc (suc zero)) h = refl
byte v (suc (suc (suc zero))) h = refl
byte v (suc (suc (suc (suc zero)))) h = omega arith
byte v (suc (suc (suc (suc (suc t))))) h = absurd (omega arith)

-- all of them at once, copied over a part
laid_part : (before part : List ℕ) (at n : ℕ) (f : ℕ → ℕ) → at + n ≤ length before → length part ≡ n → ((t : ℕ) → t < n → get_or part t 0 ≡ val (λ u. f (8 * t + u)) 8)
    → Laid before at n f (put_mid at (at + n - at) before part)
laid_part before part at n f room long same =
    record {
      long = search (rules, places);
      earlier = λ k l. search (rules, places);
      here = λ t l. let here : get_or (put_mid at (at + n - at) before part) (at + t) 0 ≡ get_or part t 0 = search (rules, places) in here ∙ same t l;
      later = λ k l. search (rules, places);
    }

pub returns : goal.returns
returns c =
    let v : ℕ = c.args.v in
    let bytes : c.copy_from_slice.new.self ≡ take 5 (drop 3 (to_be_bytes w64 v)) = c.copy_from_slice.ensures.after ∙ ap (λ (xs : List ℕ). take 5 (drop 3 xs)) (c.to_be_bytes.ensures ∙ ap (to_be_bytes w64) (omega arith)) in
    laid_part c.args.slots.now _ c.args.at 5 (λ t. v / 2 ^ (39 - t) % 2) c.requires (ap (λ (xs : List ℕ). length xs) bytes)
    (λ t l. ap (λ (xs : List ℕ). get_or xs t 0) bytes ∙ byte v t l ∙ sym (cut_out v 40 (8 * t) 8 (omega arith)))
