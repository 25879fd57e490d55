-- The number's bytes, lowest first.
use mathlib.Core.Path.{◌≡◌, refl, ap, ◌∙◌}
use mathlib.Core.List.{List}
use Prim.Native.Nat.{ℕ, zero, suc, ◌+◌, ◌-◌, ◌≤◌, ◌<◌}
use native.Mathlib.Omega.{arith}
use lib.ListN.{length, get_or}
use borrow.Author.Rules.{rules}
use borrow.Rule.Slice.PartMut.{put_mid}
use Rattle.std.proofs.lemmas.List.{places}
use Rattle.std.specs.Int.{w64, to_le_bytes}
use Rattle.convolution.specs.Inner.{Put}
use Rattle.encoder_turns.specs.Inner.{byte_of}
use Rattle.encoder_turns.proofs.put_low_eight.Goals as goal

byte : (v t : ℕ) → t < 8 → get_or (to_le_bytes w64 v) t 0 ≡ byte_of v t
byte v zero h = omega arith
byte v (suc zero) h = refl
byte v (suc (suc zero)) h = refl
byte v (suc (suc (suc zero))) h = refl
byte v (suc (suc (suc (suc zero)))) h = refl
byte v (suc (suc (suc (suc (suc zero))))) h = refl
byte v (suc (suc (suc (suc (suc (suc zero)))))) h = refl
byte v (suc (suc (suc (suc (suc (suc (suc zero))))))) h = refl
byte v (suc (suc (suc (suc (suc (suc (suc (suc t)))))))) h = absurd (omega arith)

-- bytes copied over a part
put_part : (before part : List ℕ) (at n : ℕ) (f : ℕ → ℕ) → at + n ≤ length before → length part ≡ n → ((t : ℕ) → t < n → get_or part t 0 ≡ f t)
    → Put before at n f (put_mid at (at + n - at) before part)
put_part before part at n f room long same =
    record {
      long = search (rules, places);
      earlier = λ k l. search (rules, places);
      here = λ t l. let here : get_or (put_mid at (at + n - at) before part) (at + t) 0 ≡ get_or part t 0 = search (rules, places) in here ∙ same t l;
    }

pub returns : goal.returns
returns c =
    let bytes : c.copy_from_slice.new.self ≡ to_le_bytes w64 c.args.v = c.copy_from_slice.ensures.after ∙ c.to_le_bytes.ensures in
    put_part c.args.out.now _ c.args.at 8 (byte_of c.args.v) c.requires (ap (λ (xs : List ℕ). length xs) bytes)
    (λ t l. ap (λ (xs : List ℕ). get_or xs t 0) bytes ∙ byte c.args.v t l)
