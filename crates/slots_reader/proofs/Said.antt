-- Each answer from what was found.
use mathlib.Core.Path.{◌≡◌, refl}
use mathlib.Core.Bool.{true}
use mathlib.Core.List.{List}
use Prim.Native.Nat.{ℕ, ◌*◌}
use lib.ListN.{length}
use borrow.Author.Tests.{eq-eqb, ne_eqb}
use Rattle.plan.specs.declared.Plan.{Plan}
use Rattle.plan.specs.Plan.{sent_count}
use Rattle.answers.specs.Answer.{No}
use Rattle.bits.specs.Pack.{first_set}
use Rattle.channel.specs.Channel.{layout_symbols}
use Rattle.pulses.specs.Pulses as pulses
use Rattle.slots.specs.Reading.{slots_say, spare_slots_empty, first_bad_symbol, first_bad_mark, first_bad_rest}

module _ (p : Plan) (b : List ℕ) where
  pub say_spare : (q : ℕ) → q ≡ first_set b (sent_count p * p.group) (8 * length b) → (q ≡ 8 * length b → ⊥) → No 9 0 ≡ slots_say p b
  unfolding slots_say pulses.spare_empty
  say_spare q e h = rw (← e, ne_eqb q (8 * length b) h) refl

  pub spare_is_empty : (q : ℕ) → q ≡ first_set b (sent_count p * p.group) (8 * length b) → q ≡ 8 * length b → spare_slots_empty p b ≡ true
  unfolding pulses.spare_empty
  spare_is_empty q e h = rw (← e) (eq-eqb q (8 * length b) h)

  module _ (spare : spare_slots_empty p b ≡ true) (groups : first_bad_symbol p b ≡ layout_symbols p.layout) where
    pub say_mark : (q : ℕ) → q ≡ first_bad_mark p b → (q ≡ layout_symbols p.layout → ⊥) → No 11 q ≡ slots_say p b
    unfolding slots_say
    say_mark q e h = rw (spare, eq-eqb (first_bad_symbol p b) (layout_symbols p.layout) groups, ← e, ne_eqb q (layout_symbols p.layout) h) refl

    module _ (marks : first_bad_mark p b ≡ layout_symbols p.layout) where
      pub say_rest : (q : ℕ) → q ≡ first_bad_rest p b → (q ≡ layout_symbols p.layout → ⊥) → No 12 q ≡ slots_say p b
      unfolding slots_say
      say_rest q e h =
          rw (spare, eq-eqb (first_bad_symbol p b) (layout_symbols p.layout) groups, eq-eqb (first_bad_mark p b) (layout_symbols p.layout) marks, ← e, ne_eqb q (layout_symbols p.layout) h) refl
