-- What is known of question 12, from nothing to all of it.
use mathlib.Core.Path.{◌≡◌, refl, sym, ap, ◌∙◌}
use mathlib.Core.Bool.{Bool}
use mathlib.Core.List.{List}
use mathlib.Core.Logic.{⊎_elim}
use Prim.Native.Nat.{ℕ, ◌+◌, ◌-◌, ◌*◌, ◌/◌, ◌%◌, ◌≤◌, ◌<◌}
use native.Mathlib.Omega.{arith}
use native.Mathlib.Nat.{le_refl, mul-le-mul, mul_assoc, mul_comm, mod-lt, div-add-mod', div-lt_iff_lt-mul, le-div_iff_mul-le}
use lib.Dec.{ltb}
use lib.ListN.{length}
use borrow.Author.Tests.{lt-ltb}
use Rattle.bits.proofs.Laws.Choice.{lt_or_le}
use Rattle.bits.specs.Basics.{up_to}
use Rattle.bits.proofs.Laws.First.{first_skip, first_end, part_fails, part_passes}
use Rattle.sizes.specs.Sizes.{word_bits}
use Rattle.pulses.specs.Inner.{Zeros, Same}
use Rattle.pulses.proofs.Laws.Zeros.{whole_groups, some_groups, forty_at, forty_zeros}
use Rattle.pulses.proofs.Laws.Needs.{sizes}
use Rattle.pool.specs.Pooled as pool
use Rattle.pool.proofs.Laws.Pooled.{pooled_copies}
use Rattle.slots.proofs.Laws.Bounds.{bounds, shape}
use Rattle.plan.specs.declared.Plan.{Plan}
use Rattle.plan.specs.Inner.{Fine, slot_bytes}
use Rattle.plan.specs.Plan.{sent_count}
use Rattle.channel.proofs.Laws.Markers.{rest_zero_lem}
use Rattle.channel.specs.Channel.{unit, layout_symbols, rest_zero}
use Rattle.slots.specs.Reading.{pooled_in, first_bad_symbol, first_bad_rest}
use Rattle.slots.specs.Inner.{decided_in}
use Rattle.slots_places.specs.Inner.{Known, Took}
use Rattle.slots_places.proofs.Laws.Taken.{took_zeros}

module _ (p : Plan) (fine : Fine p) (b : List ℕ) where
  pub known_start : (words : List ℕ) → Took p b 0 words → Known p b 0 (layout_symbols p.layout) words
  known_start words t = record { order = omega arith; most = omega arith; ahead = λ q. refl; here = λ l. absurd (omega arith); took = λ q. t }

  module _ (from to rest : ℕ) (words : List ℕ) (known : Known p b from rest words) (order : from ≤ to) (most : to ≤ layout_symbols p.layout) where
    -- these symbols are 0
    pub known_zeros : ((k : ℕ) → from ≤ k → k < to → pooled_in p b k ≡ 0) → Known p b to rest words
    known_zeros h =
        let s : from + (to - from) ≡ to = omega arith in
        record {
          order = most;
          most = known.most;
          ahead = λ q. ap (λ (x : ℕ). up_to (rest_zero p.layout (pooled_in p b)) x (layout_symbols p.layout)) (sym s)
              ∙ first_skip (rest_zero p.layout (pooled_in p b)) (to - from) (layout_symbols p.layout) from (omega arith)
              (λ k a l. rest_zero_lem p.layout (pooled_in p b) k (h k a (omega arith)))
              ∙ known.ahead q;
          here = known.here;
          took = λ q. took_zeros p fine b words from to order h (known.took q);
        }

    -- they do not matter, since one before them is wrong
    pub known_stay : rest < layout_symbols p.layout → Known p b to rest words
    known_stay l = record { order = most; most = known.most; ahead = λ q. absurd (omega arith); here = known.here; took = λ q. absurd (omega arith) }

    module _ (none : rest ≡ layout_symbols p.layout) (r : ℕ) (e : r ≡ up_to (rest_zero p.layout (pooled_in p b)) from to) (after : List ℕ) where
      -- one of them is wrong, and is the first
      pub known_wrong : r < to → Known p b to r after
      known_wrong l =
          record {
            order = most;
            most = omega arith;
            ahead = λ q. absurd (omega arith);
            here = λ q. part_fails (rest_zero p.layout (pooled_in p b)) from to (layout_symbols p.layout) r order most e l ∙ known.ahead none;
            took = λ q. absurd (omega arith);
          }

      -- none of them is
      pub known_right : to ≤ r → Took p b to after → Known p b to (layout_symbols p.layout) after
      known_right l t =
          record {
            order = most;
            most = omega arith;
            ahead = λ q. part_passes (rest_zero p.layout (pooled_in p b)) from to (layout_symbols p.layout) r order most e l ∙ known.ahead none;
            here = λ q. absurd (omega arith);
            took = λ q. t;
          }

  pub known_end : (rest : ℕ) (words : List ℕ) → Known p b (layout_symbols p.layout) rest words → rest ≡ first_bad_rest p b
  unfolding first_bad_rest
  known_end rest words k =
      ⊎_elim
      (λ (l : rest < layout_symbols p.layout). k.here l)
      (λ (l : layout_symbols p.layout ≤ rest).
      let m = k.most in
      let q : rest ≡ layout_symbols p.layout = omega arith in
      q ∙ sym (first_end (rest_zero p.layout (pooled_in p b)) (layout_symbols p.layout) (layout_symbols p.layout) (omega arith) (omega arith)) ∙ k.ahead q)
      (lt_or_le rest (layout_symbols p.layout))

-- ---- both questions

swap : (a x y : ℕ) → a * x * y ≡ a * y * x
swap a x y = mul_assoc a x y ∙ ap (λ (v : ℕ). a * v) (mul_comm x y) ∙ sym (mul_assoc a y x)

-- all symbols before s are decided, and this is known of question 12
pub record Upto (p : Plan) (b : List ℕ) (s rest : ℕ) (words : List ℕ) : Type 0 where
  pub groups : up_to (decided_in p b) s (layout_symbols p.layout) ≡ up_to (decided_in p b) 0 (layout_symbols p.layout)
  pub known : Known p b s rest words

module _ (p : Plan) (fine : Fine p) (b : List ℕ) where
  abbrev good : ℕ → Bool
  good = decided_in p b

  pub upto_start : (words : List ℕ) → Took p b 0 words → Upto p b 0 (layout_symbols p.layout) words
  upto_start words t = record { groups = refl; known = known_start p fine b words t }

  module _ (from to rest : ℕ) (words : List ℕ) (u : Upto p b from rest words) (order : from ≤ to) (most : to ≤ layout_symbols p.layout) where
    pub upto_zeros : ((k : ℕ) → from ≤ k → k < to → pooled_in p b k ≡ 0) → Upto p b to rest words
    upto_zeros h =
        let s : from + (to - from) ≡ to = omega arith in
        let one : 0 < p.order = let k = (bounds p fine).order_least in omega arith in
        record {
          groups = ap (λ (x : ℕ). up_to good x (layout_symbols p.layout)) (sym s)
              ∙ first_skip good (to - from) (layout_symbols p.layout) from (omega arith) (λ k a l. ap (λ (v : ℕ). ltb v p.order) (h k a (omega arith)) ∙ lt-ltb 0 p.order one)
              ∙ u.groups;
          known = known_zeros p fine b from to rest words u.known order most h;
        }

    module _ (r : ℕ) (e : r ≡ up_to good from to) where
      pub upto_bad : r < to → r ≡ first_bad_symbol p b
      unfolding pool.first_undecided
      upto_bad l = part_fails good from to (layout_symbols p.layout) r order most e l ∙ u.groups

      pub upto_good : to ≤ r → (found : ℕ) (after : List ℕ) → Known p b to found after → Upto p b to found after
      upto_good l found after k = record { groups = part_passes good from to (layout_symbols p.layout) r order most e l ∙ u.groups; known = k }

  pub upto_end : (s rest : ℕ) (words : List ℕ) → s ≡ layout_symbols p.layout → Upto p b s rest words → (layout_symbols p.layout ≡ first_bad_symbol p b) × Known p b (layout_symbols p.layout) rest words
  unfolding pool.first_undecided
  upto_end s rest words e u =
      (sym (first_end good (layout_symbols p.layout) s (omega arith) (omega arith)) ∙ u.groups, rw e at u.known)

  -- the symbols in parts whose forties are all zeros'
  pub parts_zero : (given : List ℕ) → Zeros p.group given → (c e : ℕ) → ((k : ℕ) → c * p.copies ≤ k → k < e * p.copies → Same b (40 * k) given 40)
      → (k : ℕ) → c * (320 / p.group) ≤ k → k < e * (320 / p.group) → pooled_in p b k ≡ 0
  parts_zero given zeros c e same k a l =
      let n : ℕ = 320 / p.group in
      let pos : 0 < n = some_groups p.order p.group (shape p fine) in
      let one : 0 < p.order = let z = (bounds p fine).order_least in omega arith in
      let first : c * n * p.copies ≤ k * p.copies = mul-le-mul a (le_refl p.copies) in
      let last : (k + 1) * p.copies ≤ e * n * p.copies = mul-le-mul (let m : k + 1 ≤ e * n = omega arith in m) (le_refl p.copies) in
      let from : c * p.copies * n ≡ c * n * p.copies = swap c p.copies n in
      let to : e * p.copies * n ≡ e * n * p.copies = swap e p.copies n in
      pooled_copies b p.copies p.group p.order k 0 fine.copies_least (bounds p fine).group_least one (λ i h.
      let u : ℕ = k * p.copies + i in
      let low : c * p.copies * n ≤ u = omega arith in
      let high : u < e * p.copies * n = omega arith in
      let d = div-add-mod' u n in
      let m : u % n < n = mod-lt u pos in
      forty_zeros p.order p.group (shape p fine) (u / n) b given zeros (same (u / n) ((le-div_iff_mul-le pos).1 low) ((div-lt_iff_lt-mul pos).1 high)) u (omega arith) (omega arith))

  -- the parts lie within the slots
  pub parts_in : length b ≡ slot_bytes p → 40 * (layout_symbols p.layout / (320 / p.group) * p.copies) ≤ length b
  parts_in long =
      let n : ℕ = 320 / p.group in
      let c : ℕ = layout_symbols p.layout / n in
      let d = div-add-mod' (layout_symbols p.layout) n in
      let at = forty_at p.order p.group (shape p fine) (c * p.copies) 0 in
      let some : c * n ≤ layout_symbols p.layout = omega arith in
      let copied : c * n * p.copies ≤ sent_count p = mul-le-mul some (le_refl p.copies) in
      let same : c * p.copies * n ≡ c * n * p.copies = swap c p.copies n in
      let all : (c * p.copies * n + 0) * p.group ≤ sent_count p * p.group = mul-le-mul (let m : c * p.copies * n + 0 ≤ sent_count p = omega arith in m) (le_refl p.group) in
      omega arith

-- the symbols of sixteen parts: at most 1,024, and no more than a line
pub few_symbols : (p : Plan) → Fine p → 16 * (320 / p.group) ≤ 1024
few_symbols p fine =
    let o = (sizes p.order p.group (shape p fine)).order_least in
    let g = fine.group_is in
    let w : 320 / p.group * p.group ≡ 320 = whole_groups p.order p.group (shape p fine) in
    let five : 5 ≤ p.group = omega arith in
    let few : 320 / p.group * 5 ≤ 320 / p.group * p.group = mul-le-mul (le_refl (320 / p.group)) five in
    omega arith

pub few_groups : (p : Plan) → Fine p → 16 * (320 / p.group) ≤ unit p.layout
few_groups p fine =
    let few = few_symbols p fine in
    let size : p.layout.symbols * p.bits ≡ word_bits = fine.symbols_are in
    let wide : p.layout.symbols * p.bits ≤ p.layout.symbols * 8 = mul-le-mul (le_refl p.layout.symbols) fine.bits_most in
    omega arith
