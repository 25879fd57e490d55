-- What the loops keep: one place more is filled, turned, picked, rolled or copied.
use mathlib.Core.Path.{◌≡◌, refl, sym, ap, ap₂, ◌∙◌}
use mathlib.Core.List.{List}
use mathlib.Core.Logic.{⊎_elim}
use Prim.Native.Nat.{ℕ, zero, suc, ◌+◌, ◌-◌, ◌*◌, ◌/◌, ◌%◌, ◌^◌, ◌≤◌, ◌<◌}
use native.Mathlib.Omega.{arith}
use native.Mathlib.Nat.{mul-le-mul, le_refl}
use lib.Dec.{eqb, eqb→eq}
use lib.ListN.{length, get_or, set, length-set, take, drop}
use borrow.Author.Rules.{rules}
use borrow.Rule.Slice.PartMut.{put_mid}
use Rattle.std.proofs.lemmas.List.{places}
use lib.Seq.{get_or-set_same, get_or-set_other}
use borrow.Author.Tests.{lt-ltb, le-ltb, eq-eqb, ne_eqb}
use Rattle.bits.specs.Basics.{pick}
use Rattle.bits.proofs.Laws.Choice.{lt_or_le, eq_or_ne}
use Rattle.bits.specs.Inner.{Copied, Filled}
use Rattle.bits.proofs.Laws.Table.{below_all}
use Rattle.bits.specs.Pack.{Bits}
use Rattle.word_columns.specs.Inner.{turn_of, Turned, doubled_at, roll, Rolled, mix_sum, picked_at, Picked}

-- ---- numbers turned

pub turned_none : (n : ℕ) (xs : List ℕ) → Turned n 0 xs xs
turned_none n xs = record { long = refl; earlier = λ k l. refl; here = λ x l. absurd (omega arith) }

pub turned_more : (n m v : ℕ) (before after : List ℕ) → m < n → n + m < length after → v ≡ turn_of (get_or after m 0) → Turned n m before after
    → Turned n (m + 1) before (set after (n + m) v)
turned_more n m v before after h l e t =
    record {
      long = length-set after (n + m) v ∙ t.long;
      earlier = λ k a. get_or-set_other after (n + m) k v 0 (λ q. omega arith) ∙ t.earlier k a;
      here = λ x a. ⊎_elim
          (λ (q : x ≡ m). rw q (get_or-set_same after (n + m) v 0 l ∙ e ∙ ap turn_of (t.earlier m h)))
          (λ (q : x ≡ m → ⊥). get_or-set_other after (n + m) (n + x) v 0 (λ w. q (omega arith)) ∙ t.here x (omega arith))
          (eq_or_ne x m);
    }

module _ (planes : List ℕ) (m : ℕ) where
  doubled_low : (x : ℕ) → x < 270 → doubled_at planes (540 * m + x) ≡ get_or planes (270 * m + x) 0
  unfolding doubled_at
  doubled_low x l =
      let p : (540 * m + x) / 540 ≡ m = omega arith in
      let q : (540 * m + x) % 540 ≡ x = omega arith in
      rw (p, q, lt-ltb x 270 l) refl

  doubled_high : (x : ℕ) → x < 270 → doubled_at planes (540 * m + 270 + x) ≡ turn_of (get_or planes (270 * m + x) 0)
  unfolding doubled_at
  doubled_high x l =
      let p : (540 * m + 270 + x) / 540 ≡ m = omega arith in
      let q : (540 * m + 270 + x) % 540 ≡ x + 270 = omega arith in
      let z : 270 ≤ x + 270 = omega arith in
      let w : x + 270 - 270 ≡ x = omega arith in
      rw (p, q, le-ltb (x + 270) 270 z, w) refl

  -- plane m copied, and its numbers turned after it
  pub plane_doubled : (v part after : List ℕ) → 540 * m + 540 ≤ length v → length part ≡ 270
      → ((x : ℕ) → x < 270 → get_or part x 0 ≡ get_or planes (270 * m + x) 0)
      → Turned 270 270 (take (540 * m + 540 - 540 * m) (drop (540 * m) (put_mid (540 * m) (540 * m + 270 - 540 * m) v part))) after
      → Filled (doubled_at planes) v (540 * m)
      → Filled (doubled_at planes) (put_mid (540 * m) (540 * m + 540 - 540 * m) (put_mid (540 * m) (540 * m + 270 - 540 * m) v part) after) (540 * m + 540)
  plane_doubled v part after room size copy t h k l =
      ⊎_elim
      (λ (q : k < 540 * m). let same : get_or all k 0 ≡ get_or v k 0 = search (rules, places) in same ∙ h k q)
      (λ (q : 540 * m ≤ k).
      let here : get_or all k 0 ≡ get_or after (k - 540 * m) 0 = search (rules, places) in
      ⊎_elim
      (λ (r : k - 540 * m < 270).
      let e : 540 * m + (k - 540 * m) ≡ k = omega arith in
      here ∙ t.earlier (k - 540 * m) r ∙ copied (k - 540 * m) r ∙ copy (k - 540 * m) r ∙ sym (doubled_low (k - 540 * m) r) ∙ ap (doubled_at planes) e)
      (λ (r : 270 ≤ k - 540 * m).
      let y : ℕ = k - 540 * m - 270 in
      let y' : y < 270 = omega arith in
      let d : k - 540 * m ≡ 270 + y = omega arith in
      let e : 540 * m + 270 + y ≡ k = omega arith in
      here ∙ ap (λ (i : ℕ). get_or after i 0) d ∙ t.here y y' ∙ ap turn_of (copied y y' ∙ copy y y') ∙ sym (doubled_high y y') ∙ ap (doubled_at planes) e)
      (lt_or_le (k - 540 * m) 270))
      (lt_or_le k (540 * m))
    where
      low : List ℕ
      low = put_mid (540 * m) (540 * m + 270 - 540 * m) v part

      two : List ℕ
      two = take (540 * m + 540 - 540 * m) (drop (540 * m) low)

      all : List ℕ
      all = put_mid (540 * m) (540 * m + 540 - 540 * m) low after

      long : length low ≡ length v
      long = search (rules, places)

      wide : length after ≡ 540
      wide = t.long ∙ search (rules, places)

      copied : (x : ℕ) → x < 270 → get_or two x 0 ≡ get_or part x 0
      copied x l = search (rules, places)

-- ---- eight numbers of a row

-- what was picked before, and the first t of this row's eight
abbrev pub Begun : List ℕ → List ℕ → ℕ → ℕ → ℕ → List ℕ → Type 0
Begun v at k n t seen = Picked v at (30 * k + n) seen × ((u : ℕ) → u < t → get_or seen (72 * n + 8 * k + u) 0 ≡ picked_at v at (72 * n + 8 * k + u))

module _ (v at : List ℕ) (k n : ℕ) (hk : k < 9) (hn : n < 30) where
  pub begun_more : (t x : ℕ) (seen : List ℕ) → t < 8 → length seen ≡ 2160 → x ≡ get_or v (9 * n + get_or at (8 * k + t) 0) 0 → Begun v at k n t seen
      → Begun v at k n (t + 1) (set seen (72 * n + 8 * k + t) x)
  unfolding picked_at
  begun_more t x seen ht size e b = (
    λ y l h. get_or-set_other seen p y x 0 (λ q. absurd (omega arith)) ∙ b.0 y l h,
    λ u l. ⊎_elim
        (λ (q : u ≡ t). rw q (get_or-set_same seen p x 0 (omega arith) ∙ e ∙ ap₂ (λ (r c : ℕ). get_or v (9 * r + get_or at c 0) 0) row col))
        (λ (q : u ≡ t → ⊥). get_or-set_other seen p (72 * n + 8 * k + u) x 0 (λ w. q (omega arith)) ∙ b.1 u (omega arith))
        (eq_or_ne u t),
  )
    where
      p : ℕ
      p = 72 * n + 8 * k + t

      row : n ≡ (72 * n + 8 * k + t) / 72
      row = omega arith

      col : 8 * k + t ≡ (72 * n + 8 * k + t) % 72
      col = omega arith

  pub begun_all : (seen : List ℕ) → Begun v at k n 8 seen → Picked v at (30 * k + n + 1) seen
  begun_all seen b y l h =
      ⊎_elim
      (λ (q : 30 * (y % 72 / 8) + y / 72 < 30 * k + n). b.0 y l q)
      (λ (q : 30 * k + n ≤ 30 * (y % 72 / 8) + y / 72).
      let w : y ≡ 72 * n + 8 * k + y % 8 = omega arith in
      rw w (b.1 (y % 8) (omega arith)))
      (lt_or_le (30 * (y % 72 / 8) + y / 72) (30 * k + n))

-- ---- lines of nine bytes

pub row_copied : (from before after : List ℕ) (g : ℕ → ℕ) (r at : ℕ) → Copied from at before (9 * r) 9 after → ((t : ℕ) → t < 9 → g (9 * r + t) ≡ at + t)
    → ((k : ℕ) → k < 9 * r → get_or before k 0 ≡ get_or from (g k) 0) → (k : ℕ) → k < 9 * (r + 1) → get_or after k 0 ≡ get_or from (g k) 0
row_copied from before after g r at c e h k l =
    ⊎_elim
    (λ (q : k < 9 * r). c.earlier k q ∙ h k q)
    (λ (q : 9 * r ≤ k).
    let t : ℕ = k - 9 * r in
    let w : k ≡ 9 * r + t = omega arith in
    ap (λ (j : ℕ). get_or after j 0) w
    ∙ c.here t (omega arith)
    ∙ ap (λ (j : ℕ). get_or from j 0) (sym (e t (omega arith)) ∙ ap g (sym w)))
    (lt_or_le k (9 * r))

-- ---- masks

one_up : (e : ℕ) → e < 7 → 1 * 2 ^ e % 2 ^ 8 ≡ 2 ^ e
one_up e h = eqb→eq (1 * 2 ^ e % 2 ^ 8) (2 ^ e) (below_all 7 (λ e. eqb (1 * 2 ^ e % 2 ^ 8) (2 ^ e)) tt e h)

pub mask_put : (mask : List ℕ) (b e : ℕ) → length mask ≡ 1008 → b < 72 → e < 7 → (y : ℕ) → y < 144
    → get_or (set (set mask b (1 * 2 ^ e % 2 ^ 8)) (b + 72) (1 * 2 ^ e % 2 ^ 8)) y 0 ≡ pick (eqb (y % 72) b) (2 ^ e) (get_or mask y 0)
mask_put mask b e n hb he y l =
    let v : ℕ = 1 * 2 ^ e % 2 ^ 8 in
    let room : b + 72 < length (set mask b v) = omega (arith, length-set mask b v) in
    ⊎_elim
    (λ (q : y ≡ b + 72).
    let w : y % 72 ≡ b = omega arith in
    rw (eq-eqb (y % 72) b w, q) (get_or-set_same (set mask b v) (b + 72) v 0 room ∙ one_up e he))
    (λ (q : y ≡ b + 72 → ⊥). get_or-set_other (set mask b v) (b + 72) y v 0 q ∙ ⊎_elim
    (λ (z : y ≡ b).
    let w : y % 72 ≡ b = omega arith in
    rw (eq-eqb (y % 72) b w, z) (get_or-set_same mask b v 0 (omega arith) ∙ one_up e he))
    (λ (z : y ≡ b → ⊥). rw (ne_eqb (y % 72) b (other q z)) (get_or-set_other mask b y v 0 z))
    (eq_or_ne y b))
    (eq_or_ne y (b + 72))
  where
    other : (y ≡ b + 72 → ⊥) → (y ≡ b → ⊥) → y % 72 ≡ b → ⊥
    other q z w = ⊎_elim (λ (h : y < 72). z (omega arith)) (λ (h : 72 ≤ y). q (omega arith)) (lt_or_le y 72)

pub rolled_none : (mask : List ℕ) → Rolled 0 mask mask
rolled_none mask = record { long = refl; first = λ y l. refl; next = λ x l. absurd (omega arith) }

pub rolled_more : (before after : List ℕ) (m v : ℕ) → m + 144 < length after → v ≡ roll (get_or after m 0) → Rolled m before after
    → Rolled (m + 1) before (set after (m + 144) v)
rolled_more before after m v l e r =
    record {
      long = length-set after (m + 144) v ∙ r.long;
      first = λ y h. apart y (λ q. omega arith) ∙ r.first y h;
      next = λ x h. ⊎_elim
          (λ (q : x ≡ m). rw q (get_or-set_same after (m + 144) v 0 l ∙ e ∙ sym (ap roll (apart m (λ w. omega arith)))))
          (λ (q : x ≡ m → ⊥). apart (x + 144) (λ w. q (omega arith)) ∙ r.next x (omega arith) ∙ sym (ap roll (apart x (λ w. omega arith))))
          (eq_or_ne x m);
    }
  where
    apart : (k : ℕ) → (k ≡ m + 144 → ⊥) → get_or (set after (m + 144) v) k 0 ≡ get_or after k 0
    apart k q = get_or-set_other after (m + 144) k v 0 q

-- ---- mixing

mix_on : (h w : ℕ → ℕ) (n d : ℕ) → mix_sum h w n ≤ mix_sum h w (n + d)
unfolding mix_sum
mix_on h w n zero = let e : n + 0 ≡ n = omega arith in rw e (omega arith)
mix_on h w n (suc d) = let e : n + suc d ≡ suc (n + d) = omega arith in rw e (let r = mix_on h w n d in omega arith)

-- bits take no more than all masks together
mix_bits : (h w : ℕ → ℕ) → Bits h → (n : ℕ) → mix_sum h w n ≤ mix_sum (λ i. 1) w n
unfolding mix_sum
mix_bits h w b zero = omega arith
mix_bits h w b (suc n) =
    let one : h n ≤ 1 = let l = b n in omega arith in
    omega (arith, mix_bits h w b n, mul-le-mul one (le_refl (w n)))

pub mix_fits : (h w : ℕ → ℕ) → Bits h → mix_sum (λ i. 1) w 7 < 256 → (i : ℕ) → i < 7 → mix_sum h w i + h i * w i < 256
unfolding mix_sum
mix_fits h w b l i k =
    let e : suc i + (6 - i) ≡ 7 = omega arith in
    let m : mix_sum h w (suc i) ≤ mix_sum h w 7 = rw e at (mix_on h w (suc i) (6 - i)) in
    omega (arith, mix_bits h w b 7)
