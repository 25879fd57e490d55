-- What the lines give, told 0, 1, 2 and so on: each row its own symbols, as many turns late as it has bytes, and zeros before them. So the writing side gives step 9's
-- places, and the reading side after it the writer's symbols.
use mathlib.Core.Path.{◌≡◌, refl, sym, ap, ◌∙◌}
use mathlib.Core.List.{List}
use mathlib.Core.Logic.{⊎_elim}
use Prim.Native.Nat.{ℕ, zero, suc, ◌+◌, ◌-◌, ◌*◌, ◌%◌, ◌≤◌, ◌<◌}
use native.Mathlib.Omega.{arith}
use native.Mathlib.Nat.{mul_assoc, add-mul, mul-le-mul, mod-lt, add-mul-mod_self_right}
use lib.Dec.{ltb}
use lib.ListN.{length, get_or, set, length-set}
use lib.Seq.{get_or-set_same, get_or-set_other}
use borrow.Author.Tests.{lt-ltb, le-ltb}
use Rattle.bits.specs.Basics.{pick, tab}
use Rattle.bits.proofs.Laws.Choice.{lt_or_le, eq_or_ne}
use Rattle.bits.proofs.Laws.Table.{length_tab, get_or_tab}
use Rattle.channel.specs.declared.Layout.{Layout}
use Rattle.channel.specs.Channel.{total, placed}
use Rattle.channel.specs.Inner.{delay}
use Rattle.channel.proofs.Laws.Places.{placed_first}
use Rattle.delay.specs.Delay.{lag, begin, byte_of, given, moved}
use Rattle.delay.proofs.Laws.Delay.{area_at, given_at, given_none, given_some, moved_none, moved_some, byte_in, bytes_apart, byte_round}
use Rattle.delay.specs.declared.Side.TheVariants.{Writing, Reading}

module _ (rows : ℕ) (late : ℕ → ℕ) (least : 1 ≤ rows) (q : ℕ → ℕ) where
  -- before step n: the byte of an earlier step has that step's symbol until the row comes round to it, and that of a later step is 0 until it was first written
  record Kept (n : ℕ) (area : List ℕ) : Type 0 where
    pub long : length area ≡ begin late rows
    pub held : (m : ℕ) → m < n → n ≤ m + late (m % rows) * rows → 1 ≤ late (m % rows) → get_or area (byte_of rows late m) 0 ≡ q m
    pub fresh : (m : ℕ) → n ≤ m → m < late (m % rows) * rows → get_or area (byte_of rows late m) 0 ≡ 0

  -- a row with a step before its first round has bytes
  some_bytes : (m : ℕ) → m < late (m % rows) * rows → 1 ≤ late (m % rows)
  some_bytes m l =
      ⊎_elim
      (λ (z : late (m % rows) ≡ 0). let e : late (m % rows) * rows ≡ 0 = ap (λ (k : ℕ). k * rows) z ∙ omega arith in absurd (omega arith))
      (λ (z : late (m % rows) ≡ 0 → ⊥). omega arith)
      (eq_or_ne (late (m % rows)) 0)

  kept_start : Kept 0 (tab (begin late rows) (λ i. 0))
  kept_start = record {
    long = length_tab (begin late rows) (λ i. 0);
    held = λ m l. absurd (omega arith);
    fresh = λ m l h. get_or_tab (begin late rows) (λ i. 0) (byte_of rows late m) (byte_in late rows least m (some_bytes m h));
  }

  module _ (n : ℕ) (area : List ℕ) (k : Kept n area) where
    -- a row of no bytes keeps nothing
    kept_none : late (n % rows) ≡ 0 → Kept (n + 1) area
    kept_none z = record {
      long = k.long;
      held = λ m l near some. ⊎_elim
          (λ (e : m ≡ n). let same : late (m % rows) ≡ 0 = ap (λ (x : ℕ). late (x % rows)) e ∙ z in absurd (omega arith))
          (λ (e : m ≡ n → ⊥). k.held m (omega arith) (omega arith) some)
          (eq_or_ne m n);
      fresh = λ m l h. k.fresh m (omega arith) h;
    }

    kept_some : 1 ≤ late (n % rows) → Kept (n + 1) (set area (byte_of rows late n) (q n))
    kept_some here =
        let at : ℕ = byte_of rows late n in
        let inside : at < length area = let b = byte_in late rows least n here in let e = k.long in omega arith in
        record {
          long = length-set area at (q n) ∙ k.long;
          held = λ m l near some. ⊎_elim
              (λ (e : m ≡ n). rw e (get_or-set_same area at (q n) 0 inside))
              (λ (e : m ≡ n → ⊥).
              let before : m < n = omega arith in
              get_or-set_other area at (byte_of rows late m) (q n) 0 (bytes_apart late rows least m n some here before (λ r. omega arith))
              ∙ k.held m before (omega arith) some)
              (eq_or_ne m n);
          fresh = λ m l h.
              let behind : n < m = omega arith in
              let some : 1 ≤ late (m % rows) = some_bytes m h in
              let near : n % rows ≡ m % rows → m < n + late (n % rows) * rows = λ r.
              let e : late (n % rows) * rows ≡ late (m % rows) * rows = ap (λ (x : ℕ). late x * rows) r in omega arith in
              get_or-set_other area at (byte_of rows late m) (q n) 0 (λ e. bytes_apart late rows least n m here some behind near (sym e))
              ∙ k.fresh m (omega arith) h;
        }

    kept_next : Kept (n + 1) (moved rows late n (q n) area)
    kept_next =
        ⊎_elim
        (λ (z : late (n % rows) ≡ 0). rw (moved_none rows late n (q n) area z) (kept_none z))
        (λ (z : late (n % rows) ≡ 0 → ⊥). let some : 1 ≤ late (n % rows) = omega arith in rw (moved_some rows late n (q n) area some) (kept_some some))
        (eq_or_ne (late (n % rows)) 0)

    -- so the step gives the symbol of the row's last round
    gives_last : given rows late n (q n) area ≡ pick (ltb n (late (n % rows) * rows)) 0 (q (n - late (n % rows) * rows))
    gives_last =
        let l : ℕ = late (n % rows) in
        ⊎_elim
        (λ (z : l ≡ 0).
        let e : l * rows ≡ 0 = ap (λ (x : ℕ). x * rows) z ∙ omega arith in
        let past : l * rows ≤ n = omega arith in
        let same : n - l * rows ≡ n = omega arith in
        given_none rows late n (q n) area z ∙ sym (rw (le-ltb n (l * rows) past) (ap q same)))
        (λ (z : l ≡ 0 → ⊥). given_some rows late n (q n) area (omega arith) ∙ ⊎_elim
        (λ (h : n < l * rows). k.fresh n (omega arith) h ∙ sym (rw (lt-ltb n (l * rows) h) refl))
        (λ (h : l * rows ≤ n). last l z h refl ∙ sym (rw (le-ltb n (l * rows) h) refl))
        (lt_or_le n (l * rows)))
        (eq_or_ne l 0)
      where
        last : (l : ℕ) → (l ≡ 0 → ⊥) → l * rows ≤ n → l ≡ late (n % rows) → get_or area (byte_of rows late n) 0 ≡ q (n - l * rows)
        last l z h el =
            let m : ℕ = n - l * rows in
            let back : m + l * rows ≡ n = omega arith in
            let row : m % rows ≡ n % rows = sym (add-mul-mod_self_right m l rows) ∙ ap (λ (x : ℕ). x % rows) back in
            let same : late (m % rows) ≡ l = ap late row ∙ sym el in
            let size : late (m % rows) * rows ≡ l * rows = ap (λ (x : ℕ). x * rows) same in
            let some : 1 ≤ l = omega arith in
            let less : 1 ≤ l * rows = mul-le-mul {n₁ = 1} some least in
            let round : byte_of rows late m ≡ byte_of rows late n = sym (byte_round late rows least m) ∙ ap (byte_of rows late) (omega arith) in
            ap (λ (i : ℕ). get_or area i 0) (sym round) ∙ k.held m (omega arith) (omega arith) (omega arith)

  kept : (n : ℕ) → Kept n (area_at rows late q n)
  unfolding area_at
  kept zero = kept_start
  kept (suc n) = let e : suc n ≡ n + 1 = omega arith in rw e (kept_next n (area_at rows late q n) (kept n))

  pub length_area : (n : ℕ) → length (area_at rows late q n) ≡ begin late rows
  length_area n = (kept n).long

  -- each row gives its symbols so many turns late, and zeros before them
  pub given_late : (n : ℕ) → given_at rows late q n ≡ pick (ltb n (late (n % rows) * rows)) 0 (q (n - late (n % rows) * rows))
  given_late n = gives_last n (area_at rows late q n) (kept n)

  -- so what a step takes is given when the row has come round,
  pub given_after : (n : ℕ) → given_at rows late q (n + late (n % rows) * rows) ≡ q n
  given_after n =
      let l : ℕ = late (n % rows) in
      let x : ℕ = n + l * rows in
      let same : late (x % rows) ≡ l = ap late (add-mul-mod_self_right n l rows) in
      let past : l * rows ≤ x = omega arith in
      let back : x - l * rows ≡ n = omega arith in
      given_late x ∙ ap (λ (k : ℕ). pick (ltb x (k * rows)) 0 (q (x - k * rows))) same ∙ rw (le-ltb x (l * rows) past) (ap q back)

  -- and the first round gives zeros
  pub given_first : (n : ℕ) → n < late (n % rows) * rows → given_at rows late q n ≡ 0
  given_first n l = given_late n ∙ rw (lt-ltb n (late (n % rows) * rows) l) refl

  -- no symbol is given that was not taken, but 0
  pub given_below : (order n : ℕ) → 1 ≤ order → ((k : ℕ) → k ≤ n → q k < order) → given_at rows late q n < order
  given_below order n some h =
      let l : ℕ = late (n % rows) * rows in
      ⊎_elim
      (λ (a : n < l). rw (given_first n a) some)
      (λ (a : l ≤ n). rw (given_late n, le-ltb n l a) (h (n - l) (omega arith)))
      (lt_or_le n l)

-- what a step gives goes by the symbols taken so far
pub given_same : (rows : ℕ) (late : ℕ → ℕ) → 1 ≤ rows → (q other : ℕ → ℕ) (n : ℕ) → ((k : ℕ) → k ≤ n → q k ≡ other k) → given_at rows late q n ≡ given_at rows late other n
given_same rows late least q other n h =
    let l : ℕ = late (n % rows) * rows in
    given_late rows late least q n ∙ ap (pick (ltb n l) 0) (h (n - l) (omega arith)) ∙ sym (given_late rows late least other n)

-- what the writing side gives is what step 9 puts there, in any layout with these rows and steps that has the symbol
pub step9 : (g : Layout) → 1 ≤ g.rows → (q : ℕ → ℕ) (x : ℕ) → x < total g → given_at g.rows (lag Writing g.rows g.step) q x ≡ placed g q x
step9 g least q x l =
    let e : x % g.rows * g.step * g.rows ≡ delay g (x % g.rows) = mul_assoc (x % g.rows) g.step g.rows in
    given_late g.rows (lag Writing g.rows g.step) least q x
    ∙ ap (λ (k : ℕ). pick (ltb x k) 0 (q (x - k))) e
    ∙ sym (placed_first g q x l)

-- ---- the two sides of N rows with B

module _ (rows step : ℕ) (least : 1 ≤ rows) (q : ℕ → ℕ) where
  -- the turns of a row on both sides are the same for every row
  both_lag : (r : ℕ) → r < rows → (rows - 1 - r) * step * rows + r * step * rows ≡ (rows - 1) * (step * rows)
  both_lag r l =
      let n : ℕ = rows - 1 - r in
      let e : n + r ≡ rows - 1 = omega arith in
      let whole : (n + r) * (step * rows) ≡ (rows - 1) * (step * rows) = ap (λ (k : ℕ). k * (step * rows)) e in
      omega (arith, mul_assoc n step rows, mul_assoc r step rows, add-mul n r (step * rows))

  -- what the reading side gives after it is the writer's symbols, N (N - 1) B steps late, and zeros before them
  pub through : (n : ℕ) → given_at rows (lag Reading rows step) (given_at rows (lag Writing rows step) q) (n + (rows - 1) * (step * rows)) ≡ q n
  through n =
      let late : ℕ → ℕ = lag Reading rows step in
      let sent : ℕ → ℕ = given_at rows (lag Writing rows step) q in
      let y : ℕ = n + n % rows * step * rows in
      let row : y % rows ≡ n % rows = add-mul-mod_self_right n (n % rows * step) rows in
      let all = both_lag (n % rows) (mod-lt n least) in
      let on : n + (rows - 1) * (step * rows) ≡ y + late (y % rows) * rows = (let s : n + (rows - 1) * (step * rows) ≡ y + late (n % rows) * rows = omega arith in s) ∙ ap (λ (r : ℕ). y + late r * rows) (sym row) in
      ap (given_at rows late sent) on ∙ given_after rows late least sent y ∙ given_after rows (lag Writing rows step) least q n

  pub through_first : (n : ℕ) → n < (rows - 1) * (step * rows) → given_at rows (lag Reading rows step) (given_at rows (lag Writing rows step) q) n ≡ 0
  through_first n l =
      let late : ℕ → ℕ = lag Reading rows step in
      let sent : ℕ → ℕ = given_at rows (lag Writing rows step) q in
      let all = both_lag (n % rows) (mod-lt n least) in
      ⊎_elim
      (λ (h : n < late (n % rows) * rows). given_first rows late least sent n h)
      (λ (h : late (n % rows) * rows ≤ n).
      let y : ℕ = n - late (n % rows) * rows in
      let back : n ≡ y + late (n % rows) * rows = omega arith in
      let row : y % rows ≡ n % rows = sym (add-mul-mod_self_right y (late (n % rows)) rows) ∙ ap (λ (x : ℕ). x % rows) (sym back) in
      let on : n ≡ y + late (y % rows) * rows = back ∙ ap (λ (r : ℕ). y + late r * rows) (sym row) in
      let few : y < n % rows * step * rows = omega arith in
      ap (given_at rows late sent) on ∙ given_after rows late least sent y
      ∙ given_first rows (lag Writing rows step) least q y (rw row few))
      (lt_or_le n (late (n % rows) * rows))
