-- The symbols before i are laid; the byte goes on by whole bytes, so that the bits in it stay the same.
use mathlib.Core.Path.{◌≡◌, refl, sym, ap, ap₂, ◌∙◌}
use mathlib.Core.List.{List}
use Prim.Native.Nat.{ℕ, ◌+◌, ◌-◌, ◌*◌, ◌/◌, ◌%◌, ◌^◌, ◌≤◌, ◌<◌}
use native.Mathlib.Omega.{arith}
use native.Mathlib.Nat.{mul-le-mul, zero-mod}
use lib.Bits.{bit_xor}
use lib.ListN.{length, get_or, set}
use lib.Pow.{pow_mono}
use Rattle.channel.specs.Inner.{Puts, Put}
use Rattle.slots_residues.proofs.Laws.Bytes.{byte_small, put_one}
use Rattle.slots_residues.proofs.Laws.Scatter.{puts_long, scattered_none, scattered_more, scattered_end, residue_on, steady_on}
use Rattle.slots_residues.specs.Inner.{Scatters, Scattered}
use Rattle.slots_residues.proofs.scatter_steady.Goals as goal

-- the symbol at i can be laid
ready : (row : List ℕ) (from to n m t : ℕ) (words' : List ℕ) → (Scatters row from to n m t words' × (m * n % 8 ≡ 0) × (m + m * t % 8 ≤ 8)) → (words : List ℕ) (i : ℕ) → from ≤ i → i < to → length words ≡ length words' → Puts (t + (i - from)) m (get_or row i 0) words
ready row from to n m t words' asked words i low high long =
    let here : from + (i - from) ≡ i = omega arith in
    puts_long (t + (i - from)) m (get_or row i 0) words' words long (rw here at (asked.0.puts (i - from) (omega arith)))

pub add_at-requires : goal.add_at-requires
add_at-requires c =
    let s = c in
    let a = c.args in
    let l = c.loop-i in
    let h = (ready c.args.row.now c.args.lane.from c.args.lane.to c.args.lane.n c.args.lane.m c.args.lane.t c.args.words.now c.requires) l.words l.i l.invariant.0 (omega arith) l.invariant.5 in
    let e = c.loop-i.invariant.2 in
    let same = c.loop-i.invariant.3 in
    let room = h.room in
    let least = h.bits_least in
    let within = c.requires.2 in
    (omega arith, omega arith, rw same at (byte_small (a.lane.t + (l.i - a.lane.from)) a.lane.m (get_or a.row.now l.i 0) l.words h (rw same within)))

-- the symbol at i is the next one
more : (row : List ℕ) (from to n m t : ℕ) (words' : List ℕ) → (Scatters row from to n m t words' × (m * n % 8 ≡ 0) × (m + m * t % 8 ≤ 8)) → (words : List ℕ) (i at : ℕ) (after : List ℕ) → from ≤ i → i < to
    → (i - from) % n ≡ 0 → at ≡ m * (t + (i - from)) / 8 → m * (t + (i - from)) % 8 ≡ m * t % 8 → length words ≡ length words' → Scattered row from (i - from) n m t words' words
    → after ≡ set words at (bit_xor (get_or words at 0) (get_or row i 0 * 2 ^ (8 - m - m * t % 8))) → Scattered row from (i - from + n) n m t words' after
more row from to n m t words' h words i at after low high res byte bit long so_far e =
    let u : ℕ = t + (i - from) in
    let q : ℕ = get_or row i 0 in
    let here : from + (i - from) ≡ i = omega arith in
    let can = ready row from to n m t words' h words i low high long in
    let laid : set words (m * u / 8) (bit_xor (get_or words (m * u / 8) 0) (q * 2 ^ (8 - m - m * u % 8))) ≡ after =
    ap₂ (λ (k r : ℕ). set words k (bit_xor (get_or words k 0) (q * 2 ^ (8 - m - r)))) (sym byte) bit ∙ sym e in
    let put : Put u m q words after = rw laid at (put_one u m q words can (rw bit h.2)) in
    scattered_more row from n m t words' h.0.least (i - from) res words so_far after (rw here put)

pub loop-i-preserved : goal.loop-i-preserved
loop-i-preserved c =
    let a = c.args.lane in
    let h = c.requires in
    let l = c.loop-i in
    let o = c.add_at in
    let from = c.loop-i.invariant.0 in
    let u : ℕ = a.t + (l.i - a.from) in
    let on : l.i - a.from + a.n ≡ l.i + a.n - a.from = omega arith in
    let up : u + a.n ≡ a.t + (l.i + a.n - a.from) = omega arith in
    let go = steady_on a.m u a.n h.1 in (
      omega arith,
      rw on at (residue_on a.n (l.i - a.from) l.invariant.1),
      ap (λ (v : ℕ). v + a.m * a.n / 8) l.invariant.2 ∙ sym go.0 ∙ ap (λ (v : ℕ). a.m * v / 8) up,
      ap (λ (v : ℕ). a.m * v % 8) (sym up) ∙ go.1 ∙ l.invariant.3,
      omega arith,
      o.auto.words ∙ l.invariant.5,
      rw on at (more c.args.row.now a.from a.to a.n a.m a.t c.args.words.now h l.words l.i l.at o.new.words from (omega arith) l.invariant.1 l.invariant.2 l.invariant.3 l.invariant.5 l.invariant.6 o.ensures),
    )

pub returns : goal.returns
returns c =
    let s = c in
    let a = c.args in
    let l = c.loop-i in
    let from = c.loop-i.invariant.0 in
    scattered_end a.row.now a.lane.from a.lane.n a.lane.m a.lane.t a.words.now s.requires.0.least (l.i - a.lane.from) l.invariant.1 l.words l.invariant.6 (a.lane.to - a.lane.from) (omega arith) l.invariant.4

pub returns-2 : goal.returns-2
returns-2 c =
    let a = c.args.lane in
    let l = c.loop-i in
    let o = c.add_at in
    let from = c.loop-i.invariant.0 in
    let least = c.requires.0.least in
    let next = more c.args.row.now a.from a.to a.n a.m a.t c.args.words.now c.requires l.words l.i l.at o.new.words from (omega arith) l.invariant.1 l.invariant.2 l.invariant.3 l.invariant.5 l.invariant.6 o.ensures in
    scattered_end c.args.row.now a.from a.n a.m a.t c.args.words.now least (l.i - a.from + a.n) (residue_on a.n (l.i - a.from) l.invariant.1) o.new.words next (a.to - a.from) (omega arith) (omega arith)
