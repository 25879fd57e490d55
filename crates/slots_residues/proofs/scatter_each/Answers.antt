-- The symbols before i are laid.
use mathlib.Core.Path.{◌≡◌, refl, ap, ◌∙◌}
use mathlib.Core.List.{List}
use Prim.Native.Nat.{ℕ, ◌+◌, ◌-◌, ◌%◌, ◌≤◌, ◌<◌}
use native.Mathlib.Omega.{arith}
use native.Mathlib.Nat.{zero-mod}
use lib.ListN.{length, get_or}
use Rattle.channel.specs.Inner.{Puts, Put}
use Rattle.slots_residues.proofs.Laws.Scatter.{puts_long, scattered_none, scattered_more, scattered_end, residue_on}
use Rattle.slots_residues.specs.Inner.{Scatters, Scattered}
use Rattle.slots_residues.proofs.scatter_each.Goals as goal

-- the symbol at i can be laid
ready : (row : List ℕ) (from to n m t : ℕ) (words' : List ℕ) → Scatters row from to n m t words' → (words : List ℕ) (i : ℕ) → from ≤ i → i < to → length words ≡ length words' → Puts (t + (i - from)) m (get_or row i 0) words
ready row from to n m t words' asked words i low high long =
    let here : from + (i - from) ≡ i = omega arith in
    puts_long (t + (i - from)) m (get_or row i 0) words' words long (rw here at (asked.puts (i - from) (omega arith)))

-- and is the next one
more : (row : List ℕ) (from n m t : ℕ) (words' words : List ℕ) (i : ℕ) (after : List ℕ) → 1 ≤ n → from ≤ i → (i - from) % n ≡ 0
    → Scattered row from (i - from) n m t words' words → Put (t + (i - from)) m (get_or row i 0) words after → Scattered row from (i - from + n) n m t words' after
more row from n m t words' words i after least low res so_far put =
    let here : from + (i - from) ≡ i = omega arith in
    scattered_more row from n m t words' least (i - from) res words so_far after (rw here put)

pub put-requires : goal.put-requires
put-requires g c =
    let a = c.args.lane in
    (ready c.args.row.now a.from a.to a.n a.m a.t c.args.words.now c.requires.0 c.loop-i.words c.loop-i.i (omega arith) (omega arith) c.loop-i.invariant.2, c.requires.1)

pub loop-i-preserved : goal.loop-i-preserved
loop-i-preserved g c =
    let a = c.args.lane in
    let l = c.loop-i in
    let low = l.auto.i in
    let on : l.i - a.from + a.n ≡ l.i + a.n - a.from = omega arith in (
      rw on at (residue_on a.n (l.i - a.from) l.invariant.0),
      omega arith,
      c.put.auto.words ∙ l.invariant.2,
      rw on at (more c.args.row.now a.from a.n a.m a.t c.args.words.now l.words l.i c.put.new.words c.requires.0.least low l.invariant.0 l.invariant.3 c.put.ensures),
    )

pub returns : goal.returns
returns g c =
    let a = c.args.lane in
    let l = c.loop-i in
    scattered_end c.args.row.now a.from a.n a.m a.t c.args.words.now c.requires.0.least (l.i - a.from) l.invariant.0 l.words l.invariant.3 (a.to - a.from) (omega arith) l.invariant.1

pub returns-2 : goal.returns-2
returns-2 g c =
    let a = c.args.lane in
    let l = c.loop-i in
    let low = l.auto.i in
    let least = c.requires.0.least in
    let next = more c.args.row.now a.from a.n a.m a.t c.args.words.now l.words l.i c.put.new.words least low l.invariant.0 l.invariant.3 c.put.ensures in
    scattered_end c.args.row.now a.from a.n a.m a.t c.args.words.now least (l.i - a.from + a.n) (residue_on a.n (l.i - a.from) l.invariant.0) c.put.new.words next (a.to - a.from) (omega arith) (omega arith)
