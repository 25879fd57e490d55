-- The symbols of the bytes before byte k are laid, and those before symbol q of its own.
use mathlib.Core.Path.{◌≡◌, sym, ap, ◌∙◌}
use mathlib.Core.List.{List}
use Prim.Native.Nat.{ℕ, ◌+◌, ◌-◌, ◌*◌, ◌/◌, ◌%◌, ◌^◌, ◌≤◌, ◌<◌}
use native.Mathlib.Omega.{arith}
use native.Mathlib.Nat.{le_refl, mul-le-mul, mod-eq_of_lt}
use lib.Bits.{bit_xor}
use lib.ListN.{length, get_or, set}
use Rattle.std.proofs.lemmas.List.{set-get_or}
use Rattle.channel.specs.Inner.{Puts}
use Rattle.slots_residues.proofs.Laws.Scatter.{puts_long, scattered_none}
use Rattle.slots_residues.specs.Inner.{Scatters, Scattered}
use Rattle.slots_flat.proofs.Laws.Packed.{per_least, place, packed_more, moved_up}
use Rattle.slots_flat.proofs.pack.Goals as goal

-- symbol q of byte k can be laid
ready : (m : ℕ) (row : List ℕ) (from n at : ℕ) (words' : List ℕ) → Scatters row from (from + 8 / m * n) 1 m (8 / m * at) words' → (words : List ℕ) (k q : ℕ) → k < n → q < 8 / m → length words ≡ length words'
    → Puts (8 / m * at + (8 / m * k + q)) m (get_or row (from + (8 / m * k + q)) 0) words
ready m row from n at words' h words k q l few long =
    let next : k + 1 ≤ n = omega arith in
    let top : 8 / m * (k + 1) ≤ 8 / m * n = mul-le-mul (le_refl (8 / m)) next in
    puts_long (8 / m * at + (8 / m * k + q)) m (get_or row (from + (8 / m * k + q)) 0) words' words long (h.puts (8 / m * k + q) (omega arith))

inside : (m : ℕ) → 8 % m ≡ 0 → (row : List ℕ) (from n at : ℕ) (words' : List ℕ) → Scatters row from (from + 8 / m * n) 1 m (8 / m * at) words' → (words : List ℕ) (k : ℕ) → k < n → length words ≡ length words'
    → at + k < length words
inside m divides row from n at words' h words k l long =
    let some = per_least m divides in
    let r = (ready m row from n at words' h words k 0 l (omega arith) long).room in
    let p = place m divides at k 0 in
    omega arith

-- whatever form the number has that is put in
same_value : (row : List ℕ) (from n m t : ℕ) (words' words : List ℕ) (at byte v w : ℕ) → Scattered row from n 1 m t words' (set words at (bit_xor byte v)) → v ≡ w
    → Scattered row from n 1 m t words' (set words at (bit_xor byte w))
same_value row from n m t words' words at byte v w p e = rw e at p

pub bounds-words-at : goal.bounds-words-at
bounds-words-at g c = inside g.row.M c.requires.1 c.args.row.now c.args.from c.args.n c.args.at c.args.words.now c.requires.0 c.loop-k.words c.loop-k.k (omega arith) c.loop-k.auto.words

pub loop-q-preserved : goal.loop-q-preserved
loop-q-preserved g c =
    let a = c.args in
    let m : ℕ = g.row.M in
    let k : ℕ = c.loop-k.k in
    let q : ℕ = c.loop-q.q in
    let less : k < a.n = omega arith in
    let few : q < 8 / m = omega arith in
    let can = ready m a.row.now a.from a.n a.at a.words.now c.requires.0 c.loop-k.words k q less few c.loop-k.auto.words in
    let room = inside m c.requires.1 a.row.now a.from a.n a.at a.words.now c.requires.0 c.loop-k.words k less c.loop-k.auto.words in
    same_value a.row.now a.from (8 / m * k + (q + 1)) m (8 / m * a.at) a.words.now c.loop-k.words (a.at + k) c.loop-q.byte _ _
    (packed_more m c.requires.1 a.row.now a.from a.at a.words.now k q c.loop-q.byte c.loop-k.words room few can c.loop-q.invariant)
    (sym (mod-eq_of_lt (moved_up m c.requires.1 (get_or a.row.now (a.from + (8 / m * k + q)) 0) q can.small few))
    ∙ ap (λ (i : ℕ). get_or a.row.now i 0 * 2 ^ (8 - m - m * q) % 256) (omega arith))

pub bounds-words-at-in-loop-k : goal.bounds-words-at-in-loop-k
bounds-words-at-in-loop-k g c = inside g.row.M c.requires.1 c.args.row.now c.args.from c.args.n c.args.at c.args.words.now c.requires.0 c.loop-k.words c.loop-k.k (omega arith) c.loop-k.auto.words

pub returns : goal.returns
returns g c =
    let all : 8 / g.row.M * c.loop-k.k ≡ 8 / g.row.M * c.args.n = ap (λ (k : ℕ). 8 / g.row.M * k) (omega arith) in
    rw all at c.loop-k.invariant
