-- The places of the residue before x, which is symbol s without the markers, are done; x stands where its symbol does, less the delay.
use mathlib.Core.Path.{◌≡◌, refl, sym, ap, ◌∙◌}
use mathlib.Core.List.{List}
use Prim.Native.Nat.{ℕ, ◌+◌, ◌-◌, ◌*◌, ◌%◌, ◌≤◌, ◌<◌}
use native.Mathlib.Omega.{arith}
use native.Mathlib.Nat.{add-mod_right}
use Rattle.bits.specs.Pack.{piece}
use Rattle.sizes.specs.Sizes.{word_bytes}
use Rattle.channel.specs.Inner.{delay}
use Rattle.channel.proofs.Laws.Symbols.{data_inside}
use Rattle.slots.proofs.Laws.Slots.{placed_below}
use Rattle.slots.specs.Writing.{data_symbol}
use Rattle.slots_lines.specs.Inner.{stride}
use Rattle.slots_moves.proofs.Laws.Moves.{copied, of, holds_same}
use Rattle.slots_lines.proofs.Laws.Lines.{sizes, placed_at, residue_first, residue_begun, residue_more, residue_ended}
use Rattle.slots_lines.proofs.put_residue.Goals as goal

pub overflow_mul-all : goal.overflow_mul-all
overflow_mul-all c =
    let s = c in
    let z = sizes s.args.p s.requires.0.given.fine s.args.line s.args.r s.requires.1.inside in
    omega (arith, z)

pub overflow_mul-start : goal.overflow_mul-start
overflow_mul-start c =
    let s = c in
    let z = sizes s.args.p s.requires.0.given.fine s.args.line s.args.r s.requires.1.inside in
    omega (arith, z)

pub overflow_mul-skip : goal.overflow_mul-skip
overflow_mul-skip c =
    let s = c in
    let z = sizes s.args.p s.requires.0.given.fine s.args.line s.args.r s.requires.1.inside in
    omega (arith, z)

pub overflow_add-skip : goal.overflow_add-skip
overflow_add-skip c =
    let s = c in
    let z = sizes s.args.p s.requires.0.given.fine s.args.line s.args.r s.requires.1.inside in
    omega (arith, z)

pub overflow_mul-delay : goal.overflow_mul-delay
overflow_mul-delay c =
    let s = c in
    let z = sizes s.args.p s.requires.0.given.fine s.args.line s.args.r s.requires.1.inside in
    omega (arith, z)

pub overflow_mul-delay-2 : goal.overflow_mul-delay-2
overflow_mul-delay-2 c =
    let s = c in
    let z = sizes s.args.p s.requires.0.given.fine s.args.line s.args.r s.requires.1.inside in
    omega (arith, z)

pub overflow_add-start : goal.overflow_add-start
overflow_add-start c =
    let s = c in
    let z = sizes s.args.p s.requires.0.given.fine s.args.line s.args.r s.requires.1.inside in
    omega (arith, z)

pub overflow_add-delay : goal.overflow_add-delay
overflow_add-delay c =
    let s = c in
    let z = sizes s.args.p s.requires.0.given.fine s.args.line s.args.r s.requires.1.inside in
    omega (arith, z)

pub first_place-requires : goal.first_place-requires
first_place-requires c =
    let s = c in
    let z = sizes s.args.p s.requires.0.given.fine s.args.line s.args.r s.requires.1.inside in
    let n : c.stride_of-n.result ≡ stride s.args.p.layout.rows = c.stride_of-n.ensures in
    (s.requires.1.start ∙ ap (λ (m : ℕ). s.args.line * s.args.p.layout.symbols % m) (sym n), rw n s.requires.1.small, omega (arith, z), omega (arith, z))

pub overflow_add-delay-2 : goal.overflow_add-delay-2
overflow_add-delay-2 c =
    let s = c in
    let z = sizes s.args.p s.requires.0.given.fine s.args.line s.args.r s.requires.1.inside in
    let n = c.requires.1.small in
    omega (arith, z)

pub overflow_add-back : goal.overflow_add-back
overflow_add-back c =
    let s = c in
    let z = sizes s.args.p s.requires.0.given.fine s.args.line s.args.r s.requires.1.inside in
    omega (arith, z)

pub overflow_add-last : goal.overflow_add-last
overflow_add-last c =
    let s = c in
    let z = sizes s.args.p s.requires.0.given.fine s.args.line s.args.r s.requires.1.inside in
    let p = c.args.p in
    let d : ℕ = delay p.layout (s.args.r % p.layout.rows) in
    let e : c.min-end.result ≡ _ = c.min-end.ensures in
    omega (arith, z)

pub overflow_add-first : goal.overflow_add-first
overflow_add-first c =
    let s = c in
    let z = sizes s.args.p s.requires.0.given.fine s.args.line s.args.r s.requires.1.inside in
    let n = c.stride_of-n.ensures in
    let first = c.first_place.ensures in
    let most = c.max.ensures in
    omega (arith, z, first, most)

pub loop-s-init : goal.loop-s-init
loop-s-init c =
    let s = c in
    let z = sizes s.args.p s.requires.0.given.fine s.args.line s.args.r s.requires.1.inside in
    let p = c.args.p in
    let f = c.requires.0.given.fine in
    let n : c.stride_of-n.result ≡ stride p.layout.rows = c.stride_of-n.ensures in
    let first = c.first_place.ensures in
    let res : c.first_place.result % stride p.layout.rows ≡ s.args.r = ap (λ (m : ℕ). c.first_place.result % m) (sym n) ∙ first.0 in
    let near : c.first_place.result < s.args.line * p.layout.symbols + stride p.layout.rows = omega (arith, z, first) in
    let w : ℕ → List ℕ = piece word_bytes s.args.words.now in
    let at = residue_first p w s.args.line f s.args.r s.requires.1.small c.max.result c.first_place.result res first.1 c.max.ensures in
    let k : ℕ = s.args.line * p.layout.markers + p.layout.markers in
    let on : c.max.result ≡ k + c.max.result - k = omega (arith, z, first) in (
      ap (λ (y : ℕ). y % stride p.layout.rows) (sym on) ∙ at.0,
      omega (arith, z, first),
      omega (arith, z, first),
      refl,
      λ e h. rw on at (holds_same p _ _ e _
          (residue_begun p w s.args.line f s.args.r s.requires.1.small c.max.result c.first_place.result res near c.max.ensures) h),
      omega (arith, z, first),
    )

pub overflow_sub-s : goal.overflow_sub-s
overflow_sub-s c = let i = c.loop-s.invariant.2 in let k = c.loop-s.invariant.5 in omega arith

pub data_at-q-requires : goal.data_at-q-requires
data_at-q-requires c =
    let s = c in
    let z = sizes s.args.p s.requires.0.given.fine s.args.line s.args.r s.requires.1.inside in
    let t = c.loop-s-test.true in
    let i1 = c.loop-s.invariant.1 in
    let i2 = c.loop-s.invariant.2 in
    let l = c.loop-s in
    let p = c.args.p in
    let k : ℕ = s.args.line * p.layout.markers + p.layout.markers in
    let x : ℕ = l.s - k in
    let above : k ≤ l.s = l.invariant.5 in
    let d : ℕ = delay p.layout (s.args.r % p.layout.rows) in
    let e : c.min-end.result ≡ _ = c.min-end.ensures in
    let f = c.requires.0.given.fine in
    let inside = data_inside p.bits p.layout f.symbols_are (l.s - (k + d)) (omega (arith, z)) in
    let least = c.requires.0.given.fine.bits_least in
    let words = c.requires.0.given.fine.words_most in
    let long = c.requires.0.given.long in
    record { bits_least = omega (arith, z); bits_most = f.bits_most; bound = omega (arith, z); room = omega (arith, z) }

pub move_symbol-requires : goal.move_symbol-requires
move_symbol-requires c =
    let s = c in
    let z = sizes s.args.p s.requires.0.given.fine s.args.line s.args.r s.requires.1.inside in
    let t = c.loop-s-test.true in
    let i1 = c.loop-s.invariant.1 in
    let i2 = c.loop-s.invariant.2 in
    let l = c.loop-s in
    let p = c.args.p in
    let k : ℕ = s.args.line * p.layout.markers + p.layout.markers in
    let x : ℕ = l.s - k in
    let above : k ≤ l.s = l.invariant.5 in
    let d : ℕ = delay p.layout (s.args.r % p.layout.rows) in
    let e : c.min-end.result ≡ _ = c.min-end.ensures in
    let f = c.requires.0.given.fine in
    let w : ℕ → List ℕ = piece word_bytes s.args.words.now in
    let less : l.s - (k + d) ≡ x - d = omega (arith, z) in
    let q : c.data_at-q.result < p.group = rw (c.data_at-q.ensures p.layout f.symbols_are ∙ ap (data_symbol p w) less ∙ sym (placed_at p f w s.args.r x l.invariant.0 (omega (arith, z)) (omega (arith, z)))) (let b = placed_below p f w x in omega (arith, z)) in
    copied p f l.s c.data_at-q.result l.slots (l.invariant.3 ∙ s.requires.0.room) (omega (arith, z)) q

pub loop-s-preserved : goal.loop-s-preserved
loop-s-preserved c =
    let s = c in
    let z = sizes s.args.p s.requires.0.given.fine s.args.line s.args.r s.requires.1.inside in
    let t = c.loop-s-test.true in
    let i1 = c.loop-s.invariant.1 in
    let i2 = c.loop-s.invariant.2 in
    let l = c.loop-s in
    let p = c.args.p in
    let k : ℕ = s.args.line * p.layout.markers + p.layout.markers in
    let x : ℕ = l.s - k in
    let above : k ≤ l.s = l.invariant.5 in
    let d : ℕ = delay p.layout (s.args.r % p.layout.rows) in
    let e : c.min-end.result ≡ _ = c.min-end.ensures in
    let n : c.stride_of-n.result ≡ stride p.layout.rows = c.stride_of-n.ensures in
    let f = c.requires.0.given.fine in
    let w : ℕ → List ℕ = piece word_bytes s.args.words.now in
    let o = c.move_symbol in
    let less : l.s - (k + d) ≡ x - d = omega (arith, z) in
    let q : c.data_at-q.result ≡ _ = c.data_at-q.ensures p.layout f.symbols_are ∙ ap (data_symbol p w) less ∙ sym (placed_at p f w s.args.r x l.invariant.0 (omega (arith, z)) (omega (arith, z))) in
    let low : c.data_at-q.result < p.group = rw q (let b = placed_below p f w x in omega (arith, z)) in
    let moved = o.ensures p (of p f l.s c.data_at-q.result (omega (arith, z)) low) in
    let on : x + stride p.layout.rows ≡ l.s + c.stride_of-n.result - k = omega (arith, z) in (
      ap (λ (y : ℕ). y % stride p.layout.rows) (sym on) ∙ add-mod_right x (stride p.layout.rows) ∙ l.invariant.0,
      omega (arith, z),
      omega (arith, z),
      o.auto.slots ∙ l.invariant.3,
      λ v h. rw on at (residue_more p w s.args.line f s.args.r s.requires.1.small x l.s c.data_at-q.result v l.slots o.new.slots l.invariant.0 l.invariant.1 (omega (arith, z)) (omega (arith, z)) q (l.invariant.4 v h) moved),
      omega (arith, z),
    )

pub shape_of-slots : goal.shape_of-slots
shape_of-slots c = c.loop-s.invariant.3

pub returns : goal.returns
returns c =
    let s = c in
    let z = sizes s.args.p s.requires.0.given.fine s.args.line s.args.r s.requires.1.inside in
    let l = c.loop-s in
    let p = c.args.p in
    let k : ℕ = s.args.line * p.layout.markers + p.layout.markers in
    let x : ℕ = l.s - k in
    let above : k ≤ l.s = l.invariant.5 in
    let d : ℕ = delay p.layout (s.args.r % p.layout.rows) in
    let e : c.min-end.result ≡ _ = c.min-end.ensures in
    let f = c.requires.0.given.fine in
    let w : ℕ → List ℕ = piece word_bytes s.args.words.now in
    λ v h. holds_same p _ _ v l.slots (residue_ended p w s.args.line f s.args.r s.requires.1.small x c.min-end.result e (omega (arith, z))) (l.invariant.4 v h)

pub returns-2 : goal.returns-2
returns-2 c =
    let s = c in
    let z = sizes s.args.p s.requires.0.given.fine s.args.line s.args.r s.requires.1.inside in
    let t = c.loop-s-test.true in
    let i1 = c.loop-s.invariant.1 in
    let i2 = c.loop-s.invariant.2 in
    let l = c.loop-s in
    let p = c.args.p in
    let k : ℕ = s.args.line * p.layout.markers + p.layout.markers in
    let x : ℕ = l.s - k in
    let above : k ≤ l.s = l.invariant.5 in
    let d : ℕ = delay p.layout (s.args.r % p.layout.rows) in
    let e : c.min-end.result ≡ _ = c.min-end.ensures in
    let n : c.stride_of-n.result ≡ stride p.layout.rows = c.stride_of-n.ensures in
    let f = c.requires.0.given.fine in
    let w : ℕ → List ℕ = piece word_bytes s.args.words.now in
    let o = c.move_symbol in
    let less : l.s - (k + d) ≡ x - d = omega (arith, z) in
    let q : c.data_at-q.result ≡ _ = c.data_at-q.ensures p.layout f.symbols_are ∙ ap (data_symbol p w) less ∙ sym (placed_at p f w s.args.r x l.invariant.0 (omega (arith, z)) (omega (arith, z))) in
    let low : c.data_at-q.result < p.group = rw q (let b = placed_below p f w x in omega (arith, z)) in
    let moved = o.ensures p (of p f l.s c.data_at-q.result (omega (arith, z)) low) in
    λ v h. holds_same p _ _ v o.new.slots (residue_ended p w s.args.line f s.args.r s.requires.1.small (x + stride p.layout.rows) c.min-end.result e (omega (arith, z)))
    (residue_more p w s.args.line f s.args.r s.requires.1.small x l.s c.data_at-q.result v l.slots o.new.slots l.invariant.0 l.invariant.1 (omega (arith, z)) (omega (arith, z)) q (l.invariant.4 v h) moved)
