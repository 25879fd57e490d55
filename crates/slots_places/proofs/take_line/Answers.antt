-- Where all places are hit, none is wrong, and their symbols are laid residue by residue.
use mathlib.Core.Path.{◌≡◌, sym, ap, ◌∙◌}
use mathlib.Core.Logic.{⊎_elim}
use Prim.Native.Nat.{ℕ, ◌+◌, ◌-◌, ◌*◌, ◌≤◌, ◌<◌, max}
use native.Mathlib.Omega.{arith}
use native.Mathlib.Nat.{le_refl}
use Rattle.bits.proofs.Laws.Choice.{lt_or_le}
use Rattle.bits.proofs.Laws.First.{found_none}
use Rattle.channel.proofs.Laws.Markers.{rest_else}
use Rattle.channel.specs.Channel.{unit, rest_zero}
use Rattle.slots.proofs.Laws.Bounds.{Bounds, bounds}
use Rattle.slots.specs.Reading.{pooled_in}
use Rattle.slots_places.specs.Inner.{Took}
use Rattle.slots_places.proofs.Laws.Full.{at_place, took_laid, laid_took, shown_row, full_right}
use Rattle.slots_places.proofs.Laws.Taken.{took_marks}
use Rattle.std.specs.Prelude.{List}
use Rattle.slots_residues.specs.Inner.{Room}
use Rattle.slots_places.specs.Inner.{Stretch}
use Rattle.plan.specs.declared.Plan.{Plan}
use Rattle.slots_places.proofs.take_line.Goals as goal

-- the first place and the end, and that this is `to` where there is a place
known : (p : Plan) (row : List ℕ) (base line from to : ℕ) (words : List ℕ) → (Stretch p base from to row × (line < p.layout.lines) × (line * unit p.layout ≤ from) × (to ≤ line * unit p.layout + unit p.layout) × Room p words) → (first last : ℕ) → first ≡ max from (line * p.layout.symbols + (line * p.layout.markers + p.layout.markers)) → last ≡ max first to → Bounds p × (line * unit p.layout + p.layout.markers ≤ first) × (from ≤ first) × (first < last → last ≡ to) × ((k : ℕ) → from ≤ k → k < first → first ≤ line * unit p.layout + p.layout.markers)
known p row base line from to words asked first last e f = (bounds p asked.0.fine, omega arith, omega arith, λ l. omega arith, λ k a b. omega arith)

front : (k first end : ℕ) → k < first → first ≤ end → k < end
front k first end a b = omega arith

along : (first last base skip : ℕ) → base ≤ first → skip ≤ first → first ≤ last → first - skip + (last - base - (first - base)) ≡ last - skip
along first last base skip a b c = omega arith

pub take_full-requires : goal.take_full-requires
take_full-requires c =
    let s = c in
    let a = c.args in
    let h = c.requires in
    let r = (known c.args.p c.args.row.now c.args.part.base c.args.part.line c.args.part.from c.args.part.to c.args.words.now c.requires) c.max-s.result c.max-end.result c.max-s.ensures c.max-end.ensures in
    let hit = c.full.ensures c.if-full.true in
    let start = c.requires.0.start in
    let low = r.1 in
    let some = hit.0 in
    let all : c.max-end.result ≡ a.part.to = r.3 (omega arith) in
    let last : ℕ = c.max-end.result in
    let first : ℕ = c.max-s.result in (
      record {
        fine = h.0.fine;
        order = omega arith;
        room = let room = c.requires.0.room in omega arith;
        bound = let most = c.requires.0.most in let k = r.0 in omega arith;
        begun = hit.1;
        end = rw (along first last a.part.base (a.part.line * a.p.layout.markers + a.p.layout.markers) (omega arith) (omega arith) (omega arith)) hit.2;
        small = λ i f l. h.0.small i (omega arith);
      },
      h.4,
    )

pub returns-then-full : goal.returns-then-full
returns-then-full c =
    let s = c in
    let a = c.args in
    let p = c.args.p in
    let h = c.requires in
    let first : ℕ = c.max-s.result in
    let last : ℕ = c.max-end.result in
    let r = (known c.args.p c.args.row.now c.args.part.base c.args.part.line c.args.part.from c.args.part.to c.args.words.now c.requires) first last c.max-s.ensures c.max-end.ensures in
    let hit = c.full.ensures c.if-full.true in
    let o = c.take_full in
    let skip : ℕ = a.part.line * p.layout.markers + p.layout.markers in
    let start = c.requires.0.start in
    let low = r.1 in
    let some = hit.0 in
    let order : first < last = omega arith in
    let all : last ≡ a.part.to = r.3 order in
    let end = hit.2 in
    let high = c.requires.3 in
    let down = c.requires.2 in
    let on : first - skip + (last - a.part.base - (first - a.part.base)) ≡ a.part.to - skip = along first last a.part.base skip (omega arith) (omega arith) (omega arith) ∙ ap (λ (v : ℕ). v - skip) all in
    record {
      first = λ b row took. sym (found_none (rest_zero p.layout (pooled_in p b)) a.part.from a.part.to h.0.order (λ k f l. ⊎_elim
          (λ (m : k < first). rest_else p.layout a.part.line (pooled_in p b) k (omega arith) (front k first (a.part.line * unit p.layout + p.layout.markers) m (r.4 k f m)))
          (λ (m : first ≤ k). full_right p h.0.fine (pooled_in p b) a.part.line first a.part.to low high hit.1 (omega arith) k m l)
          (lt_or_le k first)));
      took = λ b row took q.
          let at : Took p b first a.words.now = took_marks p h.0.fine b a.words.now a.part.line a.part.from first r.2 down (λ m. r.4 a.part.from (le_refl a.part.from) m) took in
          let shown = rw (sym all) at (shown_row p b a.row.now a.part.line a.part.base first a.part.to row (omega arith) low (omega arith) high) in
          laid_took p h.0.fine b a.part.line a.part.to (omega arith) high _ (let room = c.requires.4 in let long = c.take_full.auto.words in omega arith)
          (rw on at (o.ensures (at_place p b) shown (took_laid p h.0.fine b a.part.line first low (omega arith) a.words.now at)));
    }
