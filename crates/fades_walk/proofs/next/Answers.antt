-- A line goes on, or the next one begins.
use mathlib.Core.Path.{refl}
use native.Mathlib.Omega.{arith}
use Rattle.fades_walk.proofs.Walked.{column_small, place_small, residue_small, stands_marker, stands_place, stands_line}
use Rattle.fades_walk.proofs.next.Goals as goal

pub overflow_add-column : goal.overflow_add-column
overflow_add-column c = let s = c in omega (arith, column_small s.args.g s.requires.0 s.args.a s.requires.1)

pub returns-then-column-markers : goal.returns-then-column-markers
returns-then-column-markers c = let s = c in (stands_marker s.args.g s.requires.0 s.args.a s.requires.1 (omega arith), refl)

pub overflow_add-place : goal.overflow_add-place
overflow_add-place c = let s = c in omega (arith, place_small s.args.g s.requires.0 s.args.a s.requires.1)

pub next-residue-requires : goal.next-residue-requires
next-residue-requires c = let s = c in (residue_small s.args.g s.requires.0 s.args.a s.requires.1, s.requires.0.rows_most)

pub returns-then-column-g : goal.returns-then-column-g
returns-then-column-g c =
    let s = c in
    let r = c.next-residue in
    (stands_place s.args.g s.requires.0 s.args.a s.requires.1 (omega arith) r.result r.ensures (omega arith), refl)

pub returns : goal.returns
returns c =
    let s = c in
    let r = c.next-residue in
    (stands_line s.args.g s.requires.0 s.args.a s.requires.1 (omega arith) r.result r.ensures (omega arith), refl)
