-- The register after each byte is that of the definition after eight bits more: a turn is the law `register_byte`.
use mathlib.Core.Path.{◌≡◌, ap, ◌∙◌}
use Prim.Native.Nat.{ℕ, ◌+◌, ◌*◌, ◌/◌, ◌%◌, ◌^◌}
use lib.ListN.{get_or}
use Rattle.std.proofs.lemmas.List.{places}
use native.Mathlib.Omega.{arith}
use lib.Bits.{bit_xor}
use borrow.Author.Rules.{rules}
use Rattle.bits.specs.Pack.{bit_at}
use Rattle.crc.specs.Check.{register}
use Rattle.crc_steps.proofs.ByBytes.{register_byte}
use Rattle.crc_steps.proofs.by_tables.Goals as goal

pub loop-byte-preserved : goal.loop-byte-preserved
loop-byte-preserved c =
    let l = c.loop-byte in
    let block = c.args.block.now in
    let i : ℕ = 8 * (c.args.n / 8) + l.byte-index in
    let byte : c.from.result ≡ get_or block i 0 = c.from.ensures ∙ search (rules, places) in
    let next : i + 1 ≡ 8 * (c.args.n / 8) + (l.byte-index + 1) = omega arith in
    ap (bit_xor (l.r * 2 ^ 8 % 2 ^ 32)) (rw byte at c.two.ensures)
    ∙ register_byte block i l.r (c.type_inv.block i).fits l.invariant
    ∙ ap (λ (i : ℕ). register (bit_at block) (8 * i)) next
