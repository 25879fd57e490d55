-- What the functions ask and say.
use Rattle.std.specs.Prelude.{◌≡◌, List, ℕ, ◌+◌, ◌*◌, ◌^◌, ◌≤◌, ◌<◌, length}
use Rattle.bits.specs.Pack.{bit_at}

-- starts from x up to `end`: slots `first` and `last` of each lie in the capture
pub record Passes (b : List ℕ) (x first last end : ℕ) : Type 0 where
  pub eight : 8 ≤ length b
  pub most : length b < 2 ^ 60
  pub order : x ≤ end
  pub room_first : end + first ≤ 8 * length b
  pub room_last : end + last ≤ 8 * length b

-- the starts from x on that were passed do not have both pulses
pub record Next (b : List ℕ) (first last x end r : ℕ) : Type 0 where
  pub least : x ≤ r
  pub most : r ≤ end
  pub none : (k : ℕ) → x ≤ k → k < r → bit_at b (k + first) ≡ 1 → bit_at b (k + last) ≡ 1 → ⊥

-- n slots with pulses at `first` and `last`, and a capture in which they can begin at any slot from `from` to below `end`
pub record Begins (b marker : List ℕ) (n first last from end : ℕ) : Type 0 where
  pub most : length b < 2 ^ 60
  pub eight : 8 ≤ length marker
  pub room : n ≤ 8 * length marker
  pub first_in : first < n
  pub last_in : last < n
  pub first_pulse : bit_at marker first ≡ 1
  pub last_pulse : bit_at marker last ≡ 1
  pub order : from ≤ end
  pub ends : end + n ≤ 8 * length b + 1

pub record Candidates (b marker : List ℕ) (n first last from end : ℕ) : Type 0 where
  pub begins : Begins b marker n first last from end
  pub long : 8 ≤ length b
