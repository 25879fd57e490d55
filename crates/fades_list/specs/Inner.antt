-- What is left of a list of fades.
use Rattle.std.specs.Prelude.{◌≡◌, true, List, ℕ, ◌+◌, ◌≤◌, ◌<◌, length, get_or, drop}
use Rattle.fades.specs.Fades.{covered, fades_good}

-- the fades from number i of a list on are those that have not ended before symbol s; they are in order in a run of some size, after some end
pub record Left (fades : List ℕ) (i s : ℕ) : Type 0 where
  pub inside : i ≤ length fades
  pub run : ℕ
  pub end : ℕ
  pub good : fades_good run end (drop i fades) ≡ true
  pub same : (u : ℕ) → s ≤ u → covered (drop i fades) u ≡ covered fades u
  pub lasts : i < length fades → s < get_or fades i 0 + get_or fades (i + 1) 0
