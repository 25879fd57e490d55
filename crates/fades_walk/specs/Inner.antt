-- What the functions of the walk require, keep and ensure.
use Rattle.std.specs.Prelude.{◌≡◌, true, List, ℕ, ◌+◌, ◌/◌, ◌%◌, ◌^◌, ◌<◌, eqb, length, get_or}
use Rattle.bits.specs.Basics.{pick, bool}
use Rattle.channel.specs.Channel.{unit, layout_symbols, place_at}
use Rattle.channel.specs.declared.Layout.{Layout}
use Rattle.fades_walk.specs.declared.Spot.{Spot}
use Rattle.fades.specs.Fades.{list_good, source_of, carries, is_hit}
use Rattle.fades.specs.Inner.{Small}

-- where a symbol is: in its line, at which place of step 9, and that modulo N
pub record Stands (g : Layout) (a : Spot) : Type 0 where
  pub column_is : a.column ≡ a.symbol % unit g
  pub place_is : a.place ≡ place_at g a.symbol
  pub residue_is : a.residue ≡ a.place % g.rows

-- the word that symbol s belongs to; C if it belongs to none
unfoldable pub word_at : Layout → ℕ → ℕ
word_at g s = pick (carries g s) (source_of g s / g.symbols) g.words

-- a count for each word that can still grow
pub record Open (g : Layout) (counts : List ℕ) : Type 0 where
  pub long : length counts ≡ g.words
  pub room : (j : ℕ) → get_or counts j 0 < 2 ^ 31

-- one more for word j, if there is such a word
pub record Plus (j : ℕ) (before after : List ℕ) : Type 0 where
  pub long : length after ≡ length before
  pub each : (k : ℕ) → k < length before → get_or after k 0 ≡ get_or before k 0 + bool (eqb j k)

-- one more for the word of symbol s, if that is covered
pub record Added (g : Layout) (fades : List ℕ) (s : ℕ) (before after : List ℕ) : Type 0 where
  pub long : length after ≡ length before
  pub each : (j : ℕ) → j < g.words → get_or after j 0 ≡ get_or before j 0 + bool (is_hit g fades j s)

pub record Walks (g : Layout) (fades counts : List ℕ) : Type 0 where
  pub small : Small g
  pub list : list_good (layout_symbols g) fades ≡ true
  pub long : length counts ≡ g.words
  pub zeros : (j : ℕ) → j < g.words → get_or counts j 0 ≡ 0
