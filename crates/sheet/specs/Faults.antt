-- Where the reading of a sheet gets to: what it means that a fault is the first.
-- Section "The night sheet": "the first fault in byte order decides".
use Rattle.std.specs.Prelude.{◌≡◌, Bool, true, false, List, ℕ, ◌+◌, ◌≤◌, ◌<◌, length}
use Rattle.words.specs.Words.{value}
use Rattle.sheet.specs.Formats.{Format, done, field}

-- from format f at place a, every field up to format g at place p is whole and sound
pub data Reached (s : List ℕ) : Format → ℕ → Format → ℕ → Type 0 where
  here : {f : Format} {a : ℕ} → Reached s f a f a
  behind : {width number a p : ℕ} {sound : ℕ → Bool} {next : ℕ → Format} {g : Format}
      → a + width ≤ length s → sound (value s a width) ≡ true
      → Reached s (next (value s a width)) (a + width) g p → Reached s (field width sound number next) a g p

-- what comes first behind whole and sound fields: a whole field that is not sound, one that is not whole, or the end
pub data First (s : List ℕ) : Format → ℕ → Type 0 where
  wrong : {f : Format} {a width number p : ℕ} {sound : ℕ → Bool} {next : ℕ → Format}
      → Reached s f a (field width sound number next) p → p + width ≤ length s → sound (value s p width) ≡ false → First s f a
  cut : {f : Format} {a width number p : ℕ} {sound : ℕ → Bool} {next : ℕ → Format}
      → Reached s f a (field width sound number next) p → length s < p + width → First s f a
  ended : {f : Format} {a v p : ℕ} → Reached s f a (done v) p → First s f a
