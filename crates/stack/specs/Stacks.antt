-- What a stack over lent places means: the list of its entries, and what one entry more or less changes.
-- Assumes nothing.
use Rattle.std.specs.Prelude.{◌≡◌, ◌<◌, List, ◌∷◌, reverse, length, take, slice_set}
use Rattle.stack.specs.declared.Stack.{Stack}

module _ {T : Type 0} where
  -- the entries, the top first
  abbrev pub entries : Stack T → List T
  entries s = reverse (take s.len s.places.now)

  -- the lent places, as they lie
  abbrev pub row : Stack T → List T
  row s = s.places.now

  -- as many entries as places
  abbrev pub Full : Stack T → Type 0
  Full s = length (entries s) ≡ length (row s)

  -- there was room for the entry, it is now the top, and no other place changed
  pub record Pushed (entry : T) (before after : Stack T) : Type 0 where
    pub room : length (entries before) < length (row before)
    pub items : entries after ≡ entry ∷ entries before
    pub place : row after ≡ slice_set (row before) (length (entries before)) entry
