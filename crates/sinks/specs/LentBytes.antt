-- Bytes that are lent to a sink: how many are free, and what stays as steps are added.
-- Assumes nothing.
use Rattle.std.specs.Prelude.{◌≡◌, ℕ, ◌-◌, ◌≤◌, min, List, ◌++◌, length, take, drop}

-- of its lent bytes a sink uses at most the first of this number
abbrev pub most : ℕ
most = 4096

-- how many of the bytes are free, the first `len` of them being written on
abbrev pub free_after : ℕ → List ℕ → ℕ
free_after len bytes = min (length bytes) most - len

-- the row with a text over its front
abbrev pub over : List ℕ → List ℕ → List ℕ
over text row = text ++ drop (length text) row

-- The first `used` bytes of a row were written on, and now the first `used'` are: the former are as they were, and so
-- are all that lie past the latter.
pub record Extends (used : ℕ) (row : List ℕ) (used' : ℕ) (row' : List ℕ) : Type 0 where
  pub count : length row' ≡ length row
  pub longer : used ≤ used'
  pub front : take used row' ≡ take used row
  pub rest : drop used' row' ≡ drop used' row
