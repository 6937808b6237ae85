-- An index of makers: a row with an entry for each occurrence, the link that concludes it.
-- Where no link concludes an occurrence its maker is 0, which is no link's number.
use Rattle.std.specs.Prelude.{◌≡◌, ℕ, List, slice_index}
use Rattle.links.specs.declared.link.Link.{Link}
use Rattle.switchings.specs.Edges.{maker}

-- the row holds the maker of every occurrence, and of none past its end
abbrev pub Makes : List Link → List ℕ → Type 0
Makes ls by = (o : ℕ) → slice_index by o ≡ maker ls o
