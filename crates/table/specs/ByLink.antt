-- The reasons to turn a placement down, by the link that is to be placed, and those of its numbers, by the list of its
-- occurrences. Only the table's inner functions speak of these, and of its search for a link by a test; the
-- calls' reasons are those of `Refusing`.
use Rattle.std.specs.Prelude.{◌≡◌, ℕ, ◌<◌, ◌⊎◌, Bool, true, false, List, length, Some, None, Option, slice_index}
use Rattle.std.specs.List.{Any}
use Rattle.refusals.specs.declared.refusal.Refusal.TheVariants.{LinkRange, OccurrenceRange, EqualOccurrences, LinkStands, OccurrenceStands, NotDual}
use Rattle.refusals.specs.Reasons.{Reasons, on, no_other, ◌before◌, Outside}
use Rattle.links.specs.declared.link.Link.{Link}
use Rattle.links.specs.declared.link.Link.TheVariants.{Empty, Axiom, Tensor, Par, Cut}
use Rattle.links.specs.Links.{link_at, Stands}
use Rattle.links.specs.Links as links
use Rattle.links.specs.Formulas.{Dual}
use Rattle.table.specs.Refusing.{link_number, axiom_numbers, join_numbers, cut_numbers, axiom_places, premise_places, join_places, cut_places}

-- two of the numbers are equal
abbrev pub TwoEqual : List ℕ → Type 0
TwoEqual os = (i : ℕ) × (j : ℕ) × (i < j) × (j < length os) × (slice_index os i ≡ slice_index os j)

-- those of any call with a link and some occurrences
abbrev pub occurrence_numbers : ℕ → List ℕ → Reasons
occurrence_numbers n os =
    on LinkRange (Outside 256 n) (
    on OccurrenceRange (Any (Outside 512) os) (
    on EqualOccurrences (TwoEqual os) no_other))

-- the reasons of a link's numbers
abbrev pub numbers_of : ℕ → Link → Reasons
numbers_of n Empty = link_number n
numbers_of n (Axiom p q a) = axiom_numbers n p q a
numbers_of n (Tensor l r c) = join_numbers n l r c
numbers_of n (Par l r c) = join_numbers n l r c
numbers_of n (Cut l r) = cut_numbers n l r

-- those of its ends, where its number is free
abbrev pub ends_of : List Link → Link → Reasons
ends_of ls Empty = no_other
ends_of ls (Axiom p q a) = on OccurrenceStands (Stands ls p ⊎ Stands ls q) no_other
ends_of ls (Tensor l r c) = on OccurrenceStands (Stands ls c) (premise_places ls l r)
ends_of ls (Par l r c) = on OccurrenceStands (Stands ls c) (premise_places ls l r)
ends_of ls (Cut l r) = premise_places ls l r before on NotDual (Dual ls l r → ⊥) no_other

abbrev pub places_of : List Link → ℕ → Link → Reasons
places_of ls n Empty = on LinkStands (links.LinkStands ls n) no_other
places_of ls n (Axiom p q a) = axiom_places ls n p q
places_of ls n (Tensor l r c) = join_places ls n l r c
places_of ls n (Par l r c) = join_places ls n l r c
places_of ls n (Cut l r) = cut_places ls n l r

abbrev pub reasons_of : List Link → ℕ → Link → Reasons
reasons_of ls n link = numbers_of n link before places_of ls n link

-- the lowest number at which the test, by what it may say of a link, says yes
abbrev pub LowestWhere : (Link → Bool → Type 0) → List Link → Option ℕ → Type 0
LowestWhere Says ls None = (n : ℕ) → n < length ls → Says (link_at ls n) false
LowestWhere Says ls (Some n) = (n < length ls) × Says (link_at ls n) true × ((k : ℕ) → k < n → Says (link_at ls k) false)
