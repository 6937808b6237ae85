-- The reasons to turn a placement or a withdrawal down, as far as they concern links: first those of the call's numbers,
-- then those of the structure. Two equal occurrence numbers are any two of the call.
use Rattle.std.specs.Prelude.{◌≡◌, ℕ, ◌≢◌, ◌⊎◌, List}
use Rattle.refusals.specs.declared.refusal.Refusal.TheVariants.{LinkRange, OccurrenceRange, EqualOccurrences, AtomRange, LinkStands, OccurrenceStands, PremiseMissing, PremiseUsed, NotDual, NoSuchLink, ConclusionUsed, NotACut}
use Rattle.refusals.specs.Reasons.{Reasons, on, no_other, ◌before◌, Outside}
use Rattle.links.specs.declared.link.Link.{Link}
use Rattle.links.specs.declared.link.Link.TheVariants.{Empty, Cut}
use Rattle.links.specs.Links.{link_at, Concludes, Stands, Premise}
use Rattle.links.specs.Links as links
use Rattle.links.specs.Formulas.{Dual}

abbrev pub link_number : ℕ → Reasons
link_number n = on LinkRange (Outside 256 n) no_other

abbrev pub axiom_numbers : ℕ → ℕ → ℕ → ℕ → Reasons
axiom_numbers n p q a =
    on LinkRange (Outside 256 n) (
    on OccurrenceRange (Outside 512 p ⊎ Outside 512 q) (
    on EqualOccurrences (p ≡ q) (
    on AtomRange (Outside 1000 a) no_other)))

-- a tensor's or a par's
abbrev pub join_numbers : ℕ → ℕ → ℕ → ℕ → Reasons
join_numbers n l r c =
    on LinkRange (Outside 256 n) (
    on OccurrenceRange (Outside 512 l ⊎ (Outside 512 r ⊎ Outside 512 c)) (
    on EqualOccurrences ((l ≡ r) ⊎ ((l ≡ c) ⊎ (r ≡ c))) no_other))

abbrev pub cut_numbers : ℕ → ℕ → ℕ → Reasons
cut_numbers n l r =
    on LinkRange (Outside 256 n) (
    on OccurrenceRange (Outside 512 l ⊎ Outside 512 r) (
    on EqualOccurrences (l ≡ r) no_other))

abbrev pub axiom_places : List Link → ℕ → ℕ → ℕ → Reasons
axiom_places ls n p q =
    on LinkStands (links.LinkStands ls n) (
    on OccurrenceStands (Stands ls p ⊎ Stands ls q) no_other)

-- two premises': one does not stand, or is used
abbrev pub premise_places : List Link → ℕ → ℕ → Reasons
premise_places ls l r =
    on PremiseMissing ((Stands ls l → ⊥) ⊎ (Stands ls r → ⊥)) (
    on PremiseUsed (Premise ls l ⊎ Premise ls r) no_other)

abbrev pub join_places : List Link → ℕ → ℕ → ℕ → ℕ → Reasons
join_places ls n l r c =
    on LinkStands (links.LinkStands ls n) (
    on OccurrenceStands (Stands ls c) (premise_places ls l r))

abbrev pub cut_places : List Link → ℕ → ℕ → ℕ → Reasons
cut_places ls n l r =
    on LinkStands (links.LinkStands ls n) (premise_places ls l r)
    before on NotDual (Dual ls l r → ⊥) no_other

-- a withdrawal's: no such link stands, or a conclusion of it is a premise
abbrev pub leaves : List Link → ℕ → Reasons
leaves ls n =
    on NoSuchLink (link_at ls n ≡ Empty) (
    on ConclusionUsed ((o : ℕ) × Concludes (link_at ls n) o × Premise ls o) no_other)

-- a reduction's: no such link stands, or it is no cut
abbrev pub no_such_cut : List Link → ℕ → Reasons
no_such_cut ls n =
    on NoSuchLink (link_at ls n ≡ Empty) (
    on NotACut ((a b : ℕ) → link_at ls n ≢ Cut a b) no_other)

-- all of a call's, in order
abbrev pub axiom_reasons : List Link → ℕ → ℕ → ℕ → ℕ → Reasons
axiom_reasons ls n p q a = axiom_numbers n p q a before axiom_places ls n p q

abbrev pub join_reasons : List Link → ℕ → ℕ → ℕ → ℕ → Reasons
join_reasons ls n l r c = join_numbers n l r c before join_places ls n l r c

abbrev pub cut_reasons : List Link → ℕ → ℕ → ℕ → Reasons
cut_reasons ls n l r = cut_numbers n l r before cut_places ls n l r

abbrev pub withdrawal_reasons : List Link → ℕ → Reasons
withdrawal_reasons ls n = link_number n before leaves ls n
