-- The number of each refusal. Numbers 6 to 9 belong to files, and 10 to nothing.
use Rattle.std.specs.Prelude.{ℕ}
use Rattle.refusals.specs.declared.refusal.Refusal.{Refusal}
use Rattle.refusals.specs.declared.refusal.Refusal.TheVariants.{LinkRange, OccurrenceRange, EqualOccurrences, AtomRange, TooShort, NotOwn, LinkStands, OccurrenceStands, PremiseMissing, PremiseUsed, NotDual, NoSuchLink, ConclusionUsed, NotACut, NothingStands, NoRoom, LastSerial}

abbrev pub number_of : Refusal → ℕ
number_of LinkRange = 1
number_of OccurrenceRange = 2
number_of EqualOccurrences = 3
number_of AtomRange = 4
number_of TooShort = 5
number_of NotOwn = 11
number_of LinkStands = 12
number_of OccurrenceStands = 13
number_of PremiseMissing = 14
number_of PremiseUsed = 15
number_of NotDual = 16
number_of NoSuchLink = 17
number_of ConclusionUsed = 18
number_of NotACut = 19
number_of NothingStands = 20
number_of NoRoom = 21
number_of LastSerial = 22
