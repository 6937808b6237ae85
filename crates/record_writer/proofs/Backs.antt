-- Where a record's bytes were put, reading finds the record.
-- Assumes nothing.
use Rattle.std.proofs.Common.{◌≡◌, ℕ, ◌≤◌, length, refl, List, Some, None, Ok, Option, Result, subst, arith}
use Rattle.std.specs.Option.{IsSome}
use Rattle.records.proofs.Unique.{reads_finds}
use Rattle.records.specs.Format.{bytes_of}
use Rattle.records.specs.Reading.{Reads}
use Rattle.records.specs.declared.fault.Fault.{Fault}
use Rattle.records.specs.declared.record.Record.{Record}
use Rattle.record_writer.specs.Writing.{Puts, ReadBack}

read_back : (r : Record) (before after : List ℕ) (wrote : Option ℕ) → Puts (bytes_of r) before after wrote → ReadBack r after wrote
read_back r before after None h = tt
read_back r before after (Some n) h = λ answer to reads.
    let found : answer ≡ Ok (Some r) = reads_finds after 0 answer to reads r _ h.1 in
    let P : Result (Option Record) Fault → Type 0 = λ a. Reads after 0 a to in
    let taken : Reads after 0 (Ok (Some r)) to = subst P found reads in
    (found, omega (arith, taken.1, h.0))

-- both facts of a write, from what was handed to `put`
pub puts_record : (r : Record) (bytes before after : List ℕ) (wrote : Option ℕ) → bytes ≡ bytes_of r → Puts bytes before after wrote → record { answer : Puts (bytes_of r) before after wrote; law : ReadBack r after wrote }
puts_record r bytes before after wrote is h =
    let P : List ℕ → Type 0 = λ bs. Puts bs before after wrote in
    let puts = subst P is h in
    record { answer = puts; law = read_back r before after wrote puts }

-- where there is room for the bytes, they are put
pub room_means_put : (bytes before after : List ℕ) (wrote : Option ℕ) → length bytes ≤ length before → Puts bytes before after wrote → IsSome wrote
room_means_put bytes before after None room h = absurd (omega (arith, h.0))
room_means_put bytes before after (Some n) room h = refl
