-- Reading record by record: the records before a place are those whose bytes stand there, and there is one such list.
-- Assumes nothing.
use Rattle.std.proofs.Common.{◌≡◌, ℕ, ◌+◌, ◌<◌, ◌≤◌, List, [], ◌∷◌, ◌++◌, length, drop, Some, None, Ok, Err, Option, Result, sym, refl, ap, ◌∙◌, subst, arith}
use Rattle.std.proofs.lemmas.List.{append_assoc, append-nil, append_cancel_right, flat_map_more, length-append, length-drop}
use Rattle.std.specs.List.{flat_map}
use Rattle.records.specs.declared.fault.Fault.{Fault}
use Rattle.records.specs.declared.record.Record.{Record}
use Rattle.records.specs.Format.{bytes_of}
use Rattle.records.specs.Reading.{Reads, Walked, Walks}
use Rattle.records.proofs.Unique.{one_list}

-- nothing was read before the start
pub walked_none : (file : List ℕ) → Walked file [] 0
walked_none file = record { front = refl; place = refl }

-- one record more
pub walked_more : (file : List ℕ) (rs : List Record) (r : Record) (from to : ℕ) → Walked file rs from → Reads file from (Ok (Some r)) to → Walked file (rs ++ r ∷ []) to
walked_more file rs r from to w h =
    let longer : flat_map bytes_of rs ++ bytes_of r ≡ flat_map bytes_of (rs ++ r ∷ []) = flat_map_more bytes_of [] rs r in
    let regroup : (flat_map bytes_of rs ++ bytes_of r) ++ drop to file ≡ flat_map bytes_of rs ++ (bytes_of r ++ drop to file) = append_assoc (flat_map bytes_of rs) (bytes_of r) (drop to file) in
    let front = w.front in
    let next = h.0 in
    record {
      front = cc;
      place = omega (arith, w.place, h.1, length-append (flat_map bytes_of rs) (bytes_of r), ap length longer);
    }

-- the records before a place are known by the file
pub walked_once : (file : List ℕ) (rs qs : List Record) (at : ℕ) → Walked file rs at → Walked file qs at → rs ≡ qs
walked_once file rs qs at w v = one_list rs qs (append_cancel_right (flat_map bytes_of rs) (flat_map bytes_of qs) (drop at file) (sym w.front ∙ v.front))

-- each answer adds what it gained
pub reads_walks : (file : List ℕ) (from : ℕ) (answer : Result (Option Record) Fault) (to : ℕ) → Reads file from answer to → Walks file from answer to
reads_walks file from (Ok (Some r)) to h = λ rs w. walked_more file rs r from to w h
reads_walks file from (Ok None) to h = λ rs w. rw (append-nil, h.1) w
reads_walks file from (Err fault) to h = λ rs w. rw (append-nil, h.2) w

-- a record takes some bytes of the file, so that reading comes to an end
pub advances : (file : List ℕ) (from : ℕ) (answer : Result (Option Record) Fault) (to : ℕ) (r : Record) → Reads file from answer to → answer ≡ Ok (Some r) → (from < to) × (to ≤ length file)
unfolding bytes_of
advances file from answer to r h is =
    let P : Result (Option Record) Fault → Type 0 = λ a. Reads file from a to in
    let read : Reads file from (Ok (Some r)) to = subst P is h in
    let long : length (drop from file) ≡ length (bytes_of r) + length (drop to file) = ap length read.0 ∙ length-append (bytes_of r) (drop to file) in
    (omega (arith, read.1), omega (arith, read.1, length-drop from file))
