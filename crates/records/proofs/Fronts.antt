-- The record at the front of some bytes, put together from its header and its body, and what that means for a
-- reader at some place of a file. Assumes nothing.
use Rattle.std.proofs.Common.{◌≡◌, ℕ, ◌+◌, ◌-◌, ◌<◌, ◌≤◌, List, [], ◌∷◌, ◌++◌, length, get_or, take, drop, Some, None, Ok, Err, Option, Result, sym, refl, ap, ◌∙◌, subst, inl, inr, arith}
use Rattle.std.proofs.lemmas.List.{length-take, length-drop, take-append-drop, take_rest, drop-drop}
use Rattle.std.specs.Option.{ok_or}
use Rattle.records.specs.declared.fault.Fault.{Fault}
use Rattle.records.specs.declared.fault.Fault.TheVariants.{CutOff, KindUnknown, WrongLength, FileTooLong}
use Rattle.records.specs.declared.record.Record.{Record}
use Rattle.records.specs.declared.record.Record.TheVariants.{Axiom, Tensor, Par, Cut}
use Rattle.records.specs.Faults.{number_of, said_length, said_kind, Fits, First}
use Rattle.records.specs.Format.{le2, kind_of, length_of, body_of, bytes_of}
use Rattle.records.specs.Fronts.{HasBody, ReadsBody, ReadsFront}
use Rattle.records.specs.Reading.{Reads}
use Rattle.records.proofs.Bytes.{number_at}

-- where the kind is that of some record, no record with this body means a wrong length
pub body_or_length : (example : Record) (kind : ℕ) (body : List ℕ) (found : Option Record) (answer : Result Record Fault) → kind ≡ kind_of example → HasBody (kind_of example) body found → answer ≡ ok_or found WrongLength → ReadsBody kind body answer
body_or_length example kind body None answer e h is = let P : Result Record Fault → Type 0 = ReadsBody kind body in
    subst P (sym is) ((example, sym e), rw e h)
body_or_length example kind body (Some r) answer e h is = let P : Result Record Fault → Type 0 = ReadsBody kind body in
    subst P (sym is) (h.0 ∙ sym e, h.1)

-- the length in a record's header is that of its body
pub body_length : (r : Record) → length (body_of r) ≡ length_of r
body_length (Axiom link positive negative atom delay) = refl
body_length (Tensor link left right conclusion) = refl
body_length (Par link left right conclusion) = refl
body_length (Cut link left right) = refl

-- The header of some bytes: its two numbers, of which the first leaves room for the body.
module _ (bytes : List ℕ) (len kind : ℕ) (len_is : le2 len ≡ get_or bytes 0 0 ∷ get_or bytes 1 0 ∷ []) (kind-is : le2 kind ≡ get_or bytes 2 0 ∷ get_or bytes 3 0 ∷ []) (len-said : len ≡ said_length bytes) (kind-said : kind ≡ said_kind bytes) (headed : 4 ≤ length bytes) (whole : len ≤ length bytes - 4) where
  whole_not_cut : Fits bytes CutOff → ⊥
  whole_not_cut (inl short) = omega arith
  whole_not_cut (inr short) = omega arith

  body_long : length (take len (drop 4 bytes)) ≡ len
  body_long = simp (length-take, length-drop) (omega arith)

  record_front : (r : Record) → kind_of r ≡ kind → body_of r ≡ take len (drop 4 bytes) → bytes ≡ bytes_of r ++ drop (length (bytes_of r)) bytes
  unfolding bytes_of
  record_front r k b =
      let l : length_of r ≡ len = sym (body_length r) ∙ ap length b ∙ body_long in
      let first : le2 len ++ drop 2 bytes ≡ bytes = number_at bytes 0 len (omega arith) len_is in
      let second : le2 kind ++ drop 4 bytes ≡ drop 2 bytes = number_at bytes 2 kind (omega arith) kind-is in
      let split : take len (drop 4 bytes) ++ drop len (drop 4 bytes) ≡ drop 4 bytes = take-append-drop len (drop 4 bytes) in
      let after : drop len (drop 4 bytes) ≡ drop (4 + len) bytes = drop-drop len 4 bytes in
      let size : length (bytes_of r) ≡ 4 + len = omega (arith, body_length r) in
      cc

  -- the header with its body is the record at the front, or the first fault is told by the kind and the length
  pub front_from_body : (body : List ℕ) (answer : Result Record Fault) → body ≡ take len (drop 4 bytes) → ReadsBody kind body answer → ReadsFront bytes answer
  front_from_body body (Ok r) is h = record_front r h.0 (h.1 ∙ is)
  front_from_body body (Err KindUnknown) is unknown = record {
    fits = λ known. unknown (known.0, known.1 ∙ sym kind-said);
    earliest = λ other earlier. before_kind other earlier;
  }
    where
      before_kind : (other : Fault) → number_of other < 7 → Fits bytes other → ⊥
      before_kind CutOff earlier = whole_not_cut
      before_kind KindUnknown earlier = absurd (omega arith)
      before_kind WrongLength earlier = absurd (omega arith)
      before_kind FileTooLong earlier = absurd (omega arith)
  front_from_body body (Err WrongLength) is wrong = record {
    fits = λ sized. wrong.1 (sized.0, (sized.1.0 ∙ sym kind-said, sized.1.1 ∙ sym len-said ∙ sym (ap length is ∙ body_long)));
    earliest = λ other earlier. before_length other earlier;
  }
    where
      before_length : (other : Fault) → number_of other < 8 → Fits bytes other → ⊥
      before_length CutOff earlier = whole_not_cut
      before_length KindUnknown earlier = λ unknown. unknown (wrong.0.0, wrong.0.1 ∙ kind-said)
      before_length WrongLength earlier = absurd (omega arith)
      before_length FileTooLong earlier = absurd (omega arith)
  front_from_body body (Err CutOff) is none = absurd none
  front_from_body body (Err FileTooLong) is none = absurd none

-- A reader at place `at` reads what is left of the file there.
module _ (file : List ℕ) (at : ℕ) where
  -- the record there takes the reader past its bytes
  pub record_at : (r : Record) (size : ℕ) → size ≡ length (bytes_of r) → ReadsFront (take (length file - at) (drop at file)) (Ok r) → Reads file at (Ok (Some r)) (at + size)
  record_at r size long h =
      let left = take_rest file at in
      let after = drop-drop size at file in
      (cc, ap (λ n. at + n) long)

  -- a fault before the end leaves the reader in its place
  pub fault_at : (fault : Fault) → at < length file → ReadsFront (take (length file - at) (drop at file)) (Err fault) → Reads file at (Err fault) at
  fault_at fault inside h =
      let P : List ℕ → Type 0 = λ bytes. First (Fits bytes) fault in
      (inside, subst P (take_rest file at) h, refl)
