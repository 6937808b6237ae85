-- Bytes are read in one way only: no record's bytes begin another's, so a list of records is known by its bytes,
-- and where some bytes begin with a record, reading answers that record. Assumes nothing.
use Rattle.std.proofs.Common.{◌≡◌, ℕ, ◌/◌, ◌%◌, List, [], ◌∷◌, ◌++◌, drop, Some, None, Ok, Err, Option, Result, sym, refl, ap, ◌∙◌, subst, inl, inr, arith, length-append}
use Rattle.std.proofs.lemmas.List.{drop_all}
use Rattle.records.specs.declared.fault.Fault.{Fault}
use Rattle.records.specs.declared.fault.Fault.TheVariants.{CutOff, KindUnknown, WrongLength, FileTooLong}
use Rattle.records.specs.declared.record.Record.{Record}
use Rattle.records.specs.declared.record.Record.TheVariants.{Axiom, Tensor, Par, Cut}
use Rattle.records.specs.Faults.{Fits}
use Rattle.records.specs.Format.{le2, le4, kind_of, length_of, body_of, bytes_of}
use Rattle.records.specs.Laws.{PrefixFree, OneList, ReadOneWay, Finds}
use Rattle.records.specs.Reading.{Reads}
use Rattle.records.proofs.Fronts.{body_length}

-- a number is known by its two bytes, whatever comes after them
le2_injective : (m n : ℕ) (xs ys : List ℕ) → le2 m ++ xs ≡ le2 n ++ ys → (m ≡ n) × (xs ≡ ys)
le2_injective m n xs ys e =
    let low : m % 256 ≡ n % 256 = cc in
    let high : m / 256 ≡ n / 256 = cc in
    (omega arith, cc)

-- and by its four
le4_injective : (m n : ℕ) (xs ys : List ℕ) → le4 m ++ xs ≡ le4 n ++ ys → (m ≡ n) × (xs ≡ ys)
le4_injective m n xs ys e =
    let b0 : m % 256 ≡ n % 256 = cc in
    let b1 : m / 256 % 256 ≡ n / 256 % 256 = cc in
    let b2 : m / 65536 % 256 ≡ n / 65536 % 256 = cc in
    let b3 : m / 16777216 ≡ n / 16777216 = cc in
    (omega arith, cc)

-- records of one kind are known by their bodies
same_record : (r q : Record) (rest left : List ℕ) → kind_of r ≡ kind_of q → body_of r ++ rest ≡ body_of q ++ left → (r ≡ q) × (rest ≡ left)
same_record (Axiom l p n a d) (Axiom l' p' n' a' d') rest left k e =
    let s0 = le2_injective l l' _ _ e in
    let s1 = le2_injective p p' _ _ s0.1 in
    let s2 = le2_injective n n' _ _ s1.1 in
    let s3 = le2_injective a a' _ _ s2.1 in
    let s4 = le4_injective d d' _ _ s3.1 in
    (cc, s4.1)
same_record (Tensor n l r c) (Tensor n' l' r' c') rest left k e =
    let s0 = le2_injective n n' _ _ e in
    let s1 = le2_injective l l' _ _ s0.1 in
    let s2 = le2_injective r r' _ _ s1.1 in
    let s3 = le2_injective c c' _ _ s2.1 in
    (cc, s3.1)
same_record (Par n l r c) (Par n' l' r' c') rest left k e =
    let s0 = le2_injective n n' _ _ e in
    let s1 = le2_injective l l' _ _ s0.1 in
    let s2 = le2_injective r r' _ _ s1.1 in
    let s3 = le2_injective c c' _ _ s2.1 in
    (cc, s3.1)
same_record (Cut n l r) (Cut n' l' r') rest left k e =
    let s0 = le2_injective n n' _ _ e in
    let s1 = le2_injective l l' _ _ s0.1 in
    let s2 = le2_injective r r' _ _ s1.1 in
    (cc, s2.1)
same_record (Axiom l p n a d) (Tensor n' l' r' c') rest left k e = absurd (omega arith)
same_record (Axiom l p n a d) (Par n' l' r' c') rest left k e = absurd (omega arith)
same_record (Axiom l p n a d) (Cut n' l' r') rest left k e = absurd (omega arith)
same_record (Tensor n l r c) (Axiom l' p' n' a' d') rest left k e = absurd (omega arith)
same_record (Tensor n l r c) (Par n' l' r' c') rest left k e = absurd (omega arith)
same_record (Tensor n l r c) (Cut n' l' r') rest left k e = absurd (omega arith)
same_record (Par n l r c) (Axiom l' p' n' a' d') rest left k e = absurd (omega arith)
same_record (Par n l r c) (Tensor n' l' r' c') rest left k e = absurd (omega arith)
same_record (Par n l r c) (Cut n' l' r') rest left k e = absurd (omega arith)
same_record (Cut n l r) (Axiom l' p' n' a' d') rest left k e = absurd (omega arith)
same_record (Cut n l r) (Tensor n' l' r' c') rest left k e = absurd (omega arith)
same_record (Cut n l r) (Par n' l' r' c') rest left k e = absurd (omega arith)

pub prefix_free : PrefixFree
unfolding bytes_of
prefix_free r q rest left e =
    let s0 = le2_injective (length_of r) (length_of q) _ _ e in
    let s1 = le2_injective (kind_of r) (kind_of q) _ _ s0.1 in
    same_record r q rest left s1.0 s1.1

-- a record has some bytes
some_bytes : (q : Record) (rest : List ℕ) → [] ≡ bytes_of q ++ rest → ⊥
unfolding bytes_of
some_bytes q rest e = let z : ◌≡◌ {A = ℕ} 0 1 = cc in omega arith

pub one_list : OneList
one_list [] [] e = refl
one_list [] (q ∷ qs) e = absurd (some_bytes q _ e)
one_list (r ∷ rs) [] e = absurd (some_bytes r _ (sym e))
one_list (r ∷ rs) (q ∷ qs) e =
    let s = prefix_free r q _ _ e in
    let tail = one_list rs qs s.1 in
    cc

pub read_one_way : ReadOneWay
read_one_way = record { prefix = prefix_free; lists = one_list }

-- no fault fits where a record's bytes stand
no_fault : (q : Record) (rest : List ℕ) (fault : Fault) → Fits (bytes_of q ++ rest) fault → ⊥
unfolding bytes_of
no_fault q rest CutOff (inl short) = omega arith
no_fault q rest CutOff (inr short) = omega (arith, length-append (body_of q) rest, body_length q)
no_fault q rest KindUnknown unknown = unknown (q, omega arith)
no_fault q rest WrongLength wrong = wrong (q, (omega arith, omega arith))
no_fault q rest FileTooLong none = none

-- reading answers the record that stands there
pub reads_finds : (file : List ℕ) (from : ℕ) (answer : Result (Option Record) Fault) (to : ℕ) → Reads file from answer to → Finds (drop from file) answer
reads_finds file from (Ok (Some r)) to h q rest e =
    let s = prefix_free r q _ _ (sym h.0 ∙ e) in
    ap (λ x. Ok (Some x)) s.0
reads_finds file from (Ok None) to h q rest e = absurd (some_bytes q rest (sym (drop_all from file h.0) ∙ e))
reads_finds file from (Err fault) to h q rest e = absurd (no_fault q rest fault (let P : List ℕ → Type 0 = λ bytes. Fits bytes fault in subst P e h.1.fits))
