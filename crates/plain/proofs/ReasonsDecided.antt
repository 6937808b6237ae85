-- Which reasons fit a call can be decided, in every sound state.
use Rattle.std.proofs.Common.{◌≡◌, ℕ, Bool, true, false, eqb, ◌≢◌, ◌⊎◌, List, length, sym, refl, subst, inl, inr, ⊎_elim, arith}
use Rattle.std.proofs.lemmas.Bool.{cases_eq}
use Rattle.refusals.specs.declared.refusal.Refusal.{Refusal}
use Rattle.refusals.specs.declared.refusal.Refusal.TheVariants.{LinkRange, OccurrenceRange, EqualOccurrences, AtomRange, TooShort, NotOwn, LinkStands, OccurrenceStands, PremiseMissing, PremiseUsed, NotDual, NoSuchLink, ConclusionUsed, NotACut, NothingStands, NoRoom, LastSerial}
use Rattle.refusals.specs.Numbers.{number_of}
use Rattle.refusals.specs.Reasons.{If, on, no_other, ◌before◌, Outside}
use Rattle.links.specs.declared.link.Link.{Link}
use Rattle.links.specs.declared.link.Link.TheVariants.{Empty, Axiom, Tensor, Par, Cut}
use Rattle.links.specs.Links.{link_at, Concludes, Stands, Premise, link_count}
use Rattle.links.specs.Formulas.{Formula, atom, co_atom, tensor, par, Reads, Dual}
use Rattle.links.specs.Facts.{Facts}
use Rattle.links.proofs.Reading.{concl}
use Rattle.links.proofs.Deciding.{Dec, stable, both, opposite, less, some, stands, premise, is_empty, dual}
use Rattle.table.specs.Refusing.{link_number, axiom_numbers, join_numbers, cut_numbers, axiom_places, premise_places, join_places, cut_places, leaves, no_such_cut}
use Rattle.plain.specs.State.{Stage, State, Ticket}
use Rattle.plain.specs.Calls.{Call, opening, placing_axiom, placing_tensor, placing_par, placing_cut, withdrawing, judging, reopening, reducing, running_down, writing, listing}
use Rattle.plain.specs.Fits.{Fits, short_board, not_own}
use Rattle.plain.specs.Sound.{Sound}
use Rattle.plain.proofs.Owning.{own_or_not}

dec_if : (b : Bool) {P Q : Type 0} → Dec P → Dec Q → Dec (If b P Q)
dec_if true p q = p
dec_if false p q = q

dec_on : (r : Refusal) {P : Type 0} {rest : Refusal → Type 0} → Dec P → ((w : Refusal) → Dec (rest w)) → (w : Refusal) → Dec (on r P rest w)
dec_on r p q w = dec_if (eqb (number_of r) (number_of w)) p (q w)

dec_before : {A B : Refusal → Type 0} → ((w : Refusal) → Dec (A w)) → ((w : Refusal) → Dec (B w)) → (w : Refusal) → Dec (◌before◌ A B w)
dec_before a b w = both (a w) (b w)

dec_no_other : (w : Refusal) → Dec (no_other w)
dec_no_other w = inr (λ h. h)

reads_stands : (ls : List Link) (o : ℕ) (F : Formula) → Reads ls o F → Stands ls o
reads_stands ls o (atom x) (k, q, e) = (k, concl o (Axiom o q x) e (inl refl))
reads_stands ls o (co_atom x) (k, p, e) = (k, concl o (Axiom p o x) e (inr refl))
reads_stands ls o (tensor A B) (k, l, r, e, x, y) = (k, concl o (Tensor l r o) e refl)
reads_stands ls o (par A B) (k, l, r, e, x, y) = (k, concl o (Par l r o) e refl)

dual_or_not : (ls : List Link) → Facts ls → (a b : ℕ) → Dec (Dual ls a b)
dual_or_not ls n a b = elim (stands ls a) [
  | inl sa ↦ elim (stands ls b) [
    | inl sb ↦ dual ls n a b sa sb
    | inr nb ↦ inr (λ d. nb (reads_stands ls b _ d.2))
  ]
  | inr na ↦ inr (λ d. na (reads_stands ls a _ d.1))
]

concluded_used : (ls : List Link) (z : Link) → Dec ((o : ℕ) × Concludes z o × Premise ls o)
concluded_used ls Empty = inr (λ h. h.1)
concluded_used ls (Axiom p q a) = elim (premise ls p) [
  | inl u ↦ inl (p, inl refl, u)
  | inr np ↦ elim (premise ls q) [
    | inl u ↦ inl (q, inr refl, u)
    | inr nq ↦ inr (λ h. ⊎_elim (λ e. np (subst (Premise ls) (sym e) h.2)) (λ e. nq (subst (Premise ls) (sym e) h.2)) h.1)
  ]
]
concluded_used ls (Tensor l r o) = elim (premise ls o) [ inl u ↦ inl (o, refl, u) | inr np ↦ inr (λ h. np (subst (Premise ls) (sym h.1) h.2)) ]
concluded_used ls (Par l r o) = elim (premise ls o) [ inl u ↦ inl (o, refl, u) | inr np ↦ inr (λ h. np (subst (Premise ls) (sym h.1) h.2)) ]
concluded_used ls (Cut l r) = inr (λ h. h.1)

-- some link stands, or none does
pub some_link : (ls : List Link) → ((k : ℕ) × (link_at ls k ≢ Empty)) ⊎ ((k : ℕ) → link_at ls k ≡ Empty)
some_link ls = elim (some (λ z. z ≢ Empty) (λ z. opposite (is_empty z)) (λ h. h refl) ls) [
  | inl h ↦ inl h
  | inr h ↦ inr (λ k. stable (is_empty (link_at ls k)) (λ ne. h (k, ne)))
]

no_link : (ls : List Link) → Dec ((k : ℕ) → link_at ls k ≡ Empty)
no_link ls = ⊎_elim (λ h. inr (λ e. h.1 (e h.0))) (λ h. inl h) (some_link ls)

no_cut : (z : Link) → Dec ((a b : ℕ) → z ≢ Cut a b)
no_cut Empty = inl (λ a b e. let z : ◌≡◌ {A = ℕ} 0 1 = cc in omega arith)
no_cut (Axiom p q x) = inl (λ a b e. let z : ◌≡◌ {A = ℕ} 0 1 = cc in omega arith)
no_cut (Tensor l r o) = inl (λ a b e. let z : ◌≡◌ {A = ℕ} 0 1 = cc in omega arith)
no_cut (Par l r o) = inl (λ a b e. let z : ◌≡◌ {A = ℕ} 0 1 = cc in omega arith)
no_cut (Cut l r) = inr (λ h. h l r refl)

outside : (most n : ℕ) → Dec (Outside most n)
outside most n = both (less n 1) (less most n)

-- the lists of reasons that concern links
link_number_dec : (n : ℕ) (w : Refusal) → Dec (link_number n w)
link_number_dec n = dec_on LinkRange (outside 256 n) dec_no_other

axiom_numbers_dec : (n p q a : ℕ) (w : Refusal) → Dec (axiom_numbers n p q a w)
axiom_numbers_dec n p q a = dec_on LinkRange (outside 256 n) (dec_on OccurrenceRange (both (outside 512 p) (outside 512 q)) (dec_on EqualOccurrences (cases_eq p q) (dec_on AtomRange (outside 1000 a) dec_no_other)))

join_numbers_dec : (n l r c : ℕ) (w : Refusal) → Dec (join_numbers n l r c w)
join_numbers_dec n l r c = dec_on LinkRange (outside 256 n) (dec_on OccurrenceRange (both (outside 512 l) (both (outside 512 r) (outside 512 c))) (dec_on EqualOccurrences (both (cases_eq l r) (both (cases_eq l c) (cases_eq r c))) dec_no_other))

cut_numbers_dec : (n l r : ℕ) (w : Refusal) → Dec (cut_numbers n l r w)
cut_numbers_dec n l r = dec_on LinkRange (outside 256 n) (dec_on OccurrenceRange (both (outside 512 l) (outside 512 r)) (dec_on EqualOccurrences (cases_eq l r) dec_no_other))

axiom_places_dec : (ls : List Link) (n p q : ℕ) (w : Refusal) → Dec (axiom_places ls n p q w)
axiom_places_dec ls n p q = dec_on LinkStands (opposite (is_empty (link_at ls n))) (dec_on OccurrenceStands (both (stands ls p) (stands ls q)) dec_no_other)

premise_places_dec : (ls : List Link) (l r : ℕ) (w : Refusal) → Dec (premise_places ls l r w)
premise_places_dec ls l r = dec_on PremiseMissing (both (opposite (stands ls l)) (opposite (stands ls r))) (dec_on PremiseUsed (both (premise ls l) (premise ls r)) dec_no_other)

join_places_dec : (ls : List Link) (n l r c : ℕ) (w : Refusal) → Dec (join_places ls n l r c w)
join_places_dec ls n l r c = dec_on LinkStands (opposite (is_empty (link_at ls n))) (dec_on OccurrenceStands (stands ls c) (premise_places_dec ls l r))

cut_places_dec : (ls : List Link) → Facts ls → (n l r : ℕ) (w : Refusal) → Dec (cut_places ls n l r w)
cut_places_dec ls f n l r = dec_before (dec_on LinkStands (opposite (is_empty (link_at ls n))) (premise_places_dec ls l r)) (dec_on NotDual (opposite (dual_or_not ls f l r)) dec_no_other)

leaves_dec : (ls : List Link) (n : ℕ) (w : Refusal) → Dec (leaves ls n w)
leaves_dec ls n = dec_on NoSuchLink (is_empty (link_at ls n)) (dec_on ConclusionUsed (concluded_used ls (link_at ls n)) dec_no_other)

no_such_cut_dec : (ls : List Link) (n : ℕ) (w : Refusal) → Dec (no_such_cut ls n w)
no_such_cut_dec ls n = dec_on NoSuchLink (is_empty (link_at ls n)) (dec_on NotACut (no_cut (link_at ls n)) dec_no_other)

module _ {L : Type 0} where
  short_board_dec : (s : State L) (w : Refusal) → Dec (short_board s w)
  short_board_dec s = dec_on TooShort (less (length s.board) 256) dec_no_other

  not_own_dec : {kind : Stage} (k : Ticket kind) (s : State L) (w : Refusal) → Dec (not_own k s w)
  not_own_dec k s = dec_on NotOwn (opposite (own_or_not k s)) dec_no_other

  pub fits_dec : (c : Call L) (s : State L) → Sound s → (w : Refusal) → Dec (Fits c s w)
  fits_dec opening s g = dec_on LastSerial (cases_eq s.serial 65535) dec_no_other
  fits_dec (placing_axiom k n p q a x) s g = dec_before (axiom_numbers_dec n p q a) (dec_before (short_board_dec s) (dec_before (not_own_dec k s) (axiom_places_dec s.links n p q)))
  fits_dec (placing_tensor k n l r o) s g = dec_before (join_numbers_dec n l r o) (dec_before (not_own_dec k s) (join_places_dec s.links n l r o))
  fits_dec (placing_par k n l r o) s g = dec_before (join_numbers_dec n l r o) (dec_before (not_own_dec k s) (join_places_dec s.links n l r o))
  fits_dec (placing_cut k n l r) s g = dec_before (cut_numbers_dec n l r) (dec_before (not_own_dec k s) (cut_places_dec s.links g.facts n l r))
  fits_dec (withdrawing k n) s g = dec_before (link_number_dec n) (dec_before (not_own_dec k s) (leaves_dec s.links n))
  fits_dec (judging k row) s g = dec_before (dec_on TooShort (less (length row) 256) dec_no_other) (dec_before (not_own_dec k s) (dec_on NothingStands (no_link s.links) dec_no_other))
  fits_dec (reopening k) s g = not_own_dec k s
  fits_dec (reducing k n) s g = dec_before (link_number_dec n) (dec_before (short_board_dec s) (dec_before (not_own_dec k s) (no_such_cut_dec s.links n)))
  fits_dec (running_down k budget) s g = dec_before (short_board_dec s) (not_own_dec k s)
  fits_dec (writing k list room) s g = dec_before (not_own_dec k s) (dec_on NoRoom (less room (link_count s.links)) dec_no_other)
  fits_dec (listing row) s g = dec_on TooShort (less (length row) 512) dec_no_other
