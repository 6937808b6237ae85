-- A link that no reason speaks against keeps the facts of the structure it comes to.
use Rattle.std.proofs.Common.{◌≡◌, ℕ, ◌<◌, ◌≤◌, ◌⊎◌, Bool, true, false, eqb, List, Result, length, set, sym, ap, ◌∙◌, subst, inl, inr, ⊎_elim, arith, length-set}
use Rattle.std.proofs.lemmas.Bool.{ne_eqb}
use mathlib.Core.Logic.{∥∥₁_map}
use Rattle.refusals.specs.declared.refusal.Refusal.{Refusal}
use Rattle.refusals.specs.declared.refusal.Refusal.TheVariants.{LinkRange, OccurrenceRange, EqualOccurrences, AtomRange, LinkStands, OccurrenceStands, PremiseMissing, PremiseUsed, NotDual, ConclusionUsed}
use Rattle.refusals.specs.Numbers.{number_of}
use Rattle.refusals.specs.Reasons.{If, on, None, Checks, Outside}
use Rattle.refusals.proofs.Refusing.{Parted, upto_on, upto_other, past_on, past_other, checks_on}
use Rattle.links.specs.declared.link.Link.{Link}
use Rattle.links.specs.declared.link.Link.TheVariants.{Empty, Axiom, Tensor, Par, Cut}
use Rattle.links.specs.Links as links
use Rattle.links.specs.Links.{link_at, Concludes, Stands, Premise}
use Rattle.links.specs.Facts.{Within, Facts}
use Rattle.links.proofs.Deciding.{stable, stands, is_empty, dual}
use Rattle.links.proofs.Keeping.{place_facts, axiom_welcome, tensor_welcome, par_welcome, cut_welcome, clear_facts}
use Rattle.table.specs.ByLink.{numbers_of, ends_of, places_of}
use Rattle.table.specs.Refusing.{link_number, axiom_numbers, join_numbers, cut_numbers, axiom_places, premise_places, join_places, cut_places, leaves}
use Rattle.table.proofs.Occurrences.{checks_same}

pub within : {most n : ℕ} → (Outside most n → ⊥) → Within most n
within {most} {n} out = (low, high)
  where
    low : 1 ≤ n
    low = omega (arith, λ (h : n < 1). out (inl h))

    high : n ≤ most
    high = omega (arith, λ (h : most < n). out (inr h))

module _ (ls : List Link) (long : length ls ≡ 257) (n : ℕ) where
  slot : Within 256 n → n < length ls
  slot w = let h = w.1 in omega arith

  empty : ((link_at ls n ≡ Empty → ⊥) → ⊥) → link_at ls n ≡ Empty
  empty h = stable (is_empty (link_at ls n)) h

  pub axiom_placed : (p q a : ℕ) → None (axiom_numbers n p q a) → None (axiom_places ls n p q) → Facts ls → Facts (set ls n (Axiom p q a))
  axiom_placed p q a no_number no_place f =
      let w : Within 256 n = within (no_number LinkRange) in
      let wp : Within 512 p = within (λ h. no_number OccurrenceRange (inl h)) in
      let wq : Within 512 q = within (λ h. no_number OccurrenceRange (inr h)) in
      let wa : Within 1000 a = within (no_number AtomRange) in
      place_facts ls n (Axiom p q a) (axiom_welcome ls n (slot w) (empty (no_place LinkStands)) p q a (w, wp, wq, wa) (no_number EqualOccurrences) (λ s. no_place OccurrenceStands (inl s)) (λ s. no_place OccurrenceStands (inr s))) f

  -- a tensor and a par ask the same
  module _ (l r c : ℕ) (no_number : None (join_numbers n l r c)) (no_place : None (join_places ls n l r c)) (f : Facts ls) where
    w : Within 256 n
    w = within (no_number LinkRange)

    range : Within 256 n × Within 512 l × Within 512 r × Within 512 c
    range = (w, within (λ h. no_number OccurrenceRange (inl h)), within (λ h. no_number OccurrenceRange (inr (inl h))), within (λ h. no_number OccurrenceRange (inr (inr h))))

    left_stands : Stands ls l
    left_stands = stable (stands ls l) (λ h. no_place PremiseMissing (inl h))

    right_stands : Stands ls r
    right_stands = stable (stands ls r) (λ h. no_place PremiseMissing (inr h))

    pub tensor_placed : Facts (set ls n (Tensor l r c))
    tensor_placed = place_facts ls n (Tensor l r c) (tensor_welcome ls n (slot w) (empty (no_place LinkStands)) f l r c range (λ e. no_number EqualOccurrences (inl e)) (no_place OccurrenceStands) left_stands right_stands (λ u. no_place PremiseUsed (inl u)) (λ u. no_place PremiseUsed (inr u))) f

    pub par_placed : Facts (set ls n (Par l r c))
    par_placed = place_facts ls n (Par l r c) (par_welcome ls n (slot w) (empty (no_place LinkStands)) f l r c range (λ e. no_number EqualOccurrences (inl e)) (no_place OccurrenceStands) left_stands right_stands (λ u. no_place PremiseUsed (inl u)) (λ u. no_place PremiseUsed (inr u))) f

  pub cut_placed : (l r : ℕ) → None (cut_numbers n l r) → None (cut_places ls n l r) → Facts ls → Facts (set ls n (Cut l r))
  cut_placed l r no_number no_place f =
      let w : Within 256 n = within (no_number LinkRange) in
      let wl : Within 512 l = within (λ h. no_number OccurrenceRange (inl h)) in
      let wr : Within 512 r = within (λ h. no_number OccurrenceRange (inr h)) in
      let sl : Stands ls l = stable (stands ls l) (λ h. no_place PremiseMissing (inl (inl h))) in
      let sr : Stands ls r = stable (stands ls r) (λ h. no_place PremiseMissing (inl (inr h))) in
      let not-used : (Premise ls l ⊎ Premise ls r) → ⊥ = λ u. no_place PremiseUsed (inl u) in
      place_facts ls n (Cut l r) (cut_welcome ls n (slot w) (empty (λ h. no_place LinkStands (inl h))) l r (w, wl, wr) (no_number EqualOccurrences) sl sr (λ u. not-used (inl u)) (λ u. not-used (inr u)) (stable (dual ls f l r sl sr) (λ h. no_place NotDual (inr h)))) f

  pub withdrawn : None (link_number n) → None (leaves ls n) → Facts ls → Facts (set ls n Empty)
  withdrawn no_number no-leave f =
      clear_facts ls n (slot (within (no_number LinkRange))) (λ o c p. no-leave ConclusionUsed (o, c, p)) f

-- what the table's type owes once a link has been written
pub written : (ls ls' : List Link) (n : ℕ) (new : Link) → ls' ≡ set ls n new → length ls ≡ 257 → ∥ Facts ls ∥₁ → (Facts ls → Facts (set ls n new)) → (length ls' ≡ 257) × (∥ Facts ls' ∥₁ × Unit {0})
written ls ls' n new e long f keeps =
    (ap length e ∙ length-set ls n new ∙ long, (subst (λ (x : List Link). ∥ Facts x ∥₁) (sym e) (∥∥₁_map f keeps), tt))

-- the numbers of the reasons of two premises
pub premises_past : (ls : List Link) (l r k : ℕ) → k < 14 → (w : Refusal) → premise_places ls l r w → k < number_of w
premises_past ls l r k h = past_on k PremiseMissing _ _ (omega arith) (past_on k PremiseUsed _ _ (omega arith) (past_other k))

pub join_past : (ls : List Link) (l r c k : ℕ) → k < 13 → (w : Refusal) → on OccurrenceStands (Stands ls c) (premise_places ls l r) w → k < number_of w
join_past ls l r c k h = past_on k OccurrenceStands _ _ (omega arith) (premises_past ls l r k (omega arith))

-- where no link stands at the number, its ends alone speak against it
pub ends_checked : (ls : List Link) (n : ℕ) (link : Link) → (links.LinkStands ls n → ⊥) → (answer : Result Unit Refusal) → Checks (ends_of ls link) answer → Checks (places_of ls n link) answer
ends_checked ls n Empty free = checks_on LinkStands _ _ (past_other 12) free
ends_checked ls n (Axiom p q a) free = checks_on LinkStands _ _ (past_on 12 OccurrenceStands _ _ (omega arith) (past_other 12)) free
ends_checked ls n (Tensor l r c) free = checks_on LinkStands _ _ (join_past ls l r c 12 (omega arith)) free
ends_checked ls n (Par l r c) free = checks_on LinkStands _ _ (join_past ls l r c 12 (omega arith)) free
ends_checked ls n (Cut l r) free =
    checks_same
    (λ why. ⊎_elim (λ p. inl (later LinkStands why _ _ (premises_past ls l r 12 (omega arith) why p) p)) (λ d. inr d))
    (λ why. ⊎_elim (λ p. inl (rest_of LinkStands why free p)) (λ d. inr d))
  where
    rest_of : (r w : Refusal) {P X : Type 0} → (P → ⊥) → If (eqb (number_of r) (number_of w)) P X → X
    rest_of r w {P} {X} nay = at_test (eqb (number_of r) (number_of w))
      where
        at_test : (b : Bool) → If b P X → X
        at_test true p = absurd (nay p)
        at_test false x = x

    later : (r w : Refusal) (P X : Type 0) → number_of r < number_of w → X → If (eqb (number_of r) (number_of w)) P X
    later r w P X h x = subst (λ (b : Bool). If b P X) (sym (ne_eqb (number_of r) (number_of w) (λ e. omega arith))) x

-- a tensor's and a par's ends
pub join_ends : (ls : List Link) (link : Link) (l r c : ℕ) → (link ≡ Tensor l r c) ⊎ (link ≡ Par l r c) → (Stands ls c → ⊥) → (answer : Result Unit Refusal) → Checks (premise_places ls l r) answer → Checks (ends_of ls link) answer
join_ends ls link l r c is free answer h =
    let k = checks_on OccurrenceStands (Stands ls c) (premise_places ls l r) (premises_past ls l r 13 (omega arith)) free answer h in
    ⊎_elim (λ e. subst (λ (z : Link). Checks (ends_of ls z) answer) (sym e) k) (λ e. subst (λ (z : Link). Checks (ends_of ls z) answer) (sym e) k) is

-- the reasons of numbers are tried before those of places
join_upto : (n l r c : ℕ) (why : Refusal) → join_numbers n l r c why → number_of why ≤ 4
join_upto n l r c = upto_on 4 LinkRange _ _ (omega arith) (upto_on 4 OccurrenceRange _ _ (omega arith) (upto_on 4 EqualOccurrences _ _ (omega arith) (upto_other 4)))

numbers_upto : (n : ℕ) (link : Link) (why : Refusal) → numbers_of n link why → number_of why ≤ 4
numbers_upto n Empty = upto_on 4 LinkRange _ _ (omega arith) (upto_other 4)
numbers_upto n (Axiom p q a) = upto_on 4 LinkRange _ _ (omega arith) (upto_on 4 OccurrenceRange _ _ (omega arith) (upto_on 4 EqualOccurrences _ _ (omega arith) (upto_on 4 AtomRange _ _ (omega arith) (upto_other 4))))
numbers_upto n (Tensor l r c) = join_upto n l r c
numbers_upto n (Par l r c) = join_upto n l r c
numbers_upto n (Cut l r) = upto_on 4 LinkRange _ _ (omega arith) (upto_on 4 OccurrenceRange _ _ (omega arith) (upto_on 4 EqualOccurrences _ _ (omega arith) (upto_other 4)))

places_past : (ls : List Link) (n : ℕ) (link : Link) (why : Refusal) → places_of ls n link why → 4 < number_of why
places_past ls n Empty why h = past_on 4 LinkStands _ _ (omega arith) (past_other 4) why h
places_past ls n (Axiom p q a) why h = past_on 4 LinkStands _ _ (omega arith) (past_on 4 OccurrenceStands _ _ (omega arith) (past_other 4)) why h
places_past ls n (Tensor l r c) why h = past_on 4 LinkStands _ _ (omega arith) (join_past ls l r c 4 (omega arith)) why h
places_past ls n (Par l r c) why h = past_on 4 LinkStands _ _ (omega arith) (join_past ls l r c 4 (omega arith)) why h
places_past ls n (Cut l r) why h =
    ⊎_elim (λ p. past_on 4 LinkStands _ _ (omega arith) (premises_past ls l r 4 (omega arith)) why p) (λ d. past_on 4 NotDual _ _ (omega arith) (past_other 4) why d) h

pub link_parted : (ls : List Link) (n : ℕ) (link : Link) → Parted 4 (numbers_of n link) (places_of ls n link)
link_parted ls n link = record { upto = numbers_upto n link; past = places_past ls n link }

pub link_in_range : (n : ℕ) (link : Link) → None (numbers_of n link) → Within 256 n
link_in_range n Empty none = within (none LinkRange)
link_in_range n (Axiom p q a) none = within (none LinkRange)
link_in_range n (Tensor l r c) none = within (none LinkRange)
link_in_range n (Par l r c) none = within (none LinkRange)
link_in_range n (Cut l r) none = within (none LinkRange)

pub placed : (ls : List Link) → length ls ≡ 257 → (n : ℕ) (link : Link) → None (numbers_of n link) → None (places_of ls n link) → Facts ls → Facts (set ls n link)
placed ls long n Empty none free =
    clear_facts ls n (slot ls long n (within (none LinkRange))) (λ o c p. subst (λ (l : Link). Concludes l o) (empty ls long n (free LinkStands)) c)
placed ls long n (Axiom p q a) none free = axiom_placed ls long n p q a none free
placed ls long n (Tensor l r c) none free = tensor_placed ls long n l r c none free
placed ls long n (Par l r c) none free = par_placed ls long n l r c none free
placed ls long n (Cut l r) none free = cut_placed ls long n l r none free
