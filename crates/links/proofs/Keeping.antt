-- A placement and a withdrawal keep the facts, and so does the structure without links.
use Rattle.std.proofs.Common.{◌≡◌, ℕ, zero, suc, ◌<◌, ◌≢◌, ◌⊎◌, List, length, set, replicate, sym, refl, ap, ◌∙◌, subst, inl, inr, ⊎_elim, arith}
use Rattle.std.proofs.lemmas.List.{get_or-set_same, get_or-set_other}
use Rattle.std.proofs.lemmas.Bool.{cases_eq}
use Rattle.links.specs.declared.link.Link.{Link}
use Rattle.links.specs.declared.link.Link.TheVariants.{Empty, Axiom, Tensor, Par, Cut}
use Rattle.links.specs.Links.{link_at, Concludes, Uses, Stands, Premise}
use Rattle.links.specs.Formulas.{Formula, atom, co_atom, tensor, par, dual_of, Reads, Dual}
use Rattle.links.specs.Facts.{EndsDiffer, InRange, Within, Facts}
use Rattle.links.proofs.Reading.{concl, uses}
use Rattle.links.proofs.Descent.{facts_of}

-- what holds at a slot after one write held of the new link there, or of the old one elsewhere
after_write : (P : Link → Type 0) (ls : List Link) (i : ℕ) (new : Link) → i < length ls → (k : ℕ) → P (link_at (set ls i new) k) → ((k ≡ i) × P new) ⊎ ((k ≢ i) × P (link_at ls k))
after_write P ls i new h k p = ⊎_elim
    (λ e. inl (e, subst P (get_or-set_same ls i new Empty h) (subst (λ (x : ℕ). P (link_at (set ls i new) x)) e p)))
    (λ ne. inr (ne, subst P (get_or-set_other ls i k new Empty ne) p))
    (cases_eq k i)

-- what stands after a write stood before or is concluded by the new link
pub stands_before : (ls : List Link) (i : ℕ) (new : Link) → i < length ls → (o : ℕ) → Stands (set ls i new) o → Concludes new o ⊎ Stands ls o
stands_before ls i new h o (k, c) = ⊎_elim (λ x. inl x.1) (λ x. inr (k, x.1)) (after_write (λ (l : Link). Concludes l o) ls i new h k c)

pub no_cut_empty : (a b : ℕ) → Empty ≡ Cut a b → ⊥
no_cut_empty a b e = let z : ◌≡◌ {A = ℕ} 0 1 = cc in omega arith

keep_other : (P : Link → Type 0) (ls : List Link) (i : ℕ) (new : Link) (k : ℕ) → k ≢ i → P (link_at ls k) → P (link_at (set ls i new) k)
keep_other P ls i new k ne p = subst P (sym (get_or-set_other ls i k new Empty ne)) p

keep_same : (P : Link → Type 0) (ls : List Link) (i : ℕ) (new : Link) → i < length ls → P new → P (link_at (set ls i new) i)
keep_same P ls i new h p = subst P (sym (get_or-set_same ls i new Empty h)) p

cut_left : (k : Link) (a b : ℕ) → k ≡ Cut a b → Uses k a
cut_left k a b e = uses a (Cut a b) e (inl refl)

cut_right : (k : Link) (a b : ℕ) → k ≡ Cut a b → Uses k b
cut_right k a b e = uses b (Cut a b) e (inr refl)

-- an occurrence that stands is concluded by a link
ends_link : (o : ℕ) (k : Link) → k ≡ Empty → Concludes k o → ⊥
ends_link o k e c = subst (λ (x : Link). Concludes x o) e c

module _ (ls : List Link) (i : ℕ) (new : Link) (empty : link_at ls i ≡ Empty) where
  not_here : (k o : ℕ) → Concludes (link_at ls k) o → k ≢ i
  not_here k o c e = ends_link o (link_at ls k) (ap (λ (j : ℕ). link_at ls j) e ∙ empty) c

  link_kept : (k o : ℕ) (z : Link) → link_at ls k ≡ z → Concludes z o → link_at (set ls i new) k ≡ z
  link_kept k o z e c = get_or-set_other ls i k new Empty (not_here k o (concl o z e c)) ∙ e

  -- a link placed in an empty slot leaves every formula as it was
  pub reads_kept : (o : ℕ) (F : Formula) → Reads ls o F → Reads (set ls i new) o F
  reads_kept o (atom x) (k, q, e) = (k, q, link_kept k o (Axiom o q x) e (inl refl))
  reads_kept o (co_atom x) (k, p, e) = (k, p, link_kept k o (Axiom p o x) e (inr refl))
  reads_kept o (tensor A B) (k, l, r, e, x, y) = (k, l, r, link_kept k o (Tensor l r o) e refl, reads_kept l A x, reads_kept r B y)
  reads_kept o (par A B) (k, l, r, e, x, y) = (k, l, r, link_kept k o (Par l r o) e refl, reads_kept l A x, reads_kept r B y)

  stands_kept : (o : ℕ) → Stands ls o → Stands (set ls i new) o
  stands_kept o (k, c) = (k, keep_other (λ (l : Link). Concludes l o) ls i new k (not_here k o c) c)

-- what a link has to bring to an empty slot
pub record Welcome (ls : List Link) (i : ℕ) (new : Link) : Type 0 where
  pub room : i < length ls
  pub empty : link_at ls i ≡ Empty
  pub fresh : (o : ℕ) → Concludes new o → Stands ls o → ⊥
  pub free : (o : ℕ) → Uses new o → Premise ls o → ⊥
  pub differ : EndsDiffer new
  pub there : (o : ℕ) → Uses new o → Stands ls o
  pub formed : (o : ℕ) → Concludes new o → (F : Formula) × Reads (set ls i new) o F
  pub matched : (a b : ℕ) → new ≡ Cut a b → Dual ls a b
  pub ranged : InRange i new

pub place_facts : (ls : List Link) (i : ℕ) (new : Link) → Welcome ls i new → Facts ls → Facts (set ls i new)
place_facts ls i new w n = facts_of (set ls i new) record {
  concluded_once = λ a b o ca cb. ⊎_elim
      (λ x. ⊎_elim (λ y. x.0 ∙ sym y.0) (λ y. absurd (w.fresh o x.1 (b, y.1))) (ended b o cb))
      (λ x. ⊎_elim (λ y. absurd (w.fresh o y.1 (a, x.1))) (λ y. n.concluded_once a b o x.1 y.1) (ended b o cb))
      (ended a o ca);
  used_once = λ a b o ua ub. ⊎_elim
      (λ x. ⊎_elim (λ y. x.0 ∙ sym y.0) (λ y. absurd (w.free o x.1 (b, y.1))) (used b o ub))
      (λ x. ⊎_elim (λ y. absurd (w.free o y.1 (a, x.1))) (λ y. n.used_once a b o x.1 y.1) (used b o ub))
      (used a o ua);
  ends_differ = λ k. ⊎_elim
      (λ e. subst (λ (j : ℕ). EndsDiffer (link_at (set ls i new) j)) (sym e) (keep_same EndsDiffer ls i new w.room w.differ))
      (λ ne. keep_other EndsDiffer ls i new k ne (n.ends_differ k))
      (cases_eq k i);
  premises_stand = λ k o u. stands_kept ls i new w.empty o (⊎_elim (λ x. w.there o x.1) (λ x. n.premises_stand k o x.1) (used k o u));
  has_formula = λ o s. ⊎_elim
      (λ x. w.formed o x.1)
      (λ x. let f = n.has_formula o (s.0, x.1) in (f.0, reads_kept ls i new w.empty o f.0 f.1))
      (ended s.0 o s.1);
  cuts_dual = λ k a b e.
      let d : Dual ls a b = ⊎_elim (λ x. w.matched a b x.1) (λ x. n.cuts_dual k a b x.1) (after_write (λ (l : Link). l ≡ Cut a b) ls i new w.room k e) in
      (d.0, reads_kept ls i new w.empty a d.0 d.1, reads_kept ls i new w.empty b (dual_of d.0) d.2);
  in_range = λ k. ⊎_elim
      (λ e. subst (λ (j : ℕ). InRange j (link_at (set ls i new) j)) (sym e) (keep_same (InRange i) ls i new w.room w.ranged))
      (λ ne. keep_other (InRange k) ls i new k ne (n.in_range k))
      (cases_eq k i);
}
  where
    ended : (k o : ℕ) → Concludes (link_at (set ls i new) k) o → ((k ≡ i) × Concludes new o) ⊎ ((k ≢ i) × Concludes (link_at ls k) o)
    ended k o c = after_write (λ (l : Link). Concludes l o) ls i new w.room k c

    used : (k o : ℕ) → Uses (link_at (set ls i new) k) o → ((k ≡ i) × Uses new o) ⊎ ((k ≢ i) × Uses (link_at ls k) o)
    used k o u = after_write (λ (l : Link). Uses l o) ls i new w.room k u

module _ (ls : List Link) (i : ℕ) (room : i < length ls) (empty : link_at ls i ≡ Empty) where
  pub axiom_welcome : (p q a : ℕ) → InRange i (Axiom p q a) → p ≢ q → (Stands ls p → ⊥) → (Stands ls q → ⊥) → Welcome ls i (Axiom p q a)
  axiom_welcome p q a range ne fp fq = record {
    room = room;
    empty = empty;
    fresh = λ o c s. ⊎_elim (λ e. fp (subst (Stands ls) (sym e) s)) (λ e. fq (subst (Stands ls) (sym e) s)) c;
    free = λ o u. absurd u;
    differ = ne;
    there = λ o u. absurd u;
    formed = λ o c. ⊎_elim
        (λ e. (atom a, subst (λ (x : ℕ). Reads (set ls i (Axiom p q a)) x (atom a)) e (i, q, get_or-set_same ls i (Axiom p q a) Empty room)))
        (λ e. (co_atom a, subst (λ (x : ℕ). Reads (set ls i (Axiom p q a)) x (co_atom a)) e (i, p, get_or-set_same ls i (Axiom p q a) Empty room)))
        c;
    matched = λ x y e. let z : ◌≡◌ {A = ℕ} 0 1 = cc in absurd (omega arith);
    ranged = range;
  }

  module _ (n : Facts ls) (l r o : ℕ) (range : Within 256 i × Within 512 l × Within 512 r × Within 512 o) (ne : l ≢ r) (fo : Stands ls o → ⊥) (sl : Stands ls l) (sr : Stands ls r) (ul : Premise ls l → ⊥) (ur : Premise ls r → ⊥) where
    pub tensor_welcome : Welcome ls i (Tensor l r o)
    tensor_welcome = record {
      room = room;
      empty = empty;
      fresh = λ x c s. fo (subst (Stands ls) (sym c) s);
      free = λ x u s. ⊎_elim (λ e. ul (subst (Premise ls) (sym e) s)) (λ e. ur (subst (Premise ls) (sym e) s)) u;
      differ = ne;
      there = λ x u. ⊎_elim (λ e. subst (Stands ls) e sl) (λ e. subst (Stands ls) e sr) u;
      formed = λ x c.
          let A = n.has_formula l sl in
          let B = n.has_formula r sr in
          let new : Link = Tensor l r o in
          let rd : Reads (set ls i new) o (tensor A.0 B.0) = (i, l, r, get_or-set_same ls i new Empty room, reads_kept ls i new empty l A.0 A.1, reads_kept ls i new empty r B.0 B.1) in
          (tensor A.0 B.0, subst (λ (y : ℕ). Reads (set ls i new) y (tensor A.0 B.0)) c rd);
      matched = λ x y e. let z : ◌≡◌ {A = ℕ} 0 1 = cc in absurd (omega arith);
      ranged = range;
    }

    pub par_welcome : Welcome ls i (Par l r o)
    par_welcome = record {
      room = room;
      empty = empty;
      fresh = λ x c s. fo (subst (Stands ls) (sym c) s);
      free = λ x u s. ⊎_elim (λ e. ul (subst (Premise ls) (sym e) s)) (λ e. ur (subst (Premise ls) (sym e) s)) u;
      differ = ne;
      there = λ x u. ⊎_elim (λ e. subst (Stands ls) e sl) (λ e. subst (Stands ls) e sr) u;
      formed = λ x c.
          let A = n.has_formula l sl in
          let B = n.has_formula r sr in
          let new : Link = Par l r o in
          let rd : Reads (set ls i new) o (par A.0 B.0) = (i, l, r, get_or-set_same ls i new Empty room, reads_kept ls i new empty l A.0 A.1, reads_kept ls i new empty r B.0 B.1) in
          (par A.0 B.0, subst (λ (y : ℕ). Reads (set ls i new) y (par A.0 B.0)) c rd);
      matched = λ x y e. let z : ◌≡◌ {A = ℕ} 0 1 = cc in absurd (omega arith);
      ranged = range;
    }

  pub cut_welcome : (l r : ℕ) → InRange i (Cut l r) → l ≢ r → Stands ls l → Stands ls r → (Premise ls l → ⊥) → (Premise ls r → ⊥) → Dual ls l r → Welcome ls i (Cut l r)
  cut_welcome l r range ne sl sr ul ur d = record {
    room = room;
    empty = empty;
    fresh = λ x c s. c;
    free = λ x u s. ⊎_elim (λ e. ul (subst (Premise ls) (sym e) s)) (λ e. ur (subst (Premise ls) (sym e) s)) u;
    differ = ne;
    there = λ x u. ⊎_elim (λ e. subst (Stands ls) e sl) (λ e. subst (Stands ls) e sr) u;
    formed = λ x c. absurd c;
    matched = λ x y e. let a : l ≡ x = cc in let b : r ≡ y = cc in subst (λ (v : ℕ). Dual ls x v) b (subst (λ (v : ℕ). Dual ls v r) a d);
    ranged = range;
  }

-- a withdrawal of a link whose conclusions are no premises
module _ (ls : List Link) (i : ℕ) (room : i < length ls) (loose : (o : ℕ) → Concludes (link_at ls i) o → Premise ls o → ⊥) where
  link_left : (k o : ℕ) (z : Link) → link_at ls k ≡ z → Concludes z o → (Concludes (link_at ls i) o → ⊥) → link_at (set ls i Empty) k ≡ z
  link_left k o z e c out = get_or-set_other ls i k Empty Empty (λ q. out (subst (λ (j : ℕ). Concludes (link_at ls j) o) q (concl o z e c))) ∙ e

  reads_left : (o : ℕ) (F : Formula) → (Concludes (link_at ls i) o → ⊥) → Reads ls o F → Reads (set ls i Empty) o F
  reads_left o (atom x) out (k, q, e) = (k, q, link_left k o (Axiom o q x) e (inl refl) out)
  reads_left o (co_atom x) out (k, p, e) = (k, p, link_left k o (Axiom p o x) e (inr refl) out)
  reads_left o (tensor A B) out (k, l, r, e, x, y) =
      (k, l, r, link_left k o (Tensor l r o) e refl out, reads_left l A (λ c. loose l c (k, uses l (Tensor l r o) e (inl refl))) x, reads_left r B (λ c. loose r c (k, uses r (Tensor l r o) e (inr refl))) y)
  reads_left o (par A B) out (k, l, r, e, x, y) =
      (k, l, r, link_left k o (Par l r o) e refl out, reads_left l A (λ c. loose l c (k, uses l (Par l r o) e (inl refl))) x, reads_left r B (λ c. loose r c (k, uses r (Par l r o) e (inr refl))) y)

  pub clear_facts : Facts ls → Facts (set ls i Empty)
  clear_facts n = facts_of (set ls i Empty) record {
    concluded_once = λ a b o ca cb. n.concluded_once a b o (old_end a o ca).1 (old_end b o cb).1;
    used_once = λ a b o ua ub. n.used_once a b o (old_use a o ua).1 (old_use b o ub).1;
    ends_differ = λ k. ⊎_elim
        (λ e. subst (λ (j : ℕ). EndsDiffer (link_at (set ls i Empty) j)) (sym e) (keep_same EndsDiffer ls i Empty room tt))
        (λ ne. keep_other EndsDiffer ls i Empty k ne (n.ends_differ k))
        (cases_eq k i);
    premises_stand = λ k o u.
        let v = old_use k o u in
        let s = n.premises_stand k o v.1 in
        (s.0, keep_other (λ (l : Link). Concludes l o) ls i Empty s.0 (λ q. loose o (subst (λ (j : ℕ). Concludes (link_at ls j) o) q s.1) (k, v.1)) s.1);
    has_formula = λ o s.
        let v = old_end s.0 o s.1 in
        let f = n.has_formula o (s.0, v.1) in
        (f.0, reads_left o f.0 (λ c. v.0 (n.concluded_once s.0 i o v.1 c)) f.1);
    cuts_dual = λ k a b e.
        let x : ((k ≡ i) × (Empty ≡ Cut a b)) ⊎ ((k ≢ i) × (link_at ls k ≡ Cut a b)) = after_write (λ (l : Link). l ≡ Cut a b) ls i Empty room k e in
        let old : link_at ls k ≡ Cut a b = ⊎_elim (λ y. absurd (no_cut_empty a b y.1)) (λ y. y.1) x in
        let d = n.cuts_dual k a b old in
        (d.0, reads_left a d.0 (λ c. loose a c (k, cut_left (link_at ls k) a b old)) d.1, reads_left b (dual_of d.0) (λ c. loose b c (k, cut_right (link_at ls k) a b old)) d.2);
    in_range = λ k. ⊎_elim
        (λ e. subst (λ (j : ℕ). InRange j (link_at (set ls i Empty) j)) (sym e) (keep_same (InRange i) ls i Empty room tt))
        (λ ne. keep_other (InRange k) ls i Empty k ne (n.in_range k))
        (cases_eq k i);
  }
    where
      old_use : (k o : ℕ) → Uses (link_at (set ls i Empty) k) o → (k ≢ i) × Uses (link_at ls k) o
      old_use k o u = ⊎_elim (λ x. absurd x.1) (λ x. x) (after_write (λ (l : Link). Uses l o) ls i Empty room k u)

      old_end : (k o : ℕ) → Concludes (link_at (set ls i Empty) k) o → (k ≢ i) × Concludes (link_at ls k) o
      old_end k o u = ⊎_elim (λ x. absurd x.1) (λ x. x) (after_write (λ (l : Link). Concludes l o) ls i Empty room k u)

-- where no link stands
pub nothing_stands : (n k : ℕ) → link_at (replicate n Empty) k ≡ Empty
nothing_stands zero k = refl
nothing_stands (suc n) zero = refl
nothing_stands (suc n) (suc k) = nothing_stands n k

pub empty_facts : (ls : List Link) → ((k : ℕ) → link_at ls k ≡ Empty) → Facts ls
empty_facts ls none = facts_of ls record {
  concluded_once = λ i j o c. absurd (ends_link o (link_at ls i) (none i) c);
  used_once = λ i j o u. absurd (no_use i o u);
  ends_differ = λ i. subst EndsDiffer (sym (none i)) tt;
  premises_stand = λ i o u. absurd (no_use i o u);
  has_formula = λ o s. absurd (ends_link o (link_at ls s.0) (none s.0) s.1);
  cuts_dual = λ i a b e. absurd (no_cut_empty a b (sym (none i) ∙ e));
  in_range = λ i. subst (InRange i) (sym (none i)) tt;
}
  where
    no_use : (i o : ℕ) → Uses (link_at ls i) o → ⊥
    no_use i o u = subst (λ (x : Link). Uses x o) (none i) u
