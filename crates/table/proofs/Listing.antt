-- The list of conclusions as it grows: after the occurrences below o have been looked at, the row starts with the
-- conclusions among them, rising.
use Rattle.std.proofs.Common.{◌≡◌, ℕ, ◌+◌, ◌<◌, ◌≤◌, ◌⊎◌, List, length, get_or, set, sym, ap, ◌∙◌, subst, inl, inr, ⊎_elim, arith, length-set}
use mathlib.Core.HLevel.{⊥_prop}
use mathlib.Core.Logic.{∥∥₁_elim}
use Rattle.std.proofs.lemmas.List.{get_or-set_same, get_or-set_other}
use Rattle.std.proofs.lemmas.Bool.{cases_eq, cases_lt}
use Rattle.links.specs.declared.link.Link.{Link}
use Rattle.links.specs.declared.link.Link.TheVariants.{Empty, Axiom, Tensor, Par, Cut}
use Rattle.links.specs.Links.{link_at, Concludes, Stands, Conclusion}
use Rattle.links.specs.Facts.{Facts, InRange}
use Rattle.table.specs.Answers.{Listed}

pub record ListedBelow (ls : List Link) (before after : List ℕ) (o count : ℕ) : Type 0 where
  pub long : length after ≡ length before
  pub few : count + 1 ≤ o
  pub low : (i : ℕ) → i < count → get_or after i 0 < o
  pub rising : (i j : ℕ) → i < j → j < count → get_or after i 0 < get_or after j 0
  pub listed : (x : ℕ) → x < o → Conclusion ls x → (i : ℕ) × (i < count) × (get_or after i 0 ≡ x)
  pub only : (i : ℕ) → i < count → Conclusion ls (get_or after i 0)
  pub beyond : (i : ℕ) → count ≤ i → get_or after i 0 ≡ get_or before i 0

-- what stands is numbered 1 to 512
concluded_in_range : (n o : ℕ) (l : Link) → InRange n l → Concludes l o → (1 ≤ o) × (o ≤ 512)
concluded_in_range n o Empty r c = absurd c
concluded_in_range n o (Cut a b) r c = absurd c
concluded_in_range n o (Axiom p q a) r (inl e) = let w = r.1 in (omega (arith, w.0, e), omega (arith, w.1, e))
concluded_in_range n o (Axiom p q a) r (inr e) = let w = r.2 in (omega (arith, w.0, e), omega (arith, w.1, e))
concluded_in_range n o (Tensor l x c) r e = let w = r.3 in (omega (arith, w.0, e), omega (arith, w.1, e))
concluded_in_range n o (Par l x c) r e = let w = r.3 in (omega (arith, w.0, e), omega (arith, w.1, e))

pub stands_in_range : (ls : List Link) → Facts ls → (o : ℕ) → Stands ls o → (1 ≤ o) × (o ≤ 512)
stands_in_range ls f o s = concluded_in_range s.0 o (link_at ls s.0) (f.in_range s.0) s.1

module _ (ls : List Link) (facts : ∥ Facts ls ∥₁) where
  none_out_of_range : (o : ℕ) → (o < 1) ⊎ (512 < o) → Conclusion ls o → ⊥
  none_out_of_range o out c = ∥∥₁_elim facts ⊥_prop (λ f. let w = stands_in_range ls f o c.0 in ⊎_elim (λ h. omega (arith, w.0)) (λ h. omega (arith, w.1)) out)

  pub not_listed : (before after : List ℕ) (o count : ℕ) → ListedBelow ls before after o count → (Conclusion ls o → ⊥) → ListedBelow ls before after (o + 1) count
  not_listed before after o count b nay =
      let few = b.few in
      record {
        long = b.long;
        few = omega arith;
        low = λ i h. let l = b.low i h in omega arith;
        rising = b.rising;
        listed = λ x h c. ⊎_elim (λ e. absurd (nay (subst (Conclusion ls) e c))) (λ ne. b.listed x (omega (arith, ne)) c) (cases_eq x o);
        only = b.only;
        beyond = b.beyond;
      }

  pub one_listed : (before after : List ℕ) (o count : ℕ) → count < length after → ListedBelow ls before after o count → Conclusion ls o → ListedBelow ls before (set after count o) (o + 1) (count + 1)
  one_listed before after o count room b c =
      let few = b.few in
      let here : get_or (set after count o) count 0 ≡ o = get_or-set_same after count o 0 room in
      let else : (i : ℕ) → (i ≡ count → ⊥) → get_or (set after count o) i 0 ≡ get_or after i 0 = λ i ne. get_or-set_other after count i o 0 ne in
      let old : (i : ℕ) → i < count → get_or (set after count o) i 0 ≡ get_or after i 0 = λ i h. else i (λ e. omega arith) in
      record {
        long = length-set after count o ∙ b.long;
        few = omega arith;
        low = λ i h. ⊎_elim (λ e. let v : get_or (set after count o) i 0 ≡ o = ap (λ (k : ℕ). get_or (set after count o) k 0) e ∙ here in omega arith) (λ ne. let v = old i (omega (arith, ne)) in let l = b.low i (omega (arith, ne)) in omega arith) (cases_eq i count);
        rising = λ i j h k.
            let vi = old i (omega arith) in
            ⊎_elim (λ e. let v : get_or (set after count o) j 0 ≡ o = ap (λ (x : ℕ). get_or (set after count o) x 0) e ∙ here in let l = b.low i (omega arith) in omega arith) (λ ne. let vj = old j (omega (arith, ne)) in let l = b.rising i j h (omega (arith, ne)) in omega arith) (cases_eq j count);
        listed = λ x h d. ⊎_elim (λ e. (count, omega arith, here ∙ sym e)) (λ ne. let p = b.listed x (omega (arith, ne)) d in let q = p.1 in (p.0, omega arith, old p.0 q ∙ p.2)) (cases_eq x o);
        only = λ i h. ⊎_elim (λ e. subst (Conclusion ls) (sym (ap (λ (k : ℕ). get_or (set after count o) k 0) e ∙ here)) c) (λ ne. subst (Conclusion ls) (sym (old i (omega (arith, ne)))) (b.only i (omega (arith, ne)))) (cases_eq i count);
        beyond = λ i h. else i (λ e. omega arith) ∙ b.beyond i (omega arith);
      }

  pub all_listed : (before after : List ℕ) (count : ℕ) → 512 ≤ length before → ListedBelow ls before after 513 count → Listed ls before after count
  all_listed before after count room b =
      let few = b.few in
      record {
        long = b.long;
        fits = omega arith;
        rising = b.rising;
        each = λ o. (
          λ c. ⊎_elim (λ h. b.listed o h c) (λ h. absurd (none_out_of_range o (inr (omega arith)) c)) (cases_lt o 513),
          λ p. subst (Conclusion ls) p.2 (b.only p.0 p.1),
        );
        beyond = b.beyond;
      }
