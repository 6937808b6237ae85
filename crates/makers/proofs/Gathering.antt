-- The index after the slots below n: each occurrence has its maker among the links below n.
-- Occurrences are at most 512, by the structure facts.
use Rattle.std.proofs.Common.{◌≡◌, ℕ, ◌+◌, ◌<◌, ◌≤◌, cond, List, [], ◌∷◌, length, get_or, set, replicate, sym, refl, ap, ◌∙◌, inl, inr, ⊎_elim, add-one, arith, length-set, get_or-set_other, get_or-set_same}
use Rattle.std.proofs.lemmas.List.{get_or_past, get_or-replicate}
use Rattle.std.proofs.lemmas.Bool.Decides.{nat_tests}
use Rattle.std.proofs.lemmas.Bool.{cases_eq, cases_lt, eq-eqb, ne_eqb}
use Rattle.graphs.specs.Selections.{has}
use Rattle.links.specs.declared.link.Link.{Link}
use Rattle.links.specs.declared.link.Link.TheVariants.{Axiom}
use Rattle.links.specs.Links.{link_at}
use Rattle.links.specs.Facts.{Facts}
use Rattle.links.proofs.Grounding.{facts_held}
use Rattle.switchings.specs.Edges.{conclusions, standing_below, maker_among, maker}
use Rattle.switchings.proofs.Listed.{maker_below_more, maker_or_none, link_in_range, concluder_stands}
use Rattle.table.proofs.Listing.{stands_in_range}
use Rattle.makers.specs.Makers.{Makes}
use Rattle.makers.proofs.Arms.{OfOne, OfNone, one_listed, none_listed}

-- bounds
pub maker_low : (ls : List Link) → ∥ Facts ls ∥₁ → (o m : ℕ) → m ≡ maker ls o → m ≤ 256
maker_low ls facts o m e = ⊎_elim (λ c. let w = link_in_range ls (facts_held ls facts) (maker ls o) (concluder_stands ls (maker ls o) o c) in let h = w.1 in omega arith) (λ z. omega arith) (maker_or_none ls o)

no_maker_past_512 : (ls : List Link) → Facts ls → (o : ℕ) → 513 ≤ o → maker ls o ≡ 0
no_maker_past_512 ls facts o h = ⊎_elim (λ c. let w = stands_in_range ls facts o (maker ls o, c) in absurd (omega arith)) (λ e. e) (maker_or_none ls o)

-- the index after the slots below n
pub record Gathered (ls : List Link) (by : List ℕ) (n : ℕ) : Type 0 where
  pub long : length by ≡ 513
  pub makers : (o : ℕ) → o < 513 → get_or by o 0 ≡ maker_among ls (standing_below ls n) o

pub none_gathered : (ls : List Link) → Gathered ls (replicate 513 0) 0
unfolding maker_among standing_below
none_gathered ls = record { long = refl; makers = λ o h. get_or-replicate 513 o 0 0 h }

-- a row in which the entries of a list are n
abbrev pub set_all : List ℕ → List ℕ → ℕ → List ℕ
set_all [] by n = by
set_all (o ∷ os) by n = set (set_all os by n) o n

setting_keeps_length : (os by : List ℕ) (n : ℕ) → length (set_all os by n) ≡ length by
setting_keeps_length [] by n = refl
setting_keeps_length (o ∷ os) by n = length-set (set_all os by n) o n ∙ setting_keeps_length os by n

set_entries_read : (os by : List ℕ) (n o : ℕ) → o < length by → get_or (set_all os by n) o 0 ≡ cond (has o os) n (get_or by o 0)
set_entries_read [] by n o h = refl
set_entries_read (x ∷ os) by n o h =
    let l = setting_keeps_length os by n in
    elim (cases_eq o x) [
      | inl q ↦ rw (eq-eqb o x q) (rw q (let lt : x < length (set_all os by n) = omega arith in get_or-set_same (set_all os by n) x n 0 lt))
      | inr q ↦ rw (ne_eqb o x q) (get_or-set_other (set_all os by n) x o n 0 q ∙ set_entries_read os by n o h)
    ]

-- one slot more: its conclusions, in whatever order, take its number
module _ (ls : List Link) (by : List ℕ) (n : ℕ) (m : Gathered ls by n) where
  more_gathered : (os : List ℕ) → ((o : ℕ) → has o os ≡ has o (conclusions (link_at ls n))) → Gathered ls (set_all os by n) (n + 1)
  more_gathered os same =
      let l = m.long in
      record {
        long = setting_keeps_length os by n ∙ m.long;
        makers = λ o h.
            let a = set_entries_read os by n o (omega arith) in
            let b = maker_below_more ls n o in
            let c = m.makers o h in
            let d = same o in
            rw add-one cc;
      }

  same_two : (x y o : ℕ) → has o (y ∷ x ∷ []) ≡ has o (x ∷ y ∷ [])
  same_two x y o = grind (arith, nat_tests)

  pub axiom_gathered : (p q a : ℕ) → link_at ls n ≡ Axiom p q a → Gathered ls (set (set by p n) q n) (n + 1)
  axiom_gathered p q a e = more_gathered (q ∷ p ∷ []) (λ o. same_two p q o ∙ ap (λ k. has o (conclusions k)) (sym e))

  pub one_gathered : (o : ℕ) → OfOne (link_at ls n) o → Gathered ls (set by o n) (n + 1)
  one_gathered o w = more_gathered (o ∷ []) (λ x. ap (has x) (sym (one_listed (link_at ls n) o w)))

  pub nothing_gathered : OfNone (link_at ls n) → Gathered ls by (n + 1)
  nothing_gathered w = more_gathered [] (λ x. ap (has x) (sym (none_listed (link_at ls n) w)))

pub all_gathered : (ls : List Link) → ∥ Facts ls ∥₁ → length ls ≡ 257 → (by : List ℕ) (n : ℕ) → n ≡ 257 → Gathered ls by n → Makes ls by
all_gathered ls facts long by n end g o =
    let l = g.long in
    ⊎_elim
    (λ h. g.makers o h ∙ ap (λ (k : ℕ). maker_among ls (standing_below ls k) o) (end ∙ sym long))
    (λ h. get_or_past by o 0 (omega arith) ∙ sym (no_maker_past_512 ls (facts_held ls facts) o h))
    (cases_lt o 513)
