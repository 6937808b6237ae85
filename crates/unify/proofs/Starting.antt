-- How the arrays of a unification start: each axiom is its own token, and nothing else has one.
use Rattle.std.proofs.Common.{◌≡◌, ℕ, ◌<◌, ◌≤◌, true, false, cond, List, get_or, refl, ap, ◌∙◌, inl, inr, arith}
use Rattle.std.proofs.lemmas.List.{get_or_past}
use Rattle.std.proofs.lemmas.Bool.{cases_Bool, cases_lt, both_ways}
use Rattle.graphs.specs.Lists.{In}
use Rattle.graphs.proofs.Members.{in_select}
use Rattle.links.specs.declared.link.Link.{Link}
use Rattle.links.specs.declared.link.Link.TheVariants.{Empty, Axiom, Tensor, Par, Cut}
use Rattle.links.specs.Links.{link_at}
use Rattle.links.specs.Facts.{Facts}
use Rattle.links.proofs.Grounding.{facts_held}
use Rattle.switchings.specs.Edges.{is_link, is_axiom_lem, standing}
use Rattle.switchings.proofs.Occurrences.{link_not_empty}
use Rattle.switchings.proofs.Listed.{stands_listed, link_in_range}
use Rattle.sequents.specs.Unification.{wires}
use Rattle.sequents.proofs.Beginning.{wire_is, unification_starts_lem}
use Rattle.unify.specs.declared.marking.Marking.{Marking}
use Rattle.unify.specs.Markings.{token_of, marks_of, Means}

axiom_link : (k : Link) → is_axiom_lem k ≡ true → is_link k ≡ true
axiom_link Empty e = absurd (both_ways false refl e)
axiom_link (Axiom p q a) e = refl
axiom_link (Tensor l r c) e = refl
axiom_link (Par l r c) e = refl
axiom_link (Cut l r) e = refl

pub start_means : (ls : List Link) (m : Marking) → ∥ Facts ls ∥₁ → ((k : ℕ) → k < 257 → token_of m k ≡ cond (is_axiom_lem (link_at ls k)) k 0) → m.last ≡ m.token → m.passes ≡ 0 → Means ls m
start_means ls m held seen same none =
    let facts = facts_held ls held in
    let long = m.token_long in
    let unseen : (k : ℕ) → 257 ≤ k → token_of m k ≡ 0 = λ k h. get_or_past m.token k 0 (omega arith) in
    let own : (k : ℕ) → In k (wires ls) → token_of m k ≡ k = λ k i.
    let w = wire_is ls k i in
    let r = (link_in_range ls facts k w.0).1 in
    seen k (omega arith) ∙ rw w.1 in
    record {
      passed = wires ls;
      live = wires ls;
      sound = unification_starts_lem ls (marks_of m) (λ k i. (own k i, ap (λ xs. get_or xs k 0) same ∙ own k i));
      marked = λ k i q. let r = (link_in_range ls facts k (wire_is ls k i).0).0 in let t = own k i in omega arith;
      unmarked = λ k q. elim (cases_lt k 257) [
        | inr h ↦ absurd (q (unseen k h))
        | inl h ↦ elim (cases_Bool (is_axiom_lem (link_at ls k))) [
          | inl t ↦ in_select (λ x. is_axiom_lem (link_at ls x)) (standing ls) (stands_listed ls k (link_not_empty (link_at ls k) (axiom_link (link_at ls k) t))) t
          | inr t ↦ absurd (q (seen k h ∙ rw t))
        ]
      ];
      low = λ k. elim (cases_lt k 257) [
        | inr h ↦ let q = unseen k h in omega arith
        | inl h ↦ elim (cases_Bool (is_axiom_lem (link_at ls k))) [
          | inl t ↦ let q : token_of m k ≡ k = seen k h ∙ rw t in omega arith
          | inr t ↦ let q : token_of m k ≡ 0 = seen k h ∙ rw t in omega arith
        ]
      ];
      count = let q = none in omega arith;
    }
