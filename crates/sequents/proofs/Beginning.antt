-- The start of a unification: each axiom has passed with a token of its own, and its proof is the axiom alone.
-- For any marks that say so. Assumes nothing of the structure.
use Rattle.std.proofs.Common.{◌≡◌, ℕ, true, false, List, [], ◌∷◌, sym, refl, ap, ◌∙◌, subst, arith}
use Rattle.std.proofs.lemmas.Bool.{both_ways}
use Rattle.graphs.specs.Lists.{In}
use Rattle.graphs.specs.Lists.In.{here}
use Rattle.graphs.proofs.Members.{in_one, apart_one, from_select, in_select, apart_select}
use Rattle.graphs.proofs.Counts.{count_none, count_select}
use Rattle.links.specs.declared.link.Link.{Link}
use Rattle.links.specs.declared.link.Link.TheVariants.{Empty, Axiom, Tensor, Par, Cut}
use Rattle.links.specs.declared.rule.Rule.TheVariants as rule
use Rattle.links.specs.Links.{link_at, Concludes, Uses, LinkStands}
use Rattle.links.proofs.Reading.{concl}
use Rattle.switchings.specs.Edges.{is_link, is_axiom_lem, is_join, standing}
use Rattle.switchings.proofs.Occurrences.{concludes_listed, listed_concludes, link_not_empty}
use Rattle.switchings.proofs.Listed.{stands_listed, listed_stands, standing_apart}
use Rattle.sequents.specs.Sequents.Does.{by_axiom}
use Rattle.sequents.specs.Sequents.Plays.{done, next}
use Rattle.sequents.specs.Unification.{Marks, wires, begun, OwnTokens, Post}
use Rattle.sequents.specs.Unification.Post.{leaf}
use Rattle.sequents.specs.Soundness.{Cluster}
use Rattle.sequents.specs.Claims.{UnificationStarts}

-- what an axiom is

axiom_parts : (k : Link) → is_axiom_lem k ≡ true → (p : ℕ) × (q : ℕ) × (a : ℕ) × (k ≡ Axiom p q a)
axiom_parts Empty t = absurd (both_ways false refl t)
axiom_parts (Axiom p q a) t = (p, q, a, refl)
axiom_parts (Tensor l r c) t = absurd (both_ways false refl t)
axiom_parts (Par l r c) t = absurd (both_ways false refl t)
axiom_parts (Cut l r) t = absurd (both_ways false refl t)

axiom_uses_nothing : (k : Link) (o : ℕ) → is_axiom_lem k ≡ true → Uses k o → ⊥
axiom_uses_nothing Empty o t u = u
axiom_uses_nothing (Axiom p q a) o t u = u
axiom_uses_nothing (Tensor l r c) o t u = both_ways false refl t
axiom_uses_nothing (Par l r c) o t u = both_ways false refl t
axiom_uses_nothing (Cut l r) o t u = both_ways false refl t

axiom_no_join : (k : Link) → is_axiom_lem k ≡ true → is_join k ≡ true → ⊥
axiom_no_join Empty t j = both_ways false refl t
axiom_no_join (Axiom p q a) t j = both_ways false refl j
axiom_no_join (Tensor l r c) t j = both_ways false refl t
axiom_no_join (Par l r c) t j = both_ways false refl t
axiom_no_join (Cut l r) t j = both_ways false refl t

pub wire_is : (ls : List Link) (n : ℕ) → In n (wires ls) → LinkStands ls n × (is_axiom_lem (link_at ls n) ≡ true)
wire_is ls n i = let k = from_select (λ m. is_axiom_lem (link_at ls m)) (standing ls) i in (listed_stands ls n k.0, k.1)

pub is_wire : (ls : List Link) (n p q a : ℕ) → link_at ls n ≡ Axiom p q a → In n (wires ls)
is_wire ls n p q a e = in_select (λ m. is_axiom_lem (link_at ls m)) (standing ls) (stands_listed ls n (link_not_empty (link_at ls n) (ap is_link e))) (ap is_axiom_lem e)

module _ (ls : List Link) (M : Marks) (own : OwnTokens ls M) where
  wire_idle : (n o : ℕ) → In n (wires ls) → Uses (link_at ls n) o → ⊥
  wire_idle n o i u = axiom_uses_nothing (link_at ls n) o (wire_is ls n i).1 u

  wire_cluster : (t : ℕ) → In t (wires ls) → Cluster ls (begun ls M) t
  wire_cluster t i =
      let k = axiom_parts (link_at ls t) (wire_is ls t i).1 in
      let ax : Link = Axiom k.0 k.1 k.2 in
      record {
        moves = record { rule = rule.Axiom; link = t } ∷ [];
        ends = k.0 ∷ k.1 ∷ [];
        part = record {
          once = apart_one t;
          names_in = λ n j. let e = in_one j in (rw e i, ap M.token e ∙ (own t i).0);
          in_names = λ n j q. here (sym (own n j).0 ∙ q);
          ends_in = λ o j. record { by = t; concludes = concl o ax k.3 (listed_concludes ax j); has_passed = i; with_token = (own t i).0; free = λ m x u. wire_idle m o x u };
          in_ends = λ o x.
              let e : x.by ≡ t = sym (own x.by x.has_passed).0 ∙ x.with_token in
              concludes_listed ax (subst (λ (z : Link). Concludes z o) (ap (λ n. link_at ls n) e ∙ k.3) x.concludes);
        };
        puts = λ Γs. next (by_axiom k.3) done;
        written = subst (λ (x : ℕ). Post ls M x (record { rule = rule.Axiom; link = t } ∷ [])) (sym (own t i).1) (leaf k.3);
      }

pub unification_starts_lem : UnificationStarts
unification_starts_lem ls M own =
    let apart = apart_select (λ m. is_axiom_lem (link_at ls m)) (standing ls) (standing_apart ls) in
    record {
      passed_apart = apart;
      passed_stand = λ n i. (wire_is ls n i).0;
      live_apart = apart;
      token_live = λ n i. rw (own n i).0 i;
      axioms_pass = λ n p q a e. is_wire ls n p q a e;
      above = λ n o i u. absurd (wire_idle ls M own n o i u);
      cluster = wire_cluster ls M own;
      total =
          let a = count_select (λ m. is_axiom_lem (link_at ls m)) (standing ls) in
          let b = count_none (λ m. is_join (link_at ls m)) (wires ls) (λ n i j. axiom_no_join (link_at ls n) (wire_is ls n i).1 j) in
          omega arith;
    }
