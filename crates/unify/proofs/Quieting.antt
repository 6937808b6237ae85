-- Links that can neither pass nor tangle, and what a sweep without a pass shows: unification is stuck.
use Rattle.std.proofs.Common.{◌≡◌, ℕ, ◌<◌, List, sym, ◌∙◌, inl, inr, arith}
use Rattle.std.proofs.lemmas.Bool.{cases_eq}
use Rattle.links.specs.declared.link.Link.{Link}
use Rattle.links.specs.Facts.{Facts}
use Rattle.links.proofs.Grounding.{facts_held}
use Rattle.switchings.specs.Edges.{maker}
use Rattle.switchings.proofs.Listed.{link_in_range}
use Rattle.sequents.specs.Unification.{Stuck}
use Rattle.unify.specs.declared.marking.Marking.{Marking}
use Rattle.unify.specs.Markings.{token_of, state_of, Means}
use Rattle.unify.specs.Turns.{Quiet, AllQuiet}

-- a sweep without a pass: nothing can be done
pub all_quiet_is_stuck : (ls : List Link) (m : Marking) (h : Means ls m) → AllQuiet ls m → Stuck ls (state_of h.passed h.live m)
all_quiet_is_stuck ls m h k n s f =
    let z : token_of m n ≡ 0 = elim (cases_eq (token_of m n) 0) [ inl e ↦ e | inr e ↦ absurd (f (h.unmarked n e)) ] in
    let q = k n s z in
    record {
      no_par = λ l r c t e a b. q.no_par l r c e (h.marked (maker ls l) a.0) (a.1 ∙ sym b.1);
      no_join = λ o p s t j u v d a b. q.no_join o p j u v d (h.marked (maker ls o) a.0) (h.marked (maker ls p) b.0);
    }

pub still_all : (ls : List Link) (m : Marking) (i : ℕ) → ∥ Facts ls ∥₁ → i ≡ 257 → ((n : ℕ) → n < i → token_of m n ≡ 0 → Quiet ls m n) → AllQuiet ls m
still_all ls m i held e h n s z = let w = (link_in_range ls (facts_held ls held) n s).1 in h n (omega arith) z
