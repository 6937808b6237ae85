-- The graph of a switching as two lists: the links that stand, and the kept occurrences listed by the link that uses
-- them. For structures with the facts; what is only about the list of links that stand assumes nothing.
use Rattle.std.proofs.Common.{◌≡◌, ℕ, zero, suc, ◌<◌, ◌≤◌, cond, ◌≢◌, ◌⊎◌, List, [], ◌∷◌, ◌++◌, map, length, sym, refl, ap, subst, inl, inr, arith}
use Rattle.std.proofs.lemmas.Bool.{cases_eq, cases_Bool, both_ways}
use Rattle.graphs.specs.Lists.{In, Apart}
use Rattle.graphs.specs.Lists.In.{here, there}
use Rattle.graphs.specs.Selections.{has, upto}
use Rattle.graphs.specs.Walks.{Edge, name_of, LooplessOver}
use Rattle.graphs.specs.Graphs.{Graph}
use Rattle.graphs.proofs.Members.{not_in_nil, in_cons, in_front, in_back, in_append, in_map, from_map, has_in, in_has, from_select, in_select, apart_select, in_upto}
use Rattle.graphs.proofs.Counts.{within_no_longer}
use Rattle.graphs.proofs.Cycles.{NamesTell}
use Rattle.graphs.proofs.Listings.{Listing}
use Rattle.links.specs.declared.link.Link.{Link}
use Rattle.links.specs.declared.link.Link.TheVariants.{Empty, Axiom, Tensor, Par, Cut}
use Rattle.links.specs.Links.{link_at, Concludes, Uses, LinkStands, Stands}
use Rattle.links.specs.Above.Above.{direct}
use Rattle.links.specs.Facts.{Within, InRange, Facts}
use Rattle.links.proofs.Reading.{room}
use Rattle.switchings.specs.Switchings.{Switching, Kept}
use Rattle.switchings.specs.Edges.{conclusions, kept, is_link, below, standing_below, standing, maker_among, maker, edge, edges_into, edges, KeptInto}
use Rattle.switchings.specs.Claims.{EdgesAreListed, SwitchingsAreGraphs}
use Rattle.switchings.proofs.Occurrences.{concludes_listed, listed_concludes, keeps_listed, listed_keeps, keeps_uses, kept_apart, link_not_empty, not_empty_link, no_link_empty, concludes_not_empty, uses_not_empty}

-- numbers below n

pub from_below : {x : ℕ} (n : ℕ) → In x (below n) → x < n
from_below zero i = absurd (not_in_nil i)
from_below (suc n) (here e) = omega arith
from_below (suc n) (there i) = let k = from_below n i in omega arith

pub in_below : (x n : ℕ) → x < n → In x (below n)
in_below x zero h = absurd (omega arith)
in_below x (suc n) h = elim (cases_eq x n) [ inl e ↦ here e | inr e ↦ there (in_below x n (omega arith)) ]

pub apart_below : (n : ℕ) → Apart (below n)
apart_below zero = tt
apart_below (suc n) = (λ i. let k = from_below n i in omega arith, apart_below n)

-- the links that stand

pub stands_below : (ls : List Link) (n k : ℕ) → k < n → LinkStands ls k → In k (standing_below ls n)
unfolding standing_below
stands_below ls n k h s = in_select (λ m. is_link (link_at ls m)) (below n) (in_below k n h) (not_empty_link (link_at ls k) s)

pub below_stands : (ls : List Link) (n k : ℕ) → In k (standing_below ls n) → (k < n) × LinkStands ls k
unfolding standing_below
below_stands ls n k i = let j = from_select (λ m. is_link (link_at ls m)) (below n) i in (from_below n j.0, link_not_empty (link_at ls k) j.1)

pub standing_below_apart : (ls : List Link) (n : ℕ) → Apart (standing_below ls n)
unfolding standing_below
standing_below_apart ls n = apart_select (λ m. is_link (link_at ls m)) (below n) (apart_below n)

pub stands_listed : (ls : List Link) (n : ℕ) → LinkStands ls n → In n (standing ls)
stands_listed ls n s = stands_below ls (length ls) n (room ls n s) s

pub listed_stands : (ls : List Link) (n : ℕ) → In n (standing ls) → LinkStands ls n
listed_stands ls n i = (below_stands ls (length ls) n i).1

pub standing_apart : (ls : List Link) → Apart (standing ls)
standing_apart ls = standing_below_apart ls (length ls)

pub concluder_stands : (ls : List Link) (n o : ℕ) → Concludes (link_at ls n) o → LinkStands ls n
concluder_stands ls n o c = concludes_not_empty (link_at ls n) o c

pub user_stands : (ls : List Link) (n o : ℕ) → Uses (link_at ls n) o → LinkStands ls n
user_stands ls n o u = uses_not_empty (link_at ls n) o u

-- one slot more, for loops over the slots

pub standing_below_more : (ls : List Link) (n : ℕ) → LinkStands ls n → standing_below ls (suc n) ≡ n ∷ standing_below ls n
unfolding standing_below
standing_below_more ls n s = rw (not_empty_link (link_at ls n) s)

pub standing_below_same : (ls : List Link) (n : ℕ) → link_at ls n ≡ Empty → standing_below ls (suc n) ≡ standing_below ls n
unfolding standing_below
standing_below_same ls n e = rw (ap is_link e)

pub edges_below_more : (ls : List Link) (σ : Switching) (n : ℕ) → edges_into ls σ (standing_below ls (suc n)) ≡ map (edge ls n) (kept (σ n) (link_at ls n)) ++ edges_into ls σ (standing_below ls n)
unfolding standing_below edges_into
edges_below_more ls σ n = elim (cases_Bool (is_link (link_at ls n))) [ inl t ↦ rw t | inr f ↦ rw (no_link_empty (link_at ls n) f) ]

pub maker_below_more : (ls : List Link) (n o : ℕ) → maker_among ls (standing_below ls (suc n)) o ≡ cond (has o (conclusions (link_at ls n))) n (maker_among ls (standing_below ls n) o)
unfolding standing_below maker_among
maker_below_more ls n o = elim (cases_Bool (is_link (link_at ls n))) [ inl t ↦ rw t | inr f ↦ rw (no_link_empty (link_at ls n) f) ]

-- the maker concludes the occurrence, or it is 0
maker_among_or_none : (ls : List Link) (ns : List ℕ) (o : ℕ) → Concludes (link_at ls (maker_among ls ns o)) o ⊎ (maker_among ls ns o ≡ 0)
unfolding maker_among
maker_among_or_none ls [] o = inr refl
maker_among_or_none ls (n ∷ ns) o =
    let k = maker_among_or_none ls ns o in
    elim (cases_Bool (has o (conclusions (link_at ls n)))) [ inl t ↦ rw t (inl (listed_concludes (link_at ls n) (has_in o (conclusions (link_at ls n)) t))) | inr f ↦ rw f k ]

pub maker_or_none : (ls : List Link) (o : ℕ) → Concludes (link_at ls (maker ls o)) o ⊎ (maker ls o ≡ 0)
maker_or_none ls o = maker_among_or_none ls (standing ls) o

-- the link that concludes an occurrence
module _ (ls : List Link) (facts : Facts ls) where
  maker_among_is : (ns : List ℕ) (n o : ℕ) → In n ns → Concludes (link_at ls n) o → maker_among ls ns o ≡ n
  unfolding maker_among
  maker_among_is [] n o i c = absurd (not_in_nil i)
  maker_among_is (m ∷ ns) n o i c =
      elim (cases_Bool (has o (conclusions (link_at ls m)))) [
        | inl t ↦ rw t (facts.concluded_once m n o (listed_concludes (link_at ls m) (has_in o (conclusions (link_at ls m)) t)) c)
        | inr f ↦ rw f (elim (in_cons i) [
          | inl e ↦ absurd (both_ways (has o (conclusions (link_at ls m))) f (in_has o (conclusions (link_at ls m)) (concludes_listed (link_at ls m) (subst (λ (k : ℕ). Concludes (link_at ls k) o) e c))))
          | inr j ↦ maker_among_is ns n o j c
        ])
      ]

  pub maker_is : (n o : ℕ) → Concludes (link_at ls n) o → maker ls o ≡ n
  maker_is n o c = maker_among_is (standing ls) n o (stands_listed ls n (concluder_stands ls n o c)) c

  pub maker_concludes_standing : (o : ℕ) → Stands ls o → Concludes (link_at ls (maker ls o)) o
  maker_concludes_standing o s = subst (λ (k : ℕ). Concludes (link_at ls k) o) (sym (maker_is s.0 o s.1)) s.1

  pub maker_concludes : (n o : ℕ) → Uses (link_at ls n) o → Concludes (link_at ls (maker ls o)) o
  maker_concludes n o u = maker_concludes_standing o (facts.premises_stand n o u)

  pub maker_stands : (n o : ℕ) → Uses (link_at ls n) o → LinkStands ls (maker ls o)
  maker_stands n o u = concluder_stands ls (maker ls o) o (maker_concludes n o u)

  -- no link uses what it concludes
  pub not_its_own_premise : (n o : ℕ) → Uses (link_at ls n) o → Concludes (link_at ls n) o → ⊥
  not_its_own_premise n o u c = facts.not_above_itself n (direct o u c)

-- links are numbered 1 to 256, and so there are no more

number_in_range : (n : ℕ) (z : Link) → InRange n z → z ≢ Empty → Within 256 n
number_in_range n Empty r s = absurd (s refl)
number_in_range n (Axiom p q a) r s = r.0
number_in_range n (Tensor l q c) r s = r.0
number_in_range n (Par l q c) r s = r.0
number_in_range n (Cut l q) r s = r.0

pub link_in_range : (ls : List Link) → Facts ls → (n : ℕ) → LinkStands ls n → Within 256 n
link_in_range ls facts n s = number_in_range n (link_at ls n) (facts.in_range n) s

pub links_at_most_256 : (ls : List Link) → Facts ls → length (standing ls) ≤ 256
links_at_most_256 ls facts =
    within_no_longer (standing ls) (upto 256) (standing_apart ls) (λ n i. let w = link_in_range ls facts n (listed_stands ls n i) in in_upto n 256 w.0 w.1)

-- kept occurrences

pub kept_use : {ls : List Link} {σ : Switching} {e : Edge} → Kept ls σ e → Uses (link_at ls e.to) e.name
kept_use {ls} {σ} {e} k = keeps_uses (σ e.to) (link_at ls e.to) e.name k.keeps

pub kept_to_stands : {ls : List Link} {σ : Switching} {e : Edge} → Kept ls σ e → LinkStands ls e.to
kept_to_stands {ls} {σ} {e} k = user_stands ls e.to e.name (kept_use k)

pub kept_from_stands : {ls : List Link} {σ : Switching} {e : Edge} → Kept ls σ e → LinkStands ls e.from
kept_from_stands {ls} {σ} {e} k = concluder_stands ls e.from e.name k.ends

module _ (ls : List Link) (facts : Facts ls) (σ : Switching) where
  pub kept_loopless : LooplessOver (Kept ls σ)
  kept_loopless e k p = not_its_own_premise ls facts e.to e.name (kept_use k) (subst (λ (n : ℕ). Concludes (link_at ls n) e.name) p k.ends)

  -- an edge is told by its name: one link concludes it and one uses it
  pub kept_names_tell : NamesTell (Kept ls σ)
  kept_names_tell d e k l p =
      let from : d.from ≡ e.from = facts.concluded_once d.from e.from d.name k.ends (subst (λ (o : ℕ). Concludes (link_at ls e.from) o) (sym p) l.ends) in
      let to : d.to ≡ e.to = facts.used_once d.to e.to d.name (kept_use k) (subst (λ (o : ℕ). Uses (link_at ls e.to) o) (sym p) (kept_use l)) in
      λ i. record { name = p i; from = from i; to = to i }

  -- the edge of an occurrence that the link n keeps
  pub kept_edge : (n o : ℕ) → In o (kept (σ n) (link_at ls n)) → Kept ls σ (edge ls n o)
  kept_edge n o i =
      let k = listed_keeps (σ n) (link_at ls n) i in
      record { ends = maker_concludes ls facts n o (keeps_uses (σ n) (link_at ls n) o k); keeps = k }

  edge_listed : (ns : List ℕ) {n o : ℕ} → In n ns → In o (kept (σ n) (link_at ls n)) → In (edge ls n o) (edges_into ls σ ns)
  unfolding edges_into
  edge_listed [] i k = absurd (not_in_nil i)
  edge_listed (m ∷ ns) {n} {o} (here e) k = in_front (edges_into ls σ ns) (rw e (in_map (edge ls m) (rw e at k)))
  edge_listed (m ∷ ns) (there i) k = in_back (map (edge ls m) (kept (σ m) (link_at ls m))) (edge_listed ns i k)

  pub kept_into_listed : (ns : List ℕ) (e : Edge) → KeptInto ls σ ns e → In e (edges_into ls σ ns)
  kept_into_listed ns e k =
      let m : maker ls e.name ≡ e.from = maker_is ls facts e.from e.name k.kept.ends in
      let q : edge ls e.to e.name ≡ e = λ i. record { name = e.name; from = m i; to = e.to } in
      subst (λ (d : Edge). In d (edges_into ls σ ns)) q (edge_listed ns k.into (keeps_listed (σ e.to) (link_at ls e.to) k.kept.keeps))

  pub listed_kept_into : (ns : List ℕ) (e : Edge) → In e (edges_into ls σ ns) → KeptInto ls σ ns e
  unfolding edges_into
  listed_kept_into [] e i = absurd (not_in_nil i)
  listed_kept_into (n ∷ ns) e i =
      elim (in_append (map (edge ls n) (kept (σ n) (link_at ls n))) i) [
        | inl j ↦
            let m = from_map (edge ls n) (kept (σ n) (link_at ls n)) j in
            record { kept = subst (Kept ls σ) (sym m.2) (kept_edge n m.0 m.1); into = here (ap (λ d. d.to) m.2) }
        | inr j ↦ let k = listed_kept_into ns e j in record { kept = k.kept; into = there k.into }
      ]

  pub kept_listed : (e : Edge) → Kept ls σ e → In e (edges ls σ)
  kept_listed e k = kept_into_listed (standing ls) e (record { kept = k; into = stands_listed ls e.to (kept_to_stands k) })

  pub listed_kept : (e : Edge) → In e (edges ls σ) → Kept ls σ e
  listed_kept e i = (listed_kept_into (standing ls) e i).kept

  -- names are not repeated

  names_of_block : (n : ℕ) (os : List ℕ) (E : List Edge) (o : ℕ) → In o (map name_of (map (edge ls n) os ++ E)) → In o os ⊎ In o (map name_of E)
  names_of_block n [] E o i = inr i
  names_of_block n (x ∷ os) E o i = elim (in_cons i) [ inl e ↦ inl (here e) | inr j ↦ elim (names_of_block n os E o j) [ inl k ↦ inl (there k) | inr k ↦ inr k ] ]

  block_apart : (n : ℕ) (os : List ℕ) (E : List Edge) → Apart os → Apart (map name_of E) → ((o : ℕ) → In o os → In o (map name_of E) → ⊥) → Apart (map name_of (map (edge ls n) os ++ E))
  block_apart n [] E a b h = b
  block_apart n (o ∷ os) E a b h = (λ i. elim (names_of_block n os E o i) [ inl j ↦ a.0 j | inr j ↦ h o (here refl) j ], block_apart n os E a.1 b (λ x i. h x (there i)))

  pub edges_named_apart : (ns : List ℕ) → Apart ns → Apart (map name_of (edges_into ls σ ns))
  unfolding edges_into
  edges_named_apart [] a = tt
  edges_named_apart (n ∷ ns) a =
      block_apart n (kept (σ n) (link_at ls n)) (edges_into ls σ ns) (kept_apart (σ n) (link_at ls n) (facts.ends_differ n)) (edges_named_apart ns a.1) (
      λ o i j.
      let m = from_map name_of (edges_into ls σ ns) j in
      let k = listed_kept_into ns m.0 m.1 in
      let u : Uses (link_at ls m.0.to) o = subst (λ (x : ℕ). Uses (link_at ls m.0.to) x) (sym m.2) (kept_use k.kept) in
      a.0 (rw (facts.used_once m.0.to n o u (keeps_uses (σ n) (link_at ls n) o (listed_keeps (σ n) (link_at ls n) i))) at k.into)
      )

  pub switching_graph : Graph (standing ls) (edges ls σ)
  switching_graph = record {
    apart = standing_apart ls;
    named = edges_named_apart (standing ls) (standing_apart ls);
    from_in = λ e i. stands_listed ls e.from (kept_from_stands (listed_kept e i));
    to_in = λ e i. stands_listed ls e.to (kept_to_stands (listed_kept e i));
  }

  -- the graph of a switching is listed
  pub switching_listed : Listing (LinkStands ls) (Kept ls σ) (standing ls) (edges ls σ)
  switching_listed = record { graph = switching_graph; vertex_in = stands_listed ls; in_vertex = listed_stands ls; edge_in = kept_listed; in_edge = listed_kept }

pub edges_are_listed_lem : EdgesAreListed
edges_are_listed_lem ls facts σ e = (
  (listed_kept ls facts σ e, kept_listed ls facts σ e),
  λ ns. (listed_kept_into ls facts σ ns e, kept_into_listed ls facts σ ns e),
)

pub switchings_are_graphs_lem : SwitchingsAreGraphs
switchings_are_graphs_lem ls facts σ = (switching_graph ls facts σ, kept_loopless ls facts σ)
