-- A survey's loop over the slots follows the lists of edges: labels are classes, each edge taken joins two of them, and
-- the first that does not closes a cycle. For structures with the facts; slots are 257.
use Rattle.std.proofs.Common.{◌≡◌, ℕ, ◌+◌, ◌<◌, true, List, [], ◌∷◌, ◌++◌, map, length, get_or, Ok, Err, Result, sym, ap, ◌∙◌, subst, add-one, arith}
use Rattle.graphs.specs.Lists.{In, Apart}
use Rattle.graphs.specs.Lists.In.{there}
use Rattle.graphs.specs.Walks.{Edge, name_of}
use Rattle.graphs.specs.Graphs.{Cycle, Loopless}
use Rattle.graphs.specs.Classes.{relabelled, class_of}
use Rattle.graphs.proofs.Walks.{cycle_map}
use Rattle.graphs.proofs.Classes.{joined_one_class, one_class_joined}
use Rattle.graphs.proofs.Forests.{Grown, grown_acyclic, first_edge_closes}
use Rattle.links.specs.declared.link.Link.{Link}
use Rattle.links.specs.declared.link.Link.TheVariants.{Empty}
use Rattle.links.specs.Links.{link_at, LinkStands}
use Rattle.links.specs.Facts.{Facts}
use Rattle.links.proofs.Grounding.{facts_held}
use Rattle.switchings.specs.Switchings.{Switching, Kept}
use Rattle.switchings.specs.Edges.{kept, standing_below, edge, edges_into, edges}
use Rattle.switchings.specs.Rows.{entry, sides_of}
use Rattle.switchings.proofs.Listed.{standing_below_apart, edges_below_more, edges_named_apart, listed_kept_into, kept_loopless, link_in_range}
use Rattle.switchings.proofs.Drawn.{joined_of, acyclic_of, no_walk_of}
use Rattle.makers.proofs.Arms.{OfTwo, two_kept}
use Rattle.survey.specs.declared.flaw.Flaw.{Flaw}
use Rattle.survey.specs.declared.flaw.Flaw.TheVariants.{Round, Split}
use Rattle.survey.specs.Labels.{side_of, OwnLabels, Labels, Merged, Grows, Closes, AddedTo, Added, Parted}
use Rattle.survey.specs.Findings.{HasFlaw, Finds}

-- one edge

pub merge_labels : (labels after : List ℕ) (E : List Edge) (e : Edge) (u v : ℕ) → e.from ≡ u → e.to ≡ v → u < 257 → v < 257 → length labels ≡ 257 → Labels labels E → ((k : ℕ) → k < length labels → get_or after k 0 ≡ relabelled (get_or labels u 0) (get_or labels v 0) (get_or labels k 0)) → (get_or labels u 0 ≡ get_or labels v 0 → ⊥) → Merged E e true after
unfolding class_of
merge_labels labels after E e u v p q hu hv n t r d =
    let a = t u hu in
    let b = t v hv in
    (λ z. d (a ∙ ap (class_of E) (sym p) ∙ z ∙ ap (class_of E) q ∙ sym b), λ k h. let w = t k h in let x = r k (omega arith) in cc)

-- one edge, whose ends were in two classes or in one
pub joined_one : (E : List Edge) (e : Edge) (labels : List ℕ) → Merged E e true labels → AddedTo (e ∷ []) E (Ok tt) labels
joined_one E e labels m = ((λ j. m.0 (joined_one_class E j), tt), m.1)

pub round_one : (E : List Edge) (e : Edge) (m : ℕ) → m ≡ e.from → class_of E e.from ≡ class_of E e.to → Closes (e ∷ E) (Round m)
round_one E e m q p a l = rw q (first_edge_closes e E a l (one_class_joined E e.from e.to p))

-- two edges into the link n: the first closes a cycle, or the second does or does not
pub closes_next : (E : List Edge) (d : Edge) (flaw : Flaw) → Closes E flaw → Closes (d ∷ E) flaw
closes_next E d (Round m) h = λ a l. cycle_map (λ e i. there i) (h a.1 (λ e i. l e (there i)))
closes_next E d (Split m n) h = h

pub added_two : (E : List Edge) (d e : Edge) (r : Result Unit Flaw) (labels : List ℕ) → Grows (e ∷ []) E → AddedTo (d ∷ []) (e ∷ E) r labels → AddedTo (d ∷ e ∷ []) E r labels
added_two E d e (Ok u) labels g h = ((h.0.0, g), h.1)
added_two E d e (Err flaw) labels g h = h

-- both edges into a tensor or a cut
pub added_both : (ls : List Link) (n b l r : ℕ) (k : Link) → k ≡ link_at ls n → OfTwo k l r → (E : List Edge) (answer : Result Unit Flaw) (labels : List ℕ) → AddedTo (edge ls n l ∷ edge ls n r ∷ []) E answer labels → Added ls n b E answer labels
added_both ls n b l r k is w E answer labels h = subst (λ (xs : List ℕ). AddedTo (map (edge ls n) xs) E answer labels) (sym (two_kept (side_of b) k l r w) ∙ ap (kept (side_of b)) is) h

-- no link stands, or all that stand have the label of the first
pub no_label : (ls : List Link) → ∥ Facts ls ∥₁ → (labels : List ℕ) → ((n : ℕ) → n < 257 → link_at ls n ≡ Empty) → Parted ls labels (Ok tt)
no_label ls facts labels none m n s t = let v = (link_in_range ls (facts_held ls facts) m s).1 in absurd (s (none m (omega arith)))

pub one_label : (ls : List Link) → ∥ Facts ls ∥₁ → (labels : List ℕ) (first : ℕ) → ((n : ℕ) → n < 257 → LinkStands ls n → get_or labels first 0 ≡ get_or labels n 0) → Parted ls labels (Ok tt)
one_label ls facts labels first same m n s t =
    let v = (link_in_range ls (facts_held ls facts) m s).1 in
    let w = (link_in_range ls (facts_held ls facts) n t).1 in
    sym (same m (omega arith) s) ∙ same n (omega arith) t

-- the survey's loop: the edges into the links below n are taken

pub record Taken (ls : List Link) (σ : Switching) (labels : List ℕ) (n : ℕ) : Type 0 where
  pub follows : Labels labels (edges_into ls σ (standing_below ls n))
  pub grown : Grown (edges_into ls σ (standing_below ls n))

pub none_taken : (ls : List Link) (σ : Switching) (labels : List ℕ) → OwnLabels labels → Taken ls σ labels 0
unfolding class_of edges_into standing_below
none_taken ls σ labels h = record { follows = h; grown = tt }

grows_grown : (F E : List Edge) → Grows F E → Grown E → Grown (F ++ E)
grows_grown [] E g h = h
grows_grown (e ∷ F) E g h = (g.0, grows_grown F E g.1 h)

one_more_taken : (ls : List Link) (σ : Switching) (n : ℕ) → edges_into ls σ (standing_below ls (n + 1)) ≡ map (edge ls n) (kept (σ n) (link_at ls n)) ++ edges_into ls σ (standing_below ls n)
one_more_taken ls σ n = rw add-one (edges_below_more ls σ n)

-- the edges into one link more, whose side is that of the row
module _ (ls : List Link) (row : List ℕ) (n side : ℕ) (e : side ≡ entry row n) where
  shown : (answer : Result Unit Flaw) (after : List ℕ) → Added ls n side (edges_into ls (sides_of row) (standing_below ls n)) answer after → Added ls n (entry row n) (edges_into ls (sides_of row) (standing_below ls n)) answer after
  shown answer after = subst (λ (b : ℕ). Added ls n b (edges_into ls (sides_of row) (standing_below ls n)) answer after) e

  pub more_taken : (labels after : List ℕ) → Taken ls (sides_of row) labels n → Added ls n side (edges_into ls (sides_of row) (standing_below ls n)) (Ok tt) after → Taken ls (sides_of row) after (n + 1)
  more_taken labels after t a =
      let σ = sides_of row in
      let k = shown (Ok tt) after a in
      record {
        follows = subst (Labels after) (sym (one_more_taken ls σ n)) k.1;
        grown = subst Grown (sym (one_more_taken ls σ n)) (grows_grown (map (edge ls n) (kept (σ n) (link_at ls n))) (edges_into ls σ (standing_below ls n)) k.0 t.grown);
      }

  pub flaw_at : ∥ Facts ls ∥₁ → (flaw : Flaw) (after : List ℕ) → Added ls n side (edges_into ls (sides_of row) (standing_below ls n)) (Err flaw) after → HasFlaw ls (sides_of row) flaw
  flaw_at held (Split u v) after a = absurd a
  flaw_at held (Round m) after a =
      let facts = facts_held ls held in
      let σ = sides_of row in
      let P : List Edge → Type 0 = λ E. Apart (map name_of E) → Loopless E → Cycle E m in
      let h : P (edges_into ls σ (standing_below ls (n + 1))) = subst P (sym (one_more_taken ls σ n)) (shown (Err (Round m)) after a) in
      let kept_of : (e : Edge) → In e (edges_into ls σ (standing_below ls (n + 1))) → Kept ls σ e = λ e i. (listed_kept_into ls facts σ (standing_below ls (n + 1)) e i).kept in
      cycle_map kept_of (h (edges_named_apart ls facts σ (standing_below ls (n + 1)) (standing_below_apart ls (n + 1))) (λ e i. kept_loopless ls facts σ e (kept_of e i)))

pub surveyed : (ls : List Link) → ∥ Facts ls ∥₁ → (σ : Switching) (n : ℕ) (labels : List ℕ) → length ls ≡ 257 → n ≡ 257 → Taken ls σ labels n → (r : Result Unit Flaw) → Parted ls labels r → Finds ls σ r
surveyed ls held σ n labels long end t (Ok u) p =
    let facts = facts_held ls held in
    let q : edges_into ls σ (standing_below ls n) ≡ edges ls σ = ap (λ (k : ℕ). edges_into ls σ (standing_below ls k)) (end ∙ sym long) in
    let f : Labels labels (edges ls σ) = subst (Labels labels) q t.follows in
    let g : Grown (edges ls σ) = subst Grown q t.grown in (
      λ k s. record {
        one = (k, s);
        all = λ u v a b.
            let x = link_in_range ls facts u a in
            let y = link_in_range ls facts v b in
            joined_of ls facts σ u v (one_class_joined (edges ls σ) u v (sym (f u (omega arith)) ∙ p u v a b ∙ f v (omega arith)));
      },
      acyclic_of ls facts σ (grown_acyclic (edges ls σ) g),
    )
surveyed ls held σ n labels long end t (Err (Round m)) p = absurd p
surveyed ls held σ n labels long end t (Err (Split u v)) p =
    let facts = facts_held ls held in
    let q : edges_into ls σ (standing_below ls n) ≡ edges ls σ = ap (λ (k : ℕ). edges_into ls σ (standing_below ls k)) (end ∙ sym long) in
    let f : Labels labels (edges ls σ) = subst (Labels labels) q t.follows in
    let x = link_in_range ls facts u p.0 in
    let y = link_in_range ls facts v p.1 in
    no_walk_of ls facts σ u v p.0 p.1 (λ j. p.2 (f u (omega arith) ∙ joined_one_class (edges ls σ) j ∙ sym (f v (omega arith))))
