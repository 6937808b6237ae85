-- The labelling by classes: each vertex is labelled with one vertex of its class, its head, so that vertices have
-- one label exactly when a walk joins them. Adding an edge relabels one class, as a loop over an array does.
use Rattle.std.specs.Prelude.{◌≡◌, ℕ, cond, List, [], ◌∷◌, ◌==◌, nat_eq}
use Rattle.graphs.specs.Lists.{In, count}
use Rattle.graphs.specs.Walks.{Edge}
use Rattle.graphs.specs.Graphs.{Joined}

-- x with its label changed: new where it was old
abbrev pub relabelled : ℕ → ℕ → ℕ → ℕ
relabelled new old x = cond (x == old) new x

-- the label of v: with no edge v itself; an edge gives the class at its far end the label at its near end
unfoldable pub class_of : List Edge → ℕ → ℕ
class_of [] v = v
class_of (e ∷ E) v = relabelled (class_of E e.from) (class_of E e.to) (class_of E v)

-- how many classes there are: vertices that are their own label
abbrev pub classes : List ℕ → List Edge → ℕ
classes V E = count (λ v. nat_eq (class_of E v) v) V

-- h is the one head of v's class: a vertex joined to v that is its own label, and no other is
pub record Head (V : List ℕ) (E : List Edge) (v h : ℕ) : Type 0 where
  pub vertex : In h V
  pub own_label : class_of E h ≡ h
  pub joined : Joined E v h
  pub only : (w : ℕ) → class_of E w ≡ w → Joined E v w → w ≡ h
