-- How a survey keeps the classes of its graph: a row of labels, one for each link number.
-- Only the survey's inner functions speak of these; its promise is `Finds`.
use Rattle.std.specs.Prelude.{◌≡◌, ℕ, ◌<◌, Bool, true, false, cond, List, [], ◌∷◌, ◌++◌, map, Ok, Err, Result, ◌==◌, ◌≢◌, slice_index}
use Rattle.graphs.specs.Lists.{Apart}
use Rattle.graphs.specs.Walks.{Edge, name_of}
use Rattle.graphs.specs.Graphs.{Joined, Cycle, Loopless}
use Rattle.graphs.specs.Classes.{class_of}
use Rattle.links.specs.declared.link.Link.{Link}
use Rattle.links.specs.Links.{link_at, LinkStands}
use Rattle.switchings.specs.Switchings.{Side, left, right}
use Rattle.switchings.specs.Edges.{kept, edge}
use Rattle.survey.specs.declared.flaw.Flaw.{Flaw}
use Rattle.survey.specs.declared.flaw.Flaw.TheVariants.{Round, Split}

-- the side that an entry of a row means: 2 is right
abbrev pub side_of : ℕ → Side
side_of b = cond (b == 2) right left

-- each number is its own label
abbrev pub OwnLabels : List ℕ → Type 0
OwnLabels labels = (k : ℕ) → k < 257 → slice_index labels k ≡ k

-- the labels are those of the classes that the edges make
abbrev pub Labels : List ℕ → List Edge → Type 0
Labels labels E = (k : ℕ) → k < 257 → slice_index labels k ≡ class_of E k

-- one more edge: its ends were in two classes and the labels follow, or they were in one
abbrev pub Merged : List Edge → Edge → Bool → List ℕ → Type 0
Merged E e true labels = (class_of E e.from ≢ class_of E e.to) × Labels labels (e ∷ E)
Merged E e false labels = class_of E e.from ≡ class_of E e.to

-- each of the edges F, the last first, joins what E and those after it do not
abbrev pub Grows : List Edge → List Edge → Type 0
Grows [] E = Unit {0}
Grows (e ∷ F) E = (Joined (F ++ E) e.from e.to → ⊥) × Grows F E

-- the flaw is a cycle of the edges, at the link that it names
abbrev pub Closes : List Edge → Flaw → Type 0
Closes E (Round m) = Apart (map name_of E) → Loopless E → Cycle E m
Closes E (Split m n) = ⊥

-- the edges F are added to E: each joins two classes and the labels follow, or one closes a cycle
abbrev pub AddedTo : List Edge → List Edge → Result Unit Flaw → List ℕ → Type 0
AddedTo F E (Ok _) labels = Grows F E × Labels labels (F ++ E)
AddedTo F E (Err flaw) labels = Closes (F ++ E) flaw

-- the edges into the link n are
abbrev pub Added : List Link → ℕ → ℕ → List Edge → Result Unit Flaw → List ℕ → Type 0
Added ls n b E answer labels = AddedTo (map (edge ls n) (kept (side_of b) (link_at ls n))) E answer labels

-- the flaw is two standing links with different labels
abbrev pub Differ : List Link → List ℕ → Flaw → Type 0
Differ ls labels (Round n) = ⊥
Differ ls labels (Split m n) = LinkStands ls m × LinkStands ls n × (slice_index labels m ≢ slice_index labels n)

-- all standing links have one label, or two have not
abbrev pub Parted : List Link → List ℕ → Result Unit Flaw → Type 0
Parted ls labels (Ok _) = (m n : ℕ) → LinkStands ls m → LinkStands ls n → slice_index labels m ≡ slice_index labels n
Parted ls labels (Err flaw) = Differ ls labels flaw
