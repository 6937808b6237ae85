-- What a survey of one switching finds: a tree, a link on a cycle, or two links that no walk joins.
use Rattle.std.specs.Prelude.{ℕ, List, Ok, Err, Result}
use Rattle.graphs.specs.Walks.{AcyclicOver}
use Rattle.links.specs.declared.link.Link.{Link}
use Rattle.links.specs.Links.{LinkStands}
use Rattle.switchings.specs.Switchings.{Switching, Kept, Connected, OnCycle, NoWalk}
use Rattle.survey.specs.declared.flaw.Flaw.{Flaw}
use Rattle.survey.specs.declared.flaw.Flaw.TheVariants.{Round, Split}

-- the flaw is there
abbrev pub HasFlaw : List Link → Switching → Flaw → Type 0
HasFlaw ls σ (Round n) = OnCycle ls σ n
HasFlaw ls σ (Split m n) = NoWalk ls σ m n

-- a tree, which is free of cycles, and connected where there is a link at all; or a flaw
abbrev pub Finds : List Link → Switching → Result Unit Flaw → Type 0
Finds ls σ (Ok _) = ((n : ℕ) → LinkStands ls n → Connected ls σ) × AcyclicOver (Kept ls σ)
Finds ls σ (Err flaw) = HasFlaw ls σ flaw
