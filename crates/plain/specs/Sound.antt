-- What holds of every state that a run reaches.
use Rattle.std.specs.Prelude.{◌≡◌, ℕ, ◌≤◌, List, length}
use Rattle.links.specs.declared.link.Link.TheVariants.{Empty}
use Rattle.links.specs.Links.{link_at, LinkStands}
use Rattle.links.specs.Facts.{Facts}
use Rattle.switchings.specs.Switchings.{Correct}
use Rattle.plain.specs.State.{shut, net, State, new_bench}
use Rattle.plain.specs.Calls.{Event}
use Rattle.plain.specs.Step.{Reaches}

pub record Sound {L : Type 0} (s : State L) : Type 0 where
  pub long : length s.links ≡ 257
  pub facts : Facts s.links
  -- a link stands only over a board that is long enough
  pub wide : (n : ℕ) → LinkStands s.links n → 256 ≤ length s.board
  -- at stage net the structure is correct, and a shut bench is empty
  pub net : s.stage ≡ net → Correct s.links
  pub shut : s.stage ≡ shut → (n : ℕ) → link_at s.links n ≡ Empty

abbrev pub EveryStateSound : {L : Type 0} → (L → L → L) → Type 0
EveryStateSound {L} op = (board : List L) (h : List (Event L)) (s : State L) → Reaches op (new_bench board) h s → Sound s
