-- The plain bench: links, serial, stage, and a label for each wire. A ticket is its kind and a number; it is the
-- bench's own when serial and stage agree with it.
use Rattle.std.specs.Prelude.{◌≡◌, ℕ, List, replicate}
use Rattle.links.specs.declared.link.Link.{Link}
use Rattle.links.specs.declared.link.Link.TheVariants.{Empty}

pub data Stage : Type 0 where
  shut : Stage
  draft : Stage
  net : Stage

-- slot n holds link n; board entry n, counted from 1, is the label of wire n
pub record State (L : Type 0) : Type 0 where
  pub links : List Link
  pub serial : ℕ
  pub stage : Stage
  pub board : List L

-- no link stands
abbrev pub no_links : List Link
no_links = replicate 257 Empty

-- a new bench is shut and empty, with serial 0; its board is given once, and stays
abbrev pub new_bench : {L : Type 0} → List L → State L
new_bench board = record { links = no_links; serial = 0; stage = shut; board = board }

-- a ticket of that kind, draft or net
pub record Ticket (kind : Stage) : Type 0 where
  pub number : ℕ

-- the ticket is the bench's own
pub record Own {L : Type 0} {kind : Stage} (k : Ticket kind) (s : State L) : Type 0 where
  pub serial : s.serial ≡ k.number
  pub stage : s.stage ≡ kind
