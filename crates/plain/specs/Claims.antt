-- What is claimed of runs, at one kind of label.
use Rattle.plain.specs.Law.{NetSince}
use Rattle.plain.specs.Sound.{EveryStateSound}
use Rattle.plain.specs.Pinned.{Pinned, SomeOutcome, EveryList, OneEnd}
use Rattle.plain.specs.Tickets.{TicketsStayOwn}

abbrev pub EveryState : Type 0 → Type 0
EveryState L = (op : L → L → L) → EveryStateSound op

abbrev pub OneOutcome : Type 0 → Type 0
OneOutcome L = (op : L → L → L) → Pinned op

abbrev pub NetIsAccepted : Type 0 → Type 0
NetIsAccepted L = (op : L → L → L) → NetSince op

abbrev pub OwnTickets : Type 0 → Type 0
OwnTickets L = (op : L → L → L) → TicketsStayOwn op

abbrev pub AnOutcome : Type 0 → Type 0
AnOutcome L = (op : L → L → L) → SomeOutcome op

abbrev pub ARun : Type 0 → Type 0
ARun L = (op : L → L → L) → EveryList op

abbrev pub OneEndState : Type 0 → Type 0
OneEndState L = (op : L → L → L) → OneEnd op
