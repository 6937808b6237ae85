-- Which reasons to turn a call down fit a state: for each call its list, in the order in which they are tried.
use Rattle.std.specs.Prelude.{◌≡◌, ℕ, ◌<◌, List, length}
use Rattle.refusals.specs.declared.refusal.Refusal.TheVariants.{TooShort, NotOwn, NothingStands, NoRoom, LastSerial}
use Rattle.refusals.specs.Reasons.{Reasons, on, no_other, ◌before◌}
use Rattle.links.specs.declared.link.Link.TheVariants.{Empty}
use Rattle.links.specs.Links.{link_at, link_count}
use Rattle.table.specs.Refusing.{link_number, axiom_numbers, join_numbers, cut_numbers, axiom_places, join_places, cut_places, leaves, no_such_cut}
use Rattle.plain.specs.State.{Stage, State, Ticket, Own}
use Rattle.plain.specs.Calls.{Call, opening, placing_axiom, placing_tensor, placing_par, placing_cut, withdrawing, judging, reopening, reducing, running_down, writing, listing}

-- a board below 256 entries
abbrev pub short_board : {L : Type 0} → State L → Reasons
short_board s = on TooShort (length s.board < 256) no_other

-- a row below so many entries
abbrev pub short_row : ℕ → List ℕ → Reasons
short_row least row = on TooShort (length row < least) no_other

-- the ticket is not the bench's own
abbrev pub not_own : {L : Type 0} {kind : Stage} → Ticket kind → State L → Reasons
not_own k s = on NotOwn (Own k s → ⊥) no_other

abbrev pub Fits : {L : Type 0} → Call L → State L → Reasons
Fits opening s = on LastSerial (s.serial ≡ 65535) no_other
Fits (placing_axiom k n p q a x) s = axiom_numbers n p q a before short_board s before not_own k s before axiom_places s.links n p q
Fits (placing_tensor k n l r o) s = join_numbers n l r o before not_own k s before join_places s.links n l r o
Fits (placing_par k n l r o) s = join_numbers n l r o before not_own k s before join_places s.links n l r o
Fits (placing_cut k n l r) s = cut_numbers n l r before not_own k s before cut_places s.links n l r
Fits (withdrawing k n) s = link_number n before not_own k s before leaves s.links n
Fits (judging k row) s = short_row 256 row before not_own k s before on NothingStands ((n : ℕ) → link_at s.links n ≡ Empty) no_other
Fits (reopening k) s = not_own k s
Fits (reducing k n) s = link_number n before short_board s before not_own k s before no_such_cut s.links n
Fits (running_down k budget) s = short_board s before not_own k s
Fits (writing k list room) s = not_own k s before on NoRoom (room < link_count s.links) no_other
Fits (listing row) s = short_row 512 row
