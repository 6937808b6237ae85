-- Tickets given or handed back are the bench's own just after the call.
use Rattle.std.proofs.Common.{◌≡◌, ℕ, List, sym, ap, ◌∙◌, subst, inl, inr}
use Rattle.refusals.specs.declared.refusal.Refusal.TheVariants.{NotOwn}
use Rattle.sequents.specs.Sequents.{Move}
use Rattle.plain.specs.State.{Stage, draft, net, State, Ticket, Own}
use Rattle.plain.specs.Calls.{opening, placing_axiom, placing_tensor, placing_par, placing_cut, withdrawing, judging, reopening, reducing, running_down, writing, listing, Outcome, done, refused, Verdict, accepted, cyclic, apart}
use Rattle.plain.specs.Step.{Does, Judged}
use Rattle.plain.specs.Tickets.{WhenDone, VerdictOwn, TicketsStayOwn}
use Rattle.plain.proofs.Owning.{own}

module _ {L : Type 0} (op : L → L → L) where
  lasts : {kind : Stage} (k : Ticket kind) (s t : State L) → Own k s → t.serial ≡ s.serial → t.stage ≡ s.stage → Own k t
  lasts k s t o a b = record { serial = a ∙ o.serial; stage = b ∙ o.stage }

  verdict_own : (k : Ticket draft) (row row' : List ℕ) (v : Verdict) (s t : State L) → Own k s → Judged s t row row' v → VerdictOwn t v
  verdict_own k row row' (accepted b) s t o w = record { serial = ap (λ (u : State L). u.serial) w.after ∙ sym w.ticket; stage = ap (λ (u : State L). u.stage) w.after }
  verdict_own k row row' (cyclic n b) s t o w = record { serial = ap (λ (u : State L). u.serial) w.after ∙ sym w.ticket; stage = ap (λ (u : State L). u.stage) w.after ∙ o.stage }
  verdict_own k row row' (apart n m b) s t o w = record { serial = ap (λ (u : State L). u.serial) w.after ∙ sym w.ticket; stage = ap (λ (u : State L). u.stage) w.after ∙ o.stage }

  judging_own : (k : Ticket draft) (row : List ℕ) (a : Outcome Verdict (Ticket draft)) (row' : List ℕ) (s t : State L) → Does op (judging k row) (record { outcome = a; after = row' }) s t → WhenDone (λ v. VerdictOwn t v) a
  judging_own k row (done v) row' s t (h, w) = verdict_own k row row' v s t (own k s (λ x. h NotOwn (inr (inl x)))) w
  judging_own k row (refused why b) row' s t w = tt

  writing_own : (k : Ticket net) (list : List Move) (room : ℕ) (a : Outcome Unit Unit) (list' : List Move) (s t : State L) → Does op (writing k list room) (record { outcome = a; after = list' }) s t → WhenDone (λ _. Own k t) a
  writing_own k list room (done u) list' s t (h, w) = subst (λ (x : State L). Own k x) (sym w.after) (own k s (λ x. h NotOwn (inl x)))
  writing_own k list room (refused why b) list' s t w = tt

  pub tickets_stay_own_lem : TicketsStayOwn op
  tickets_stay_own_lem opening (done k) s t (h, w) = record { serial = sym w.ticket; stage = ap (λ (u : State L). u.stage) w.after }
  tickets_stay_own_lem opening (refused why u) s t w = tt
  tickets_stay_own_lem (placing_axiom k n p q c x) (done u) s t (h, w) = lasts k s t (own k s (λ x. h NotOwn (inr (inr (inl x))))) (ap (λ (u : State L). u.serial) w.after) (ap (λ (u : State L). u.stage) w.after)
  tickets_stay_own_lem (placing_axiom k n p q c x) (refused why u) s t w = tt
  tickets_stay_own_lem (placing_tensor k n l r o) (done u) s t (h, w) = lasts k s t (own k s (λ x. h NotOwn (inr (inl x)))) (ap (λ (u : State L). u.serial) w.after) (ap (λ (u : State L). u.stage) w.after)
  tickets_stay_own_lem (placing_tensor k n l r o) (refused why u) s t w = tt
  tickets_stay_own_lem (placing_par k n l r o) (done u) s t (h, w) = lasts k s t (own k s (λ x. h NotOwn (inr (inl x)))) (ap (λ (u : State L). u.serial) w.after) (ap (λ (u : State L). u.stage) w.after)
  tickets_stay_own_lem (placing_par k n l r o) (refused why u) s t w = tt
  tickets_stay_own_lem (placing_cut k n l r) (done u) s t (h, w) = lasts k s t (own k s (λ x. h NotOwn (inr (inl x)))) (ap (λ (u : State L). u.serial) w.after) (ap (λ (u : State L). u.stage) w.after)
  tickets_stay_own_lem (placing_cut k n l r) (refused why u) s t w = tt
  tickets_stay_own_lem (withdrawing k n) (done u) s t (h, w) = lasts k s t (own k s (λ x. h NotOwn (inr (inl x)))) (ap (λ (u : State L). u.serial) w.after) (ap (λ (u : State L). u.stage) w.after)
  tickets_stay_own_lem (withdrawing k n) (refused why u) s t w = tt
  tickets_stay_own_lem (judging k row) a s t w = judging_own k row a.outcome a.after s t w
  tickets_stay_own_lem (reopening k) (done b) s t (h, w) = record { serial = ap (λ (u : State L). u.serial) w.after ∙ sym w.ticket; stage = ap (λ (u : State L). u.stage) w.after }
  tickets_stay_own_lem (reopening k) (refused why b) s t w = tt
  tickets_stay_own_lem (reducing k n) (done u) s t (h, w) = lasts k s t (own k s (λ x. h NotOwn (inr (inr (inl x))))) w.serial w.stage
  tickets_stay_own_lem (reducing k n) (refused why u) s t w = tt
  tickets_stay_own_lem (running_down k budget) (done ran) s t (h, w) = lasts k s t (own k s (λ x. h NotOwn (inr x))) w.serial w.stage
  tickets_stay_own_lem (running_down k budget) (refused why u) s t w = tt
  tickets_stay_own_lem (writing k list room) a s t w = writing_own k list room a.outcome a.after s t w
  tickets_stay_own_lem (listing row) a s t w = tt
