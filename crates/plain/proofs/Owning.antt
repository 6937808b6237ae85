-- Where no reason fits, the ticket is the bench's own. Whether it is can be decided.
use Rattle.std.proofs.Common.{◌≡◌, ℕ, refl, inl, inr, arith}
use Rattle.std.proofs.lemmas.Bool.{cases_eq}
use Rattle.links.proofs.Deciding.{Dec, stable}
use Rattle.plain.specs.State.{Stage, shut, draft, net, State, Ticket, Own}

same_stage : (g h : Stage) → Dec (g ≡ h)
same_stage shut shut = inl refl
same_stage draft draft = inl refl
same_stage net net = inl refl
same_stage shut draft = inr (λ e. let z : ◌≡◌ {A = ℕ} 0 1 = cc in omega arith)
same_stage shut net = inr (λ e. let z : ◌≡◌ {A = ℕ} 0 1 = cc in omega arith)
same_stage draft shut = inr (λ e. let z : ◌≡◌ {A = ℕ} 0 1 = cc in omega arith)
same_stage draft net = inr (λ e. let z : ◌≡◌ {A = ℕ} 0 1 = cc in omega arith)
same_stage net shut = inr (λ e. let z : ◌≡◌ {A = ℕ} 0 1 = cc in omega arith)
same_stage net draft = inr (λ e. let z : ◌≡◌ {A = ℕ} 0 1 = cc in omega arith)

pub own_or_not : {L : Type 0} {kind : Stage} (k : Ticket kind) (s : State L) → Dec (Own k s)
own_or_not {L} {kind} k s = elim (cases_eq s.serial k.number) [
  | inl e ↦ elim (same_stage s.stage kind) [ inl f ↦ inl (record { serial = e; stage = f }) | inr nay ↦ inr (λ o. nay o.stage) ]
  | inr nay ↦ inr (λ o. nay o.serial)
]

pub own : {L : Type 0} {kind : Stage} (k : Ticket kind) (s : State L) → ((Own k s → ⊥) → ⊥) → Own k s
own k s h = stable (own_or_not k s) h
