-- Every run is lawful: an induction over runs of the step relation, by what the theories of switchings, sequent proofs
-- and cut steps show of one step.
use Rattle.std.proofs.Common.{◌≡◌, ℕ, zero, suc, ◌+◌, ◌≢◌, ◌⊎◌, List, [], ◌∷◌, ◌++◌, sym, refl, ap, ◌∙◌, subst, inl, inr, arith}
use Rattle.refusals.specs.declared.refusal.Refusal.TheVariants.{NotOwn}
use Rattle.links.specs.declared.link.Link.{Link}
use Rattle.links.specs.Facts.{Facts}
use Rattle.switchings.specs.Switchings.{left, Correct}
use Rattle.switchings.specs.Rows.{sides_of}
use Rattle.sequents.specs.Sequents.{Move}
use Rattle.sequents.proofs.Unifying.{correct_exactly_when_provable_lem}
use Rattle.cuts.specs.Steps.{Steps}
use Rattle.cuts.specs.Steps.Steps.{none, more}
use Rattle.cuts.specs.Claims.{Assoc}
use Rattle.cuts.proofs.Costing.{one_cost, no_cost, steps_lower_cost}
use Rattle.cuts.proofs.Stepping.{steps_keep_lem}
use Rattle.cuts.proofs.Chaining.{labels_along_chains}
use Rattle.cuts.proofs.OneChain.{one_chain}
use Rattle.plain.specs.State.{draft, net, State, new_bench, Ticket, Own}
use Rattle.plain.specs.Calls.{Call, opening, placing_axiom, placing_tensor, placing_par, placing_cut, withdrawing, judging, reopening, reducing, running_down, writing, listing, Outcome, done, refused, Verdict, accepted, cyclic, apart, Answer, Event}
use Rattle.plain.specs.Step.{Does, Step, Judged, Reaches}
use Rattle.plain.specs.Step.Reaches.{begin, next}
use Rattle.plain.specs.Sound.{Sound, EveryStateSound}
use Rattle.plain.specs.Turns.{accepts, ends, steps, judged, turned, turn, made_in, Goes, nothing, further}
use Rattle.plain.specs.Law.{JudgedRight, WroteRight, Right, StaysNet, EveryRun, TheLaw, Onward, NetSince}
use Rattle.plain.proofs.Owning.{own}
use Rattle.plain.proofs.Soundness.{sound_new, some_label, sound_step, one_step, down_steps}

module _ {L : Type 0} (op : L → L → L) where
  pub every_state_sound : EveryStateSound op
  every_state_sound board h s (begin) = sound_new board
  every_state_sound board h s (next {h = h'} {s = u} e r w) = sound_step op w (every_state_sound board h' u r)

  -- from the one and then from the other
  chained : (d : L) (k m : ℕ) {ls ls₁ ls₂ : List Link} {b b₁ b₂ : List L} → Steps op d k ls b ls₁ b₁ → Steps op d m ls₁ b₁ ls₂ b₂ → Steps op d (m + k) ls b ls₂ b₂
  chained d zero m {ls} {ls₁} {ls₂} {b} {b₁} {b₂} none w = let e : m ≡ m + 0 = omega arith in subst (λ (i : ℕ). Steps op d i ls b ls₂ b₂) e w
  chained d (suc k) m {ls} {ls₁} {ls₂} {b} {b₁} {b₂} (more s rest) w = let e : suc (m + k) ≡ m + suc k = omega arith in subst (λ (i : ℕ). Steps op d i ls b ls₂ b₂) e (more s (chained d k m rest w))

  -- what an event that ends no net does to it: steps, as many as it is said to make
  pub record Moves (s t : State L) (m : ℕ) : Type 0 where
    pub still : t.stage ≡ net
    pub by : (d : L) → Steps op d m s.links s.board t.links t.board

  stays : (s t : State L) → s.stage ≡ net → t ≡ s → Moves s t 0
  stays s t n e = subst (λ (u : State L). Moves s u 0) (sym e) (record { still = n; by = λ d. none })

  not_draft : {X : Type 0} (k : Ticket draft) (s : State L) → s.stage ≡ net → ((Own k s → ⊥) → ⊥) → X
  not_draft k s n h = let d = (own k s h).stage in let z : ◌≡◌ {A = ℕ} 0 1 = cc in absurd (omega arith)

  judging_moves : (k : Ticket draft) (row : List ℕ) (a : Outcome Verdict (Ticket draft)) (row' : List ℕ) (s t : State L) → s.stage ≡ net → Does op (judging k row) (record { outcome = a; after = row' }) s t → Moves s t (made_in (judged a))
  judging_moves k row (done v) row' s t n (h, w) = not_draft k s n (λ x. h NotOwn (inr (inl x)))
  judging_moves k row (refused why b) row' s t n (h, w) = stays s t n w.2

  pub writing_same : (k : Ticket net) (list : List Move) (room : ℕ) (a : Outcome Unit Unit) (list' : List Move) (s t : State L) → Does op (writing k list room) (record { outcome = a; after = list' }) s t → t ≡ s
  writing_same k list room (done u) list' s t (h, w) = w.after
  writing_same k list room (refused why b) list' s t (h, w) = w.1

  pub listing_same : (row : List ℕ) (a : Outcome ℕ Unit) (row' : List ℕ) (s t : State L) → Does op (listing row) (record { outcome = a; after = row' }) s t → t ≡ s
  listing_same row (done u) row' s t (h, w) = w.after
  listing_same row (refused why b) row' s t (h, w) = w.1

  moves : (c : Call L) (a : Answer c) (s t : State L) → Sound s → s.stage ≡ net → Does op c a s t → turned c a ≢ ends → Moves s t (made_in (turned c a))
  moves opening (done k) s t g n w q = absurd (q refl)
  moves opening (refused why u) s t g n (h, w) q = stays s t n w
  moves (placing_axiom k i p r a x) (done u) s t g n (h, w) q = not_draft k s n (λ x. h NotOwn (inr (inr (inl x))))
  moves (placing_axiom k i p r a x) (refused why u) s t g n (h, w) q = stays s t n w
  moves (placing_tensor k i l r o) (done u) s t g n (h, w) q = not_draft k s n (λ x. h NotOwn (inr (inl x)))
  moves (placing_tensor k i l r o) (refused why u) s t g n (h, w) q = stays s t n w
  moves (placing_par k i l r o) (done u) s t g n (h, w) q = not_draft k s n (λ x. h NotOwn (inr (inl x)))
  moves (placing_par k i l r o) (refused why u) s t g n (h, w) q = stays s t n w
  moves (placing_cut k i l r) (done u) s t g n (h, w) q = not_draft k s n (λ x. h NotOwn (inr (inl x)))
  moves (placing_cut k i l r) (refused why u) s t g n (h, w) q = stays s t n w
  moves (withdrawing k i) (done u) s t g n (h, w) q = not_draft k s n (λ x. h NotOwn (inr (inl x)))
  moves (withdrawing k i) (refused why u) s t g n (h, w) q = stays s t n w
  moves (judging k row) a s t g n w q = judging_moves k row a.outcome a.after s t n w
  moves (reopening k) (done b) s t g n w q = absurd (q refl)
  moves (reopening k) (refused why b) s t g n (h, w) q = stays s t n w.1
  moves (reducing k i) (done u) s t g n (h, w) q = record { still = w.stage ∙ n; by = λ d. one_step op s t i d (w.step d) }
  moves (reducing k i) (refused why u) s t g n (h, w) q = stays s t n w
  moves (running_down k budget) (done ran) s t g n (h, w) q = record { still = w.stage ∙ n; by = λ d. down_steps op s t budget ran.made d g (w.steps d) }
  moves (running_down k budget) (refused why u) s t g n (h, w) q = stays s t n w
  moves (writing k list room) a s t g n w q = stays s t n (writing_same k list room a.outcome a.after s t w)
  moves (listing row) a s t g n w q = stays s t n (listing_same row a.outcome a.after s t w)

  -- since an acceptance all is steps
  since_steps : (found s : State L) (later : List (Event L)) (m : ℕ) → Sound found → found.stage ≡ net → Reaches op found later s → Goes later m → Sound s × Moves found s m
  since_steps found s later m g n begin nothing = (g, record { still = n; by = λ d. none })
  since_steps found s later m g n (next {h = h} {s = u} e r w) (further {k = k} go q) =
      let I = since_steps found u h k g n r go in
      let M = moves e.call e.answer u s I.0 I.1.still w.does q in
      (sound_step op w I.0, record { still = M.still; by = λ d. chained d k (made_in (turn e)) (I.1.by d) (M.by d) })

  -- a net has a link, and so a board with a label on it
  net_label : (s : State L) → Sound s → Correct s.links → L
  net_label s g c = let one = (c.connected (λ k. left)).one in some_label s.board (g.wide one.0 one.1)

  -- an acceptance leaves a net, with the links and the board that it found
  record Leaves-net (s t : State L) : Type 0 where
    pub correct : Correct s.links
    pub now : t.stage ≡ net
    pub links : t.links ≡ s.links
    pub board : t.board ≡ s.board

  judging_accepts : (k : Ticket draft) (row : List ℕ) (a : Outcome Verdict (Ticket draft)) (row' : List ℕ) (s t : State L) → Does op (judging k row) (record { outcome = a; after = row' }) s t → judged a ≡ accepts → Leaves-net s t
  judging_accepts k row (done (accepted b)) row' s t (h, w) q = record { correct = w.correct; now = ap (λ (u : State L). u.stage) w.after; links = ap (λ (u : State L). u.links) w.after; board = ap (λ (u : State L). u.board) w.after }
  judging_accepts k row (done (cyclic n b)) row' s t w q = let z : ◌≡◌ {A = ℕ} 0 1 = cc in absurd (omega arith)
  judging_accepts k row (done (apart n m b)) row' s t w q = let z : ◌≡◌ {A = ℕ} 0 1 = cc in absurd (omega arith)
  judging_accepts k row (refused why b) row' s t w q = let z : ◌≡◌ {A = ℕ} 0 1 = cc in absurd (omega arith)

  no_accept : {X : Type 0} (m : ℕ) → steps m ≡ accepts → X
  no_accept m q = let z : ◌≡◌ {A = ℕ} 0 1 = cc in absurd (omega arith)

  no_end : {X : Type 0} → ends ≡ accepts → X
  no_end q = let z : ◌≡◌ {A = ℕ} 0 1 = cc in absurd (omega arith)

  accepting : (c : Call L) (a : Answer c) (s t : State L) → Does op c a s t → turned c a ≡ accepts → Leaves-net s t
  accepting (judging k row) a s t w q = judging_accepts k row a.outcome a.after s t w q
  accepting opening (done u) s t w q = no_end q
  accepting opening (refused why u) s t w q = no_accept 0 q
  accepting (placing_axiom k n p r c x) a s t w q = no_accept 0 q
  accepting (placing_tensor k n l r o) a s t w q = no_accept 0 q
  accepting (placing_par k n l r o) a s t w q = no_accept 0 q
  accepting (placing_cut k n l r) a s t w q = no_accept 0 q
  accepting (withdrawing k n) a s t w q = no_accept 0 q
  accepting (writing k list room) a s t w q = no_accept 0 q
  accepting (reopening k) (done u) s t w q = no_end q
  accepting (reopening k) (refused why u) s t w q = no_accept 0 q
  accepting (reducing k n) (done u) s t w q = no_accept 1 q
  accepting (reducing k n) (refused why u) s t w q = no_accept 0 q
  accepting (running_down k budget) (done ran) s t w q = no_accept ran.made q
  accepting (running_down k budget) (refused why u) s t w q = no_accept 0 q
  accepting (listing row) a s t w q = no_accept 0 q

  step_not : (m : ℕ) → steps m ≢ ends
  step_not m q = let z : ◌≡◌ {A = ℕ} 0 1 = cc in omega arith

  kept : (s t : State L) → t.stage ≡ net → t ≡ s → (steps 0 ≡ accepts) ⊎ ((steps 0 ≢ ends) × (s.stage ≡ net))
  kept s t n e = inr (step_not 0, ap (λ (u : State L). u.stage) (sym e) ∙ n)

  judging_before : (k : Ticket draft) (row : List ℕ) (a : Outcome Verdict (Ticket draft)) (row' : List ℕ) (s t : State L) → Does op (judging k row) (record { outcome = a; after = row' }) s t → t.stage ≡ net → (judged a ≡ accepts) ⊎ ((judged a ≢ ends) × (s.stage ≡ net))
  judging_before k row (done (accepted b)) row' s t w n = inl refl
  judging_before k row (done (cyclic i b)) row' s t (h, w) n = kept s t n w.after
  judging_before k row (done (apart i j b)) row' s t (h, w) n = kept s t n w.after
  judging_before k row (refused why b) row' s t (h, w) n = kept s t n w.2

  -- where a net stands after an event, it stood before or was accepted
  net_before : (c : Call L) (a : Answer c) (s t : State L) → Does op c a s t → t.stage ≡ net → (turned c a ≡ accepts) ⊎ ((turned c a ≢ ends) × (s.stage ≡ net))
  net_before opening (done k) s t (h, w) n = let e = ap (λ (u : State L). u.stage) w.after in let z : ◌≡◌ {A = ℕ} 0 1 = cc in absurd (omega arith)
  net_before opening (refused why u) s t (h, w) n = kept s t n w
  net_before (placing_axiom k i p r a x) (done u) s t (h, w) n = inr (step_not 0, sym (ap (λ (u : State L). u.stage) w.after) ∙ n)
  net_before (placing_axiom k i p r a x) (refused why u) s t (h, w) n = kept s t n w
  net_before (placing_tensor k i l r o) (done u) s t (h, w) n = inr (step_not 0, sym (ap (λ (u : State L). u.stage) w.after) ∙ n)
  net_before (placing_tensor k i l r o) (refused why u) s t (h, w) n = kept s t n w
  net_before (placing_par k i l r o) (done u) s t (h, w) n = inr (step_not 0, sym (ap (λ (u : State L). u.stage) w.after) ∙ n)
  net_before (placing_par k i l r o) (refused why u) s t (h, w) n = kept s t n w
  net_before (placing_cut k i l r) (done u) s t (h, w) n = inr (step_not 0, sym (ap (λ (u : State L). u.stage) w.after) ∙ n)
  net_before (placing_cut k i l r) (refused why u) s t (h, w) n = kept s t n w
  net_before (withdrawing k i) (done u) s t (h, w) n = inr (step_not 0, sym (ap (λ (u : State L). u.stage) w.after) ∙ n)
  net_before (withdrawing k i) (refused why u) s t (h, w) n = kept s t n w
  net_before (judging k row) a s t w n = judging_before k row a.outcome a.after s t w n
  net_before (reopening k) (done b) s t (h, w) n = let e = ap (λ (u : State L). u.stage) w.after in let z : ◌≡◌ {A = ℕ} 0 1 = cc in absurd (omega arith)
  net_before (reopening k) (refused why b) s t (h, w) n = kept s t n w.1
  net_before (reducing k i) (done u) s t (h, w) n = inr (step_not 1, sym w.stage ∙ n)
  net_before (reducing k i) (refused why u) s t (h, w) n = kept s t n w
  net_before (running_down k budget) (done ran) s t (h, w) n = inr (step_not ran.made, sym w.stage ∙ n)
  net_before (running_down k budget) (refused why u) s t (h, w) n = kept s t n w
  net_before (writing k list room) a s t w n = kept s t n (writing_same k list room a.outcome a.after s t w)
  net_before (listing row) a s t w n = kept s t n (listing_same row a.outcome a.after s t w)

  pub net_since : NetSince op
  net_since board h s begin n = let z : ◌≡◌ {A = ℕ} 0 1 = cc in absurd (omega arith)
  net_since board h s (next {h = h'} {s = u} e r w) n = elim (net_before e.call e.answer u s w.does n) [
    | inl acc ↦ record { later = []; acceptance = e; earlier = h'; parted = refl; accepting = acc; made = 0; goes = nothing }
    | inr still ↦
        let I = net_since board h' u r still.1 in
        record { later = e ∷ I.later; acceptance = I.acceptance; earlier = I.earlier; parted = ap (λ (g : List (Event L)). e ∷ g) I.parted; accepting = I.accepting; made = made_in (turn e) + I.made; goes = further I.goes still.0 }
  ]

  -- a run is parted at any event
  record Parted (start : State L) (later : List (Event L)) (e : Event L) (earlier : List (Event L)) (s : State L) : Type 0 where
    pub found : State L
    pub left : State L
    pub came : Reaches op start earlier found
    pub step : Step op e found left
    pub went : Reaches op left later s

  part : (start : State L) (later : List (Event L)) (e : Event L) (earlier : List (Event L)) (s : State L) → Reaches op start (later ++ (e ∷ earlier)) s → Parted start later e earlier s
  part start [] e earlier s (next {s = u} e₁ r w) = record { found = u; left = s; came = r; step = w; went = begin }
  part start (f ∷ later) e earlier s (next {s = u} f₁ r w) =
      let P = part start later e earlier u r in
      record { found = P.found; left = P.left; came = P.came; step = P.step; went = next f P.went w }

  module _ (assoc : Assoc op) where
    stays_net : (found s : State L) (m : ℕ) → Sound found → Correct found.links → ((d : L) → Steps op d m found.links found.board s.links s.board) → StaysNet op found m s
    stays_net found s m g c w =
        let d = net_label found g c in
        let one = (c.connected (λ k. left)).one in
        let wide = g.wide one.0 one.1 in
        let long = g.long in
        let K = steps_keep_lem L op d m found.links s.links found.board s.board (w d) g.facts c in
        let C = (one_cost found.links g.facts).0 in
        let D = (one_cost s.links K.0).0 in
        let lower = steps_lower_cost L op d m found.links s.links found.board s.board (w d) g.facts C.0 D.0 C.1 D.1 in
        record {
          conclusions = λ o. (K.4 o).0;
          formulas = λ o. (K.4 o).1;
          provable = (correct_exactly_when_provable_lem s.links K.0).0 K.1;
          cost = C.0;
          costs = C.1;
          cut_free = (λ free. let z = (no_cost s.links D.0 D.1).1 free in omega arith, λ e. (no_cost s.links D.0 D.1).0 (omega arith));
          labels = λ x free i p q a e.
              let F = labels_along_chains L op x assoc m found.links s.links found.board s.board (w x) g.facts (omega arith) free i p q a e in
              record { wires = F.wires; chain = F.chain; only = λ vs o. one_chain found.links g.facts i F.wires vs F.chain o; same = sym F.same };
        }

    judged_right : (s t : State L) → Facts s.links → (row row' : List ℕ) (v : Verdict) → Judged s t row row' v → JudgedRight s.links (done v) row'
    judged_right s t f row row' (accepted k) w = ((λ u. (correct_exactly_when_provable_lem s.links f).0 w.correct, λ p. tt), tt)
    judged_right s t f row row' (cyclic n k) w = ((λ u. absurd u, λ p. ((correct_exactly_when_provable_lem s.links f).1 p).acyclic (sides_of row') n w.bad), w.bad)
    judged_right s t f row row' (apart n m k) w = ((λ u. absurd u, λ p. w.bad.no_walk ((((correct_exactly_when_provable_lem s.links f).1 p).connected (sides_of row')).all n m w.bad.one_stands w.bad.other_stands)), w.bad)

    judging_right : (k : Ticket draft) (row : List ℕ) (a : Outcome Verdict (Ticket draft)) (row' : List ℕ) (s t : State L) → Sound s → Does op (judging k row) (record { outcome = a; after = row' }) s t → JudgedRight s.links a row'
    judging_right k row (done v) row' s t g (h, w) = judged_right s t g.facts row row' v w
    judging_right k row (refused why b) row' s t g w = tt

    writing_right : (k : Ticket net) (list : List Move) (room : ℕ) (a : Outcome Unit Unit) (list' : List Move) (s t : State L) → Does op (writing k list room) (record { outcome = a; after = list' }) s t → WroteRight s.links a list list'
    writing_right k list room (done u) list' s t (h, w) = (w.proof, w.proves, w.added)
    writing_right k list room (refused why b) list' s t w = tt

    right : (c : Call L) (a : Answer c) (s t : State L) → Sound s → Does op c a s t → Right s.links c a
    right (judging k row) a s t g w = judging_right k row a.outcome a.after s t g w
    right (writing k list room) a s t g w = writing_right k list room a.outcome a.after s t w
    right opening a s t g w = tt
    right (placing_axiom k n p q c x) a s t g w = tt
    right (placing_tensor k n l r o) a s t g w = tt
    right (placing_par k n l r o) a s t g w = tt
    right (placing_cut k n l r) a s t g w = tt
    right (withdrawing k n) a s t g w = tt
    right (reopening k) a s t g w = tt
    right (reducing k n) a s t g w = tt
    right (running_down k budget) a s t g w = tt
    right (listing row) a s t g w = tt

    pub every_run : EveryRun op
    every_run board h s r later e earlier q =
        let P = part (new_bench board) later e earlier s (subst (λ (g : List (Event L)). Reaches op (new_bench board) g s) q r) in
        let g = every_state_sound board earlier P.found P.came in
        let v = sound_step op P.step g in
        record {
          found = P.found;
          left = P.left;
          came = P.came;
          step = P.step;
          went = P.went;
          right = right e.call e.answer P.found P.left g P.step.does;
          stays = λ made acc go.
              let A = accepting e.call e.answer P.found P.left P.step.does acc in
              let M = (since_steps P.left s later made v A.now P.went go).1 in
              stays_net P.found s made g A.correct (λ d. subst (λ (b : List L). Steps op d made P.found.links b s.links s.board) A.board (subst (λ (ls : List Link). Steps op d made ls P.left.board s.links s.board) A.links (M.by d)));
        }

    pub onward : {e : Event L} {s t : State L} → Step op e s t → Onward op e s t
    onward {e} {s} {t} w board h r = record { came = next e r w; law = every_run board (e ∷ h) t (next e r w) }

pub the_law : (L : Type 0) → TheLaw L
the_law L op assoc = every_run op assoc

-- one lemma turns a call's step into the law
pub both : {L : Type 0} (op : L → L → L) → Assoc op → {e : Event L} {s t : State L} → Step op e s t → record { step : Step op e s t; law : Onward op e s t }
both op assoc w = record { step = w; law = onward op assoc w }
