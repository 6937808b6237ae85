-- Every call keeps a sound state sound.
use Rattle.std.proofs.Common.{◌≡◌, ℕ, ◌-◌, ◌<◌, ◌≤◌, List, [], ◌∷◌, length, set, sym, refl, ◌∙◌, subst, inl, inr, arith, length-set}
use Rattle.refusals.specs.declared.refusal.Refusal.TheVariants.{TooShort, NotOwn, PremiseMissing, NoSuchLink}
use Rattle.refusals.specs.Reasons.{None}
use Rattle.links.specs.declared.link.Link.{Link}
use Rattle.links.specs.declared.link.Link.TheVariants.{Empty, Axiom, Tensor, Par, Cut}
use Rattle.links.specs.Links.{link_at, Concludes, Stands}
use Rattle.links.specs.Facts.{Facts}
use Rattle.links.proofs.Deciding.{stable, stands}
use Rattle.links.proofs.Keeping.{nothing_stands, empty_facts}
use Rattle.sequents.specs.Sequents.{Move}
use Rattle.cuts.specs.Steps.{CutStep, Steps}
use Rattle.cuts.specs.Steps.Steps.{none, more}
use Rattle.cuts.specs.Costs.{RunDown}
use Rattle.cuts.proofs.Costing.{one_cost}
use Rattle.cuts.proofs.Stepping.{steps_keep_lem}
use Rattle.cuts.proofs.Downward.{run_down_counts_lem}
use Rattle.table.specs.Refusing.{premise_places}
use Rattle.table.proofs.Placing.{axiom_placed, tensor_placed, par_placed, cut_placed, withdrawn}
use Rattle.plain.specs.State.{draft, net, State, no_links, new_bench, Ticket}
use Rattle.plain.specs.Calls.{Call, opening, placing_axiom, placing_tensor, placing_par, placing_cut, withdrawing, judging, reopening, reducing, running_down, writing, listing, Outcome, done, refused, Verdict, accepted, cyclic, apart, Answer, Event}
use Rattle.plain.specs.Step.{Does, Step, Judged}
use Rattle.plain.specs.Sound.{Sound}
use Rattle.plain.proofs.Owning.{own}

pub empty_bench : {L : Type 0} (s : State L) → s.links ≡ no_links → (s.stage ≡ net → ⊥) → Sound s
empty_bench s e not-net =
    let none_stands : (n : ℕ) → link_at s.links n ≡ Empty = λ n. subst (λ (ls : List Link). link_at ls n ≡ Empty) (sym e) (nothing_stands 257 n) in
    record {
      long = subst (λ (ls : List Link). length ls ≡ 257) (sym e) refl;
      facts = empty_facts s.links none_stands;
      wide = λ n stands. absurd (stands (none_stands n));
      net = λ q. absurd (not-net q);
      shut = λ q. none_stands;
    }

pub sound_new : {L : Type 0} (board : List L) → Sound (new_bench board)
sound_new board = empty_bench (new_bench board) refl (λ e. let z : ◌≡◌ {A = ℕ} 0 1 = cc in omega arith)

pub not_short : (m : ℕ) → (m < 256 → ⊥) → 256 ≤ m
not_short m h = omega (arith, h)

module _ {L : Type 0} where
  -- links are changed in a draft
  drafted : (s : State L) (links : List Link) (board : List L) → s.stage ≡ draft → length links ≡ 257 → Facts links → 256 ≤ length board → Sound (record { links = links; serial = s.serial; stage = s.stage; board = board })
  drafted s links board d long f b =
      record {
        long = long;
        facts = f;
        wide = λ n stands. b;
        net = λ e. let z : ◌≡◌ {A = ℕ} 0 1 = cc in absurd (omega arith);
        shut = λ e. let z : ◌≡◌ {A = ℕ} 0 1 = cc in absurd (omega arith);
      }

  placed : (s : State L) (n : ℕ) (new : Link) (board : List L) → Sound s → s.stage ≡ draft → Facts (set s.links n new) → 256 ≤ length board → Sound (record { links = set s.links n new; serial = s.serial; stage = s.stage; board = board })
  placed s n new board g d f b = drafted s (set s.links n new) board d (length-set s.links n new ∙ g.long) f b

  stands_wide : (s : State L) → Sound s → (o : ℕ) → Stands s.links o → 256 ≤ length s.board
  stands_wide s g o (k, c) = g.wide k (λ e. subst (λ (x : Link). Concludes x o) e c)

  -- where premises stand, the board is long enough
  premised : (s : State L) → Sound s → (l r : ℕ) → None (premise_places s.links l r) → 256 ≤ length s.board
  premised s g l r h = stands_wide s g l (stable (stands s.links l) (λ nay. h PremiseMissing (inl nay)))

  -- some label lies on a board that is long enough
  pub some_label : (board : List L) → 256 ≤ length board → L
  some_label [] l = absurd (omega arith)
  some_label (x ∷ xs) l = x

  module _ (op : L → L → L) where
    -- cut steps under a net ticket
    stepped : (s t : State L) (m : ℕ) (d : L) → Sound s → s.stage ≡ net → t.stage ≡ s.stage → 256 ≤ length s.board → Steps op d m s.links s.board t.links t.board → Sound t
    stepped s t m d g sn same b w =
        let K = steps_keep_lem L op d m s.links t.links s.board t.board w g.facts (g.net sn) in
        let k3 = K.3 in
        record {
          long = K.2 ∙ g.long;
          facts = K.0;
          wide = λ i ne. omega arith;
          net = λ e. K.1;
          shut = λ e. let z : ◌≡◌ {A = ℕ} 0 1 = cc in absurd (omega arith);
        }

    -- a reduction is one step, a run-down the steps it answers
    pub one_step : (s t : State L) (c : ℕ) (d : L) → CutStep op d c s.links s.board t.links t.board → Steps op d 1 s.links s.board t.links t.board
    one_step s t c d w = more w none

    pub down_steps : (s t : State L) (b m : ℕ) (d : L) → Sound s → RunDown op d b m s.links s.board t.links t.board → Steps op d m s.links s.board t.links t.board
    down_steps s t b m d g w = let C = (one_cost s.links g.facts).0 in (run_down_counts_lem L op d b m s.links t.links s.board t.board w g.facts C.0 C.1).1

    same : (s t : State L) → Sound s → t ≡ s → Sound t
    same s t g e = subst Sound (sym e) g

    judged : (s t : State L) (row row' : List ℕ) (v : Verdict) → Sound s → Judged s t row row' v → Sound t
    judged s t row row' (accepted k) g w =
        subst Sound (sym w.after) (
        record {
          long = g.long;
          facts = g.facts;
          wide = g.wide;
          net = λ e. w.correct;
          shut = λ e. let z : ◌≡◌ {A = ℕ} 0 1 = cc in absurd (omega arith);
        })
    judged s t row row' (cyclic n k) g w = same s t g w.after
    judged s t row row' (apart n m k) g w = same s t g w.after

    judging_sound : (k : Ticket draft) (row : List ℕ) (a : Outcome Verdict (Ticket draft)) (row' : List ℕ) (s t : State L) → Does op (judging k row) (record { outcome = a; after = row' }) s t → Sound s → Sound t
    judging_sound k row (done v) row' s t (h, w) g = judged s t row row' v g w
    judging_sound k row (refused why b) row' s t (h, w) g = same s t g w.2

    writing_sound : (k : Ticket net) (list : List Move) (room : ℕ) (a : Outcome Unit Unit) (list' : List Move) (s t : State L) → Does op (writing k list room) (record { outcome = a; after = list' }) s t → Sound s → Sound t
    writing_sound k list room (done u) list' s t (h, w) g = same s t g w.after
    writing_sound k list room (refused why b) list' s t (h, w) g = same s t g w.1

    listing_sound : (row : List ℕ) (a : Outcome ℕ Unit) (row' : List ℕ) (s t : State L) → Does op (listing row) (record { outcome = a; after = row' }) s t → Sound s → Sound t
    listing_sound row (done count) row' s t (h, w) g = same s t g w.after
    listing_sound row (refused why b) row' s t (h, w) g = same s t g w.1

    pub sound_does : (c : Call L) (a : Answer c) (s t : State L) → Does op c a s t → Sound s → Sound t
    sound_does opening (done k) s t (h, w) g =
        subst Sound (sym w.after) (empty_bench (record { links = no_links; serial = _; stage = draft; board = s.board }) refl (λ e. let z : ◌≡◌ {A = ℕ} 0 1 = cc in omega arith))
    sound_does opening (refused why u) s t (h, w) g = same s t g w
    sound_does (placing_axiom k n p q a x) (done u) s t (h, w) g =
        let d = (own k s (λ no_own. h NotOwn (inr (inr (inl no_own))))).stage in
        let b : 256 ≤ length s.board = not_short (length s.board) (λ short. h TooShort (inr (inl short))) in
        let e = length-set s.board (n - 1) x in
        subst Sound (sym w.after) (placed s n (Axiom p q a) (set s.board (n - 1) x) g d (axiom_placed s.links g.long n p q a (λ why f. h why (inl f)) (λ why f. h why (inr (inr (inr f)))) g.facts) (omega arith))
    sound_does (placing_axiom k n p q a x) (refused why u) s t (h, w) g = same s t g w
    sound_does (placing_tensor k n l r o) (done u) s t (h, w) g =
        let d = (own k s (λ no_own. h NotOwn (inr (inl no_own)))).stage in
        subst Sound (sym w.after) (placed s n (Tensor l r o) s.board g d (tensor_placed s.links g.long n l r o (λ why f. h why (inl f)) (λ why f. h why (inr (inr f))) g.facts) (stands_wide s g l (stable (stands s.links l) (λ nay. h PremiseMissing (inr (inr (inl nay)))))))
    sound_does (placing_tensor k n l r o) (refused why u) s t (h, w) g = same s t g w
    sound_does (placing_par k n l r o) (done u) s t (h, w) g =
        let d = (own k s (λ no_own. h NotOwn (inr (inl no_own)))).stage in
        subst Sound (sym w.after) (placed s n (Par l r o) s.board g d (par_placed s.links g.long n l r o (λ why f. h why (inl f)) (λ why f. h why (inr (inr f))) g.facts) (stands_wide s g l (stable (stands s.links l) (λ nay. h PremiseMissing (inr (inr (inl nay)))))))
    sound_does (placing_par k n l r o) (refused why u) s t (h, w) g = same s t g w
    sound_does (placing_cut k n l r) (done u) s t (h, w) g =
        let d = (own k s (λ no_own. h NotOwn (inr (inl no_own)))).stage in
        subst Sound (sym w.after) (placed s n (Cut l r) s.board g d (cut_placed s.links g.long n l r (λ why f. h why (inl f)) (λ why f. h why (inr (inr f))) g.facts) (stands_wide s g l (stable (stands s.links l) (λ nay. h PremiseMissing (inr (inr (inl (inl nay))))))))
    sound_does (placing_cut k n l r) (refused why u) s t (h, w) g = same s t g w
    sound_does (withdrawing k n) (done u) s t (h, w) g =
        let d = (own k s (λ no_own. h NotOwn (inr (inl no_own)))).stage in
        subst Sound (sym w.after) (placed s n Empty s.board g d (withdrawn s.links g.long n (λ why f. h why (inl f)) (λ why f. h why (inr (inr f))) g.facts) (g.wide n (λ e. h NoSuchLink (inr (inr e)))))
    sound_does (withdrawing k n) (refused why u) s t (h, w) g = same s t g w
    sound_does (judging k row) a s t w g = judging_sound k row a.outcome a.after s t w g
    sound_does (reopening k) (done b) s t (h, w) g =
        subst Sound (sym w.after) (
        record {
          long = g.long;
          facts = g.facts;
          wide = g.wide;
          net = λ e. let z : ◌≡◌ {A = ℕ} 0 1 = cc in absurd (omega arith);
          shut = λ e. let z : ◌≡◌ {A = ℕ} 0 1 = cc in absurd (omega arith);
        })
    sound_does (reopening k) (refused why b) s t (h, w) g = same s t g w.1
    sound_does (reducing k n) (done u) s t (h, w) g =
        let b = not_short (length s.board) (λ short. h TooShort (inr (inl short))) in
        let d = some_label s.board b in
        stepped s t 1 d g (own k s (λ no_own. h NotOwn (inr (inr (inl no_own))))).stage w.stage b (one_step s t n d (w.step d))
    sound_does (reducing k n) (refused why u) s t (h, w) g = same s t g w
    sound_does (running_down k budget) (done ran) s t (h, w) g =
        let b = not_short (length s.board) (λ short. h TooShort (inl short)) in
        let d = some_label s.board b in
        stepped s t ran.made d g (own k s (λ no_own. h NotOwn (inr no_own))).stage w.stage b (down_steps s t budget ran.made d g (w.steps d))
    sound_does (running_down k budget) (refused why u) s t (h, w) g = same s t g w
    sound_does (writing k list room) a s t w g = writing_sound k list room a.outcome a.after s t w g
    sound_does (listing row) a s t w g = listing_sound row a.outcome a.after s t w g

    pub sound_step : {e : Event L} {s t : State L} → Step op e s t → Sound s → Sound t
    sound_step {e} {s} {t} w = sound_does e.call e.answer s t w.does
