-- What the arrays of a unification mean: the marks of a sound state, in which a link has passed where its token is not 0.
-- Devices between the code and the states of unification; nobody has to believe them.
use Rattle.std.specs.Prelude.{◌≡◌, ℕ, ◌+◌, ◌<◌, ◌≤◌, ◌≢◌, List, length, slice_index}
use Rattle.graphs.specs.Lists.{In}
use Rattle.graphs.specs.Classes.{relabelled}
use Rattle.links.specs.declared.link.Link.{Link}
use Rattle.switchings.specs.Edges.{maker}
use Rattle.sequents.specs.Unification.{Marks, State, wires}
use Rattle.sequents.specs.Soundness.{Sound}
use Rattle.unify.specs.declared.marking.Marking.{Marking}

-- the token of the link n, 0 where it has not passed
abbrev pub token_of : Marking → ℕ → ℕ
token_of m n = slice_index m.token n

-- the token on the occurrence o, 0 where there is none
abbrev pub carried : List Link → Marking → ℕ → ℕ
carried ls m o = token_of m (maker ls o)

abbrev pub marks_of : Marking → Marks
marks_of m = record { token = token_of m; last = λ n. slice_index m.last n; first = λ n. slice_index m.first n; second = λ n. slice_index m.second n }

abbrev pub state_of : List ℕ → List ℕ → Marking → State
state_of P L m = record { passed = P; live = L; marks = marks_of m }

-- the arrays are those of a sound state
pub record Means (ls : List Link) (m : Marking) : Type 0 where
  pub passed : List ℕ
  pub live : List ℕ
  pub sound : Sound ls (state_of passed live m)
  pub marked : (n : ℕ) → In n passed → token_of m n ≢ 0
  pub unmarked : (n : ℕ) → token_of m n ≢ 0 → In n passed
  pub low : (n : ℕ) → token_of m n ≤ 256
  pub count : length passed ≡ m.passes + length (wires ls)

-- link n takes the token s, and so does what had t
pub record Settled (m : Marking) (n s t : ℕ) (after : Marking) : Type 0 where
  pub token_n : token_of after n ≡ s
  pub token_m : (k : ℕ) → k < 257 → k ≢ n → token_of after k ≡ relabelled s t (token_of m k)
  pub last_s : slice_index after.last s ≡ n
  pub last_x : (x : ℕ) → x ≢ s → slice_index after.last x ≡ slice_index m.last x
  pub first_n : slice_index after.first n ≡ slice_index m.last s
  pub first_m : (k : ℕ) → k ≢ n → slice_index after.first k ≡ slice_index m.first k
  pub second_n : slice_index after.second n ≡ slice_index m.last t
  pub second_m : (k : ℕ) → k ≢ n → slice_index after.second k ≡ slice_index m.second k
  pub count : after.passes ≡ m.passes + 1
