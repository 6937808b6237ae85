use Rattle.std.proofs.Common.{◌≡◌, ℕ, sym, ap, ◌∙◌, subst, ⊎_elim}
use Rattle.links.specs.declared.link.Link.{Link}
use Rattle.links.specs.declared.link.Link.TheVariants.{Axiom}
use Rattle.links.specs.Links.{link_at, Concludes}
use Rattle.reducer.proofs.AcrossCuts.{as_read, concluding, left_stands, right_stands, tensor_faces_par, par_faces_tensor, wire_faces_wire, one_wire, first_then_second, second_then_first}
use Rattle.reducer.proofs.found.look.Goals as goal
use Rattle.reducer.proofs.found.look.Goals.{in_default-2-via-in-Tensor+in_default, in_default-2-via-in-Par+in_default, in_default-2-via-in-Axiom+in_default, in_default-2-via-in_default}

pub unreachable-requires : goal.unreachable-requires
unreachable-requires c = let t = c.args.table.now in left_stands t.slots.at t.facts c.args.cut c.args.left c.args.right c.requires.cut c.in_default.ensures.answer

pub unreachable-requires-in_default-concluder : goal.unreachable-requires-in_default-concluder
unreachable-requires-in_default-concluder c = let t = c.args.table.now in right_stands t.slots.at t.facts c.args.cut c.args.left c.args.right c.requires.cut c.in_default-concluder.ensures.answer

pub unreachable-requires-in_default-2 : goal.unreachable-requires-in_default-2
unreachable-requires-in_default-2 c =
    let t = c.args.table.now in
    let ls = t.slots.at in
    let m = c.in-Some.m in
    let n = c.in-Some-concluder.n in
    let l = c.link-2.result in
    let el = c.link-2.ensures.value in
    let g = as_read ls n c.args.right l el c.in-Some-concluder.ensures.answer in
    elim c.in_default-2.branch [
      | in_default-2-via-in-Tensor+in_default w ↦ let k = w.in_default-2 in tensor_faces_par ls t.facts c.args.cut c.args.left c.args.right c.requires.cut m n k.field-0-0 k.field-1-0 k.field-2-0 l (sym k.ensures.value) (as_read ls m c.args.left _ k.ensures.value c.in-Some.ensures.answer) (sym el) g k.not-Par-1
      | in_default-2-via-in-Par+in_default w ↦ let k = w.in_default-2 in par_faces_tensor ls t.facts c.args.cut c.args.left c.args.right c.requires.cut m n k.field-0-0 k.field-1-0 k.field-2-0 l (sym k.ensures.value) (as_read ls m c.args.left _ k.ensures.value c.in-Some.ensures.answer) (sym el) g k.not-Tensor-1
      | in_default-2-via-in-Axiom+in_default w ↦ let k = w.in_default-2 in wire_faces_wire ls t.facts c.args.cut c.args.left c.args.right c.requires.cut m n k.field-0-0 k.field-1-0 k.field-2-0 l (sym k.ensures.value) (as_read ls m c.args.left _ k.ensures.value c.in-Some.ensures.answer) (sym el) g k.not-Axiom-1
      | in_default-2-via-in_default w ↦ let k = w.in_default-2 in concluding c.link.result c.args.left (as_read ls m c.args.left _ c.link.ensures.value c.in-Some.ensures.answer) k.not-Axiom-0 k.not-Tensor-0 k.not-Par-0
    ]

pub returns-then-m-n : goal.returns-then-m-n
returns-then-m-n c =
    let t = c.args.table.now in
    let ls = t.slots.at in
    let m = c.in-Some.m in
    let n = c.in-Some-concluder.n in
    let w = c.in-Axiom-Axiom in
    let h = as_read ls m c.args.left (Axiom w.p w.negative-0 w.atom-0) w.ensures.value c.in-Some.ensures.answer in
    let g = as_read ls n c.args.right (Axiom w.q w.negative-1 w.atom-1) w.ensures'.value c.in-Some-concluder.ensures.answer in
    let e = w.ensures'.value ∙ sym (ap (λ (i : ℕ). link_at ls i) c.if-m-n.true) ∙ sym w.ensures.value in
    record { answer = one_wire ls t.facts c.args.cut c.args.left c.args.right c.requires.cut m w.p w.negative-0 w.atom-0 (sym w.ensures.value) h (subst (λ (k : Link). Concludes k c.args.right) e g) }

pub returns-then-p-left : goal.returns-then-p-left
returns-then-p-left c =
    let t = c.args.table.now in
    let ls = t.slots.at in
    let m = c.in-Some.m in
    let n = c.in-Some-concluder.n in
    let w = c.in-Axiom-Axiom in
    let h = as_read ls m c.args.left (Axiom w.p w.negative-0 w.atom-0) w.ensures.value c.in-Some.ensures.answer in
    let g = as_read ls n c.args.right (Axiom w.q w.negative-1 w.atom-1) w.ensures'.value c.in-Some-concluder.ensures.answer in
    record { answer = (w.p, w.negative-0, w.atom-0, w.negative-1, w.atom-1, first_then_second ls t.facts c.args.cut c.args.left c.args.right c.requires.cut m n w.p w.negative-0 w.atom-0 w.q w.negative-1 w.atom-1 (sym w.ensures.value) (sym w.ensures'.value) c.if-m-n.false c.if-p-left.true g) }

pub returns-else-p-left : goal.returns-else-p-left
returns-else-p-left c =
    let t = c.args.table.now in
    let ls = t.slots.at in
    let m = c.in-Some.m in
    let n = c.in-Some-concluder.n in
    let w = c.in-Axiom-Axiom in
    let h = as_read ls m c.args.left (Axiom w.p w.negative-0 w.atom-0) w.ensures.value c.in-Some.ensures.answer in
    let g = as_read ls n c.args.right (Axiom w.q w.negative-1 w.atom-1) w.ensures'.value c.in-Some-concluder.ensures.answer in
    let e : w.negative-0 ≡ c.args.left = ⊎_elim (λ z. absurd (c.if-p-left.false z)) (λ z. z) h in
    record { answer = (w.q, w.negative-1, w.atom-1, w.negative-0, w.atom-0, second_then_first ls t.facts c.args.cut c.args.left c.args.right c.requires.cut m n w.p w.negative-0 w.atom-0 w.q w.negative-1 w.atom-1 (sym w.ensures.value) (sym w.ensures'.value) c.if-m-n.false e g) }
