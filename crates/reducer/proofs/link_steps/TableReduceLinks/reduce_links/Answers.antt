use Rattle.std.proofs.Common.{set, sym, refl, ap}
use Rattle.links.specs.declared.link.Link.{Link}
use Rattle.links.specs.declared.link.Link.TheVariants.{Empty}
use Rattle.reducer.specs.Reductions.StepOfLinks.{part, join, stuck}
use Rattle.reducer.proofs.Reducing.{holds_tensor, holds_par, holds_wire, holds_cut, none_against, parted_owes, extended, wired_owes}
use Rattle.reducer.proofs.link_steps.TableReduceLinks.reduce_links.Goals as goal

pub invariant_of-self : goal.invariant_of-self
invariant_of-self c =
    let t = c.args.self.now in
    let f = c.in-Compound.ensures.answer in
    let w = parted_owes t.slots.at c.args.n c.in-Compound.tensor c.in-Compound.par f.0 f.1 c.in-Compound.left c.in-Compound.right c.in-Compound.left_dual c.in-Compound.right_dual f.2 t.long t.facts in
    record { long = w.0; facts = w.1.0 }

pub invariant_of-self-in-Wires : goal.invariant_of-self-in-Wires
invariant_of-self-in-Wires c =
    let t = c.args.self.now in
    let f = c.in-Wires.ensures.answer in
    let e = extended t.slots.at c.args.n c.in-Wires.first c.in-Wires.second f.0 f.1 f.2 c.in-Wires.end f.3 f.4 f.5 c.extend.new.wire c.extend.ensures in
    let w = wired_owes t.slots.at c.args.n c.in-Wires.first c.in-Wires.second f.0 f.1 f.2 c.in-Wires.end f.3 f.4 f.5 c.extend.new.wire e t.long t.facts in
    record { long = w.0; facts = w.1.0 }

pub returns-in-Compound : goal.returns-in-Compound
returns-in-Compound c =
    let t = c.args.self.now in
    let f = c.in-Compound.ensures.answer in
    record { links = (none_against t.slots.at c.args.n c.in-Cut.left c.in-Cut.right (sym c.in-Cut.ensures.value) c.in_ok-check_link.ensures.answer, part c.in-Compound.tensor c.in-Compound.par f.0 f.1 c.in-Compound.left c.in-Compound.right c.in-Compound.left_dual c.in-Compound.right_dual f.2 refl) }

pub returns-in-Wires : goal.returns-in-Wires
returns-in-Wires c =
    let t = c.args.self.now in
    let f = c.in-Wires.ensures.answer in
    let e = extended t.slots.at c.args.n c.in-Wires.first c.in-Wires.second f.0 f.1 f.2 c.in-Wires.end f.3 f.4 f.5 c.extend.new.wire c.extend.ensures in
    record { links = (none_against t.slots.at c.args.n c.in-Cut.left c.in-Cut.right (sym c.in-Cut.ensures.value) c.in_ok-check_link.ensures.answer, join c.in-Wires.first c.in-Wires.second f.0 f.1 f.2 c.in-Wires.end f.3 f.4 f.5 (ap (λ (w : Link). set (set (set t.slots.at c.args.n Empty) c.in-Wires.second Empty) c.in-Wires.first w) e)) }

pub returns-in-OneWire : goal.returns-in-OneWire
returns-in-OneWire c =
    let t = c.args.self.now in
    record { links = (none_against t.slots.at c.args.n c.in-Cut.left c.in-Cut.right (sym c.in-Cut.ensures.value) c.in_ok-check_link.ensures.answer, stuck c.in-OneWire.ensures.answer refl) }
