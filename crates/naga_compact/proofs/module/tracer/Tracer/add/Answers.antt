use Rattle.std.proofs.Common.{◌≡◌, ◌∙◌, sym, ap, true, false, arith, length, length-append, [], ◌∷◌}
use Rattle.naga_compact.specs.Module.Visits.{is_new, unmarked, visit}
use Rattle.naga_compact.proofs.MarkedElementLemmas.{unmarked-mark_again, unmarked-mark_new}
use Rattle.naga_compact.proofs.VisitsLemmas.{visit-new_parts, visit-old_parts}
use Rattle.naga_compact.proofs.module.tracer.Tracer.add.Goals as goal

pub push_reserved-requires : goal.push_reserved-requires
push_reserved-requires c =
    let new : is_new c.self.inside.used c.args.element ≡ true = sym c.insert.ensures.value ∙ c.if-insert.true in
    omega (arith, c.self.invariant, c.self.inside.pending.ok.0, unmarked-mark_new c.self.inside.used c.args.element new)

pub invariant_of-self : goal.invariant_of-self
invariant_of-self c =
    let new : is_new c.self.inside.used c.args.element ≡ true = sym c.insert.ensures.value ∙ c.if-insert.true in
    omega (arith, c.self.invariant, ap length c.push_reserved.ensures.items, length-append c.self.inside.pending.items (c.args.element ∷ []), c.push_reserved.ensures.capacity, ap unmarked c.insert.ensures.marked, unmarked-mark_new c.self.inside.used c.args.element new)

pub invariant_of-self-else-insert : goal.invariant_of-self-else-insert
invariant_of-self-else-insert c =
    let old : is_new c.self.inside.used c.args.element ≡ false = sym c.insert.ensures.value ∙ c.if-insert.false in
    omega (arith, c.self.invariant, ap unmarked c.insert.ensures.marked, unmarked-mark_again c.self.inside.used c.args.element old)

pub returns-then-insert : goal.returns-then-insert
returns-then-insert c =
    let new : is_new c.self.inside.used c.args.element ≡ true = sym c.insert.ensures.value ∙ c.if-insert.true in
    visit-new_parts (record { used = c.self.inside.used; pending = c.self.inside.pending.items }) c.args.element c.insert.new.self c.push_reserved.new.self.items c.insert.ensures.marked c.push_reserved.ensures.items new
    ∙ ap (λ v. visit v c.args.element) c.self.view_is

pub returns-else-insert : goal.returns-else-insert
returns-else-insert c =
    let old : is_new c.self.inside.used c.args.element ≡ false = sym c.insert.ensures.value ∙ c.if-insert.false in
    visit-old_parts (record { used = c.self.inside.used; pending = c.self.inside.pending.items }) c.args.element c.insert.new.self c.insert.ensures.marked old
    ∙ ap (λ v. visit v c.args.element) c.self.view_is
