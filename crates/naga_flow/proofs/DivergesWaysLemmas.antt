-- What diverges does not have its end among its ways.
use Rattle.std.proofs.Common.{◌≡◌, Bool, true, false, not, ◌&&◌, ◌||◌, inl, inr, refl, ◌∙◌, ap}
use Rattle.std.proofs.lemmas.Bool.{and_parts, not-true, or_cases, or_parts}
use Rattle.std.specs.Prelude.{if◌then◌else◌}
use Rattle.naga_ir.specs.Tree.{Tree, empty, push, Node, plain, nested, branch, switch, loop, jump, break, continue, kill, return, Cases, no_cases, case}
use Rattle.naga_runs.specs.Diverges.{diverges, node_diverges, cases_diverge}
use Rattle.naga_runs.specs.Exits.{breaks_out, node_breaks, a_case_breaks, has_default, has_exit, last_falls}
use Rattle.naga_runs.specs.Runs.{values}
use Rattle.naga_runs.proofs.HasExitLemmas.{has_exit-false}
use Rattle.naga_flow.specs.declared.ways.Ways.{Ways}
use Rattle.naga_flow.specs.Ways.{either, followed, out_of_case, may_be_passed, ways_of, ways_of_node, ways_of_cases}

followed-closed : (t : Bool) (a b : Ways) → (t ≡ false → a.falls_off ≡ false) → b.falls_off ≡ false → (if t then record (either a b) { falls_off = b.falls_off } else a).falls_off ≡ false
followed-closed true a b h k = k
followed-closed false a b h k = h refl

followed-never : (a b : Ways) → a.falls_off ≡ false → followed a b ≡ a
followed-never a b h = ap (λ t. if t then record (either a b) { falls_off = b.falls_off } else a) h

neither : (a b : Bool) → a ≡ false → b ≡ false → (a || b) ≡ false
neither false b h k = k
neither true b h k = h

followed-no_break : (t : Bool) (a b : Ways) → a.breaks ≡ false → b.breaks ≡ false → (if t then record (either a b) { falls_off = b.falls_off } else a).breaks ≡ false
followed-no_break true a b h k = neither a.breaks b.breaks h k
followed-no_break false a b h k = h

mutual
  breaks_out-ways : (block : Tree) → breaks_out block ≡ false → (ways_of block).breaks ≡ false
  breaks_out-ways empty h = refl
  breaks_out-ways (push front last span) h =
      let parts = or_parts (breaks_out front) (node_breaks last) h in
      followed-no_break (ways_of front).falls_off (ways_of front) (ways_of_node last) (breaks_out-ways front parts.0) (node_breaks-ways last parts.1)

  node_breaks-ways : (node : Node) → node_breaks node ≡ false → (ways_of_node node).breaks ≡ false
  node_breaks-ways (plain what) h = refl
  node_breaks-ways (nested inner) h = breaks_out-ways inner h
  node_breaks-ways (branch condition accept reject) h =
      let parts = or_parts (breaks_out accept) (breaks_out reject) h in
      neither (ways_of accept).breaks (ways_of reject).breaks (breaks_out-ways accept parts.0) (breaks_out-ways reject parts.1)
  node_breaks-ways (switch selector cases) h = cases-no_break cases
  node_breaks-ways (loop body continuing break_if) h = refl
  node_breaks-ways (jump break) h = absurd (let e : true ≡ false = h in cc)
  node_breaks-ways (jump continue) h = refl
  node_breaks-ways (jump kill) h = refl
  node_breaks-ways (jump (return value)) h = refl

  cases-no_break : (cases : Cases) → (ways_of_cases cases).breaks ≡ false
  cases-no_break no_cases = refl
  cases-no_break (case value body falls_through others) = cases-no_break others

case-closed : (through : Bool) (body : Ways) → body.breaks ≡ false → (through ≡ false → body.falls_off ≡ false) → (body.breaks || (not through && body.falls_off)) ≡ false
case-closed true body h k = neither body.breaks false h refl
case-closed false body h k = neither body.breaks body.falls_off h (k refl)

falls_through-or : (through : Bool) (d : Bool) → (through || d) ≡ true → through ≡ false → d ≡ true
falls_through-or true d h q = absurd (cc)
falls_through-or false d h q = h

mutual
  pub diverges-ways : (block : Tree) → diverges block ≡ true → (ways_of block).falls_off ≡ false
  diverges-ways empty h = absurd (let e : false ≡ true = h in cc)
  diverges-ways (push front last span) h =
      elim (or_cases (diverges front) (node_diverges last) h) as (λ x. (ways_of (push front last span)).falls_off ≡ false) [
        | inl there ↦
            let off : (ways_of front).falls_off ≡ false = diverges-ways front there in
            ap (λ (w : Ways). w.falls_off) (followed-never (ways_of front) (ways_of_node last) off) ∙ off
        | inr there ↦ followed-closed (ways_of front).falls_off (ways_of front) (ways_of_node last) (λ q. q) (node_diverges-ways last there)
      ]

  node_diverges-ways : (node : Node) → node_diverges node ≡ true → (ways_of_node node).falls_off ≡ false
  node_diverges-ways (plain what) h = absurd (let e : false ≡ true = h in cc)
  node_diverges-ways (nested inner) h = diverges-ways inner h
  node_diverges-ways (branch condition accept reject) h =
      let parts = and_parts (diverges accept) (diverges reject) h in
      neither (ways_of accept).falls_off (ways_of reject).falls_off (diverges-ways accept parts.0) (diverges-ways reject parts.1)
  node_diverges-ways (switch selector cases) h =
      let parts = and_parts (not (has_exit cases)) (cases_diverge cases) h in
      let shut = has_exit-false cases (not-true (has_exit cases) parts.0) in
      neither (may_be_passed cases) (ways_of_cases cases).falls_off (neither (not (has_default (values cases))) (last_falls cases) (ap not shut.0) shut.1)
      (cases_diverge-ways cases parts.1 shut.2)
  node_diverges-ways (loop body continuing break_if) h = absurd (let e : false ≡ true = h in cc)
  node_diverges-ways (jump break) h = refl
  node_diverges-ways (jump continue) h = refl
  node_diverges-ways (jump kill) h = refl
  node_diverges-ways (jump (return value)) h = refl

  cases_diverge-ways : (cases : Cases) → cases_diverge cases ≡ true → a_case_breaks cases ≡ false → (ways_of_cases cases).falls_off ≡ false
  cases_diverge-ways no_cases h k = refl
  cases_diverge-ways (case value body falls_through others) h k =
      let parts = and_parts (falls_through || diverges body) (cases_diverge others) h in
      let shut = or_parts (breaks_out body) (a_case_breaks others) k in
      neither (out_of_case falls_through (ways_of body)).falls_off (ways_of_cases others).falls_off
      (case-closed falls_through (ways_of body) (breaks_out-ways body shut.0) (λ q. diverges-ways body (falls_through-or falls_through (diverges body) parts.0 q)))
      (cases_diverge-ways others parts.1 shut.1)
